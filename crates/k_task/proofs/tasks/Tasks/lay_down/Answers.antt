use Rattle.k_task.proofs.Keeping.{kept_laid_down}
use Rattle.k_task.proofs.tasks.Tasks.lay_down.Goals as goal

pub invariant_of-self : goal.invariant_of-self
invariant_of-self c = kept_laid_down c.self.invariant c.args.task c.make_dormant.ensures c.take.ensures.table c.take_out.ensures
