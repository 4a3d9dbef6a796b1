use Rattle.spec_kernel.specs.PlainTasks.{is_same}
use Rattle.k_task.proofs.Keeping.{kept_order}
use Rattle.k_task.proofs.tasks.Tasks.rank_anew.Goals as goal

pub invariant_of-self : goal.invariant_of-self
invariant_of-self c = kept_order c.self.invariant (is_same c.args.task) c.rank_anew.ensures
