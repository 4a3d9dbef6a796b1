use Rattle.k_task.proofs.Keeping.{kept_suspended}
use Rattle.k_task.proofs.tasks.Tasks.suspend.Goals as goal

pub invariant_of-self : goal.invariant_of-self
invariant_of-self c = kept_suspended c.self.invariant c.args.task c.raise_suspensions.ensures c.take_out.ensures
