use Rattle.spec_kernel.specs.PlainTasks.{has_priority}
use Rattle.k_task.proofs.Keeping.{kept_order}
use Rattle.k_task.proofs.tasks.Tasks.rotate.Goals as goal

pub invariant_of-self : goal.invariant_of-self
invariant_of-self c = kept_order c.self.invariant (has_priority c.self.inside.tasks c.args.priority) c.rotate.ensures
