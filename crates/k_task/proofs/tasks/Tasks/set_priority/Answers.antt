use Rattle.spec_kernel.specs.TaskBlocks.{with_priority}
use Rattle.k_task.proofs.Keeping.{kept_counts, any_priority}
use Rattle.k_task.proofs.tasks.Tasks.set_priority.Goals as goal

pub invariant_of-self : goal.invariant_of-self
invariant_of-self c = kept_counts c.self.invariant c.args.task (with_priority c.args.priority) (any_priority c.args.priority) c.set_priority.ensures
