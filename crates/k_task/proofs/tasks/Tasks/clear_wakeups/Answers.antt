use Rattle.spec_kernel.specs.TaskBlocks.{without_wakeups}
use Rattle.k_task.proofs.Keeping.{kept_counts, no_wakeups}
use Rattle.k_task.proofs.tasks.Tasks.clear_wakeups.Goals as goal

pub invariant_of-self : goal.invariant_of-self
invariant_of-self c = kept_counts c.self.invariant c.args.task without_wakeups no_wakeups c.clear_wakeups.ensures
