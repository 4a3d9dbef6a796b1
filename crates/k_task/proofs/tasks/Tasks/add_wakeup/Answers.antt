use Rattle.spec_kernel.specs.TaskBlocks.{one_wakeup_more}
use Rattle.k_task.proofs.Keeping.{kept_counts, wakeup_more}
use Rattle.k_task.proofs.tasks.Tasks.add_wakeup.Goals as goal

pub invariant_of-self : goal.invariant_of-self
invariant_of-self c = kept_counts c.self.invariant c.args.task one_wakeup_more wakeup_more c.raise_wakeups.ensures
