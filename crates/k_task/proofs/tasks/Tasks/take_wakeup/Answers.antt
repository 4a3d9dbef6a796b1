use Rattle.spec_kernel.specs.TaskBlocks.{one_wakeup_less}
use Rattle.k_task.proofs.Keeping.{kept_counts, wakeup_less}
use Rattle.k_task.proofs.tasks.Tasks.take_wakeup.Goals as goal

pub invariant_of-self : goal.invariant_of-self
invariant_of-self c = kept_counts c.self.invariant c.args.task one_wakeup_less wakeup_less c.lower_wakeups.ensures
