use Rattle.spec_kernel.specs.TaskBlocks.{one_activation_less}
use Rattle.k_task.proofs.Keeping.{kept_counts, activation_less}
use Rattle.k_task.proofs.tasks.Tasks.take_activation.Goals as goal

pub invariant_of-self : goal.invariant_of-self
invariant_of-self c = kept_counts c.self.invariant c.args.task one_activation_less activation_less c.lower_activations.ensures
