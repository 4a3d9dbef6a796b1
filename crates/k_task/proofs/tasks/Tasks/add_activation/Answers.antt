use Rattle.spec_kernel.specs.TaskBlocks.{one_activation_more}
use Rattle.k_task.proofs.Keeping.{kept_counts, activation_more}
use Rattle.k_task.proofs.tasks.Tasks.add_activation.Goals as goal

pub invariant_of-self : goal.invariant_of-self
invariant_of-self c = kept_counts c.self.invariant c.args.task one_activation_more activation_more c.raise_activations.ensures
