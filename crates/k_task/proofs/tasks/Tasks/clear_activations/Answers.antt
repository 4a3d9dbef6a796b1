use Rattle.spec_kernel.specs.TaskBlocks.{without_activations}
use Rattle.k_task.proofs.Keeping.{kept_counts, no_activations}
use Rattle.k_task.proofs.tasks.Tasks.clear_activations.Goals as goal

pub invariant_of-self : goal.invariant_of-self
invariant_of-self c = kept_counts c.self.invariant c.args.task without_activations no_activations c.clear_activations.ensures
