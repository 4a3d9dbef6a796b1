use Rattle.spec_node.specs.NodeStep.{node_step}
use Rattle.n_node.proofs.parts.Parts.call.Goals as goal

pub returns-in-Some : goal.returns-in-Some
unfolding node_step
returns-in-Some c = rw (← c.in-Some.ensures) c.call_kernel.ensures

pub returns-in-None : goal.returns-in-None
unfolding node_step
returns-in-None c = rw (← c.in-None.ensures) c.call_network.ensures
