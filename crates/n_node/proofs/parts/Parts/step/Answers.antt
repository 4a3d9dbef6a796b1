use Rattle.n_node.proofs.Receives.{packet_told}
use Rattle.n_node.specs.Plain.{plain}
use Rattle.n_node.proofs.parts.Parts.step.Goals as goal

pub arrive-requires-clause-told : goal.arrive-requires-clause-told
arrive-requires-clause-told c = packet_told (plain c.args.self.now) c.as_slice.result.now c.requires.good
