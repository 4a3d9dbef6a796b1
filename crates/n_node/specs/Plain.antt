-- The parts of a node as the plain node that they are.
use Rattle.e_udp.specs.Does.{side}
use Rattle.spec_node.specs.PlainNode.{PlainNode}
use Rattle.n_node.specs.declared.parts.Parts.{Parts}

abbrev pub plain : Parts → PlainNode
plain p = record { kernel = p.kernel; net = side p.udps p.pend; held = p.held.items; begun = p.begun; calls = p.calls }
