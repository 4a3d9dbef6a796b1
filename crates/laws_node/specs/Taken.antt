-- Any list of events of a node with handlers: those that are admitted are taken, and the others change nothing. It is this
-- project's own.
use Rattle.std.specs.Prelude.{true, false, List, [], ◌∷◌}
use Rattle.spec_node.specs.declared.event.NodeEv.{NodeEv}
use Rattle.spec_node.specs.PlainNode.{PlainNode}
use Rattle.spec_node.specs.NodeStep.{node_step}
use Rattle.spec_node.specs.Admitted.{is_admitted}

-- the node after an event
abbrev pub taken : PlainNode → NodeEv → PlainNode
taken n event = elim (is_admitted n event) [ true ↦ (node_step n event).0 | false ↦ n ]

-- so it is before and after each of the events
abbrev pub Along : (PlainNode → Type 0) → PlainNode → List NodeEv → Type 0
Along P n [] = P n
Along P n (event ∷ events) = P n × Along P (taken n event) events
