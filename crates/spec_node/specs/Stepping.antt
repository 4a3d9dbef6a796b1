-- A node as code holds it, and why it takes no step. It is this project's own.
use Rattle.std.specs.Prelude.{Bool, false, not, List, [], ◌∷◌, Option}
use Rattle.spec_lists.specs.Refusal.{first_refusal}
use Rattle.spec_node.specs.declared.event.NodeEv.{NodeEv}
use Rattle.spec_node.specs.declared.refusal.StepErr.{StepErr}
use Rattle.spec_node.specs.declared.refusal.StepErr.TheVariants.{Ended, NotAdmitted}
use Rattle.spec_node.specs.PlainNode.{PlainNode}
use Rattle.spec_node.specs.Admitted.{is_admitted}

pub record NodeState : Type 0 where
  pub plain : PlainNode
  pub ended : Bool  -- an earlier step ran out of memory

-- a node that goes on
abbrev pub living : PlainNode → NodeState
living n = record { plain = n; ended = false }

-- the tests that refuse an event, in their order
abbrev pub refusals : NodeState → NodeEv → List (Bool × StepErr)
refusals n event = (n.ended, Ended) ∷ (not (is_admitted n.plain event), NotAdmitted) ∷ []

-- why an event is refused, if it is
abbrev pub refusal : NodeState → NodeEv → Option StepErr
refusal n event = first_refusal (refusals n event)
