-- Two nodes at rest: in neither does a call wait that is ready, or whose deadline is at or before now, or that names an end
-- point which isn't there; and at most one waits in each place. It is this project's own.
use Rattle.std.specs.Prelude.{◌≡◌, ℕ, false, List, [], ◌∷◌}
use Rattle.std.specs.List.{AllByRecursion}
use Rattle.it_types.specs.declared.event.Event.{Event}
use Rattle.it_types.specs.declared.entry.Entry.{Entry}
use Rattle.spec_lists.specs.Tables.{get}
use Rattle.spec_pend.specs.declared.call.NetCall.{NetCall}
use Rattle.spec_pend.specs.Kept.{IsCep}
use Rattle.spec_udp.specs.Points.{routine_at}
use Rattle.spec_udp.specs.Rows.{is_unknown}
use Rattle.spec_node.specs.PlainNode.{PlainNode}
use Rattle.spec_world.specs.PlainWorld.{Nodes, PlainWorld, step}
use Rattle.laws_node.specs.AtRest.{NodeRests}

pub record IsAtRest (nodes : Nodes) : Type 0 where
  pub first : NodeRests nodes.first
  pub second : NodeRests nodes.second

-- the call waits under the id of an end point
abbrev pub HasPoint : NetCall → Type 0
HasPoint c = IsCep c.slot.cep

-- each end point has a declared routine or none, and calls of the network part wait under the ids of end points alone
pub record NamesAreRight (n : PlainNode) : Type 0 where
  pub routines : (id : ℕ) → is_unknown n.net.udps.routines (routine_at (get n.net.udps.points id)) ≡ false
  pub points : AllByRecursion HasPoint n.net.pend.calls

-- so it is in both nodes
pub record HaveRightNames (nodes : Nodes) : Type 0 where
  pub first : NamesAreRight nodes.first
  pub second : NamesAreRight nodes.second

-- the nodes are at rest after each of the events
abbrev pub RestsAlong : PlainWorld → List Event → Type 0
RestsAlong w [] = Unit {0}
RestsAlong w (event ∷ events) = IsAtRest (step w event).0.nodes × RestsAlong (step w event).0 events

-- the nodes are at rest after each of the entries
abbrev pub LogRests : PlainWorld → List Entry → Type 0
LogRests w [] = Unit {0}
LogRests w (e ∷ es) = IsAtRest (step w e.ev).0.nodes × LogRests (step w e.ev).0 es
