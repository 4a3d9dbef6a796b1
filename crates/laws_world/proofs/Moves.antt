-- An event of the world is at most one event of one node.
use Rattle.std.proofs.Common.{◌≡◌, Bool, true, false, cond, ◌&&◌, Option, Some, None, refl}
use Rattle.std.specs.Prelude.{◌==◌, nat_le, slice_get}
use Rattle.it_types.specs.declared.id.NodeId.{NodeId}
use Rattle.it_types.specs.declared.id.PackNo.{PackNo}
use Rattle.it_types.specs.declared.event.Event.{Event}
use Rattle.it_types.specs.declared.event.Event.TheVariants as events
use Rattle.spec_node.specs.declared.event.NodeEv.{NodeEv}
use Rattle.spec_node.specs.declared.event.NodeEv.TheVariants.{Call, Return, Begin, Finish, Tick, Arrive}
use Rattle.spec_node.specs.PlainNode.{PlainNode}
use Rattle.spec_node.specs.NodeStep.{node_step}
use Rattle.spec_node.specs.Admitted as node
use Rattle.spec_world.specs.PlainWorld.{Nodes, Packet, PlainWorld, node_at, nodes_step, delivery, peer_of, step}
use Rattle.spec_world.specs.Admitted.{is_admitted_at, is_admitted}

-- A node is as before, or after one event of its own, which it admits where the world admits the event that it is.
pub data Moved (admitted : Bool) (n m : PlainNode) : Type 0 where
  stays : m ≡ n → Moved admitted n m
  moves : (event : NodeEv) → (admitted ≡ true → node.is_admitted n event ≡ true) → m ≡ (node_step n event).0 → Moved admitted n m

-- so are both
pub record NodesMove (admitted : Bool) (before after : Nodes) : Type 0 where
  pub first : Moved admitted before.first after.first
  pub second : Moved admitted before.second after.second

-- an event at one node leaves the other as it was
at_moves : (admitted : Bool) (nodes : Nodes) (id : NodeId) (event : NodeEv)
    → (admitted ≡ true → node.is_admitted (node_at nodes id) event ≡ true)
    → NodesMove admitted nodes (nodes_step nodes id event).0
at_moves admitted nodes id event can = record { first = first (id.0 == 0) can; second = second (id.0 == 0) can }
  where
    first : (b : Bool)
        → (admitted ≡ true → node.is_admitted (cond b nodes.first nodes.second) event ≡ true)
        → Moved admitted nodes.first (cond b (node_step (cond b nodes.first nodes.second) event).0 nodes.first)
    first true can = moves event can refl
    first false can = stays refl

    second : (b : Bool)
        → (admitted ≡ true → node.is_admitted (cond b nodes.first nodes.second) event ≡ true)
        → Moved admitted nodes.second (cond b nodes.second (node_step (cond b nodes.first nodes.second) event).0)
    second true can = stays refl
    second false can = moves event can refl

pub admitted_part : (nodes : Nodes) (id : NodeId) (event : NodeEv) → is_admitted_at nodes id event ≡ true → node.is_admitted (node_at nodes id) event ≡ true
admitted_part nodes id event e = last (nat_le id.0 1) (node.is_admitted (node_at nodes id) event) e
  where
    last : (a b : Bool) → (a && b) ≡ true → b ≡ true
    last true b h = h
    last false b h = absurd cc

delivery_moves : (admitted : Bool) (w : PlainWorld) (number : PackNo) (found : Option Packet) → NodesMove admitted w.nodes (delivery w number found).0.nodes
delivery_moves admitted w number None = record { first = stays refl; second = stays refl }
delivery_moves admitted w number (Some packet) = at_moves admitted w.nodes (peer_of packet.sender) (Arrive packet.bytes) (λ e. refl)

-- an event of the world is at most one event of one node
pub step_moves : (w : PlainWorld) (event : Event) → NodesMove (is_admitted w event) w.nodes (step w event).0.nodes
unfolding step
step_moves w (events.Call id ctx request) = at_moves _ w.nodes id (Call ctx request) (admitted_part w.nodes id (Call ctx request))
step_moves w (events.Return id task) = at_moves _ w.nodes id (Return task) (admitted_part w.nodes id (Return task))
step_moves w (events.Begin id) = at_moves _ w.nodes id Begin (admitted_part w.nodes id Begin)
step_moves w (events.Finish id) = at_moves _ w.nodes id Finish (admitted_part w.nodes id Finish)
step_moves w (events.Tick id) = at_moves _ w.nodes id Tick (admitted_part w.nodes id Tick)
step_moves w (events.Deliver number) = delivery_moves _ w number (slice_get w.packets number.0)
step_moves w events.Stop = record { first = stays refl; second = stays refl }

-- each event of a node keeps it, admitted or not
abbrev pub AlwaysKept : (PlainNode → Type 0) → Type 0
AlwaysKept P = (n : PlainNode) (event : NodeEv) → P n → P (node_step n event).0

-- then a move keeps it
pub move_keeps : (P : PlainNode → Type 0) (admitted : Bool) (n m : PlainNode) → AlwaysKept P → P n → Moved admitted n m → P m
move_keeps P admitted n m keeps h (stays same) = rw same h
move_keeps P admitted n m keeps h (moves event can after) = rw after (keeps n event h)
