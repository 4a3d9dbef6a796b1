-- Which events are admitted: those that the node admits at which they happen; a delivery of a packet that was sent; and the
-- stop. It is this project's own.
use Rattle.std.specs.Prelude.{Bool, true, ◌&&◌, List, length, nat_le, nat_lt}
use Rattle.it_types.specs.declared.id.NodeId.{NodeId}
use Rattle.it_types.specs.declared.id.PackNo.{PackNo}
use Rattle.it_types.specs.declared.event.Event.{Event}
use Rattle.it_types.specs.declared.event.Event.TheVariants as events
use Rattle.spec_node.specs.declared.event.NodeEv.{NodeEv}
use Rattle.spec_node.specs.declared.event.NodeEv.TheVariants.{Call, Return, Begin, Finish, Tick}
use Rattle.spec_node.specs.Admitted as node
use Rattle.spec_world.specs.PlainWorld.{Nodes, Packet, PlainWorld, node_at}

-- the event happens at one of the nodes, which admits it
abbrev pub is_admitted_at : Nodes → NodeId → NodeEv → Bool
is_admitted_at nodes id event = nat_le id.0 1 && node.is_admitted (node_at nodes id) event

abbrev pub is_sent : List Packet → PackNo → Bool
is_sent packets number = nat_lt number.0 (length packets)

abbrev pub is_admitted : PlainWorld → Event → Bool
is_admitted w (events.Call id ctx request) = is_admitted_at w.nodes id (Call ctx request)
is_admitted w (events.Return id task) = is_admitted_at w.nodes id (Return task)
is_admitted w (events.Begin id) = is_admitted_at w.nodes id Begin
is_admitted w (events.Finish id) = is_admitted_at w.nodes id Finish
is_admitted w (events.Tick id) = is_admitted_at w.nodes id Tick
is_admitted w (events.Deliver number) = is_sent w.packets number
is_admitted w events.Stop = true
