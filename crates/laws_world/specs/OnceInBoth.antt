-- The entries of a history that are events of one of its two nodes, as entries of that node; and that each of its calls is accepted
-- once, ends at most once and is returned from once. It is this project's own.
use Rattle.std.specs.Prelude.{Bool, true, false, ◌==◌, List, [], ◌∷◌, ◌++◌, Option, Some, None, map, slice_get}
use Rattle.it_types.specs.declared.id.NodeId.{NodeId}
use Rattle.it_types.specs.declared.event.Event.{Event}
use Rattle.it_types.specs.declared.event.Event.TheVariants as events
use Rattle.it_types.specs.declared.entry.Out.{Out}
use Rattle.it_types.specs.declared.entry.Entry.{Entry}
use Rattle.spec_node.specs.declared.event.NodeEv.{NodeEv}
use Rattle.spec_node.specs.declared.event.NodeEv.TheVariants.{Call, Return, Begin, Finish, Tick, Arrive}
use Rattle.spec_world.specs.PlainWorld.{Packet, packet_from}
use Rattle.laws_calls.specs.Once.{NodeEntry, Once}
use Rattle.laws_world.specs.Packets.{node_of}

abbrev pub arrival : Option Packet → Option NodeEv
arrival None = None
arrival (Some packet) = Some (Arrive packet.bytes)

-- what an event of the world after these packets is at its node, which a delivery reaches; the stop is an event of none
abbrev pub node_event : List Packet → Event → Option NodeEv
node_event packets (events.Call id ctx request) = Some (Call ctx request)
node_event packets (events.Return id task) = Some (Return task)
node_event packets (events.Begin id) = Some Begin
node_event packets (events.Finish id) = Some Finish
node_event packets (events.Tick id) = Some Tick
node_event packets (events.Deliver number) = arrival (slice_get packets number.0)
node_event packets events.Stop = None

abbrev pub out_of : Entry → Out
out_of e = record { ans = e.ans; ends = e.ends; marks = e.marks; packs = e.packs }

-- an entry more, if its event happens here
abbrev pub with_entry : Bool → Option NodeEv → Out → List NodeEntry → List NodeEntry
with_entry here None out rest = rest
with_entry false (Some event) out rest = rest
with_entry true (Some event) out rest = record { event = event; out = out } ∷ rest

-- the entries at the node, of a history that goes on after these packets
abbrev pub entries_at : NodeId → List Packet → List Entry → List NodeEntry
entries_at id packets [] = []
entries_at id packets (e ∷ es) =
    with_entry ((node_of packets e.ev).0 == id.0) (node_event packets e.ev) (out_of e) (entries_at id (packets ++ map (packet_from (node_of packets e.ev)) e.packs) es)

-- so it is at either node
pub record LogOnce (log : List Entry) : Type 0 where
  pub first : Once (entries_at (record { 0 = 0 }) [] log)
  pub second : Once (entries_at (record { 0 = 1 }) [] log)
