-- The packets of a history: those of its entries, each sent by the node at which its entry's event happens. It is this
-- project's own.
use Rattle.std.specs.Prelude.{ℕ, List, [], ◌∷◌, ◌++◌, Option, Some, None, map, flat_map, slice_get}
use Rattle.it_types.specs.declared.id.NodeId.{NodeId}
use Rattle.it_types.specs.declared.event.Event.{Event}
use Rattle.it_types.specs.declared.event.Event.TheVariants as events
use Rattle.it_types.specs.declared.entry.Entry.{Entry}
use Rattle.spec_world.specs.PlainWorld.{Packet, peer_of, packet_from}

-- the node that a packet reaches, node 0 where there is no such packet
abbrev pub receiver : Option Packet → NodeId
receiver None = record { 0 = 0 }
receiver (Some packet) = peer_of packet.sender

-- the node at which an event happens after these packets, node 0 for the stop
abbrev pub node_of : List Packet → Event → NodeId
node_of packets (events.Call id ctx request) = id
node_of packets (events.Return id task) = id
node_of packets (events.Begin id) = id
node_of packets (events.Finish id) = id
node_of packets (events.Tick id) = id
node_of packets (events.Deliver number) = receiver (slice_get packets number.0)
node_of packets events.Stop = record { 0 = 0 }

-- the packets before and those of the entries, in order, each with the node of its entry
abbrev pub sent_in : List Packet → List Entry → List Packet
sent_in before [] = before
sent_in before (e ∷ es) = sent_in (before ++ map (packet_from (node_of before e.ev)) e.packs) es

abbrev pub bytes_of : Packet → List ℕ
bytes_of packet = packet.bytes

abbrev pub packs_of : Entry → List (List ℕ)
packs_of e = e.packs

-- the bytes of the packets of all entries, in order
abbrev pub all_packs : List Entry → List (List ℕ)
all_packs log = flat_map packs_of log
