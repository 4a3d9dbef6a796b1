-- Where the packets of a history stand in it.
use Rattle.std.specs.Prelude.{ℕ, ◌+◌, ◌<◌, List, [], ◌∷◌, length, map, Option, Some, None, slice_get, slice_index_or}
use Rattle.it_types.specs.declared.id.NodeId.{NodeId}
use Rattle.it_types.specs.declared.entry.Entry.{Entry}
use Rattle.spec_world.specs.PlainWorld.{Nodes, Packet, PlainWorld, packet_from}
use Rattle.w_world.specs.declared.sent.Sent.{Sent}

abbrev pub packs_in : Option Entry → List (List ℕ)
packs_in None = []
packs_in (Some e) = e.packs

-- the bytes of a packet, by its place in the history
abbrev pub bytes_in : List Entry → Sent → List ℕ
bytes_in log s = slice_index_or (packs_in (slice_get log s.entry)) s.pack []

abbrev pub packet_in : List Entry → Sent → Packet
packet_in log s = packet_from s.by (bytes_in log s)

-- all packets, by their places
abbrev pub packets_in : List Entry → List Sent → List Packet
packets_in log sent = map (packet_in log) sent

-- the world of these nodes and packets
abbrev pub world_in : Nodes → List Entry → List Sent → PlainWorld
world_in nodes log sent = record { nodes = nodes; packets = packets_in log sent }

abbrev pub IsWithin : List Entry → Sent → Type 0
IsWithin log s = s.entry < length log

-- the places of the packets of an entry, from this one on
abbrev pub places_from : NodeId → ℕ → ℕ → List (List ℕ) → List Sent
places_from by entry pack [] = []
places_from by entry pack (p ∷ ps) = record { by = by; entry = entry; pack = pack } ∷ places_from by entry (pack + 1) ps
