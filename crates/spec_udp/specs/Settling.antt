-- Which waiting call at a UDP end point is met, and the ends of all that are, one after another (the conditions are those of the
-- ITRON TCP/IP API's calls; that all ends of an event come in one step is this project's own).
use Rattle.std.specs.Prelude.{◌≡◌, ℕ, zero, suc, Bool, true, false, ◌&&◌, List, [], ◌∷◌, ◌++◌, length, Option, Some, None}
use Rattle.it_types.specs.declared.er.Er.{Er}
use Rattle.it_types.specs.declared.er.TheConstants.{E_OK}
use Rattle.spec_lists.specs.Tables.{get, change}
use Rattle.spec_lists.specs.First.{take_first}
use Rattle.spec_udp.specs.declared.point.Received.{Received}
use Rattle.spec_udp.specs.Packets.{sent_packet}
use Rattle.spec_udp.specs.Receiving.{count_code, receive_code, receive_bytes}
use Rattle.spec_udp.specs.Points.{has_some, queue_of, wanted_at, sending_at, local_port, without_oldest, with_sending}
use Rattle.spec_pend.specs.declared.slot.Part.{Part}
use Rattle.spec_pend.specs.declared.slot.Part.TheVariants.{Conn, Send, Recv}
use Rattle.spec_pend.specs.declared.call.NetCall.{NetCall}
use Rattle.spec_pend.specs.Ends.{ended_as}
use Rattle.spec_udp.specs.declared.point.Sending.{Sending}
use Rattle.spec_udp.specs.declared.point.UdpPoint.{UdpPoint}
use Rattle.spec_udp.specs.PlainUdps.{PlainUdps, UdpSide, UdpOutcome, side_after}

-- ---- which call is ready

-- what a call at this part of an end point waits for is there: a datagram has come; one that sends never waits for more
abbrev pub is_met : Option UdpPoint → Part → Bool
is_met point Conn = false
is_met point Send = true
is_met point Recv = has_some (queue_of point)

abbrev pub is_ready : PlainUdps → NetCall → Bool
is_ready u c = c.slot.udp && is_met (get u.points c.slot.cep.0) c.slot.part

-- the first ready call, and the others
abbrev pub first_ready : UdpSide → Option (NetCall × List NetCall)
first_ready s = take_first (is_ready s.udps) s.pend.calls

-- no call that waits at a UDP end point is ready
abbrev pub UdpAtRest : UdpSide → Type 0
UdpAtRest s = first_ready s ≡ None

-- ---- with what a ready call ends, and what it takes

abbrev pub received_code : ℕ → List Received → Er
received_code len [] = E_OK
received_code len (d ∷ ds) = receive_code len d

abbrev pub received_bytes : ℕ → List Received → List ℕ
received_bytes len [] = []
received_bytes len (d ∷ ds) = receive_bytes len d

abbrev pub sent_code : Option Sending → Er
sent_code None = E_OK
sent_code (Some s) = count_code (length s.load)

abbrev pub met_code : Option UdpPoint → Part → Er
met_code point Conn = E_OK
met_code point Send = sent_code (sending_at point)
met_code point Recv = received_code (wanted_at point) (queue_of point)

abbrev pub met_bytes : Option UdpPoint → Part → List ℕ
met_bytes point Conn = []
met_bytes point Send = []
met_bytes point Recv = received_bytes (wanted_at point) (queue_of point)

abbrev pub point_after : Part → Option UdpPoint → Option UdpPoint
point_after Conn point = point
point_after Send point = with_sending None point
point_after Recv point = without_oldest point

abbrev pub packets_for : ℕ → Option UdpPoint → Option Sending → List (List ℕ)
packets_for addr point None = []
packets_for addr point (Some s) = sent_packet addr (local_port point) s.dest s.load ∷ []

abbrev pub met_packets : ℕ → Option UdpPoint → Part → List (List ℕ)
met_packets addr point Conn = []
met_packets addr point Send = packets_for addr point (sending_at point)
met_packets addr point Recv = []

-- ---- settling

-- the ready call that was found ends
abbrev pub met : UdpOutcome → NetCall × List NetCall → UdpOutcome
met o found =
    let point = get o.udps.points found.0.slot.cep.0 in
    record o {
      udps = record o.udps { points = change o.udps.points found.0.slot.cep.0 (point_after found.0.slot.part) };
      endings = ended_as o.endings found (met_code point found.0.slot.part) (met_bytes point found.0.slot.part);
      packets = o.packets ++ met_packets o.udps.addr point found.0.slot.part;
    }

-- the end of the ready call that was found, and what goes on after it
abbrev pub turn : (UdpOutcome → UdpOutcome) → UdpOutcome → Option (NetCall × List NetCall) → UdpOutcome
turn go_on o None = o
turn go_on o (Some found) = go_on (met o found)

-- while a call is ready, the first of them ends: as many times as there are calls, at most
unfoldable pub settle : ℕ → UdpOutcome → UdpOutcome
settle zero o = o
settle (suc n) o = turn (settle n) o (first_ready (side_after o))

-- the outcome of a row, after all that it made ready has ended
unfoldable pub settled : UdpOutcome → UdpOutcome
settled o = settle (length o.endings.pend.calls) o
