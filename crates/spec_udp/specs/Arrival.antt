-- A packet that reaches the node (RFC 768, RFC 791; the queue's limit, and that what has no place is silently dropped, are this
-- project's own; the event of a datagram that no call waits for is of the ITRON TCP/IP API).
use Rattle.std.specs.Prelude.{ℕ, ◌+◌, Bool, not, ◌&&◌, ◌==◌, List, [], ◌∷◌, length, Option, Some, None, nat_lt, if◌then◌else◌}
use Rattle.it_types.specs.declared.id.CepId.{CepId}
use Rattle.it_types.specs.declared.handler.FnCode.TheVariants as functions
use Rattle.spec_lists.specs.Tables.{get}
use Rattle.spec_udp.specs.declared.point.Received.{Received}
use Rattle.spec_udp.specs.Packets.{Arrived, arrived_in}
use Rattle.spec_udp.specs.Receiving.{count_code}
use Rattle.spec_pend.specs.Slots.{is_taken}
use Rattle.spec_pend.specs.Ends.{told}
use Rattle.spec_udp.specs.declared.point.UdpPoint.{UdpPoint}
use Rattle.spec_udp.specs.PlainUdps.{UdpSide, UdpOutcome, quiet, queue_limit}
use Rattle.spec_udp.specs.Points.{has_port, routine_at, queue_of, joined}
use Rattle.spec_udp.specs.Settling.{settled}
use Rattle.spec_udp.specs.Rows.{slot_of, with_point}

-- the first end point that has the port, in a table whose first place has this id
abbrev pub with_port : ℕ → ℕ → List (Option UdpPoint) → Option CepId
with_port id port [] = None
with_port id port (p ∷ ps) = if has_port port p then Some (record { 0 = id }) else with_port (id + 1) port ps

abbrev pub has_place : Option UdpPoint → Bool
has_place point = nat_lt (length (queue_of point)) queue_limit

-- no receive waits at the end point, and it has a routine
abbrev pub is_event : UdpSide → CepId → Bool
is_event s cep = not (is_taken s.pend (slot_of cep functions.UdpRcv)) && not ((routine_at (get s.udps.points cep.0)).0 == 0)

-- the end point's routine is told of a datagram of this length
abbrev pub with_event : UdpOutcome → CepId → ℕ → UdpOutcome
with_event o cep len = record o { endings = told o.endings (routine_at (get o.udps.points cep.0)) (slot_of cep functions.UdpEvent) (count_code len) [] }

-- the datagram joins the queue, last
abbrev pub queued : UdpSide → CepId → Received → UdpOutcome
queued s cep d = if is_event s cep then with_event (quiet (with_point s cep (joined d))) cep (length d.load) else quiet (with_point s cep (joined d))

-- a datagram for a port without end point, or for one whose queue is full, is dropped
abbrev pub at_point : UdpSide → Received → Option CepId → UdpOutcome
at_point s d None = quiet s
at_point s d (Some cep) = if has_place (get s.udps.points cep.0) then queued s cep d else quiet s

abbrev pub after_arrival : UdpSide → Option Arrived → UdpOutcome
after_arrival s None = quiet s
after_arrival s (Some a) = at_point s a.received (with_port 0 a.port s.udps.points)

-- the bytes of a packet arrive, and all calls that are met then end
unfoldable pub arrive : UdpSide → List ℕ → UdpOutcome
arrive s bytes = settled (after_arrival s (arrived_in s.udps.addr bytes))
