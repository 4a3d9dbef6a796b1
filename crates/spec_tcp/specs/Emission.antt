-- What a connection sends after an event (RFC 9293, sections 3.8 and 3.10; which segments, and in which order, is this
-- project's own).
use Rattle.std.specs.Prelude.{ℕ, zero, suc, ◌+◌, ◌-◌, min, max, Bool, true, false, not, ◌&&◌, ◌||◌, List, [], ◌∷◌, ◌++◌, take, drop, map, Option, Some, None, nat_lt, ◌==◌, if◌then◌else◌}
use Rattle.spec_tcp.specs.declared.state.State.{State}
use Rattle.spec_tcp.specs.declared.state.State.TheVariants.{SynSent, SynReceived, Established, FinWait1, CloseWait, Closing, LastAck, Broken}
use Rattle.spec_wire.specs.Segment.{fin_flag, syn_flag, rst_flag, psh_flag, ack_flag}
use Rattle.spec_wire.specs.Positions.{number_of, nearest}
use Rattle.spec_tcp.specs.declared.facts.Facts.{Facts}
use Rattle.spec_tcp.specs.declared.part.Part.{Part}
use Rattle.spec_tcp.specs.Connection.{Sending, Connection, data_end, window}
use Rattle.spec_tcp.specs.Timing.{running_from}

-- a segment that goes out, by the length of its data
pub record Outgoing : Type 0 where
  pub seq : ℕ
  pub ack : ℕ
  pub len : ℕ
  pub flags : ℕ
  pub wnd : ℕ
  pub mss : Option ℕ

-- the data of a segment that goes out
abbrev pub load_of : Sending → Outgoing → List ℕ
load_of s o = take o.len (drop (nearest s.una o.seq - (s.iss + 1 + s.acked)) s.bytes)

-- ---- which parts of the send sequence space go out

abbrev pub fin_part : ℕ → Part
fin_part at = record { at = at; len = 0 }

abbrev pub data_part : ℕ → ℕ → Part
data_part at len = record { at = at; len = len }

-- the position after the last of some parts that follow on a position
abbrev pub past : ℕ → List Part → ℕ
past at [] = at
past at (p ∷ ps) = past (p.at + max 1 p.len) ps

-- at most so many parts of at most mss bytes, from one position to another
abbrev pub parts : ℕ → ℕ → ℕ → ℕ → List Part
parts zero mss at stop = []
parts (suc n) mss at stop = elim (nat_lt at stop) [ true ↦ data_part at (min mss (stop - at)) ∷ parts n mss (at + min mss (stop - at)) stop | false ↦ [] ]

-- the FIN waits to go out
abbrev pub fin_waits : Sending → ℕ → Bool
fin_waits s nxt = s.shut && (nxt == data_end s)

-- what is sent again, or past the window, because the time expired
abbrev pub again : Sending → List Part
again s =
    if nat_lt s.una s.nxt
    then (if nat_lt s.una (data_end s) then data_part s.una (min s.mss (min s.nxt (data_end s) - s.una)) ∷ [] else fin_part s.una ∷ [])
    else (if nat_lt s.nxt (data_end s) then data_part s.nxt 1 ∷ []
    else (if fin_waits s s.nxt then fin_part s.nxt ∷ [] else []))

abbrev pub again_if : Bool → Sending → List Part
again_if expired s = if expired then again s else []

-- how many data segments may follow
abbrev pub follow : List Part → ℕ
follow [] = 4
follow (p ∷ ps) = if p.len == 0 then 4 else 3

-- how far the peer's window reaches
abbrev pub bound : Sending → ℕ
bound s = s.una + s.wnd

abbrev pub fin_new : Sending → ℕ → List Part
fin_new s nxt = if fin_waits s nxt && nat_lt nxt (bound s) then fin_part nxt ∷ [] else []

abbrev pub from_here : Sending → List Part → ℕ
from_here s first = max s.nxt (past s.nxt first)

-- new data, and then the FIN
abbrev pub new_parts : Sending → ℕ → ℕ → List Part
new_parts s n nxt =
    let ps = parts n s.mss nxt (min (data_end s) (bound s)) in
    ps ++ fin_new s (past nxt ps)

abbrev pub sent_parts : Sending → Bool → List Part
sent_parts s expired =
    let first = again_if expired s in
    first ++ new_parts s (follow first) (from_here s first)

abbrev pub sent_nxt : Sending → Bool → ℕ
sent_nxt s expired =
    let first = again_if expired s in
    past (from_here s first) (new_parts s (follow first) (from_here s first))

-- ---- segments

abbrev pub with_flags : Connection → ℕ → ℕ → ℕ → Outgoing
with_flags c flags at len = record { seq = number_of at; ack = number_of c.rcv.nxt; len = len; flags = flags; wnd = window c.rcv; mss = None }

abbrev pub part_flags : Sending → Part → ℕ
part_flags s p = if p.len == 0 then ack_flag + fin_flag else (if (p.at + p.len) == data_end s then ack_flag + psh_flag else ack_flag)

abbrev pub part_segment : Connection → Part → Outgoing
part_segment c p = with_flags c (part_flags c.snd p) p.at p.len

-- "MUST-14: TCP endpoints MUST implement both sending and receiving the MSS Option"
abbrev pub syn_segment : Connection → Bool → Outgoing
syn_segment c acks = record {
  seq = number_of c.snd.iss;
  ack = if acks then number_of c.rcv.nxt else 0;
  len = 0;
  flags = if acks then syn_flag + ack_flag else syn_flag;
  wnd = window c.rcv;
  mss = Some 1460;
}

abbrev pub ack_segment : Connection → Outgoing
ack_segment c = with_flags c ack_flag c.snd.nxt 0

abbrev pub abort_segment : Connection → Outgoing
abort_segment c = with_flags c (rst_flag + ack_flag) c.snd.nxt 0

-- a reset that a segment has drawn: no window and no acknowledgement
abbrev pub drawn_segment : ℕ → Outgoing
drawn_segment seq = record { seq = seq; ack = 0; len = 0; flags = rst_flag; wnd = 0; mss = None }

abbrev pub drawn : Option ℕ → List Outgoing
drawn None = []
drawn (Some seq) = drawn_segment seq ∷ []

-- ---- by state

abbrev pub sends_data : State → Bool
sends_data Established = true
sends_data CloseWait = true
sends_data FinWait1 = true
sends_data Closing = true
sends_data LastAck = true
sends_data state = false

abbrev pub aborts : State → Connection → List Outgoing
aborts SynSent c = []
aborts state c = abort_segment c ∷ []

-- SYN, SYN with ACK, or data and FIN
abbrev pub sent_in : State → Connection → List Outgoing
sent_in SynSent c = if c.facts.started || c.facts.expired then syn_segment c false ∷ [] else []
sent_in SynReceived c = if c.facts.started || c.facts.expired then syn_segment c true ∷ [] else []
sent_in state c = if sends_data state then map (part_segment c) (sent_parts c.snd c.facts.expired) else []

abbrev pub nxt_after : Connection → ℕ
nxt_after c = if not c.facts.aborted && sends_data c.state then sent_nxt c.snd c.facts.expired else c.snd.nxt

-- an acknowledgement alone, where one is owed and nothing went out
abbrev pub or_ack : Connection → List Outgoing → List Outgoing
or_ack c [] = if c.facts.owes then ack_segment c ∷ [] else []
or_ack c (o ∷ os) = o ∷ os

abbrev pub sent : Connection → List Outgoing
sent c = if c.facts.aborted then aborts c.state c else or_ack c (sent_in c.state c)

-- ---- what is left

-- the right edge of the window was told
abbrev pub tells : State → List Outgoing → Bool
tells SynSent os = false
tells state [] = false
tells state (o ∷ os) = true

abbrev pub edge_after : Connection → ℕ
edge_after c = if tells c.state (sent c) then c.rcv.nxt + window c.rcv else c.rcv.edge

abbrev pub no_facts : Facts
no_facts = record { started = false; expired = false; broke = false; aborted = false; owes = false; reset = None }

-- something waits, and the window is 0
abbrev pub waits : State → Sending → Bool
waits state s = sends_data state && ((nat_lt s.nxt (data_end s) || fin_waits s s.nxt) && (s.wnd == 0))

abbrev pub is_broken : State → Bool
is_broken Broken = true
is_broken state = false

-- the timer runs while something is unacknowledged, or waits on a window of 0
abbrev pub is_timed : Connection → Bool
is_timed c = not (c.facts.aborted || is_broken c.state) && (nat_lt c.snd.una c.snd.nxt || waits c.state c.snd)

abbrev pub timed : Connection → ℕ → Connection
timed c now = record c { timer = if is_timed c then running_from c.timer now else c.timer; facts = no_facts }

abbrev pub after_sending : Connection → Connection
after_sending c = record c { snd = record c.snd { nxt = nxt_after c }; rcv = record c.rcv { edge = edge_after c } }

-- what goes out at the end of an event, and the connection after it
unfoldable pub emitted : Connection → List Outgoing
emitted c = drawn c.facts.reset ++ sent c

unfoldable pub after_emission : Connection → ℕ → Connection
after_emission c now = timed (after_sending c) now
