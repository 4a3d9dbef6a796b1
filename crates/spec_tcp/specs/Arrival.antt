-- Segments that arrive at a connection (RFC 9293, section 3.10.7.3 for SYN-SENT, 3.10.7.4 for the other states).
use Rattle.std.specs.Prelude.{ℕ, ◌+◌, ◌-◌, min, max, Bool, true, false, not, ◌&&◌, ◌||◌, List, [], ◌∷◌, length, Option, Some, None, nat_le, nat_lt, ◌==◌, if◌then◌else◌}
use Rattle.spec_tcp.specs.declared.state.State.{State}
use Rattle.spec_tcp.specs.declared.state.State.TheVariants.{SynSent, SynReceived, Established, FinWait1, FinWait2, CloseWait, Closing, LastAck, TimeWait, Closed, Broken}
use Rattle.spec_wire.specs.Segment.{Segment, has, fin_flag, syn_flag, rst_flag, ack_flag, seg_len}
use Rattle.spec_wire.specs.Positions.{nearest, initial}
use Rattle.spec_tcp.specs.Connection.{Sending, Receiving, Connection, data_end, window}
use Rattle.spec_tcp.specs.Timing.{Timer, new_timer, heard, restarted}
use Rattle.spec_tcp.specs.Windows.{una_at, in_window, with_data, moved, without_early}

-- ---- what an event leaves

-- an acknowledgement is owed
abbrev pub owing : Connection → Connection
owing c = record c { facts = record c.facts { owes = true } }

abbrev pub owing_if : Bool → Connection → Connection
owing_if b c = record c { facts = record c.facts { owes = c.facts.owes || b } }

-- a reset with this sequence number is drawn
abbrev pub drawing : Connection → ℕ → Connection
drawing c seq = record c { facts = record c.facts { reset = Some seq } }

-- the connection breaks: bytes in order stay, early ones go, and no timer runs
abbrev pub broken : Connection → Connection
broken c = record c { state = Broken; rcv = without_early c.rcv; timer = new_timer; facts = record c.facts { broke = true } }

-- a break in TIME-WAIT is dropped
abbrev pub broken_in : State → Connection → Connection
broken_in TimeWait c = c
broken_in state c = broken c

-- ---- positions of a segment

abbrev pub seq_of : Connection → Segment → ℕ
seq_of c s = nearest c.rcv.nxt s.seq

abbrev pub ack_of : Connection → Segment → ℕ
ack_of c s = nearest c.snd.una s.ack

-- ---- acknowledgements

-- SND.UNA rises to a position, and the timer starts again where something is left
abbrev pub una_after : Sending → ℕ → Sending
una_after s position = if nat_lt s.una position then una_at s position else s

abbrev pub timer_after : Timer → Sending → ℕ → ℕ → Timer
timer_after t s position now = if nat_lt s.una position then restarted now (nat_lt position s.nxt) else t

-- "If SND.UNA < SEG.ACK =< SND.NXT, then set SND.UNA <- SEG.ACK."
abbrev pub una_from : Connection → ℕ → ℕ → Connection
una_from c position now = record c { snd = una_after c.snd position; timer = timer_after c.timer c.snd position now }

-- "If (SND.WL1 < SEG.SEQ or (SND.WL1 = SEG.SEQ and SND.WL2 =< SEG.ACK)), set SND.WND <- SEG.WND, set SND.WL1 <- SEG.SEQ, and
-- set SND.WL2 <- SEG.ACK."
abbrev pub is_newer : Sending → ℕ → ℕ → Bool
is_newer s seq position = nat_lt s.wl1 seq || ((s.wl1 == seq) && nat_le s.wl2 position)

abbrev pub window_set : Sending → ℕ → ℕ → ℕ → Sending
window_set s wnd seq position = record s { wnd = wnd; wl1 = seq; wl2 = position }

abbrev pub window_after : Sending → ℕ → ℕ → ℕ → Sending
window_after s wnd seq position = if is_newer s seq position then window_set s wnd seq position else s

abbrev pub window_from : Connection → ℕ → ℕ → ℕ → Connection
window_from c wnd seq position = record c { snd = window_after c.snd wnd seq position }

-- the state once the FIN is acknowledged
abbrev pub after_fin_acked : State → State
after_fin_acked FinWait1 = FinWait2
after_fin_acked Closing = TimeWait
after_fin_acked LastAck = Closed
after_fin_acked state = state

abbrev pub is_fin_acked : Sending → Bool
is_fin_acked s = s.shut && nat_lt (data_end s) s.una

abbrev pub fin_acked : Connection → Connection
fin_acked c = record c { state = if is_fin_acked c.snd then after_fin_acked c.state else c.state }

-- ---- data and FIN

-- the states in which data and FIN are taken
abbrev pub takes_data : State → Bool
takes_data Established = true
takes_data FinWait1 = true
takes_data FinWait2 = true
takes_data state = false

abbrev pub some_bytes : List ℕ → Bool
some_bytes [] = false
some_bytes (b ∷ bs) = true

-- a FIN in the window is kept, in place of an earlier one
abbrev pub fin_in : Receiving → ℕ → Segment → Bool
fin_in r seq s = has fin_flag s && in_window r (seq + length s.load)

abbrev pub fin_after : Receiving → ℕ → Segment → Option ℕ
fin_after r seq s = if fin_in r seq s then Some (seq + length s.load) else r.fin

-- the state once RCV.NXT is past the peer's FIN
abbrev pub after_fin : State → State
after_fin Established = CloseWait
after_fin FinWait1 = Closing
after_fin FinWait2 = TimeWait
after_fin state = state

-- "Seventh, process the segment text; eighth, check the FIN bit"
abbrev pub text_in : Receiving → ℕ → Segment → Receiving
text_in r seq s = moved (record (with_data r seq s.load) { fin = fin_after r seq s })

abbrev pub texted : Connection → ℕ → Segment → Connection
texted c seq s = record c {
  rcv = text_in c.rcv seq s;
  state = if (text_in c.rcv seq s).ended then after_fin c.state else c.state;
  facts = record c.facts { owes = c.facts.owes || (some_bytes s.load || fin_in c.rcv seq s) };
}

abbrev pub text_from : Connection → ℕ → Segment → Connection
text_from c seq s = if takes_data c.state then texted c seq s else c

-- ---- opening

-- the most data of a segment: the peer's option, or 536, within 64 and 1,460
abbrev pub send_mss : Option ℕ → ℕ
send_mss None = 536
send_mss (Some m) = max 64 (min 1460 m)

-- the SYN is acknowledged
abbrev pub established : Connection → ℕ → ℕ → Connection
established c position now = record c { state = Established; snd = una_at c.snd position; timer = restarted now (nat_lt position c.snd.nxt) }

-- ---- "If the state is SYN-SENT"

-- the peer's SYN has come with an acknowledgement of this one's
abbrev pub synchronized : Connection → Segment → Connection
synchronized c s = record c {
  snd = record c.snd { wnd = s.wnd; wl1 = initial s.seq; wl2 = ack_of c s; mss = send_mss s.mss };
  rcv = record c.rcv { irs = initial s.seq; nxt = initial s.seq + 1 };
}

abbrev pub in_syn_sent : Connection → Segment → ℕ → Connection
in_syn_sent c s now =
    if has ack_flag s && not (ack_of c s == c.snd.iss + 1) then (if has rst_flag s then c else drawing c s.ack)
    else (if has rst_flag s then (if has ack_flag s then broken c else c)
    else (if has syn_flag s && has ack_flag s then owing (established (synchronized c s) (ack_of c s) now)
    else c))

-- ---- "Otherwise"

-- first: RFC 9293, section 3.4, table 6
abbrev pub is_acceptable : Receiving → ℕ → ℕ → Bool
is_acceptable r seq size =
    if size == 0 then (if window r == 0 then seq == r.nxt else in_window r seq)
    else in_window r seq || in_window r (seq + size - 1)

-- fifth, in SYN-RECEIVED and in the states from ESTABLISHED on
abbrev pub acknowledged_in : State → Connection → ℕ → Segment → ℕ → Connection
acknowledged_in SynReceived c seq s now =
    if ack_of c s == c.snd.iss + 1
    then text_from (window_from (established c (ack_of c s) now) s.wnd seq (ack_of c s)) seq s
    else drawing c s.ack
acknowledged_in state c seq s now =
    if nat_lt c.snd.nxt (ack_of c s) then owing c
    else text_from (fin_acked (window_from (una_from c (ack_of c s) now) s.wnd seq (ack_of c s))) seq s

-- second to fifth
abbrev pub accepted : Connection → ℕ → Segment → ℕ → Connection
accepted c seq s now =
    if has rst_flag s then (if seq == c.rcv.nxt then broken_in c.state c else owing c)
    else (if has syn_flag s then owing c
    else (if has ack_flag s then acknowledged_in c.state c seq s now else c))

abbrev pub heard_if : Bool → Connection → Connection
heard_if b c = record c { timer = if b then heard c.timer else c.timer }

abbrev pub otherwise : Connection → Segment → ℕ → Connection
otherwise c s now =
    let seq = seq_of c s in
    if is_acceptable c.rcv seq (seg_len s) then accepted (heard_if (has ack_flag s) c) seq s now
    else (if has rst_flag s then c else owing c)

abbrev pub arrived_in : State → Connection → Segment → ℕ → Connection
arrived_in SynSent c s now = in_syn_sent c s now
arrived_in Closed c s now = c
arrived_in Broken c s now = c
arrived_in state c s now = otherwise c s now

-- a segment arrives at the connection
unfoldable pub arrive : Connection → Segment → ℕ → Connection
arrive c s now = arrived_in c.state c s now
