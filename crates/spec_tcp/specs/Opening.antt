-- Opening, committing, taking, closing, aborting, and the time (RFC 9293, sections 3.9.1 and 3.10).
use Rattle.std.specs.Prelude.{ℕ, ◌+◌, ◌/◌, min, Bool, true, false, ◌&&◌, List, [], replicate, None, nat_le, if◌then◌else◌}
use Rattle.it_types.specs.declared.id.EndPt.{EndPt}
use Rattle.spec_tcp.specs.declared.state.State.{State}
use Rattle.spec_tcp.specs.declared.state.State.TheVariants.{SynSent, SynReceived, Established, FinWait1, LastAck, CloseWait}
use Rattle.spec_wire.specs.Segment.{Segment}
use Rattle.spec_wire.specs.Positions.{initial}
use Rattle.spec_tcp.specs.declared.facts.Facts.{Facts}
use Rattle.spec_tcp.specs.Connection.{Sending, Receiving, Connection, window}
use Rattle.spec_tcp.specs.Timing.{new_timer, is_due, is_last, after_expiry}
use Rattle.spec_tcp.specs.Windows.{committed, with_taken, closed}
use Rattle.spec_tcp.specs.Arrival.{broken_in, owing_if, send_mss, takes_data}
use Rattle.spec_tcp.specs.Emission.{no_facts}

-- ---- opening

abbrev pub opened_sending : ℕ → ℕ → Sending
opened_sending iss size = record {
  iss = initial iss;
  una = initial iss;
  nxt = initial iss + 1;
  wnd = 0;
  wl1 = 0;
  wl2 = 0;
  mss = 536;
  acked = 0;
  bytes = [];
  shut = false;
  size = size;
}

-- before the peer's SYN has come
abbrev pub opened_receiving : ℕ → Receiving
opened_receiving size = record {
  irs = 0;
  nxt = 0;
  unread = [];
  taken = 0;
  ahead = replicate size None;
  fin = None;
  ended = false;
  closing = false;
  edge = 0;
  size = size;
}

abbrev pub just_started : Facts
just_started = record no_facts { started = true }

abbrev pub open_active : EndPt → EndPt → ℕ → ℕ → ℕ → Connection
open_active mine peer iss send recv = record {
  mine = mine;
  peer = peer;
  state = SynSent;
  snd = opened_sending iss send;
  rcv = opened_receiving recv;
  timer = new_timer;
  facts = just_started;
}

-- by a SYN that has come, whose data and FIN are ignored
abbrev pub open_passive : EndPt → EndPt → ℕ → Segment → ℕ → ℕ → Connection
open_passive mine peer iss syn send recv = record {
  mine = mine;
  peer = peer;
  state = SynReceived;
  snd = record (opened_sending iss send) { wnd = syn.wnd; wl1 = initial syn.seq; wl2 = initial iss; mss = send_mss syn.mss };
  rcv = record (opened_receiving recv) { irs = initial syn.seq; nxt = initial syn.seq + 1 };
  timer = new_timer;
  facts = just_started;
}

-- ---- sending

abbrev pub commit : Connection → List ℕ → Connection
commit c load = record c { snd = committed c.snd load }

-- ---- receiving

-- the right edge of the window is far enough past the one that was told
abbrev pub is_update : Receiving → Bool
is_update r = nat_le (r.edge + min 1460 (r.size / 2)) (r.nxt + window r)

abbrev pub take_bytes : Connection → ℕ → Connection
take_bytes c n = let r = with_taken c.rcv n in owing_if (takes_data c.state && is_update r) (record c { rcv = r })

-- ---- closing

abbrev pub after_shut : State → State
after_shut Established = FinWait1
after_shut CloseWait = LastAck
after_shut state = state

-- the FIN stands past the last byte
abbrev pub shut_down : Connection → Connection
shut_down c = record c { state = after_shut c.state; snd = record c.snd { shut = true } }

abbrev pub drop_unread : Connection → Connection
drop_unread c = record c { rcv = closed c.rcv }

abbrev pub abort : Connection → Connection
abort c = record c { timer = new_timer; facts = record c.facts { aborted = true } }

-- ---- time

abbrev pub time_expires : Connection → ℕ → Connection
time_expires c now = if is_last c.timer then broken_in c.state c else record c { timer = after_expiry c.timer now; facts = record c.facts { expired = true } }

abbrev pub tick : Connection → ℕ → Connection
tick c now = if is_due c.timer.expires now then time_expires c now else c
