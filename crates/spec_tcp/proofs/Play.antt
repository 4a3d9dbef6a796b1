-- A connection played moment by moment, each with its emission, and what is told of it: the segments that went out at each
-- moment, and the connection at the end.
use Rattle.std.proofs.Common.{ℕ, ◌-◌, Bool, List, [], ◌∷◌, Option, map}
use Rattle.it_types.specs.declared.id.EndPt.{EndPt}
use Rattle.spec_tcp.specs.declared.state.State.{State}
use Rattle.spec_wire.specs.Segment.{Segment}
use Rattle.spec_tcp.specs.Connection.{Connection, Sending, window}
use Rattle.spec_tcp.specs.Emission.{Outgoing, load_of, emitted, after_emission}
use Rattle.spec_tcp.specs.Acts.{Moment, done, after}

-- ---- what goes out

-- a segment with its data
pub record Sent : Type 0 where
  pub seq : ℕ
  pub ack : ℕ
  pub flags : ℕ
  pub wnd : ℕ
  pub mss : Option ℕ
  pub load : List ℕ

abbrev pub goes : ℕ → ℕ → ℕ → ℕ → Option ℕ → List ℕ → Sent
goes seq ack flags wnd mss load = record { seq = seq; ack = ack; flags = flags; wnd = wnd; mss = mss; load = load }

abbrev pub gone_out : Sending → Outgoing → Sent
gone_out s o = goes o.seq o.ack o.flags o.wnd o.mss (load_of s o)

-- ---- playing

-- the connection at the end, and what went out at each moment
pub record Played : Type 0 where
  pub last : Connection
  pub sent : List (List Sent)

abbrev pub before : List Sent → Played → Played
before os p = record { last = p.last; sent = os ∷ p.sent }

abbrev pub play : List Moment → Connection → Played
play [] c = record { last = c; sent = [] }
play (m ∷ ms) c = let d = done m.act c m.now in before (map (gone_out d.snd) (emitted d)) (play ms (after_emission d m.now))

-- ---- telling

-- una and nxt are counted from ISS, and expected, which is RCV.NXT, from IRS
pub record Told : Type 0 where
  pub state : State
  pub una : ℕ
  pub nxt : ℕ
  pub wnd : ℕ
  pub unread : List ℕ
  pub expected : ℕ
  pub window : ℕ
  pub expires : Option ℕ
  pub ended : Bool
  pub sent : List (List Sent)

abbrev pub told : State → ℕ → ℕ → ℕ → List ℕ → ℕ → ℕ → Option ℕ → Bool → List (List Sent) → Told
told state una nxt wnd unread expected win expires ended sent = record {
  state = state;
  una = una;
  nxt = nxt;
  wnd = wnd;
  unread = unread;
  expected = expected;
  window = win;
  expires = expires;
  ended = ended;
  sent = sent;
}

abbrev pub shown : Played → Told
shown p =
    let c = p.last in
    told c.state (c.snd.una - c.snd.iss) (c.snd.nxt - c.snd.iss) c.snd.wnd c.rcv.unread (c.rcv.nxt - c.rcv.irs) (window c.rcv) c.timer.expires c.rcv.ended p.sent

-- the state after each moment, with what went out
abbrev pub passes : List Moment → Connection → List (State × List Sent)
passes [] c = []
passes (m ∷ ms) c =
    let d = done m.act c m.now in
    ((after_emission d m.now).state, map (gone_out d.snd) (emitted d)) ∷ passes ms (after_emission d m.now)

-- the tick at which the timer expires, after each moment
abbrev pub expiries : List Moment → Connection → List (Option ℕ)
expiries [] c = []
expiries (m ∷ ms) c = (after m c).timer.expires ∷ expiries ms (after m c)

-- ---- words of the histories

-- 10.0.0.1 with port 49152, and 10.0.0.2 with port 7
abbrev pub mine : EndPt
mine = record { addr = 0x0a000001; port = 49152 }

abbrev pub peer : EndPt
peer = record { addr = 0x0a000002; port = 7 }

-- a segment from port 7 to port 49152
abbrev pub seg : ℕ → ℕ → ℕ → ℕ → Option ℕ → List ℕ → Segment
seg seq ack flags wnd mss load = record { from_port = 7; to_port = 49152; seq = seq; ack = ack; flags = flags; wnd = wnd; mss = mss; load = load }
