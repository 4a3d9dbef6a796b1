-- A connection (RFC 9293, section 3.3.1, the transmission control block) in four parts, of which no event of one part
-- changes another's fields.
use Rattle.std.specs.Prelude.{ℕ, ◌+◌, ◌-◌, Bool, List, length, Option}
use Rattle.it_types.specs.declared.id.EndPt.{EndPt}
use Rattle.spec_tcp.specs.declared.facts.Facts.{Facts}
use Rattle.spec_tcp.specs.declared.state.State.{State}
use Rattle.spec_tcp.specs.Timing.{Timer}

-- The send sequence space (RFC 9293, figure 3), all numbers being positions. The bytes that were acknowledged are counted and
-- not kept.
pub record Sending : Type 0 where
  pub iss : ℕ
  pub una : ℕ  -- the oldest position that is not acknowledged
  pub nxt : ℕ  -- the next one to be sent
  pub wnd : ℕ  -- the peer's window
  pub wl1 : ℕ  -- where the segment stood that told it, and what it acknowledged
  pub wl2 : ℕ
  pub mss : ℕ  -- the most data of a segment
  pub acked : ℕ  -- how many bytes are acknowledged
  pub bytes : List ℕ  -- the bytes that are committed and not acknowledged
  pub shut : Bool  -- a FIN stands past the last byte
  pub size : ℕ  -- how many bytes the window holds

-- The receive sequence space (RFC 9293, figure 4). The receive window is as long as the list of its places.
pub record Receiving : Type 0 where
  pub irs : ℕ
  pub nxt : ℕ  -- the next position that is expected
  pub unread : List ℕ  -- the bytes in order that are not taken
  pub taken : ℕ  -- how many bytes are taken
  pub ahead : List (Option ℕ)  -- for each position of the window, from nxt on, the byte that has come there early
  pub fin : Option ℕ  -- the position of the peer's FIN, where one has come
  pub ended : Bool  -- the peer's FIN was reached
  pub closing : Bool  -- what comes counts as taken
  pub edge : ℕ  -- the end of the window as it was last told
  pub size : ℕ  -- how many bytes the window holds

pub record Connection : Type 0 where
  pub mine : EndPt
  pub peer : EndPt
  pub state : State
  pub snd : Sending
  pub rcv : Receiving
  pub timer : Timer
  pub facts : Facts

-- the position past the last byte that was committed, at which the FIN stands
abbrev pub data_end : Sending → ℕ
data_end s = s.iss + 1 + s.acked + length s.bytes

-- how many bytes may be committed
abbrev pub room : Sending → ℕ
room s = s.size - length s.bytes

-- the receive window
abbrev pub window : Receiving → ℕ
window r = length r.ahead
