-- What the laws of a connection say (RFC 9293, sections 3.3.1, 3.4, 3.5.3 and 3.8.6), in words on its fields.
use Rattle.std.specs.Prelude.{◌≡◌, ℕ, ◌+◌, ◌<◌, ◌≤◌, Bool, true, false, ◌||◌, nat_lt, length, bit_and, ◌==◌}
use Rattle.spec_wire.specs.Segment.{one_if, fin_flag}
use Rattle.spec_wire.specs.Positions.{number_of}
use Rattle.spec_tcp.specs.declared.part.Part.{Part}
use Rattle.spec_tcp.specs.declared.state.State.{State}
use Rattle.spec_tcp.specs.declared.state.State.TheVariants.{SynReceived, Established, FinWait1, FinWait2, CloseWait, Closing, LastAck}
use Rattle.spec_tcp.specs.Connection.{Sending, Receiving, Connection, data_end, window}
use Rattle.spec_tcp.specs.Emission.{Outgoing}

-- ---- received bytes

abbrev pub received : Receiving → ℕ
received r = r.taken + length r.unread

abbrev pub one_past_fin : Receiving → ℕ
one_past_fin r = one_if r.ended

-- once the peer's SYN has come, RCV.NXT is past it, past each received byte, and past the FIN
abbrev pub IsCounted : Receiving → Type 0
IsCounted r = 0 < r.irs → r.nxt ≡ r.irs + 1 + received r + one_past_fin r

-- ---- bytes that go out

abbrev pub first_unacked : Sending → ℕ
first_unacked s = s.iss + 1 + s.acked

-- bytes from a position on that are committed and not acknowledged; or, of the length 0, the FIN of a shut stream
pub record WasCommitted (s : Sending) (at len : ℕ) : Type 0 where
  pub from : first_unacked s ≤ at
  pub una : s.una ≤ at
  pub to : at + len ≤ data_end s
  pub fin : len ≡ 0 → (s.shut ≡ true) × (at ≡ data_end s)

abbrev pub PartWasCommitted : Sending → Part → Type 0
PartWasCommitted s p = WasCommitted s p.at p.len

abbrev pub has_fin : Outgoing → Bool
has_fin o = bit_and o.flags fin_flag == fin_flag

-- a segment has data or the FIN
abbrev pub carries : Outgoing → Bool
carries o = nat_lt 0 o.len || has_fin o

-- what it carries stands at a position that its sequence number is of; the FIN is a segment of its own
pub record SegmentWasCommitted (s : Sending) (o : Outgoing) : Type 0 where
  pub at : ℕ
  pub seq : o.seq ≡ number_of at
  pub committed : WasCommitted s at o.len
  pub alone : has_fin o ≡ true → o.len ≡ 0

abbrev pub CarriesCommitted : Sending → Outgoing → Type 0
CarriesCommitted s o = carries o ≡ true → SegmentWasCommitted s o

-- ---- positions

-- no position lies before where it was
pub record NeverFalls (c d : Connection) : Type 0 where
  pub rcv_nxt : c.rcv.nxt ≤ d.rcv.nxt
  pub snd_una : c.snd.una ≤ d.snd.una
  pub snd_nxt : c.snd.nxt ≤ d.snd.nxt

-- ---- the receive window

abbrev pub right_edge : Receiving → ℕ
right_edge r = r.nxt + window r

-- ---- resets

-- the states in which a reset breaks a connection whose peer's SYN has come
abbrev pub is_resettable : State → Bool
is_resettable SynReceived = true
is_resettable Established = true
is_resettable FinWait1 = true
is_resettable FinWait2 = true
is_resettable CloseWait = true
is_resettable Closing = true
is_resettable LastAck = true
is_resettable state = false
