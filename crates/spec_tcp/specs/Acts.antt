-- What can happen to a connection, and the connection after it and what it sends then.
use Rattle.std.specs.Prelude.{ℕ, Bool, true, false, List, [], ◌∷◌}
use Rattle.spec_tcp.specs.declared.state.State.{State}
use Rattle.spec_tcp.specs.declared.state.State.TheVariants.{Established, CloseWait}
use Rattle.spec_wire.specs.Segment.{Segment}
use Rattle.spec_tcp.specs.Connection.{Connection}
use Rattle.spec_tcp.specs.Arrival.{arrive}
use Rattle.spec_tcp.specs.Emission.{after_emission}
use Rattle.spec_tcp.specs.Opening.{commit, take_bytes, shut_down, drop_unread, abort, tick}

pub data Act : Type 0 where
  Opens : Act  -- it was opened, and sends its first segment
  Arrives : (s : Segment) → Act
  Ticks : Act
  Commits : (load : List ℕ) → Act
  Takes : (n : ℕ) → Act
  Shuts : Act
  Closes : Act  -- unread bytes are dropped, and so are those to come
  Aborts : Act

-- the act alone
abbrev pub done : Act → Connection → ℕ → Connection
done Opens c now = c
done (Arrives s) c now = arrive c s now
done Ticks c now = tick c now
done (Commits load) c now = commit c load
done (Takes n) c now = take_bytes c n
done Shuts c now = shut_down c
done Closes c now = drop_unread c
done Aborts c now = abort c

-- an act at a tick
pub record Moment : Type 0 where
  pub now : ℕ
  pub act : Act

abbrev pub at : ℕ → Act → Moment
at now act = record { now = now; act = act }

-- the connection after an act and the emission that ends it
abbrev pub after : Moment → Connection → Connection
after m c = after_emission (done m.act c m.now) m.now

abbrev pub after_all : List Moment → Connection → Connection
after_all [] c = c
after_all (m ∷ ms) c = after_all ms (after m c)

-- bytes are committed, and the stream is shut, only in the states in which more may be sent
abbrev pub sends_more : State → Bool
sends_more Established = true
sends_more CloseWait = true
sends_more state = false

abbrev pub may_happen : Act → Connection → Bool
may_happen (Commits load) c = sends_more c.state
may_happen Shuts c = sends_more c.state
may_happen act c = true
