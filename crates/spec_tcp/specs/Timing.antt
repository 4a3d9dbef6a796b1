-- The retransmission timer (RFC 9293, section 3.8.1, with a time of this project's own).
use Rattle.std.specs.Prelude.{ℕ, ◌+◌, ◌*◌, min, Bool, false, Option, Some, None, ◌==◌, nat_le, is_none, if◌then◌else◌}

pub record Timer : Type 0 where
  pub rto : ℕ  -- the retransmission time, in ticks
  pub count : ℕ  -- how often it expired since something was heard of the peer
  pub expires : Option ℕ  -- the tick at which it expires, where it runs

abbrev pub first_rto : ℕ
first_rto = 1000

abbrev pub greatest_rto : ℕ
greatest_rto = 60000

-- the expiry at which the connection breaks, counted from the last that was heard of the peer
abbrev pub last_expiry : ℕ
last_expiry = 9

abbrev pub new_timer : Timer
new_timer = record { rto = first_rto; count = 0; expires = None }

-- it is started where it stands
abbrev pub running_from : Timer → ℕ → Timer
running_from t now = record t { expires = if is_none t.expires then Some (now + t.rto) else t.expires }

abbrev pub is_due : Option ℕ → ℕ → Bool
is_due None now = false
is_due (Some tick) now = tick == now

abbrev pub is_last : Timer → Bool
is_last t = nat_le last_expiry (t.count + 1)

-- the time is twice as long from the next expiry on, up to its greatest
abbrev pub doubled : Timer → ℕ
doubled t = min (2 * t.rto) greatest_rto

-- it expired: it starts again with twice the time, or stands for good
abbrev pub after_expiry : Timer → ℕ → Timer
after_expiry t now =
    if is_last t then record t { count = last_expiry; expires = None }
    else record { rto = doubled t; count = t.count + 1; expires = Some (now + doubled t) }

-- something was heard of the peer
abbrev pub heard : Timer → Timer
heard t = record t { count = 0 }

-- more is acknowledged, and something is left that isn't
abbrev pub restarted : ℕ → Bool → Timer
restarted now more = record { rto = first_rto; count = 0; expires = if more then Some (now + first_rto) else None }
