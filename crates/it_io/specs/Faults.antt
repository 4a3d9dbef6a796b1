-- Counts of calls, of faults and of ends. A count never falls, and stands still at 2^64 - 1.
use Rattle.std.specs.Prelude.{ℕ, ◌+◌, ◌-◌, ◌^◌, ◌<◌, ◌≤◌, ◌⊎◌, ◌==◌, ◌&&◌, if◌then◌else◌, nat_lt, min}

-- the count is higher than before, or stands at its last value
abbrev pub Rose : ℕ → ℕ → Type 0
Rose old new = (old < new) ⊎ (2 ^ 64 - 1 ≤ new)

-- the count of one more
abbrev pub next_count : ℕ → ℕ
next_count n = min (n + 1) (2 ^ 64 - 1)

-- the count of ends after a read that gave n bytes to a buffer with so many places: none is the end where there is a place
abbrev pub ends_after : ℕ → ℕ → ℕ → ℕ
ends_after ends n places = if (n == 0) && nat_lt 0 places then next_count ends else ends
