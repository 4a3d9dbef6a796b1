-- What a timer keeps: its time is at most the greatest, and its expiries are counted up to the last.
use Rattle.std.specs.Prelude.{◌≤◌}
use Rattle.spec_tcp.specs.Timing.{Timer}

pub record Kept (t : Timer) : Type 0 where
  pub time : t.rto ≤ 60000
  pub count : t.count ≤ 9
