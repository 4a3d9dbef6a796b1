-- What a clock keeps: the system time was set below 2^63 and rises with the ticks, so that it has room for as many as there can be.
use Rattle.std.specs.Prelude.{◌≡◌, ◌<◌, ◌+◌, ◌^◌, length, None}
use Rattle.spec_lists.specs.Tables.{get}
use Rattle.spec_kernel.specs.PlainClock.{PlainClock}

pub record Kept (c : PlainClock) : Type 0 where
  pub system : c.system < 2 ^ 63 + c.now
  pub places : length c.cyclics ≡ 9
  pub nobody : get c.cyclics 0 ≡ None
