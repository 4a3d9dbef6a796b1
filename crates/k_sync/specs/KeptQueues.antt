-- What the data queues keep of the tasks that wait there: none waits twice, and never both senders and receivers at one queue
-- (µITRON4.0 section 4.4.3).
use Rattle.std.specs.Prelude.{List}
use Rattle.spec_kernel.specs.declared.waiter.Waiter.{Waiter}
use Rattle.spec_kernel.specs.QueueRuns.{NeverBoth}
use Rattle.k_sync.specs.Waiting.{AreApart}

pub record AreKept (ws : List Waiter) : Type 0 where
  pub apart : AreApart ws
  pub one_side : NeverBoth ws
