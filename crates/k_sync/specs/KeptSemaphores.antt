-- What the semaphores of a kernel keep (µITRON4.0 section 4.4.1).
use Rattle.std.specs.Prelude.{◌≡◌, ℕ, Bool, true, ◌&&◌, List, Option, Some, None, nat_le}
use Rattle.spec_lists.specs.Tables.{get}
use Rattle.spec_kernel.specs.declared.semaphore_block.SemaphoreBlock.{SemaphoreBlock}
use Rattle.spec_kernel.specs.declared.waiter.Waiter.{Waiter}
use Rattle.k_sync.specs.Waiting.{AreApart}

-- the count is at most the maximum, which is from 1 to 65,535
abbrev pub is_in_range : Option SemaphoreBlock → Bool
is_in_range None = true
is_in_range (Some s) = nat_le s.count s.max && (nat_le 1 s.max && nat_le s.max 65535)

pub record AreInRange (semaphores : List (Option SemaphoreBlock)) : Type 0 where
  pub each : (i : ℕ) → is_in_range (get semaphores i) ≡ true

pub record KeptSemaphores (semaphores : List (Option SemaphoreBlock)) (waiters : List Waiter) : Type 0 where
  pub ranges : AreInRange semaphores
  pub apart : AreApart waiters
