-- What the objects of one kind keep of the tasks that wait there: none waits twice, and each has an id of a task (µITRON4.0
-- sections 2.1, ID numbers, and 4.4).
use Rattle.std.specs.Prelude.{◌≡◌, ℕ, ◌≤◌, Bool, false, List, Option, Some, None}
use Rattle.std.specs.List.{list_any}
use Rattle.it_types.specs.declared.id.TaskId.{TaskId}
use Rattle.spec_lists.specs.Counting.{times}
use Rattle.spec_kernel.specs.declared.reason.WaitReason.{WaitReason}
use Rattle.spec_kernel.specs.declared.waiter.Waiter.{Waiter}
use Rattle.spec_kernel.specs.Waiters.{is_task}

abbrev pub number : Waiter → ℕ
number w = w.task.0

-- no task waits twice, and all have ids from 1 to 16
pub record AreApart (ws : List Waiter) : Type 0 where
  pub once : (n : ℕ) → times number n ws ≤ 1
  pub within : (n : ℕ) → 1 ≤ times number n ws → (1 ≤ n) × (n ≤ 16)

-- a task of the kernel that waits at none of these objects
pub record MayWait (task : TaskId) (ws : List Waiter) : Type 0 where
  pub low : 1 ≤ task.0
  pub high : task.0 ≤ 16
  pub waits_nowhere : list_any (is_task task) ws ≡ false

-- what a search has taken out, and the others
abbrev pub paired : Option Waiter → List Waiter → Option (Waiter × List Waiter)
paired None ws = None
paired (Some w) ws = Some (w, ws)

-- why the one waits that was found
abbrev pub reason_of : Option (Waiter × List Waiter) → Option WaitReason
reason_of None = None
reason_of (Some found) = Some found.0.reason

-- the one waits in a queue by priority that was found
abbrev pub is_ordered : (WaitReason → Bool) → Option WaitReason → Bool
is_ordered by_priority None = false
is_ordered by_priority (Some reason) = by_priority reason
