-- How tasks and calls stand in the whole kernel at any time (µITRON4.0 section 3.2): which tasks are runnable is told by the tasks and the
-- calls that wait themselves, and the list has just these.
use Rattle.std.specs.Prelude.{◌≡◌, ℕ, ◌≤◌, ◌<◌, Bool, true, not, ◌&&◌, List, [], ◌∷◌, length, None}
use Rattle.std.specs.List.{list_any}
use Rattle.it_types.specs.declared.id.TaskId.{TaskId}
use Rattle.spec_lists.specs.Tables.{get}
use Rattle.spec_lists.specs.Counting.{one_if, times}
use Rattle.spec_kernel.specs.declared.reason.WaitingCall.{WaitingCall}
use Rattle.spec_kernel.specs.TaskBlocks.{is_active, is_suspended}
use Rattle.spec_kernel.specs.PlainKernel.{PlainKernel, is_of}

abbrev pub task_number : TaskId → ℕ
task_number t = t.0

abbrev pub waiting_number : WaitingCall → ℕ
waiting_number w = w.task.0

-- a call of the task waits
abbrev pub waits_now : PlainKernel → ℕ → Bool
waits_now k id = list_any (is_of id) k.waits

-- it is active, not suspended, and no call of its own waits
abbrev pub is_runnable : PlainKernel → ℕ → Bool
is_runnable k id = is_active (get k.tasks id) && (not (is_suspended (get k.tasks id)) && not (waits_now k id))

-- the ranks rise along the list, and are below the next one
abbrev pub AllAbove : ℕ → List WaitingCall → Type 0
AllAbove rank [] = Unit {0}
AllAbove rank (w ∷ ws) = (rank < w.rank) × AllAbove rank ws

abbrev pub AreRisingTo : ℕ → List WaitingCall → Type 0
AreRisingTo next [] = Unit {0}
AreRisingTo next (w ∷ ws) = (w.rank < next) × (AllAbove w.rank ws × AreRisingTo next ws)

pub record IsStanding (k : PlainKernel) : Type 0 where
  pub places : length k.tasks ≡ 17
  pub nobody : get k.tasks 0 ≡ None
  pub runnable : (id : ℕ) → times task_number id k.runnable ≡ one_if (is_runnable k id)  -- each runnable task once, and no other
  pub once : (id : ℕ) → times waiting_number id k.waits ≤ 1  -- a task waits with one call at most
  pub active : (id : ℕ) → 1 ≤ times waiting_number id k.waits → is_active (get k.tasks id) ≡ true
  pub ranks : AreRisingTo k.next_rank k.waits
