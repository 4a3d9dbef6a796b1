-- Which waiting call is met, and the ends of all that are, one after another (µITRON4.0 sections 4.2 and 4.4; that all ends of an event
-- come one after another in one step is this project's own).
use Rattle.std.specs.Prelude.{◌≡◌, ℕ, zero, suc, Bool, true, false, not, ◌&&◌, ◌||◌, List, [], ◌∷◌, ◌++◌, length, Option, Some, None, nat_lt}
use Rattle.std.specs.List.{list_any}
use Rattle.it_types.specs.declared.id.TaskId.{TaskId}
use Rattle.it_types.specs.declared.er.Er.{Er}
use Rattle.it_types.specs.declared.er.TheConstants.{E_OK}
use Rattle.spec_lists.specs.Tables.{get}
use Rattle.spec_lists.specs.First.{take_first}
use Rattle.spec_kernel.specs.declared.reason.WaitReason.{WaitReason}
use Rattle.spec_kernel.specs.declared.reason.WaitReason.TheVariants as reasons
use Rattle.spec_kernel.specs.declared.reason.WaitingCall.{WaitingCall}
use Rattle.spec_kernel.specs.declared.outcome.KAns.{KAns}
use Rattle.spec_kernel.specs.declared.outcome.KEnd.{KEnd}
use Rattle.spec_kernel.specs.TaskBlocks.{wakeups_of}
use Rattle.spec_kernel.specs.PlainTasks.{released, woken}
use Rattle.spec_kernel.specs.Waiters.{is_same_queue}
use Rattle.spec_kernel.specs.Waiting.{is_met, bytes_of, taken}
use Rattle.spec_kernel.specs.PlainKernel.{PlainKernel, tasks_of, with_tasks, waiter_of}

-- what a kernel event gives: the state after it, its answer, the ends of calls, the task that ended and the one that began, if any
pub record Outcome : Type 0 where
  pub kernel : PlainKernel
  pub answer : KAns
  pub ends : List KEnd
  pub gone : TaskId
  pub begun : TaskId

-- ---- ends

abbrev pub is_outside : WaitReason → Bool
is_outside reasons.Outside = true
is_outside _ = false

-- the end of a call with a code and bytes
abbrev pub ending : WaitingCall → Er → List ℕ → KEnd
ending w code bytes = record { call = w.call; task = w.task; code = code; bytes = bytes; outside = is_outside w.reason }

-- the state after a call has ended that takes nothing, with the other calls that wait; its task is runnable, unless it is suspended
abbrev pub ended : PlainKernel → WaitingCall → List WaitingCall → PlainKernel
ended k w others = record (with_tasks k (released (tasks_of k) w.task)) { waits = others }

-- ---- who is ready

-- a sleeper has a wake-up
abbrev pub is_awake : PlainKernel → WaitingCall → Bool
is_awake k w = is_sleep w.reason && nat_lt 0 (wakeups_of (get k.tasks w.task.0))
  where
    is_sleep : WaitReason → Bool
    is_sleep reasons.Sleep = true
    is_sleep _ = false

-- what the call waits for is there
abbrev pub is_ready : PlainKernel → WaitingCall → Bool
is_ready k w = is_met k.objects w.reason || is_awake k w

abbrev pub urgency_of : PlainKernel → WaitingCall → ℕ
urgency_of k w = (waiter_of k w).urgency

-- it is ready, and in the same queue none is ready that is more urgent
abbrev pub comes_next : PlainKernel → WaitingCall → Bool
comes_next k w = is_ready k w && not (list_any (λ v. (is_ready k v && is_same_queue v.reason w.reason) && nat_lt (urgency_of k v) (urgency_of k w)) k.waits)

-- of the calls that come next in their queues the first in rank, and the others
abbrev pub next_freed : PlainKernel → Option (WaitingCall × List WaitingCall)
next_freed k = take_first (comes_next k) k.waits

-- no call that waits is ready
abbrev pub AtRest : PlainKernel → Type 0
AtRest k = take_first (is_ready k) k.waits ≡ None

-- ---- the ends of all that are ready

-- the state after a call was met and ended: it takes what it waited for
abbrev pub freed : PlainKernel → WaitingCall → List WaitingCall → PlainKernel
freed k w others = record (with_tasks k (woken (tasks_of k) w.task)) { waits = others; objects = taken k.objects w.reason }

abbrev pub end_of : PlainKernel → WaitingCall → KEnd
end_of k w = ending w E_OK (bytes_of k.objects w.reason)

-- the end of the call that was found, and what goes on after it
abbrev pub turn : (PlainKernel → PlainKernel × List KEnd) → PlainKernel → Option (WaitingCall × List WaitingCall) → PlainKernel × List KEnd
turn go_on k None = (k, [])
turn go_on k (Some found) = let rest = go_on (freed k found.0 found.1) in (rest.0, end_of k found.0 ∷ rest.1)

-- while a call is ready, one ends: as many times as there are calls, at most
unfoldable pub settle : ℕ → PlainKernel → PlainKernel × List KEnd
settle zero k = (k, [])
settle (suc n) k = turn (settle n) k (next_freed k)

-- the outcome of a row, after all that it made ready has ended
unfoldable pub settled : Outcome → Outcome
settled o = let rest = settle (length o.kernel.waits) o.kernel in record o { kernel = rest.0; ends = o.ends ++ rest.1 }
