-- Calls of the whole kernel that end by time (µITRON4.0 section 2.1 for time-outs, 4.2 for the delay): each at the first tick at or past
-- its deadline. That those of one tick end by rising number, one after another, is this project's own. And the waits of tasks for calls of
-- the network part (ITRON TCP/IP API), which end here by time alone.
use Rattle.std.specs.Prelude.{◌≡◌, ℕ, Bool, true, false, not, ◌&&◌, List, [], ◌∷◌, Option, Some, None, nat_lt, nat_le}
use Rattle.std.specs.List.{list_any}
use Rattle.it_types.specs.declared.id.TaskId.{TaskId}
use Rattle.it_types.specs.declared.id.CallNo.{CallNo}
use Rattle.it_types.specs.declared.er.Er.{Er}
use Rattle.it_types.specs.declared.er.TheConstants.{E_OK, E_TMOUT}
use Rattle.it_types.specs.declared.timeout.Tmo.{Tmo}
use Rattle.spec_lists.specs.First.{take_first}
use Rattle.spec_kernel.specs.declared.reason.WaitReason.{WaitReason}
use Rattle.spec_kernel.specs.declared.reason.WaitReason.TheVariants as reasons
use Rattle.spec_kernel.specs.declared.reason.WaitingCall.{WaitingCall}
use Rattle.spec_kernel.specs.PlainKernel.{PlainKernel, is_of}
use Rattle.spec_kernel.specs.Settle.{Outcome, is_outside, ending, ended, settled}
use Rattle.spec_kernel.specs.Rows.{with_wait, quiet}

-- ---- ends by time

-- the deadline is at or before now
abbrev pub is_reached : ℕ → Option ℕ → Bool
is_reached now None = false
is_reached now (Some deadline) = nat_le deadline now

abbrev pub is_past : ℕ → WaitingCall → Bool
is_past now w = is_reached now w.deadline

-- no deadline of a call that waits is at or before now
abbrev pub NoneIsPast : PlainKernel → Type 0
NoneIsPast k = take_first (is_past k.clock.now) k.waits ≡ None

-- its deadline is past, and no call of a lower number has one that is
abbrev pub is_next_past : ℕ → List WaitingCall → WaitingCall → Bool
is_next_past now waits w = is_past now w && not (list_any (λ v. is_past now v && nat_lt v.call.0 w.call.0) waits)

-- the call of the least number whose deadline is past, and the others
abbrev pub next_past : PlainKernel → Option (WaitingCall × List WaitingCall)
next_past k = take_first (is_next_past k.clock.now k.waits) k.waits

-- the code of an end by time: a delay has done what it is for
abbrev pub code_by_time : WaitReason → Er
code_by_time reasons.Delay = E_OK
code_by_time _ = E_TMOUT

-- the end of one call by time
abbrev pub by_time : PlainKernel → WaitingCall × List WaitingCall → Outcome
by_time k found = record (quiet (ended k found.0 found.1)) { ends = ending found.0 (code_by_time found.0.reason) [] ∷ [] }

-- what the next call whose deadline is past makes, None where there is none
abbrev pub due_of : PlainKernel → Option (WaitingCall × List WaitingCall) → Option Outcome
due_of k None = None
due_of k (Some found) = Some (settled (by_time k found))

unfoldable pub due : PlainKernel → Option Outcome
due k = due_of k (next_past k)

-- ---- waits for calls of the network part

-- the task waits for a call of the network part under this number
abbrev pub blocked : PlainKernel → TaskId → Tmo → CallNo → PlainKernel
blocked k task tmo number = with_wait k task reasons.Outside tmo number

abbrev pub is_outside_of : TaskId → WaitingCall → Bool
is_outside_of task w = is_of task.0 w && is_outside w.reason

abbrev pub unblocked_at : PlainKernel → Option (WaitingCall × List WaitingCall) → PlainKernel × Bool
unblocked_at k None = (k, false)
unblocked_at k (Some found) = (ended k found.0 found.1, true)

-- the task waits no longer, and whether it did
unfoldable pub unblocked : PlainKernel → TaskId → PlainKernel × Bool
unblocked k task = unblocked_at k (take_first (is_outside_of task) k.waits)
