-- Where no call of the whole kernel is ready, none is after an end by time, nor after a task began to wait outside or was woken; and such
-- an end, and a tick, end no other call.
use Rattle.std.proofs.Common.{◌≡◌, ℕ, zero, suc, Bool, true, false, List, [], ◌∷◌, ◌++◌, length, slice_set, Some, None, refl, ap, ◌∙◌, inl, inr}
use Rattle.std.specs.Prelude.{not, ◌&&◌, if◌then◌else◌}
use Rattle.std.proofs.lemmas.List.{append-nil}
use Rattle.it_types.specs.declared.id.TaskId.{TaskId}
use Rattle.it_types.specs.declared.id.CallNo.{CallNo}
use Rattle.it_types.specs.declared.timeout.Tmo.{Tmo}
use Rattle.spec_lists.specs.Tables.{get}
use Rattle.spec_lists.specs.First.{take_first}
use Rattle.spec_lists.proofs.Firsts.{cases_of_first, found, same_first, none_append, none_from_parts}
use Rattle.spec_kernel.specs.declared.reason.WaitReason.{WaitReason}
use Rattle.spec_kernel.specs.declared.reason.WaitReason.TheVariants as reasons
use Rattle.spec_kernel.specs.declared.reason.WaitingCall.{WaitingCall}
use Rattle.spec_kernel.specs.TaskBlocks.{is_active, is_suspended}
use Rattle.spec_kernel.specs.PlainTasks.{is_waiting, joining_unless, leaving}
use Rattle.spec_kernel.specs.PlainKernel.{PlainKernel, tasks_of, task_wait}
use Rattle.spec_kernel.specs.Settle.{Outcome, is_ready, AtRest, next_freed, ended, settle, settled}
use Rattle.spec_kernel.specs.Rows.{with_wait, waiting_call, quiet, ticked, tick}
use Rattle.spec_kernel.specs.Time.{is_next_past, next_past, by_time, due, blocked, is_outside_of, unblocked}
use Rattle.laws_kernel.proofs.Settling.{rests_next, settled_rests}

-- ---- nothing ends

settle_none : (n : ℕ) (k : PlainKernel) → next_freed k ≡ None → settle n k ≡ (k, [])
unfolding settle
settle_none zero k e = refl
settle_none (suc n) k e = rw e refl

-- where no call is ready, none ends
pub settled_none : (o : Outcome) → AtRest o.kernel → settled o ≡ o
unfolding settled
settled_none o rest = rw (settle_none (length o.kernel.waits) o.kernel (rests_next o.kernel rest), append-nil) refl

-- a tick makes no call ready
pub tick_alone : (k : PlainKernel) → AtRest k → tick k ≡ quiet (ticked k)
unfolding tick
tick_alone k rest = settled_none (quiet (ticked k)) rest

-- ---- the same calls are ready

-- with the same tasks and objects
pub same_ready : (k l : PlainKernel) → l.tasks ≡ k.tasks → l.objects ≡ k.objects → (w : WaitingCall) → is_ready l w ≡ is_ready k w
same_ready k l t o w = ap (λ ts. is_ready (record l { tasks = ts }) w) t ∙ ap (λ os. is_ready (record k { objects = os }) w) o

-- an end leaves the tasks' blocks
pub ended-tasks : (k : PlainKernel) (w : WaitingCall) (others : List WaitingCall) → (ended k w others).tasks ≡ k.tasks
ended-tasks k w others = of (is_suspended (get k.tasks w.task.0))
  where
    of : (b : Bool) → (joining_unless b (record (tasks_of k) { waits = slice_set (tasks_of k).waits w.task.0 None }) w.task).tasks ≡ k.tasks
    of true = refl
    of false = refl

-- and so does the beginning of a wait
pub waiting-tasks : (k : PlainKernel) (task : TaskId) (reason : WaitReason) (tmo : Tmo) (number : CallNo) → (with_wait k task reason tmo number).tasks ≡ k.tasks
waiting-tasks k task reason tmo number = of (is_active (get k.tasks task.0) && not (is_waiting (tasks_of k) task))
  where
    of : (b : Bool) → (if b then leaving (record (tasks_of k) { waits = slice_set (tasks_of k).waits task.0 (Some (task_wait reason)) }) task else tasks_of k).tasks ≡ k.tasks
    of true = refl
    of false = refl

-- ---- ends, and waits outside

-- the end of a call that was found makes no call ready
pub ended_rests : (k : PlainKernel) (f : WaitingCall → Bool) (w : WaitingCall) (others : List WaitingCall) → take_first f k.waits ≡ Some (w, others) → AtRest k → AtRest (ended k w others)
ended_rests k f w others e rest = same_first (is_ready (ended k w others)) (is_ready k) others (same_ready k (ended k w others) (ended-tasks k w others) refl) ∙ (found f (is_ready k) k.waits (w, others) rest e).1

-- no call is ready after an end by time
pub due_rests : (k : PlainKernel) (o : Outcome) → due k ≡ Some o → AtRest o.kernel
unfolding due
due_rests k o e = elim (cases_of_first (next_past k)) [
  | inl none ↦ absurd (let f : None ≡ Some o = rw none at e in cc)
  | inr z ↦ (let is : settled (by_time k z.0) ≡ o = some_is (rw z.1 at e) in rw (← is) (settled_rests (by_time k z.0)))
]
  where
    some_is : {o q : Outcome} → Some o ≡ Some q → o ≡ q
    some_is e = cc

-- and where none was before, it comes alone
pub due_alone : (k : PlainKernel) (x : WaitingCall × List WaitingCall) → AtRest k → next_past k ≡ Some x → due k ≡ Some (by_time k x)
unfolding due
due_alone k x rest e = rw e (ap Some (settled_none (by_time k x) (ended_rests k (is_next_past k.clock.now k.waits) x.0 x.1 e rest)))

-- a task that waits outside isn't ready
pub blocked_rests : (k : PlainKernel) (task : TaskId) (tmo : Tmo) (number : CallNo) → AtRest k → AtRest (blocked k task tmo number)
blocked_rests k task tmo number rest =
    let new : WaitingCall = waiting_call k task reasons.Outside tmo number in
    same_first (is_ready (blocked k task tmo number)) (is_ready k) (k.waits ++ new ∷ []) (same_ready k (blocked k task tmo number) (waiting-tasks k task reasons.Outside tmo number) refl)
    ∙ none_append (is_ready k) k.waits (new ∷ []) rest (none_from_parts (is_ready k) new [] refl refl)

-- nor does its end make one ready
pub unblocked_rests : (k : PlainKernel) (task : TaskId) → AtRest k → AtRest (unblocked k task).0
unfolding unblocked
unblocked_rests k task rest = elim (cases_of_first (take_first (is_outside_of task) k.waits)) [
  | inl none ↦ rw none rest
  | inr z ↦ rw z.1 (ended_rests k (is_outside_of task) z.0.0 z.0.1 z.1 rest)
]
