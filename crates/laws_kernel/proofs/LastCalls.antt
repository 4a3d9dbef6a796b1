-- The greatest number with which a call waited: it is that of the call which began to wait last.
use Rattle.std.proofs.Common.{◌≡◌, ◌≢◌, ℕ, zero, suc, Bool, true, false, not, ◌&&◌, List, [], length, Option, Some, None, refl, ap, sym, ◌∙◌, subst, inl, inr}
use Rattle.std.specs.Prelude.{if◌then◌else◌}
use Rattle.std.specs.Int.{is_negative}
use Rattle.std.proofs.lemmas.Bool.{cases_Bool}
use mathlib.Core.Logic.{◌⊎◌}
use Rattle.it_types.specs.declared.id.TaskId.{TaskId}
use Rattle.it_types.specs.declared.id.CallNo.{CallNo}
use Rattle.it_types.specs.declared.er.Er.{Er}
use Rattle.it_types.specs.declared.er.TheConstants.{E_CTX, E_TMOUT}
use Rattle.it_types.specs.declared.timeout.Tmo.{Tmo}
use Rattle.it_types.specs.declared.context.Ctx.{Ctx}
use Rattle.it_types.specs.declared.synced.Synced.{Synced}
use Rattle.it_types.specs.declared.synced.Synced.TheVariants.{Took, MustWait, Refused}
use Rattle.it_types.specs.declared.kernel_request.KReq.{KReq}
use Rattle.it_types.specs.Callers.{is_handler, caller, is_poll}
use Rattle.spec_lists.specs.First.{take_first}
use Rattle.spec_lists.proofs.Firsts.{cases_of_first}
use Rattle.spec_kernel.specs.declared.handed.Handed.{Handed}
use Rattle.spec_kernel.specs.declared.outcome.KAns.TheVariants.{Pends}
use Rattle.spec_kernel.specs.declared.reason.WaitReason.{WaitReason}
use Rattle.spec_kernel.specs.declared.reason.WaitingCall.{WaitingCall}
use Rattle.spec_kernel.specs.TaskRows.{TaskDone, named}
use Rattle.spec_kernel.specs.Waiting.{PlainObjects}
use Rattle.spec_kernel.specs.PlainQueues.{handed_bytes}
use Rattle.spec_kernel.specs.PlainKernel.{PlainKernel, is_of, tasks_of, queues_of, with_objects}
use Rattle.spec_kernel.specs.Settle.{Outcome, freed, next_freed, settle, settled}
use Rattle.spec_kernel.specs.Calls.{Row, row_of, is_a_handlers}
use Rattle.spec_kernel.specs.Calls.Row.{TasksAtOnce, TasksInTime, NewPriority, OnSemaphores, OnFlags, OnQueues, OnClock}
use Rattle.spec_kernel.specs.Rows.{answered_with, accepted, done_at_once, done_by_tasks, reprioritised, moved, last_in_its_queue, done_by_objects, handed_to, with_handed, priority_in, done_as, row, call, quiet, ticked, tick}
use Rattle.spec_kernel.specs.Time.{by_time, due, is_outside_of, unblocked}
use Rattle.laws_kernel.proofs.RowActs.{pends, answer_doesnt_wait}
use Rattle.laws_kernel.proofs.Timing.{due_is}

moved-last_call : (k : PlainKernel) (o : Option (WaitingCall × List WaitingCall)) → (moved k o).last_call ≡ k.last_call
moved-last_call k None = refl
moved-last_call k (Some z) = refl

-- the call waits, and the last number is its own; or it doesn't, and the last number stays
abbrev LastOf : PlainKernel → CallNo → Outcome → Type 0
LastOf k number o = ((o.answer ≡ Pends) × (o.kernel.last_call ≡ number.0)) ⊎ ((o.answer ≢ Pends) × (o.kernel.last_call ≡ k.last_call))

module _ (k : PlainKernel) (ctx : Ctx) (number : CallNo) where
  answered_last : (l : PlainKernel) (code : Er) (bytes : List ℕ) → l.last_call ≡ k.last_call → LastOf k number (answered_with l code bytes)
  answered_last l code bytes e = inr (λ f. absurd cc, e)

  accepted_last : (reason : WaitReason) (tmo : Tmo) → LastOf k number (accepted k (caller ctx) reason tmo number)
  accepted_last reason tmo = elim (cases_Bool (is_poll tmo)) [
    | inl e ↦ rw e (answered_last k E_TMOUT [] refl)
    | inr e ↦ rw e (inl (refl, refl))
  ]

  at_once_last : (done : TaskDone) → LastOf k number (done_at_once k ctx done)
  at_once_last done = inr (λ f. let g : true ≡ false = sym (ap pends f) ∙ answer_doesnt_wait ctx done.did in absurd cc, refl)

  by_tasks_last : (done : TaskDone) (reason : WaitReason) (tmo : Tmo) → LastOf k number (done_by_tasks k ctx done reason tmo number)
  by_tasks_last done reason tmo = of done.did.wait
    where
      of : (b : Bool) → LastOf k number (if b then accepted k (caller ctx) reason tmo number else done_at_once k ctx done)
      of true = accepted_last reason tmo
      of false = at_once_last done

  moving_last : (task : TaskId) (done : TaskDone) → LastOf k number (reprioritised k ctx task done)
  moving_last task done = inr (λ f. let g : true ≡ false = sym (ap pends f) ∙ answer_doesnt_wait ctx done.did in absurd cc, of (is_negative done.did.code.0))
    where
      l : PlainKernel
      l = (done_at_once k ctx done).kernel

      of : (b : Bool) → (if b then l else last_in_its_queue l (named ctx task)).last_call ≡ k.last_call
      of true = refl
      of false = moved-last_call l _

  by_objects_last : (objects : PlainObjects) (synced : Synced) (reason : WaitReason) (tmo : Tmo) → LastOf k number (done_by_objects k (with_objects k objects) ctx synced reason tmo number)
  by_objects_last objects (Took code bytes) reason tmo = answered_last (with_objects k objects) code bytes refl
  by_objects_last objects MustWait reason tmo = accepted_last reason tmo
  by_objects_last objects (Refused code) reason tmo = answered_last k code [] refl

  handed_last : (o : Outcome) (h : Option Handed) → LastOf k number o → LastOf k number (with_handed o h)
  handed_last o None last = last
  handed_last o (Some h) last = of (take_first (is_of h.task.0) o.kernel.waits)
    where
      of : (z : Option (WaitingCall × List WaitingCall)) → LastOf k number (handed_to o (handed_bytes h.item) z)
      of None = last
      of (Some z) = last

  done_last : (r : Row) → LastOf k number (done_as k ctx r number)
  done_last (TasksAtOnce done) = at_once_last (done (tasks_of k))
  done_last (TasksInTime done reason tmo) = by_tasks_last (done (tasks_of k)) reason tmo
  done_last (NewPriority task done) = moving_last task (done (tasks_of k))
  done_last (OnSemaphores done reason tmo) = by_objects_last _ _ reason tmo
  done_last (OnFlags done reason tmo) = by_objects_last _ _ reason tmo
  done_last (OnQueues done reason tmo) = handed_last _ (done (queues_of k) (priority_in k ctx) k.next_rank).dtqs.handed (by_objects_last _ _ reason tmo)
  done_last (OnClock after code bytes) = answered_last (record k { clock = after k.clock }) (code k.clock) (bytes k.clock) refl

  row_last : (request : KReq) → LastOf k number (row k ctx request number)
  row_last request = elim (cases_Bool (is_handler ctx && not (is_a_handlers request))) [
    | inl e ↦ rw e (answered_last k E_CTX [] refl)
    | inr e ↦ rw e (done_last (row_of ctx request))
  ]

settle-last_call : (n : ℕ) (k : PlainKernel) → (settle n k).0.last_call ≡ k.last_call
unfolding settle
settle-last_call zero k = refl
settle-last_call (suc n) k = elim (cases_of_first (next_freed k)) [
  | inl e ↦ rw e refl
  | inr z ↦ rw z.1 (settle-last_call n (freed k z.0.0 z.0.1))
]

-- settling leaves the last number
pub settled-last_call : (o : Outcome) → (settled o).kernel.last_call ≡ o.kernel.last_call
unfolding settled
settled-last_call o = settle-last_call (length o.kernel.waits) o.kernel

-- and so does a tick
pub tick-last_call : (k : PlainKernel) → (tick k).kernel.last_call ≡ k.last_call
unfolding tick
tick-last_call k = settled-last_call (quiet (ticked k))

-- and an end by time
pub due-last_call : (k : PlainKernel) (o : Outcome) → due k ≡ Some o → o.kernel.last_call ≡ k.last_call
due-last_call k o e = let x = due_is k o e in subst (λ (p : Outcome). p.kernel.last_call ≡ k.last_call) x.2 (settled-last_call (by_time k x.0))

-- and the end of a wait outside
pub unblocked-last_call : (k : PlainKernel) (task : TaskId) → (unblocked k task).0.last_call ≡ k.last_call
unfolding unblocked
unblocked-last_call k task = elim (cases_of_first (take_first (is_outside_of task) k.waits)) [
  | inl none ↦ rw none refl
  | inr z ↦ rw z.1 refl
]

-- after a call it is the call's own where that waits, and else as before
pub call-last_call : (k : PlainKernel) (ctx : Ctx) (request : KReq) (number : CallNo) → LastOf k number (call k ctx request number)
unfolding call settled
call-last_call k ctx request number =
    let o : Outcome = row k ctx request number in
    elim (row_last k ctx number request) [
      | inl h ↦ inl (h.0, settle-last_call (length o.kernel.waits) o.kernel ∙ h.1)
      | inr h ↦ inr (h.0, settle-last_call (length o.kernel.waits) o.kernel ∙ h.1)
    ]
