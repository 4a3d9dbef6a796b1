-- What acts keep every event of the whole kernel keeps: a call, a tick's ends, an end by time, and waits for calls of the network part.
use Rattle.std.proofs.Common.{◌≡◌, ◌≢◌, ℕ, zero, suc, Bool, true, false, List, length, Some, None, refl, ◌∙◌, inl, inr}
use Rattle.it_types.specs.declared.id.TaskId.{TaskId}
use Rattle.it_types.specs.declared.id.CallNo.{CallNo}
use Rattle.it_types.specs.declared.timeout.Tmo.{Tmo}
use Rattle.it_types.specs.declared.context.Ctx.{Ctx}
use Rattle.it_types.specs.declared.kernel_request.KReq.{KReq}
use Rattle.spec_lists.specs.First.{take_first}
use Rattle.spec_lists.proofs.Firsts.{cases_of_first}
use Rattle.spec_kernel.specs.declared.reason.WaitReason.TheVariants as reasons
use Rattle.spec_kernel.specs.declared.reason.WaitingCall.{WaitingCall}
use Rattle.spec_kernel.specs.TaskBlocks.{one_wakeup_less}
use Rattle.spec_kernel.specs.PlainTasks.{is_waiting, is_asleep, with_task, running, released, wakeup_taken}
use Rattle.spec_kernel.specs.Waiting.{taken}
use Rattle.spec_kernel.specs.PlainKernel.{PlainKernel, tasks_of, with_tasks}
use Rattle.spec_kernel.specs.Settle.{Outcome, ended, freed, comes_next, next_freed, settle, settled}
use Rattle.spec_kernel.specs.Rows.{row, call}
use Rattle.spec_kernel.specs.Time.{is_next_past, next_past, by_time, due, blocked, is_outside_of, unblocked}
use Rattle.laws_kernel.specs.Calling.{Calls}
use Rattle.laws_kernel.specs.Acting.Act.{wakes}
use Rattle.laws_kernel.specs.Acting.Blocks.{blocks}
use Rattle.laws_kernel.proofs.Standing.{sees_its_wait, running_listed}
use Rattle.laws_kernel.proofs.EachCall.{row_holds}
use Rattle.laws_kernel.proofs.RowActs.{pends, Keeps, found_waits, task_act, objects_act}

some_is : {o q : Outcome} → Some o ≡ Some q → o ≡ q
some_is e = cc

module _ {number : CallNo} (P : Bool → PlainKernel → Type 0) (keeps : Keeps number P) where
  -- a call that was found is met and ends
  pub freed_holds : (b : Bool) (k : PlainKernel) (f : WaitingCall → Bool) (z : WaitingCall × List WaitingCall) → take_first f k.waits ≡ Some z → P b k → P b (freed k z.0 z.1)
  freed_holds b k f z e p =
      let waits : is_waiting (tasks_of k) z.0.task ≡ true = sees_its_wait k (keeps.stands b k p) z.0.task ∙ found_waits f k.waits z e in
      rw waits (of (is_asleep (tasks_of k) z.0.task) refl)
    where
      of : (a : Bool) → is_asleep (tasks_of k) z.0.task ≡ a → P b (record (with_tasks k (released (wakeup_taken (tasks_of k) z.0.task) z.0.task)) { waits = z.1; objects = taken k.objects z.0.reason })
      of true a =
          let m : PlainKernel = with_tasks k (with_task (tasks_of k) z.0.task one_wakeup_less) in
          rw a (objects_act P keeps b (ended m z.0 z.1) (taken k.objects z.0.reason) (keeps.act b m (ended m z.0 z.1) (wakes f z e refl) (task_act P keeps b k z.0.task one_wakeup_less (λ x. refl) (λ x. refl) p)))
      of false a = rw a (objects_act P keeps b (ended k z.0 z.1) (taken k.objects z.0.reason) (keeps.act b k (ended k z.0 z.1) (wakes f z e refl) p))

  settle_holds : (b : Bool) (n : ℕ) (k : PlainKernel) → P b k → P b (settle n k).0
  unfolding settle
  settle_holds b zero k p = p
  settle_holds b (suc n) k p = elim (cases_of_first (next_freed k)) [
    | inl e ↦ rw e p
    | inr z ↦ rw z.1 (settle_holds b n (freed k z.0.0 z.0.1) (freed_holds b k (comes_next k) z.0 z.1 p))
  ]

  pub settled_holds : (b : Bool) (o : Outcome) → P b o.kernel → P b (settled o).kernel
  unfolding settled
  settled_holds b o p = settle_holds b (length o.kernel.waits) o.kernel p

  -- a call: what the property comes to depends on whether its answer is that it waits
  pub call_holds : (k : PlainKernel) (ctx : Ctx) (request : KReq) → Calls k ctx → P false k → P (pends (call k ctx request number).answer) (call k ctx request number).kernel
  unfolding call settled
  call_holds k ctx request calls p = settle_holds (pends (row k ctx request number).answer) _ (row k ctx request number).kernel (row_holds P keeps k ctx calls p request)

  -- what is due is one end, and what it makes ready
  pub due_holds : (b : Bool) (k : PlainKernel) (o : Outcome) → due k ≡ Some o → P b k → P b o.kernel
  unfolding due
  due_holds b k o e p = elim (cases_of_first (next_past k)) [
    | inl none ↦ absurd (let f : None ≡ Some o = rw none at e in cc)
    | inr z ↦ (
        let is : settled (by_time k z.0) ≡ o = some_is (rw z.1 at e) in
        rw (← is) (settled_holds b (by_time k z.0) (keeps.act b k (ended k z.0.0 z.0.1) (wakes (is_next_past k.clock.now k.waits) z.0 z.1 refl) p))
        )
  ]

  -- the running task waits outside
  pub blocked_holds : (k : PlainKernel) (task : TaskId) (tmo : Tmo) → task.0 ≢ 0 → running (tasks_of k) ≡ task → P false k → P true (blocked k task tmo number)
  blocked_holds k task tmo some runs p = keeps.block k (blocked k task tmo number) (blocks task reasons.Outside tmo (running_listed (tasks_of k) task some runs) refl) p

  -- and is woken
  pub unblocked_holds : (b : Bool) (k : PlainKernel) (task : TaskId) → P b k → P b (unblocked k task).0
  unfolding unblocked
  unblocked_holds b k task p = elim (cases_of_first (take_first (is_outside_of task) k.waits)) [
    | inl none ↦ rw none p
    | inr z ↦ rw z.1 (keeps.act b k (ended k z.0.0 z.0.1) (wakes (is_outside_of task) z.0 z.1 refl) p)
  ]
