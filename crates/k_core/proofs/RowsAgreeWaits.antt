-- A call of the running task that waits: the parts side by side do what the whole kernel does.
use Rattle.std.proofs.Common.{◌≡◌, ◌≢◌, ℕ, ◌+◌, ◌<◌, Bool, true, false, List, [], ◌∷◌, ◌++◌, slice_set, length, Option, Some, None, is_some, refl, ap, sym, ◌∙◌, inl, inr, arith}
use Rattle.std.specs.Prelude.{nat_lt, if◌then◌else◌}
use Rattle.std.proofs.lemmas.Bool.{cases_Bool}
use Rattle.std.proofs.lemmas.List.{get_or-set_same}
use Rattle.it_types.specs.declared.id.TaskId.{TaskId}
use Rattle.it_types.specs.declared.id.CallNo.{CallNo}
use Rattle.it_types.specs.declared.er.Er.{Er}
use Rattle.it_types.specs.declared.er.TheConstants.{E_OK, E_TMOUT}
use Rattle.it_types.specs.declared.timeout.Tmo.{Tmo}
use Rattle.it_types.specs.declared.timeout.Tmo.TheVariants as timeouts
use Rattle.it_types.specs.declared.context.Ctx.{Ctx}
use Rattle.it_types.specs.Callers.{caller, is_poll}
use Rattle.spec_lists.specs.Tables.{get}
use Rattle.spec_lists.specs.Counting.{times}
use Rattle.spec_lists.specs.Refusal.{first_refusal}
use Rattle.spec_kernel.specs.declared.task_wait.TaskWait.{TaskWait}
use Rattle.spec_kernel.specs.declared.task_wait.TaskWait.TheVariants as task_waits
use Rattle.spec_kernel.specs.declared.reason.WaitReason.{WaitReason}
use Rattle.spec_kernel.specs.declared.reason.WaitReason.TheVariants as reasons
use Rattle.spec_kernel.specs.declared.reason.WaitingCall.{WaitingCall}
use Rattle.spec_kernel.specs.declared.waiter.Waiter.{Waiter}
use Rattle.spec_kernel.specs.declared.outcome.KAns.TheVariants.{Pends}
use Rattle.spec_kernel.specs.TaskBlocks.{wakeups_of, one_wakeup_less}
use Rattle.spec_kernel.specs.TaskRows.{TaskDone, with_code, tslp_tsk_refusals, sleeping, tslp_tsk, dly_tsk}
use Rattle.spec_kernel.specs.TaskRows.{answered as task_answered, unless_refused as unless_task_refused}
use Rattle.spec_kernel.specs.PlainTasks.{PlainTasks, is_waiting, with_task, leaving, running}
use Rattle.spec_kernel.specs.PlainTasks.{waiting as waiting_task}
use Rattle.spec_kernel.specs.PlainSemaphores.{PlainSemaphores}
use Rattle.spec_kernel.specs.PlainFlags.{PlainFlags}
use Rattle.spec_kernel.specs.PlainQueues.{PlainQueues}
use Rattle.spec_kernel.specs.PlainKernel.{PlainKernel, task_wait, waits_by_task, tasks_of, semaphores_of, flags_of, queues_of, is_for_a_semaphore, is_for_a_flag, is_for_a_queue, waiter_of}
use Rattle.spec_kernel.specs.Rows.{waiting_call, with_wait, accepted, done_by_tasks}
use Rattle.spec_kernel.specs.Standing.{waiting_number, IsStanding}
use Rattle.spec_kernel.specs.Parts.{PlainParts, parts_of}
use Rattle.k_core.specs.PartsRows.{answered as parts_answered, with_wait as parts_with_wait, waiting_call as parts_waiting_call, accepted as parts_accepted, done_by_tasks as parts_done_by_tasks}
use Rattle.laws_kernel.proofs.Lists.{waiting_none}
use Rattle.laws_kernel.proofs.Callers.{caller_ids, caller_active, caller_idle, caller_waits_not}
use Rattle.k_core.proofs.Views.{waiters_among, waiters_joined, waiters_as_before, waits_joined}
use Rattle.k_core.proofs.RowsAgreeSeen.{told}
use Rattle.k_core.proofs.RowsAgreeTasks.{same_parts, Agrees}
use Rattle.k_core.proofs.RowsAgreeTaskCalls.{task_agrees}

-- the calls that a part sees after one more
abbrev pub joined_if : Bool → List Waiter → Waiter → List Waiter
joined_if b ws w = if b then ws ++ w ∷ [] else ws

module _ (k : PlainKernel) (task : TaskId) (some : task.0 ≢ 0) (runs : running (tasks_of k) ≡ task) (s : IsStanding k) where
  no_call : times waiting_number task.0 k.waits ≡ 0
  no_call = waiting_none task.0 k.waits (caller_waits_not k task some runs s)

  -- the kernel in which it waits
  abbrev pub held : WaitReason → Tmo → CallNo → PlainKernel
  held reason tmo number = record k {
    last_call = number.0;
    runnable = (leaving (tasks_of k) task).runnable;
    waits = k.waits ++ waiting_call k task reason tmo number ∷ [];
    next_rank = k.next_rank + 1;
  }

  pub held_is : (reason : WaitReason) (tmo : Tmo) (number : CallNo) → with_wait k task reason tmo number ≡ held reason tmo number
  held_is reason tmo number = rw (caller_active k task some runs s, caller_idle k task some runs s) refl

  -- the tasks in which it waits
  abbrev pub held_tasks : TaskWait → PlainTasks
  held_tasks what = leaving (record (tasks_of k) { waits = slice_set (waits_by_task k.waits) task.0 (Some what) }) task

  pub held_tasks_is : (what : TaskWait) → waiting_task (tasks_of k) task what ≡ held_tasks what
  held_tasks_is what = rw (caller_active k task some runs s, caller_idle k task some runs s) refl

  -- a task that waits already goes on
  pub held_once : (what next : TaskWait) → waiting_task (held_tasks what) task next ≡ held_tasks what
  held_once what next =
      let inside : task.0 < length (waits_by_task k.waits) = omega (arith, (caller_ids k task some runs s).1) in
      let there : is_waiting (held_tasks what) task ≡ true = ap is_some (get_or-set_same (waits_by_task k.waits) task.0 (Some what) None inside) in
      rw (caller_active k task some runs s, there) refl

  -- what a part sees with the new call
  seen_more : (kind : WaitReason → Bool) (reason : WaitReason) (tmo : Tmo) (number : CallNo) (b : Bool) → kind reason ≡ b
      → waiters_among kind k (k.waits ++ waiting_call k task reason tmo number ∷ []) ≡ joined_if b (waiters_among kind k k.waits) (waiter_of k (waiting_call k task reason tmo number))
  seen_more kind reason tmo number true e = waiters_joined kind k k.waits (waiting_call k task reason tmo number) e
  seen_more kind reason tmo number false e = waiters_as_before kind k k.waits (waiting_call k task reason tmo number) e

  -- the part where it waits has its call in its queue already, and perhaps the tasks have it too
  pub wait_agrees : (reason : WaitReason) (tmo : Tmo) (number : CallNo) (tasks : PlainTasks) (sems : PlainSemaphores) (flags : PlainFlags) (dtqs : PlainQueues)
      → let w : Waiter = waiter_of k (waiting_call k task reason tmo number) in
      waiting_task tasks task task_waits.Other ≡ held_tasks (task_wait reason)
      → tasks.next_rank ≡ k.next_rank
      → sems ≡ record (semaphores_of k) { waiters = joined_if (is_for_a_semaphore reason) (waiters_among is_for_a_semaphore k k.waits) w }
      → flags ≡ record (flags_of k) { waiters = joined_if (is_for_a_flag reason) (waiters_among is_for_a_flag k k.waits) w }
      → dtqs ≡ record (queues_of k) { waiters = joined_if (is_for_a_queue reason) (waiters_among is_for_a_queue k k.waits) w }
      → parts_with_wait (record (parts_of k) { tasks = tasks; sems = sems; flags = flags; dtqs = dtqs }) task reason tmo number ≡ parts_of (with_wait k task reason tmo number)
  wait_agrees reason tmo number tasks sems flags dtqs t n a b c = (
      let w : WaitingCall = waiting_call k task reason tmo number in
      let l : PlainKernel = held reason tmo number in
      let waits : waits_by_task (k.waits ++ w ∷ []) ≡ slice_set (waits_by_task k.waits) task.0 (Some (task_wait reason)) = waits_joined k.waits w no_call in
      let here : PlainTasks = waiting_task tasks task task_waits.Other in
      let held_here : record here { next_rank = here.next_rank + 1 } ≡ tasks_of l =
      ap (λ (d : PlainTasks). record d { next_rank = d.next_rank + 1 }) t ∙ ap (λ ws. record (tasks_of l) { waits = ws }) (sym waits) in
      let calls : k.waits ++ parts_waiting_call (record (parts_of k) { tasks = tasks; sems = sems; flags = flags; dtqs = dtqs }) task reason tmo number ∷ [] ≡ k.waits ++ w ∷ [] = ap (λ r. k.waits ++ record w { rank = r } ∷ []) n in
      ap (λ ws. record (parts_with_wait (record (parts_of k) { tasks = tasks; sems = sems; flags = flags; dtqs = dtqs }) task reason tmo number) { waits = ws }) calls
      ∙ same_parts k.clock (k.waits ++ w ∷ []) number.0 (record here { next_rank = here.next_rank + 1 }) (tasks_of l) sems (semaphores_of l) flags (flags_of l) dtqs (queues_of l)
      held_here
      (a ∙ ap (λ ws. record (semaphores_of k) { waiters = ws }) (sym (seen_more is_for_a_semaphore reason tmo number (is_for_a_semaphore reason) refl)))
      (b ∙ ap (λ ws. record (flags_of k) { waiters = ws }) (sym (seen_more is_for_a_flag reason tmo number (is_for_a_flag reason) refl)))
      (c ∙ ap (λ ws. record (queues_of k) { waiters = ws }) (sym (seen_more is_for_a_queue reason tmo number (is_for_a_queue reason) refl)))
      ∙ ap parts_of (sym (held_is reason tmo number))
      )

-- the running task calls
abbrev pub CanWait : PlainKernel → Ctx → Type 0
CanWait k ctx = ((caller ctx).0 ≢ 0) × (running (tasks_of k) ≡ caller ctx)

-- a call that isn't met: it waits, but for a poll
pub accepted_agrees : (k : PlainKernel) (task : TaskId) (reason : WaitReason) (tmo : Tmo) (number : CallNo) (p : PlainParts)
    → (is_poll tmo ≡ true → p ≡ parts_of k)
    → (is_poll tmo ≡ false → parts_with_wait p task reason tmo number ≡ parts_of (with_wait k task reason tmo number))
    → parts_accepted p task reason tmo number ≡ told (accepted k task reason tmo number)
accepted_agrees k task reason tmo number p polls waits = elim (cases_Bool (is_poll tmo)) [
  | inl e ↦ rw e (ap (λ q. parts_answered q E_TMOUT) (polls e))
  | inr e ↦ rw e (ap (λ q. record (parts_answered q E_OK) { answer = Pends }) (waits e))
]

-- ---- calls on tasks that may wait

pub record AgreesInTime (k : PlainKernel) (ctx : Ctx) (reason : WaitReason) (tmo : Tmo) (number : CallNo) (done : TaskDone) : Type 0 where
  pub same : parts_done_by_tasks (parts_of k) ctx done reason tmo number ≡ told (done_by_tasks k ctx done reason tmo number)

module _ (k : PlainKernel) (s : IsStanding k) (ctx : Ctx) (reason : WaitReason) (tmo : Tmo) (number : CallNo) where
  -- it is done at once
  pub without_wait : (done : TaskDone) → done.did.wait ≡ false → Agrees k ctx done → AgreesInTime k ctx reason tmo number done
  without_wait done e a = record { same = rw e a.same }

  -- it waits for no object
  pub with_wait_agrees : (can : CanWait k ctx) (tasks : PlainTasks)
      → is_for_a_semaphore reason ≡ false
      → is_for_a_flag reason ≡ false
      → is_for_a_queue reason ≡ false
      → tasks ≡ waiting_task (tasks_of k) (caller ctx) (task_wait reason)
      → parts_with_wait (record (parts_of k) { tasks = tasks }) (caller ctx) reason tmo number ≡ parts_of (with_wait k (caller ctx) reason tmo number)
  with_wait_agrees can tasks a b c t =
      let now : tasks ≡ held_tasks k (caller ctx) can.0 can.1 s (task_wait reason) = t ∙ held_tasks_is k (caller ctx) can.0 can.1 s (task_wait reason) in
      wait_agrees k (caller ctx) can.0 can.1 s reason tmo number tasks (semaphores_of k) (flags_of k) (queues_of k)
      (ap (λ d. waiting_task d (caller ctx) task_waits.Other) now ∙ (held_once k (caller ctx) can.0 can.1 s (task_wait reason) task_waits.Other))
      (ap (λ (d : PlainTasks). d.next_rank) now)
      (rw a refl) (rw b refl) (rw c refl)

pub sleeping_agrees : (k : PlainKernel) (s : IsStanding k) (ctx : Ctx) (tmo : Tmo) (number : CallNo) → CanWait k ctx → AgreesInTime k ctx reasons.Sleep tmo number (tslp_tsk (tasks_of k) ctx tmo)
sleeping_agrees k s ctx tmo number can = of (first_refusal (tslp_tsk_refusals tmo)) refl
  where
    asleep_tasks : Bool → PlainTasks
    asleep_tasks poll = if poll then tasks_of k else waiting_task (tasks_of k) (caller ctx) task_waits.Sleep

    of : (o : Option Er) → first_refusal (tslp_tsk_refusals tmo) ≡ o → AgreesInTime k ctx reasons.Sleep tmo number (unless_task_refused o (tasks_of k) (sleeping (tasks_of k) (caller ctx) tmo))
    of (Some code) e = record { same = refl }
    of None e = elim (cases_Bool (nat_lt 0 (wakeups_of (get k.tasks (caller ctx).0)))) [
      | inl awake ↦ rw awake (without_wait k s ctx reasons.Sleep tmo number (task_answered (with_task (tasks_of k) (caller ctx) one_wakeup_less) E_OK) refl (task_agrees k s ctx (caller ctx) one_wakeup_less (with_code E_OK) refl (λ x. refl)))
      | inr asleep ↦ rw asleep (record {
        same = accepted_agrees k (caller ctx) reasons.Sleep tmo number (record (parts_of k) { tasks = asleep_tasks (is_poll tmo) })
            (λ poll. ap (λ b. record (parts_of k) { tasks = asleep_tasks b }) poll)
            (λ wait. with_wait_agrees k s ctx reasons.Sleep tmo number can (asleep_tasks (is_poll tmo)) refl refl refl (ap asleep_tasks wait));
      })
    ]

pub delayed_agrees : (k : PlainKernel) (s : IsStanding k) (ctx : Ctx) (ticks : ℕ) (number : CallNo) → CanWait k ctx → AgreesInTime k ctx reasons.Delay (timeouts.Ms ticks) number (dly_tsk (tasks_of k) ctx)
delayed_agrees k s ctx ticks number can = record {
  same = accepted_agrees k (caller ctx) reasons.Delay (timeouts.Ms ticks) number (record (parts_of k) { tasks = waiting_task (tasks_of k) (caller ctx) task_waits.Other })
      (λ poll. absurd (let f : false ≡ true = poll in cc))
      (λ wait. with_wait_agrees k s ctx reasons.Delay (timeouts.Ms ticks) number can (waiting_task (tasks_of k) (caller ctx) task_waits.Other) refl refl refl refl);
}
