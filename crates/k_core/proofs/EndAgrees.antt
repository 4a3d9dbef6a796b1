-- A kernel at rest over its parts: no part names a call, the running task may call, and a wait that ends by itself ends as in the whole
-- kernel.
use Rattle.std.proofs.Common.{◌≡◌, ◌≢◌, ℕ, Bool, true, false, ◌&&◌, List, [], ◌∷◌, Option, Some, None, is_some, refl, ap, sym, ◌∙◌, inl, inr, arith}
use Rattle.std.specs.Prelude.{nat_lt, slice_set}
use Rattle.std.proofs.lemmas.Bool.{cases_Bool, and_parts, ltb-false}
use Rattle.std.proofs.lemmas.List.{set-get_or}
use Rattle.it_types.specs.declared.id.TaskId.{TaskId}
use Rattle.it_types.specs.declared.id.CallNo.{CallNo}
use Rattle.it_types.specs.declared.timeout.Tmo.{Tmo}
use Rattle.it_types.specs.declared.context.Ctx.{Ctx}
use Rattle.spec_lists.specs.Tables.{get, change}
use Rattle.spec_lists.specs.First.{take_first}
use Rattle.spec_lists.proofs.Firsts.{some_parts, none_parts, none_weaker}
use Rattle.spec_kernel.specs.declared.task_block.TaskBlock.{TaskBlock}
use Rattle.spec_kernel.specs.declared.task_wait.TaskWait.TheVariants as task_waits
use Rattle.spec_kernel.specs.declared.reason.WaitReason.{WaitReason}
use Rattle.spec_kernel.specs.declared.reason.WaitReason.TheVariants as reasons
use Rattle.spec_kernel.specs.declared.reason.WaitingCall.{WaitingCall}
use Rattle.spec_kernel.specs.TaskBlocks.{changed, priority_of, wakeups_of, one_wakeup_less}
use Rattle.spec_kernel.specs.Waiters.{left_by}
use Rattle.spec_kernel.specs.ObjectRows.{told}
use Rattle.spec_kernel.specs.PlainTasks.{PlainTasks, is_for_a_wakeup, is_waiting, is_asleep, released, wakeup_taken, woken, running}
use Rattle.spec_kernel.specs.PlainSemaphores.{next_ready as next_at_semaphores, bytes_of as bytes_at_semaphores}
use Rattle.spec_kernel.specs.PlainFlags.{next_ready as next_at_flags, bytes_of as bytes_at_flags}
use Rattle.spec_kernel.specs.PlainQueues.{next_ready as next_at_queues, bytes_of as bytes_at_queues}
use Rattle.spec_kernel.specs.PlainKernel.{PlainKernel, tasks_of, task_wait, waits_by_task, is_for_a_semaphore, is_for_a_flag, is_for_a_queue, waiters_for, semaphores_of, flags_of, queues_of}
use Rattle.spec_kernel.specs.Settle.{is_ready, comes_next, ended, AtRest}
use Rattle.spec_kernel.specs.Time.{blocked}
use Rattle.spec_kernel.specs.Parts.{PlainParts, parts_of}
use Rattle.spec_kernel.specs.Standing.{IsStanding}
use Rattle.laws_kernel.specs.Calling.{Calls}
use Rattle.laws_kernel.proofs.Settling.{rests_next}
use Rattle.laws_kernel.proofs.Callers.{caller_ids, caller_nowhere}
use Rattle.laws_kernel.proofs.Room.{running_fits}
use Rattle.k_sync.specs.Waiting.{MayWait}
use Rattle.k_core.specs.Callers.{MayCall, MayCallAs}
use Rattle.k_core.specs.PartsRows.{with_wait as parts_with_wait}
use Rattle.k_core.specs.PartsTime.{ended_call}
use Rattle.k_core.proofs.Views.{waiters_among, waiters_left, waits_left}
use Rattle.k_core.proofs.RowsAgreeSeen.{alike_by_priority, same_seen}
use Rattle.k_core.proofs.NextAgrees.{first_of_kind, seen, semaphores_find, flags_find, queues_find, sees_found}
use Rattle.k_core.proofs.SettleAgrees.{released_is}
use Rattle.k_core.proofs.RowsAgreeTasks.{same_parts}
use Rattle.k_core.proofs.RowsAgreeWaits.{held_tasks_is, wait_agrees}

-- ---- at rest

-- no part names a call
pub record PartsRest (p : PlainParts) : Type 0 where
  pub sems : next_at_semaphores p.sems ≡ None
  pub flags : next_at_flags p.flags ≡ None
  pub dtqs : next_at_queues p.dtqs ≡ None

pub rests_parts : (k : PlainKernel) → AtRest k → PartsRest (parts_of k)
rests_parts k rest = record {
  sems = ap (told bytes_at_semaphores) (semaphores_find k ∙ nobody is_for_a_semaphore);
  flags = ap (told (bytes_at_flags k.objects.flags)) (flags_find k ∙ nobody is_for_a_flag);
  dtqs = ap (told (bytes_at_queues k.objects.queues)) (queues_find k ∙ nobody is_for_a_queue);
}
  where
    nobody : (kind : WaitReason → Bool) → seen kind k (first_of_kind kind k) ≡ None
    nobody kind = ap (seen kind k) (none_weaker (λ w. kind w.reason && comes_next k w) (comes_next k) k.waits (λ w e. (and_parts (kind w.reason) (comes_next k w) e).1) (rests_next k rest))

-- what was found passes no test that nothing passes
found_fails : {X : Type 0} (f g : X → Bool) (xs : List X) (z : X × List X) → take_first g xs ≡ None → take_first f xs ≡ Some z → g z.0 ≡ false
found_fails f g [] z none e = cc
found_fails f g (x ∷ xs) z none e = elim (some_parts f x xs z e) [
  | inl s ↦ ap (λ (y : _ × List _). g y.0) s.1 ∙ (none_parts g x xs none).0
  | inr s ↦ ap (λ (y : _ × List _). g y.0) s.3 ∙ found_fails f g xs s.0 (none_parts g x xs none).1 s.2
]

-- ---- a wait that ends by itself

-- a task without wake-ups keeps what it has
no_wakeup_less : (tasks : List (Option TaskBlock)) (i : ℕ) → nat_lt 0 (wakeups_of (get tasks i)) ≡ false → change tasks i (changed one_wakeup_less) ≡ tasks
no_wakeup_less tasks i none = ap (λ o. slice_set tasks i o) (same (get tasks i) none) ∙ set-get_or tasks i None
  where
    same_block : (x : TaskBlock) → x.wakeups ≡ 0 → one_wakeup_less x ≡ x
    same_block x e = rw e refl

    same : (o : Option TaskBlock) → nat_lt 0 (wakeups_of o) ≡ false → changed one_wakeup_less o ≡ o
    same None e = refl
    same (Some x) e = ap Some (same_block x (omega (arith, ltb-false 0 x.wakeups e)))

module _ (k : PlainKernel) (s : IsStanding k) (rest : AtRest k) (f : WaitingCall → Bool) (w : WaitingCall) (others : List WaitingCall) (found : take_first f k.waits ≡ Some (w, others)) where
  its_task_waits : is_waiting (tasks_of k) w.task ≡ true
  its_task_waits = ap is_some (sees_found k s f (w, others) found)

  -- a sleeper has no wake-up
  takes_none : wakeup_taken (tasks_of k) w.task ≡ tasks_of k
  takes_none = elim (cases_Bool (is_asleep (tasks_of k) w.task)) [
    | inl asleep ↦ rw asleep (ap (λ ts. record (tasks_of k) { tasks = ts }) (no_wakeup_less k.tasks w.task.0 (of w.reason refl (sym (ap is_for_a_wakeup (sees_found k s f (w, others) found)) ∙ asleep))))
    | inr awake ↦ rw awake refl
  ]
    where
      of : (r : WaitReason) → w.reason ≡ r → is_for_a_wakeup (Some (task_wait w.reason)) ≡ true → nat_lt 0 (wakeups_of (get k.tasks w.task.0)) ≡ false
      of reasons.Sleep r h = rw r at (found_fails f (is_ready k) k.waits (w, others) rest found)
      of u r h = absurd (let f : false ≡ true = rw r at h in cc)

  ended_tasks : woken (tasks_of k) w.task ≡ tasks_of (ended k w others)
  ended_tasks =
      let now : woken (tasks_of k) w.task ≡ released (tasks_of k) w.task = rw its_task_waits (ap (λ d. released d w.task) takes_none) in
      let waits : (released (tasks_of k) w.task).waits ≡ waits_by_task others = ap (λ (d : PlainTasks). d.waits) (released_is (tasks_of k) w.task) ∙ sym (waits_left f k.waits w others found s.once) in
      now ∙ ap (λ ws. record (released (tasks_of k) w.task) { waits = ws }) waits

  ended_seen : (kind : WaitReason → Bool) → left_by w.task (waiters_for kind k) ≡ waiters_among kind (ended k w others) others
  ended_seen kind =
      let tasks : (ended k w others).tasks ≡ k.tasks = ap (λ (d : PlainTasks). d.tasks) (released_is (tasks_of k) w.task) in
      sym (waiters_left kind k f k.waits w others found s.once) ∙ same_seen kind (ended k w others) k others (alike_by_priority kind (ended k w others) k others (λ r. refl) (λ id le. ap (λ ts. priority_of (get ts id)) (sym tasks)))

-- a call that was found ends, and takes nothing
pub ended_agrees : (k : PlainKernel) (f : WaitingCall → Bool) (w : WaitingCall) (others : List WaitingCall)
    → take_first f k.waits ≡ Some (w, others)
    → IsStanding k
    → AtRest k
    → ended_call (parts_of k) w others ≡ parts_of (ended k w others)
ended_agrees k f w others found s rest = same_parts k.clock others k.last_call
    (woken (tasks_of k) w.task) (tasks_of (ended k w others))
    (ended_call (parts_of k) w others).sems (semaphores_of (ended k w others))
    (ended_call (parts_of k) w others).flags (flags_of (ended k w others))
    (ended_call (parts_of k) w others).dtqs (queues_of (ended k w others))
    (ended_tasks k s rest f w others found)
    (ap (λ ws. record (semaphores_of k) { waiters = ws }) (ended_seen k s rest f w others found is_for_a_semaphore))
    (ap (λ ws. record (flags_of k) { waiters = ws }) (ended_seen k s rest f w others found is_for_a_flag))
    (ap (λ ws. record (queues_of k) { waiters = ws }) (ended_seen k s rest f w others found is_for_a_queue))

-- ---- who may call

pub may_call : (k : PlainKernel) (t : TaskId) → IsStanding k → t.0 ≢ 0 → running (tasks_of k) ≡ t → MayCallAs (parts_of k) t
may_call k t s some runs = record {
  sems = may is_for_a_semaphore;
  flags = may is_for_a_flag;
  dtqs = may is_for_a_queue;
  room = omega (arith, running_fits k t some runs s);
}
  where
    may : (kind : WaitReason → Bool) → MayWait t (waiters_for kind k)
    may kind = let ids = caller_ids k t some runs s in record { low = ids.0; high = ids.1; waits_nowhere = caller_nowhere k t some runs s kind }

pub calls_may : (k : PlainKernel) (ctx : Ctx) → IsStanding k → Calls k ctx → MayCall (parts_of k) ctx
calls_may k ctx s calls = record { as_task = λ t e. may_call k t s (calls t e).0 (calls t e).1 }

-- the running task waits for a call of the network part
pub blocked_agrees : (k : PlainKernel) (task : TaskId) (tmo : Tmo) (number : CallNo)
    → task.0 ≢ 0
    → running (tasks_of k) ≡ task
    → IsStanding k
    → parts_with_wait (parts_of k) task reasons.Outside tmo number ≡ parts_of (blocked k task tmo number)
blocked_agrees k task tmo number some runs s =
    wait_agrees k task some runs s reasons.Outside tmo number (tasks_of k) (semaphores_of k) (flags_of k) (queues_of k) (held_tasks_is k task some runs s task_waits.Other) refl refl refl refl
