-- The ends of waiting calls as the parts of a kernel make them are the whole kernel's: with the same code and bytes, and each part sees of
-- the kernel after them what it has kept itself.
use Rattle.std.proofs.Common.{◌≡◌, ℕ, zero, suc, Bool, true, false, List, [], ◌∷◌, Option, Some, None, is_some, refl, ap, sym, ◌∙◌, inl, inr}
use Rattle.std.specs.Prelude.{slice_set}
use Rattle.std.proofs.lemmas.Bool.{cases_Bool}
use Rattle.it_types.specs.declared.id.TaskId.{TaskId}
use Rattle.it_types.specs.declared.er.TheConstants.{E_OK}
use Rattle.spec_lists.specs.Tables.{get}
use Rattle.spec_lists.specs.First.{take_first}
use Rattle.spec_lists.proofs.Firsts.{some_parts}
use Rattle.spec_kernel.specs.declared.outcome.KEnd.{KEnd}
use Rattle.spec_kernel.specs.declared.reason.WaitReason.{WaitReason}
use Rattle.spec_kernel.specs.declared.reason.WaitReason.TheVariants as reasons
use Rattle.spec_kernel.specs.declared.reason.WaitingCall.{WaitingCall}
use Rattle.spec_kernel.specs.declared.waiter.Waiter.{Waiter}
use Rattle.spec_kernel.specs.TaskBlocks.{priority_of, is_suspended, one_wakeup_less}
use Rattle.spec_kernel.specs.SemaphoreBlocks.{one_less}
use Rattle.spec_kernel.specs.SemaphoreBlocks.{is_ordered as semaphore_by_priority}
use Rattle.spec_kernel.specs.FlagBlocks.{released as flag_released}
use Rattle.spec_kernel.specs.FlagBlocks.{is_ordered as flag_by_priority}
use Rattle.spec_kernel.specs.DataQueues.{sends_by_priority, with_item, item_taken}
use Rattle.spec_kernel.specs.Waiting.{PlainObjects, is_by_priority, bytes_of, taken, semaphores_after, flags_after, queues_after}
use Rattle.spec_kernel.specs.ObjectRows.{told}
use Rattle.spec_kernel.specs.PlainTasks.{PlainTasks, block_of, is_waiting, is_asleep, released, wakeup_taken, woken}
use Rattle.spec_kernel.specs.PlainSemaphores.{next_freed as next_semaphore_freed, without as without_semaphore, bytes_of as bytes_at_semaphores}
use Rattle.spec_kernel.specs.PlainFlags.{next_freed as next_flag_freed, without as without_flag, bytes_of as bytes_at_flags}
use Rattle.spec_kernel.specs.PlainQueues.{next_freed as next_queue_freed, without as without_queue, bytes_of as bytes_at_queues}
use Rattle.spec_kernel.specs.PlainKernel.{PlainKernel, tasks_of, is_for_a_semaphore, is_for_a_flag, is_for_a_queue, waiters_for, semaphores_of, flags_of, queues_of}
use Rattle.spec_kernel.specs.Settle.{comes_next, next_freed, freed, ending, end_of}
use Rattle.spec_kernel.specs.Settle.{turn as whole_turn, settle as whole_settle}
use Rattle.spec_kernel.specs.Parts.{PlainParts, parts_of}
use Rattle.spec_kernel.specs.Standing.{IsStanding}
use Rattle.laws_kernel.proofs.Stands.{freed_stands}
use Rattle.k_core.specs.PartsSettle.{next_at, bytes_told, end_told, semaphores_let_go, flags_let_go, queues_let_go, freed_call, turn, settle}
use Rattle.k_core.proofs.Views.{waiters_among, waits_left}
use Rattle.k_core.proofs.RowsAgreeSeen.{alike_by_priority, same_seen}
use Rattle.k_core.proofs.NextAgrees.{first_of_both, first_of_kind, seen, semaphores_find, flags_find, queues_find, sees_found, next_agrees}
use Rattle.k_core.proofs.RowsAgreeObjects.{order_kept as kept_by_change}
use Rattle.k_core.proofs.RowsAgreeTasks.{same_parts, priorities_kept}

-- ---- what doesn't change

-- what a task takes leaves the order of each queue as it was declared
pub order_kept : (o : PlainObjects) (r u : WaitReason) → is_by_priority (taken o r) u ≡ is_by_priority o u
order_kept o r (reasons.Semaphore s) = of r
  where
    less : (o : Option _) → semaphore_by_priority (one_less o) ≡ semaphore_by_priority o
    less None = refl
    less (Some x) = refl

    of : (r : WaitReason) → semaphore_by_priority (get (semaphores_after r o.semaphores) s.0) ≡ semaphore_by_priority (get o.semaphores s.0)
    of (reasons.Semaphore t) = kept_by_change semaphore_by_priority one_less less o.semaphores t.0 s.0
    of r = refl
order_kept o r (reasons.Flag w) = of r
  where
    less : (o : Option _) → flag_by_priority (flag_released o) ≡ flag_by_priority o
    less None = refl
    less (Some x) = refl

    of : (r : WaitReason) → flag_by_priority (get (flags_after r o.flags) w.flag.0) ≡ flag_by_priority (get o.flags w.flag.0)
    of (reasons.Flag v) = kept_by_change flag_by_priority flag_released less o.flags v.flag.0 w.flag.0
    of r = refl
order_kept o r (reasons.Send q item) = of r
  where
    more : (item : ℕ) (o : Option _) → sends_by_priority (with_item item o) ≡ sends_by_priority o
    more item None = refl
    more item (Some x) = refl

    less : (o : Option _) → sends_by_priority (item_taken o) ≡ sends_by_priority o
    less None = refl
    less (Some x) = refl

    of : (r : WaitReason) → sends_by_priority (get (queues_after r o.queues) q.0) ≡ sends_by_priority (get o.queues q.0)
    of (reasons.Send t put) = kept_by_change sends_by_priority (with_item put) (more put) o.queues t.0 q.0
    of (reasons.Receive t) = kept_by_change sends_by_priority item_taken less o.queues t.0 q.0
    of r = refl
order_kept o r u = refl

-- a call of another kind that was found is out: the objects see the same
pub elsewhere_left : (kind : WaitReason → Bool) (k : PlainKernel) (f : WaitingCall → Bool) (ws : List WaitingCall) (z : WaitingCall × List WaitingCall)
    → take_first f ws ≡ Some z
    → kind z.0.reason ≡ false
    → waiters_among kind k z.1 ≡ waiters_among kind k ws
elsewhere_left kind k f [] z e other = absurd cc
elsewhere_left kind k f (w ∷ ws) z e other = elim (some_parts f w ws z e) [
  | inl s ↦ (let h : kind w.reason ≡ false = ap (λ (y : WaitingCall × List WaitingCall). kind y.0.reason) (sym s.1) ∙ other in ap (λ (y : WaitingCall × List WaitingCall). waiters_among kind k y.1) s.1 ∙ rw h refl)
  | inr s ↦ (
      let rest = elsewhere_left kind k f ws s.0 s.2 (ap (λ (y : WaitingCall × List WaitingCall). kind y.0.reason) (sym s.3) ∙ other) in
      ap (λ (y : WaitingCall × List WaitingCall). waiters_among kind k y.1) s.3 ∙ elim (cases_Bool (kind w.reason)) [
        | inl h ↦ rw (h, rest) refl
        | inr h ↦ rw (h, rest) refl
      ]
      )
]

-- ---- the end of a wait, as the tasks see it

module _ (d : PlainTasks) (t : TaskId) where
  pub released_is : released d t ≡ record d { waits = slice_set d.waits t.0 None; runnable = (released d t).runnable }
  released_is = elim (cases_Bool (is_suspended (block_of d t))) [
    | inl h ↦ rw h refl
    | inr h ↦ rw h refl
  ]

  taken_waits : (wakeup_taken d t).waits ≡ d.waits
  taken_waits = elim (cases_Bool (is_asleep d t)) [
    | inl h ↦ rw h refl
    | inr h ↦ rw h refl
  ]

  taken_priority : (id : ℕ) → priority_of (get (wakeup_taken d t).tasks id) ≡ priority_of (get d.tasks id)
  taken_priority id = elim (cases_Bool (is_asleep d t)) [
    | inl h ↦ rw h (priorities_kept d.tasks t.0 one_wakeup_less (λ x. refl) id)
    | inr h ↦ rw h refl
  ]

-- who is woken waits no longer
pub woken_waits : (d : PlainTasks) (t : TaskId) → is_waiting d t ≡ true → (woken d t).waits ≡ slice_set d.waits t.0 None
woken_waits d t h = rw h (ap (λ (e : PlainTasks). e.waits) (released_is (wakeup_taken d t) t) ∙ ap (λ ws. slice_set ws t.0 None) (taken_waits d t))

pub woken_priority : (d : PlainTasks) (t : TaskId) (id : ℕ) → priority_of (get (woken d t).tasks id) ≡ priority_of (get d.tasks id)
woken_priority d t id = elim (cases_Bool (is_waiting d t)) [
  | inl h ↦ rw h (ap (λ (e : PlainTasks). priority_of (get e.tasks id)) (released_is (wakeup_taken d t) t) ∙ taken_priority d t id)
  | inr h ↦ rw h refl
]

-- ---- one turn

module _ (k : PlainKernel) (s : IsStanding k) (w : WaitingCall) (others : List WaitingCall) (found : next_freed k ≡ Some (w, others)) where
  its_task_waits : is_waiting (tasks_of k) w.task ≡ true
  its_task_waits = ap is_some (sees_found k s (comes_next k) (w, others) found)

  -- the tasks see that the call waits no longer
  tasks_after : woken (tasks_of k) w.task ≡ tasks_of (freed k w others)
  tasks_after = ap (λ ws. record (woken (tasks_of k) w.task) { waits = ws }) (woken_waits (tasks_of k) w.task its_task_waits ∙ sym (waits_left (comes_next k) k.waits w others found s.once))

  -- the objects see the others as before
  others_seen : (kind : WaitReason → Bool) → waiters_among kind k others ≡ waiters_among kind (freed k w others) others
  others_seen kind = same_seen kind (freed k w others) k others (alike_by_priority kind (freed k w others) k others (λ r. sym (order_kept k.objects w.reason r)) (λ id le. sym (woken_priority (tasks_of k) w.task id)))

  unseen : (kind : WaitReason → Bool) → kind w.reason ≡ false → waiters_for kind k ≡ waiters_among kind (freed k w others) others
  unseen kind h = sym (elsewhere_left kind k (comes_next k) k.waits (w, others) found h) ∙ others_seen kind

  first_here : (kind : WaitReason → Bool) → kind w.reason ≡ true → seen kind k (first_of_kind kind k) ≡ seen kind k (Some (w, others))
  first_here kind h = ap (seen kind k) (first_of_both (comes_next k) (λ v. kind v.reason) k.waits (w, others) found h)

  semaphores_freed : semaphores_let_go w.reason (semaphores_of k) ≡ semaphores_of (freed k w others)
  semaphores_freed = of w.reason refl
    where
      its : semaphores_let_go w.reason (semaphores_of k) ≡ without_semaphore (semaphores_of k) (next_semaphore_freed (semaphores_of k)) → is_for_a_semaphore w.reason ≡ true → semaphores_let_go w.reason (semaphores_of k) ≡ semaphores_of (freed k w others)
      its go h = go ∙ ap (without_semaphore (semaphores_of k)) (semaphores_find k ∙ first_here is_for_a_semaphore h) ∙ ap (λ ws. record (semaphores_of (freed k w others)) { waiters = ws }) (others_seen is_for_a_semaphore)

      not_its : semaphores_let_go w.reason (semaphores_of k) ≡ record (semaphores_of (freed k w others)) { waiters = waiters_for is_for_a_semaphore k } → is_for_a_semaphore w.reason ≡ false → semaphores_let_go w.reason (semaphores_of k) ≡ semaphores_of (freed k w others)
      not_its go h = go ∙ ap (λ ws. record (semaphores_of (freed k w others)) { waiters = ws }) (unseen is_for_a_semaphore h)

      of : (r : WaitReason) → w.reason ≡ r → semaphores_let_go w.reason (semaphores_of k) ≡ semaphores_of (freed k w others)
      of (reasons.Semaphore x) r = its (rw r refl) (ap is_for_a_semaphore r)
      of u r = not_its (rw r refl) (ap is_for_a_semaphore r)

  flags_freed : flags_let_go w.reason (flags_of k) ≡ flags_of (freed k w others)
  flags_freed = of w.reason refl
    where
      its : flags_let_go w.reason (flags_of k) ≡ without_flag (flags_of k) (next_flag_freed (flags_of k)) → is_for_a_flag w.reason ≡ true → flags_let_go w.reason (flags_of k) ≡ flags_of (freed k w others)
      its go h = go ∙ ap (without_flag (flags_of k)) (flags_find k ∙ first_here is_for_a_flag h) ∙ ap (λ ws. record (flags_of (freed k w others)) { waiters = ws }) (others_seen is_for_a_flag)

      not_its : flags_let_go w.reason (flags_of k) ≡ record (flags_of (freed k w others)) { waiters = waiters_for is_for_a_flag k } → is_for_a_flag w.reason ≡ false → flags_let_go w.reason (flags_of k) ≡ flags_of (freed k w others)
      not_its go h = go ∙ ap (λ ws. record (flags_of (freed k w others)) { waiters = ws }) (unseen is_for_a_flag h)

      of : (r : WaitReason) → w.reason ≡ r → flags_let_go w.reason (flags_of k) ≡ flags_of (freed k w others)
      of (reasons.Flag x) r = its (rw r refl) (ap is_for_a_flag r)
      of u r = not_its (rw r refl) (ap is_for_a_flag r)

  queues_freed : queues_let_go w.reason (queues_of k) ≡ queues_of (freed k w others)
  queues_freed = of w.reason refl
    where
      its : queues_let_go w.reason (queues_of k) ≡ without_queue (queues_of k) (next_queue_freed (queues_of k)) → is_for_a_queue w.reason ≡ true → queues_let_go w.reason (queues_of k) ≡ queues_of (freed k w others)
      its go h = go ∙ ap (without_queue (queues_of k)) (queues_find k ∙ first_here is_for_a_queue h) ∙ ap (λ ws. record (queues_of (freed k w others)) { waiters = ws }) (others_seen is_for_a_queue)

      not_its : queues_let_go w.reason (queues_of k) ≡ record (queues_of (freed k w others)) { waiters = waiters_for is_for_a_queue k } → is_for_a_queue w.reason ≡ false → queues_let_go w.reason (queues_of k) ≡ queues_of (freed k w others)
      not_its go h = go ∙ ap (λ ws. record (queues_of (freed k w others)) { waiters = ws }) (unseen is_for_a_queue h)

      of : (r : WaitReason) → w.reason ≡ r → queues_let_go w.reason (queues_of k) ≡ queues_of (freed k w others)
      of (reasons.Send x item) r = its (rw r refl) (ap is_for_a_queue r)
      of (reasons.Receive x) r = its (rw r refl) (ap is_for_a_queue r)
      of u r = not_its (rw r refl) (ap is_for_a_queue r)

  -- the parts after the end are those of the kernel after it
  pub freed_agrees : freed_call (parts_of k) w others ≡ parts_of (freed k w others)
  freed_agrees = same_parts k.clock others k.last_call
      (woken (tasks_of k) w.task) (tasks_of (freed k w others))
      (semaphores_let_go w.reason (semaphores_of k)) (semaphores_of (freed k w others))
      (flags_let_go w.reason (flags_of k)) (flags_of (freed k w others))
      (queues_let_go w.reason (queues_of k)) (queues_of (freed k w others))
      tasks_after semaphores_freed flags_freed queues_freed

  -- and it ends with the same bytes
  bytes_agree : bytes_told (next_at (parts_of k) w.reason) ≡ bytes_of k.objects w.reason
  bytes_agree = of w.reason refl
    where
      its : (kind : WaitReason → Bool) (bytes : WaitReason → List ℕ) (next : Option (Waiter × List Waiter))
          → next ≡ seen kind k (first_of_kind kind k)
          → kind w.reason ≡ true
          → bytes_told (told bytes next) ≡ bytes w.reason
      its kind bytes next e h = ap (λ o. bytes_told (told bytes o)) (e ∙ first_here kind h)

      of : (r : WaitReason) → w.reason ≡ r → bytes_told (next_at (parts_of k) w.reason) ≡ bytes_of k.objects w.reason
      of (reasons.Semaphore x) r = (let go : bytes_told (next_at (parts_of k) w.reason) ≡ bytes_told (told bytes_at_semaphores (next_semaphore_freed (semaphores_of k))) = rw r refl in go)
          ∙ its is_for_a_semaphore bytes_at_semaphores (next_semaphore_freed (semaphores_of k)) (semaphores_find k) (ap is_for_a_semaphore r) ∙ rw r refl
      of (reasons.Flag x) r = (let go : bytes_told (next_at (parts_of k) w.reason) ≡ bytes_told (told (bytes_at_flags k.objects.flags) (next_flag_freed (flags_of k))) = rw r refl in go)
          ∙ its is_for_a_flag (bytes_at_flags k.objects.flags) (next_flag_freed (flags_of k)) (flags_find k) (ap is_for_a_flag r) ∙ rw r refl
      of (reasons.Send x item) r = (let go : bytes_told (next_at (parts_of k) w.reason) ≡ bytes_told (told (bytes_at_queues k.objects.queues) (next_queue_freed (queues_of k))) = rw r refl in go)
          ∙ its is_for_a_queue (bytes_at_queues k.objects.queues) (next_queue_freed (queues_of k)) (queues_find k) (ap is_for_a_queue r) ∙ rw r refl
      of (reasons.Receive x) r = (let go : bytes_told (next_at (parts_of k) w.reason) ≡ bytes_told (told (bytes_at_queues k.objects.queues) (next_queue_freed (queues_of k))) = rw r refl in go)
          ∙ its is_for_a_queue (bytes_at_queues k.objects.queues) (next_queue_freed (queues_of k)) (queues_find k) (ap is_for_a_queue r) ∙ rw r refl
      of u r = rw r refl

  pub end_agrees : end_told (parts_of k) w ≡ end_of k w
  end_agrees = ap (ending w E_OK) bytes_agree

-- ---- all turns

-- what settling makes of the whole kernel, as its parts have it
abbrev pub told_after : PlainKernel × List KEnd → PlainParts × List KEnd
told_after r = (parts_of r.0, r.1)

pub settle_agrees : (n : ℕ) (k : PlainKernel) → IsStanding k → settle n (parts_of k) ≡ told_after (whole_settle n k)
unfolding settle whole_settle
settle_agrees zero k s = refl
settle_agrees (suc n) k s = ap (turn (settle n) (parts_of k)) (next_agrees k s) ∙ of (λ l r. settle_agrees n l r) (next_freed k) refl
  where
    of : ((l : PlainKernel) → IsStanding l → settle n (parts_of l) ≡ told_after (whole_settle n l)) → (o : Option (WaitingCall × List WaitingCall)) → next_freed k ≡ o → turn (settle n) (parts_of k) o ≡ told_after (whole_turn (whole_settle n) k o)
    of rest None e = refl
    of rest (Some z) e =
        let after : settle n (freed_call (parts_of k) z.0 z.1) ≡ told_after (whole_settle n (freed k z.0 z.1)) =
        ap (settle n) (freed_agrees k s z.0 z.1 e) ∙ rest (freed k z.0 z.1) (freed_stands k (comes_next k) z.0 z.1 e s) in
        rw (after, end_agrees k s z.0 z.1 e) refl
