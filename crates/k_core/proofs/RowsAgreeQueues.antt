-- The calls on data queues, with the end of another's call on a queue without capacity: the parts side by side do what the whole kernel does.
use Rattle.std.proofs.Common.{◌≡◌, ℕ, Bool, true, false, ◌&&◌, List, [], ◌∷◌, slice_set, Option, Some, None, refl, ap, sym, ◌∙◌, inl, inr}
use Rattle.std.proofs.lemmas.Bool.{cases_Bool, eqb-true}
use Rattle.it_types.specs.declared.id.TaskId.{TaskId}
use Rattle.it_types.specs.declared.id.ObjId.{ObjId}
use Rattle.it_types.specs.declared.id.CallNo.{CallNo}
use Rattle.it_types.specs.declared.er.Er.{Er}
use Rattle.it_types.specs.declared.er.TheConstants.{E_OK}
use Rattle.it_types.specs.declared.timeout.Tmo.{Tmo}
use Rattle.it_types.specs.declared.context.Ctx.{Ctx}
use Rattle.it_types.specs.Callers.{caller, is_poll}
use Rattle.spec_lists.specs.Tables.{get, change}
use Rattle.spec_lists.specs.First.{put_back, take_first, is_least}
use Rattle.spec_lists.specs.Refusal.{first_refusal}
use Rattle.spec_lists.proofs.Firsts.{cases_of_first, some_parts, none_any}
use Rattle.spec_kernel.specs.declared.task_wait.TaskWait.TheVariants as task_waits
use Rattle.spec_kernel.specs.declared.reason.WaitReason.{WaitReason}
use Rattle.spec_kernel.specs.declared.reason.WaitReason.TheVariants as reasons
use Rattle.spec_kernel.specs.declared.reason.WaitingCall.{WaitingCall}
use Rattle.spec_kernel.specs.declared.waiter.Waiter.{Waiter}
use Rattle.spec_kernel.specs.AnswerBytes.{four_bytes}
use Rattle.spec_kernel.specs.TaskBlocks.{is_suspended}
use Rattle.spec_kernel.specs.PlainTasks.{PlainTasks, released, woken}
use Rattle.spec_kernel.specs.Waiters.{is_in, urgency, joined_by}
use Rattle.spec_kernel.specs.Waiting.{queues_after}
use Rattle.spec_kernel.specs.Waiting.{is_by_priority}
use Rattle.spec_kernel.specs.DataQueues.{DataQueue, sends_by_priority, hands_over, with_item, with_forced_item, item_taken}
use Rattle.spec_kernel.specs.PlainQueues.{PlainQueues, is_met, bytes_of, handed_bytes}
use Rattle.spec_kernel.specs.PlainQueues.{is_by_priority as is_ordered_at_queues}
use Rattle.spec_kernel.specs.QueueRows.{QueuesDone, waiting, waiter_for, took, unless_refused, refused_or, other_side, handing, item_sent, sends_at_once, sent_to, received_from, forced}
use Rattle.spec_kernel.specs.PlainKernel.{PlainKernel, is_of, task_wait, waits_by_task, tasks_of, semaphores_of, flags_of, queues_of, is_for_a_semaphore, is_for_a_flag, is_for_a_queue, waiter_of}
use Rattle.spec_kernel.specs.Settle.{ending, ended}
use Rattle.spec_kernel.specs.Rows.{answered_with, priority_in, handed_to, done_by_queues}
use Rattle.spec_kernel.specs.Standing.{IsStanding}
use Rattle.spec_kernel.specs.Parts.{PlainParts, parts_of}
use Rattle.k_core.specs.PartsRows.{ended_by_other, handed_over}
use Rattle.k_core.specs.PartsRows.{answered_with as parts_answered_with, done_by_queues as parts_done_by_queues}
use Rattle.laws_kernel.proofs.Lists.{found_passes}
use Rattle.laws_kernel.proofs.RowActs.{found_waits}
use Rattle.k_core.proofs.Views.{AreOnce, waiters_among, waits_left}
use Rattle.k_core.proofs.NextAgrees.{same_found, sees_found}
use Rattle.k_core.proofs.RowsAgreeSeen.{told, same_seen, alike_by_order}
use Rattle.k_core.proofs.RowsAgreeTasks.{same_parts}
use Rattle.k_core.proofs.RowsAgreeTaskCalls.{unless_tasks, unless_waits}
use Rattle.k_core.proofs.RowsAgreeWaits.{CanWait, accepted_agrees, held_tasks, held_tasks_is, wait_agrees}
use Rattle.k_core.proofs.RowsAgreeObjects.{order_kept, objects_agree, joined_poll, joined_wait}

-- ---- one task's call

-- a call that was found is the first of its task
pub first_of_its_task : (f : WaitingCall → Bool) (ws : List WaitingCall) (z : WaitingCall × List WaitingCall) → take_first f ws ≡ Some z → AreOnce ws → take_first (is_of z.0.task.0) ws ≡ Some z
first_of_its_task f ws z e once = elim (cases_of_first (take_first (is_of z.0.task.0) ws)) [
  | inl none ↦ absurd (let h : true ≡ false = sym (found_waits f ws z e) ∙ none_any (is_of z.0.task.0) ws none in cc)
  | inr some ↦ (
      let its : some.0.0.task.0 ≡ z.0.task.0 = eqb-true some.0.0.task.0 z.0.task.0 (found_passes (is_of z.0.task.0) ws some.0 some.1) in
      some.1 ∙ ap (λ (y : WaitingCall × List WaitingCall). Some y) (sym (same_found f (is_of z.0.task.0) ws z some.0 z.0.task.0 refl its (once z.0.task.0) e some.1))
      )
]

-- without a call of another kind a part sees the same
pub taken_elsewhere : (kind : WaitReason → Bool) (k : PlainKernel) (f : WaitingCall → Bool) (ws : List WaitingCall) (z : WaitingCall × List WaitingCall) → take_first f ws ≡ Some z → kind z.0.reason ≡ false → waiters_among kind k z.1 ≡ waiters_among kind k ws
taken_elsewhere kind k f [] z e h = cc
taken_elsewhere kind k f (w ∷ ws) z e h = elim (some_parts f w ws z e) [
  | inl s ↦ (let own : kind w.reason ≡ false = ap (λ (y : WaitingCall × List WaitingCall). kind y.0.reason) (sym s.1) ∙ h in rw s.1 (rw own refl))
  | inr s ↦ (
      let other : kind s.0.0.reason ≡ false = ap (λ (y : WaitingCall × List WaitingCall). kind y.0.reason) (sym s.3) ∙ h in
      let rest : waiters_among kind k s.0.1 ≡ waiters_among kind k ws = taken_elsewhere kind k f ws s.0 s.2 other in
      rw s.3 (elim (cases_Bool (kind w.reason)) [
        | inl t ↦ rw t (ap (λ vs. waiter_of k w ∷ vs) rest)
        | inr t ↦ rw t rest
      ])
      )
]

-- what a part finds among its waiters is the view of a call
record IsView (kind : WaitReason → Bool) (k : PlainKernel) (ws : List WaitingCall) (v : Waiter × List Waiter) (test : WaitingCall → Bool) (z : WaitingCall × List WaitingCall) : Type 0 where
  found : take_first test ws ≡ Some z
  its_kind : kind z.0.reason ≡ true
  task : v.0.task ≡ z.0.task
  others : v.1 ≡ waiters_among kind k z.1

abbrev of_kind : (WaitReason → Bool) → PlainKernel → (Waiter → Bool) → WaitingCall → Bool
of_kind kind k p w = kind w.reason && p (waiter_of k w)

behind : (kind : WaitReason → Bool) (k : PlainKernel) (p : Waiter → Bool) (w : WaitingCall) (ws : List WaitingCall) (v : Waiter × List Waiter) (z : WaitingCall × List WaitingCall)
    → of_kind kind k p w ≡ false
    → IsView kind k ws v (of_kind kind k p) z
    → (u : Waiter × List Waiter) → u.0 ≡ v.0 → u.1 ≡ waiters_among kind k (w ∷ z.1)
    → IsView kind k (w ∷ ws) u (of_kind kind k p) (z.0, w ∷ z.1)
behind kind k p w ws v z e view u first others = record {
  found = rw e (ap (put_back w) view.found);
  its_kind = view.its_kind;
  task = ap (λ (x : Waiter). x.task) first ∙ view.task;
  others = others;
}

viewed : (kind : WaitReason → Bool) (k : PlainKernel) (p : Waiter → Bool) (ws : List WaitingCall) (v : Waiter × List Waiter) → take_first p (waiters_among kind k ws) ≡ Some v → (z : WaitingCall × List WaitingCall) × IsView kind k ws v (of_kind kind k p) z
viewed kind k p [] v e = absurd cc
viewed kind k p (w ∷ ws) v e = elim (cases_Bool (kind w.reason)) [
  | inr t ↦ (
      let rest = viewed kind k p ws v (rw t at e) in
      ((rest.0.0, w ∷ rest.0.1), behind kind k p w ws v rest.0 (rw t refl) rest.1 v refl (rw t rest.1.others))
      )
  | inl t ↦ elim (some_parts p (waiter_of k w) (waiters_among kind k ws) v (rw t at e)) [
    | inl s ↦ ((w, ws), record { found = rw (t, s.0) refl; its_kind = t; task = ap (λ (u : Waiter × List Waiter). u.0.task) s.1; others = ap (λ (u : Waiter × List Waiter). u.1) s.1 })
    | inr s ↦ (
        let rest = viewed kind k p ws s.0 s.2 in (
          (rest.0.0, w ∷ rest.0.1),
          behind kind k p w ws s.0 rest.0 (rw (t, s.1) refl) rest.1 v (ap (λ (u : Waiter × List Waiter). u.0) s.3)
              (ap (λ (u : Waiter × List Waiter). u.1) s.3 ∙ (ap (λ vs. waiter_of k w ∷ vs) rest.1.others ∙ rw t refl)),
        )
        )
  ]
]

queue_task_wait : (r : WaitReason) → is_for_a_queue r ≡ true → task_wait r ≡ task_waits.Other
queue_task_wait (reasons.Send q item) e = refl
queue_task_wait (reasons.Receive q) e = refl
queue_task_wait r e = absurd (let f : false ≡ true = e in cc)

no_semaphore : (r : WaitReason) → is_for_a_queue r ≡ true → is_for_a_semaphore r ≡ false
no_semaphore (reasons.Send q item) e = refl
no_semaphore (reasons.Receive q) e = refl
no_semaphore r e = absurd (let f : false ≡ true = e in cc)

no_flag : (r : WaitReason) → is_for_a_queue r ≡ true → is_for_a_flag r ≡ false
no_flag (reasons.Send q item) e = refl
no_flag (reasons.Receive q) e = refl
no_flag r e = absurd (let f : false ≡ true = e in cc)

-- a task that doesn't sleep is woken without a wake-up
woken_other : (d : PlainTasks) (t : TaskId) → get d.waits t.0 ≡ Some task_waits.Other → woken d t ≡ released d t
woken_other d t e = rw e refl

-- ---- whether senders wait by priority never changes

with_item_ordered : (item : ℕ) (o : Option DataQueue) → sends_by_priority (with_item item o) ≡ sends_by_priority o
with_item_ordered item None = refl
with_item_ordered item (Some x) = refl

with_forced_ordered : (item : ℕ) (o : Option DataQueue) → sends_by_priority (with_forced_item item o) ≡ sends_by_priority o
with_forced_ordered item None = refl
with_forced_ordered item (Some x) = refl

item_taken_ordered : (o : Option DataQueue) → sends_by_priority (item_taken o) ≡ sends_by_priority o
item_taken_ordered None = refl
item_taken_ordered (Some x) = refl

-- ---- the other side

module _ (k : PlainKernel) (s : IsStanding k) where
  -- a call that waits at a queue ends
  over_agrees : (f : WaitingCall → Bool) (z : WaitingCall × List WaitingCall) (left : List Waiter)
      → take_first f k.waits ≡ Some z
      → is_for_a_queue z.0.reason ≡ true
      → left ≡ waiters_among is_for_a_queue k z.1
      → ◌≡◌ {A = PlainParts} (record (parts_of k) { tasks = woken (tasks_of k) z.0.task; dtqs = record (queues_of k) { waiters = left }; waits = z.1 }) (parts_of (ended k z.0 z.1))
  over_agrees f z left e its others =
      let l : PlainKernel = ended k z.0 z.1 in
      let sees : get (waits_by_task k.waits) z.0.task.0 ≡ Some task_waits.Other = sees_found k s f z e ∙ ap (λ w. Some w) (queue_task_wait z.0.reason its) in
      same_parts k.clock z.1 k.last_call (woken (tasks_of k) z.0.task) (tasks_of l) (semaphores_of k) (semaphores_of l) (flags_of k) (flags_of l) (record (queues_of k) { waiters = left }) (queues_of l)
      (woken_other (tasks_of k) z.0.task sees ∙ ap (λ ws. record (released (tasks_of k) z.0.task) { waits = ws }) tasks_see)
      (ap (λ ws. record (semaphores_of k) { waiters = ws }) (elsewhere is_for_a_semaphore (no_semaphore z.0.reason its)))
      (ap (λ ws. record (flags_of k) { waiters = ws }) (elsewhere is_for_a_flag (no_flag z.0.reason its)))
      (ap (λ ws. record (queues_of k) { waiters = ws }) (others ∙ sym (alike is_for_a_queue)))
    where
      tasks_see : (released (tasks_of k) z.0.task).waits ≡ waits_by_task z.1
      tasks_see = unless_waits (is_suspended (get k.tasks z.0.task.0)) (record (tasks_of k) { waits = slice_set (waits_by_task k.waits) z.0.task.0 None }) z.0.task ∙ sym (waits_left f k.waits z.0 z.1 e s.once)

      alike : (kind : WaitReason → Bool) → waiters_among kind (ended k z.0 z.1) z.1 ≡ waiters_among kind k z.1
      alike kind = same_seen kind k (ended k z.0 z.1) z.1 (alike_by_order kind k (ended k z.0 z.1) z.1
          (unless_tasks (is_suspended (get k.tasks z.0.task.0)) (record (tasks_of k) { waits = slice_set (waits_by_task k.waits) z.0.task.0 None }) z.0.task) (λ r h. refl))

      elsewhere : (kind : WaitReason → Bool) → kind z.0.reason ≡ false → waiters_among kind k k.waits ≡ waiters_among kind (ended k z.0 z.1) z.1
      elsewhere kind h = sym (taken_elsewhere kind k f k.waits z e h) ∙ sym (alike kind)

module _ (k : PlainKernel) (s : IsStanding k) (ctx : Ctx) (number : CallNo) (reason : WaitReason) (tmo : Tmo) where
  pub record QueuesAgree (done : QueuesDone) : Type 0 where
    pub same : parts_done_by_queues (parts_of k) ctx done reason tmo number ≡ told (done_by_queues k ctx done reason tmo number)

  queues_refused : (tests : List (Bool × Er)) (done : QueuesDone) → QueuesAgree done → QueuesAgree (refused_or tests (queues_of k) done)
  queues_refused tests done carried = of (first_refusal tests)
    where
      of : (o : Option Er) → QueuesAgree (unless_refused o (queues_of k) done)
      of None = carried
      of (Some code) = record { same = refl }

  queues_took : (queues : List (Option DataQueue)) (bytes : List ℕ)
      → ((id : ℕ) → sends_by_priority (get queues id) ≡ sends_by_priority (get k.objects.queues id))
      → QueuesAgree (took (record (queues_of k) { queues = queues }) bytes)
  queues_took queues bytes same = record {
    same = ap (λ p. parts_answered_with p E_OK bytes) (objects_agree k (record k.objects { queues = queues }) (record { semaphores = λ id. refl; flags = λ id. refl; queues = same }));
  }

  -- the call of another ends
  queues_handing : (p : Waiter → Bool) (v : Waiter × List Waiter) (item : Option ℕ) (bytes : List ℕ)
      → take_first p (queues_of k).waiters ≡ Some v
      → QueuesAgree (took (handing (queues_of k) v item) bytes)
  queues_handing p v item bytes e =
      let seen = viewed is_for_a_queue k p k.waits v e in
      let z : WaitingCall × List WaitingCall = seen.0 in
      let first : take_first (is_of v.0.task.0) k.waits ≡ Some z = ap (λ (t : TaskId). take_first (is_of t.0) k.waits) seen.1.task ∙ first_of_its_task (of_kind is_for_a_queue k p) k.waits z seen.1.found s.once in
      record {
        same = ap (ended_by_other (parts_answered_with (record (parts_of k) { dtqs = record (queues_of k) { waiters = v.1 } }) E_OK bytes) (handed_bytes item)) first
            ∙ (ap (λ q. record (parts_answered_with q E_OK bytes) { ends = ending z.0 E_OK (handed_bytes item) ∷ [] }) (over_agrees k s (of_kind is_for_a_queue k p) z v.1 seen.1.found seen.1.its_kind seen.1.others)
            ∙ sym (ap (λ o. told (handed_to (answered_with k E_OK bytes) (handed_bytes item) o)) first));
      }

module _ (k : PlainKernel) (s : IsStanding k) (ctx : Ctx) (number : CallNo) where
  -- the caller waits at a queue
  queues_wait : (reason : WaitReason) (tmo : Tmo) → is_for_a_semaphore reason ≡ false → is_for_a_flag reason ≡ false → is_for_a_queue reason ≡ true → is_by_priority k.objects reason ≡ is_ordered_at_queues k.objects.queues reason
      → (is_poll tmo ≡ false → CanWait k ctx)
      → QueuesAgree k s ctx number reason tmo (waiting (queues_of k) (waiter_for (queues_of k) reason (caller ctx) (priority_in k ctx) k.next_rank) tmo)
  queues_wait reason tmo no_sem no_flg its order can =
      let w : Waiter = waiter_for (queues_of k) reason (caller ctx) (priority_in k ctx) k.next_rank in
      let ws : List Waiter = (queues_of k).waiters in
      let dtqs : PlainQueues = record (queues_of k) { waiters = joined_by w tmo ws } in
      record {
        same = ap handed_over (accepted_agrees k (caller ctx) reason tmo number (record (parts_of k) { dtqs = dtqs })
            (λ e. ap (λ vs. record (parts_of k) { dtqs = record (queues_of k) { waiters = vs } }) (joined_poll w tmo ws e))
            (λ e. let may = can e in
            wait_agrees k (caller ctx) may.0 may.1 s reason tmo number (tasks_of k) (semaphores_of k) (flags_of k) dtqs
            (held_tasks_is k (caller ctx) may.0 may.1 s task_waits.Other ∙ ap (held_tasks k (caller ctx) may.0 may.1 s) (sym (queue_task_wait reason its))) refl
            (rw no_sem refl) (rw no_flg refl)
            (ap (λ vs. record (queues_of k) { waiters = vs }) (joined_wait w tmo ws e ∙ (rw (its, order) refl)))));
      }

  found_there : (q : ObjId) (r : WaitReason) (v : Waiter × List Waiter) → other_side (queues_of k) q r ≡ Some v → take_first (is_least (is_in r) urgency (queues_of k).waiters) (queues_of k).waiters ≡ Some v
  found_there q r v e = elim (cases_Bool (hands_over (get k.objects.queues q.0))) [
    | inl t ↦ rw t at e
    | inr t ↦ absurd (let f : None ≡ Some v = rw t at e in cc)
  ]

  pub sent_agrees : (q : ObjId) (item : ℕ) (tmo : Tmo) (tests : List (Bool × Er)) → (is_poll tmo ≡ false → CanWait k ctx)
      → QueuesAgree k s ctx number (reasons.Send q item) tmo (refused_or tests (queues_of k) (sent_to (queues_of k) q item tmo (caller ctx) (priority_in k ctx) k.next_rank (other_side (queues_of k) q (reasons.Receive q))))
  sent_agrees q item tmo tests can = queues_refused k s ctx number (reasons.Send q item) tmo tests _ (of (other_side (queues_of k) q (reasons.Receive q)) refl)
    where
      of : (o : Option (Waiter × List Waiter)) → other_side (queues_of k) q (reasons.Receive q) ≡ o → QueuesAgree k s ctx number (reasons.Send q item) tmo (sent_to (queues_of k) q item tmo (caller ctx) (priority_in k ctx) k.next_rank o)
      of (Some v) e = queues_handing k s ctx number (reasons.Send q item) tmo (is_least (is_in (reasons.Receive q)) urgency (queues_of k).waiters) v (Some item) [] (found_there q (reasons.Receive q) v e)
      of None e = elim (cases_Bool (sends_at_once (queues_of k) (reasons.Send q item))) [
        | inl t ↦ rw t (queues_took k s ctx number (reasons.Send q item) tmo (queues_after (reasons.Send q item) k.objects.queues) [] (order_kept sends_by_priority (with_item item) (with_item_ordered item) k.objects.queues q.0))
        | inr t ↦ rw t (queues_wait (reasons.Send q item) tmo refl refl refl refl can)
      ]

  pub forced_agrees : (reason : WaitReason) (tmo : Tmo) (q : ObjId) (item : ℕ) (tests : List (Bool × Er)) → QueuesAgree k s ctx number reason tmo (refused_or tests (queues_of k) (forced (queues_of k) q item))
  forced_agrees reason tmo q item tests = queues_refused k s ctx number reason tmo tests (forced (queues_of k) q item)
      (queues_took k s ctx number reason tmo (change k.objects.queues q.0 (with_forced_item item)) [] (order_kept sends_by_priority (with_forced_item item) (with_forced_ordered item) k.objects.queues q.0))

  pub received_agrees : (q : ObjId) (tmo : Tmo) (tests : List (Bool × Er)) → (is_poll tmo ≡ false → CanWait k ctx)
      → QueuesAgree k s ctx number (reasons.Receive q) tmo (refused_or tests (queues_of k) (received_from (queues_of k) q tmo (caller ctx) (priority_in k ctx) k.next_rank (other_side (queues_of k) q (reasons.Send q 0))))
  received_agrees q tmo tests can = queues_refused k s ctx number (reasons.Receive q) tmo tests _ (of (other_side (queues_of k) q (reasons.Send q 0)) refl)
    where
      of : (o : Option (Waiter × List Waiter)) → other_side (queues_of k) q (reasons.Send q 0) ≡ o → QueuesAgree k s ctx number (reasons.Receive q) tmo (received_from (queues_of k) q tmo (caller ctx) (priority_in k ctx) k.next_rank o)
      of (Some v) e = queues_handing k s ctx number (reasons.Receive q) tmo (is_least (is_in (reasons.Send q 0)) urgency (queues_of k).waiters) v None (four_bytes (item_sent v.0.reason)) (found_there q (reasons.Send q 0) v e)
      of None e = elim (cases_Bool (is_met k.objects.queues (reasons.Receive q))) [
        | inl t ↦ rw t (queues_took k s ctx number (reasons.Receive q) tmo (queues_after (reasons.Receive q) k.objects.queues) (bytes_of k.objects.queues (reasons.Receive q)) (order_kept sends_by_priority item_taken item_taken_ordered k.objects.queues q.0))
        | inr t ↦ rw t (queues_wait (reasons.Receive q) tmo refl refl refl refl can)
      ]
