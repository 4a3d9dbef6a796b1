-- A new priority, with a new place in a queue by priority: the parts side by side do what the whole kernel does.
use Rattle.std.proofs.Common.{◌≡◌, ◌≢◌, ℕ, Bool, true, false, ◌&&◌, List, [], ◌∷◌, ◌++◌, slice_set, Option, Some, None, refl, ap, sym, ◌∙◌, inl, inr, arith}
use Rattle.std.specs.Int.{is_negative}
use Rattle.std.proofs.lemmas.List.{set-set, set-get_or}
use Rattle.std.proofs.lemmas.Bool.{cases_Bool, cases_eq, and_parts, eqb-true, eq-eqb}
use Rattle.std.proofs.Math.Bool.{or-false}
use Rattle.it_types.specs.declared.id.TaskId.{TaskId}
use Rattle.it_types.specs.declared.er.Er.{Er}
use Rattle.it_types.specs.declared.context.Ctx.{Ctx}
use Rattle.spec_lists.specs.Tables.{get}
use Rattle.spec_lists.specs.First.{put_back, take_first}
use Rattle.spec_lists.specs.Refusal.{first_refusal}
use Rattle.spec_lists.specs.Counting.{times}
use Rattle.spec_lists.proofs.Firsts.{same_first, none_parts, some_parts, at_first, past_first}
use Rattle.spec_lists.proofs.Counting.{times-found, one_if-same}
use Rattle.spec_kernel.specs.declared.reason.WaitReason.{WaitReason}
use Rattle.spec_kernel.specs.declared.reason.WaitReason.TheVariants as reasons
use Rattle.spec_kernel.specs.declared.reason.WaitingCall.{WaitingCall}
use Rattle.spec_kernel.specs.TaskBlocks.{priority_of, with_priority}
use Rattle.spec_kernel.specs.PlainTasks.{PlainTasks, is_same, with_task, last_in_order}
use Rattle.spec_kernel.specs.TaskRows.{reprioritised, named}
use Rattle.spec_kernel.specs.TaskRows.{answered as task_answered, unless_refused as unless_task_refused, refused_or as task_refused_or}
use Rattle.spec_kernel.specs.Waiters.{is_task}
use Rattle.spec_kernel.specs.Waiters.{moved as waiter_moved, reprioritised as reprioritised_in}
use Rattle.spec_kernel.specs.Waiting.{is_by_priority}
use Rattle.spec_kernel.specs.PlainSemaphores.{is_by_priority as is_ordered_semaphore}
use Rattle.spec_kernel.specs.PlainFlags.{is_by_priority as is_ordered_flag}
use Rattle.spec_kernel.specs.PlainQueues.{is_by_priority as is_ordered_queue}
use Rattle.spec_kernel.specs.PlainKernel.{PlainKernel, is_of, task_wait, waits_by_task, tasks_of, with_tasks, semaphores_of, flags_of, queues_of, is_for_a_semaphore, is_for_a_flag, is_for_a_queue, waiter_of}
use Rattle.spec_kernel.specs.Rows.{waits_by_priority, moved, last_in_its_queue, done_at_once}
use Rattle.spec_kernel.specs.Rows.{reprioritised as moving}
use Rattle.spec_kernel.specs.Standing.{waiting_number, IsStanding}
use Rattle.spec_kernel.specs.Parts.{PlainParts, parts_of}
use Rattle.k_core.specs.PartsRows.{is_ordered}
use Rattle.k_core.specs.PartsRows.{with_tasks as parts_with_tasks, moved as parts_moved, last_in_its_queue as parts_last, reprioritised as parts_moving}
use Rattle.laws_kernel.proofs.Lists.{found_passes, other_task}
use Rattle.k_core.proofs.Views.{waiters_among, waits_left, waits_joined, waiters_joined, waiters_as_before, nobody_found}
use Rattle.k_core.proofs.RowsAgreeSeen.{told, AreAlike, same_seen}
use Rattle.k_core.proofs.RowsAgreeTasks.{same_parts}
use Rattle.k_core.proofs.RowsAgreeQueues.{first_of_its_task, taken_elsewhere}
use Rattle.k_core.proofs.NextAgrees.{sees_found}

-- ---- whose queues are by priority

-- what the parts say of a queue is what the one table says
ordered_alike : (k : PlainKernel) (r : WaitReason) → is_ordered (parts_of k) r ≡ is_by_priority k.objects r
ordered_alike k (reasons.Semaphore x) = or-false _
ordered_alike k (reasons.Flag w) = or-false _
ordered_alike k (reasons.Send q item) = refl
ordered_alike k (reasons.Receive q) = refl
ordered_alike k reasons.Sleep = refl
ordered_alike k reasons.Delay = refl
ordered_alike k reasons.Outside = refl

ordered_semaphores : (k : PlainKernel) (r : WaitReason) → is_for_a_semaphore r ≡ true → is_ordered_semaphore k.objects.semaphores r ≡ is_by_priority k.objects r
ordered_semaphores k (reasons.Semaphore x) e = refl
ordered_semaphores k r e = absurd (let f : false ≡ true = e in cc)

ordered_flags : (k : PlainKernel) (r : WaitReason) → is_for_a_flag r ≡ true → is_ordered_flag k.objects.flags r ≡ is_by_priority k.objects r
ordered_flags k (reasons.Flag x) e = refl
ordered_flags k r e = absurd (let f : false ≡ true = e in cc)

ordered_queues : (k : PlainKernel) (r : WaitReason) → is_for_a_queue r ≡ true → is_ordered_queue k.objects.queues r ≡ is_by_priority k.objects r
ordered_queues k (reasons.Send q item) e = refl
ordered_queues k (reasons.Receive q) e = refl
ordered_queues k r e = absurd (let f : false ≡ true = e in cc)

-- ---- the calls that a part sees, after a new priority of one task

-- the kernel with other tasks, which differ by the priority of one
record OnePriority (k : PlainKernel) (t : TaskId) (after : PlainTasks) : Type 0 where
  waits : after.waits ≡ waits_by_task k.waits
  next_rank : after.next_rank ≡ k.next_rank
  others : (id : ℕ) → id ≢ t.0 → priority_of (get after.tasks id) ≡ priority_of (get k.tasks id)

-- a call counts as before where its queue isn't by priority, or its task is another
alike_unless : (kind : WaitReason → Bool) (k : PlainKernel) (t : TaskId) (after : PlainTasks) (ws : List WaitingCall)
    → OnePriority k t after
    → take_first (waits_by_priority k t) ws ≡ None
    → AreAlike kind k (with_tasks k after) ws
alike_unless kind k t after [] one none = tt
alike_unless kind k t after (w ∷ ws) one none =
    let parts = none_parts (waits_by_priority k t) w ws none in (
      λ e. elim (cases_eq w.task.0 t.0) [
        | inl same ↦ (
            let arrival : is_by_priority k.objects w.reason ≡ false = rw (eq-eqb w.task.0 t.0 same) at parts.0 in
            rw arrival refl
            )
        | inr other ↦ rw (one.others w.task.0 other) refl
      ],
      alike_unless kind k t after ws one parts.1,
    )

-- and so do the calls that are left, where one task's is taken out
alike_others : (kind : WaitReason → Bool) (k : PlainKernel) (t : TaskId) (after : PlainTasks) (ws : List WaitingCall)
    → OnePriority k t after
    → times waiting_number t.0 ws ≡ 0
    → AreAlike kind k (with_tasks k after) ws
alike_others kind k t after [] one none = tt
alike_others kind k t after (w ∷ ws) one none = (
  λ e. rw (one.others w.task.0 (λ same. omega (arith, none, one_if-same w.task.0 t.0 same))) refl,
  alike_others kind k t after ws one (omega (arith, none)),
)

-- a task's call is the first of the task in its part
found_seen : (kind : WaitReason → Bool) (k : PlainKernel) (t : TaskId) (ws : List WaitingCall) (z : WaitingCall × List WaitingCall)
    → take_first (is_of t.0) ws ≡ Some z
    → kind z.0.reason ≡ true
    → take_first (is_task t) (waiters_among kind k ws) ≡ Some (waiter_of k z.0, waiters_among kind k z.1)
found_seen kind k t [] z e h = absurd cc
found_seen kind k t (w ∷ ws) z e h = elim (some_parts (is_of t.0) w ws z e) [
  | inl s ↦ (let own : kind w.reason ≡ true = ap (λ (y : WaitingCall × List WaitingCall). kind y.0.reason) (sym s.1) ∙ h in rw s.1 (rw own (at_first (is_task t) (waiter_of k w) (waiters_among kind k ws) s.0)))
  | inr s ↦ (
      let its : kind s.0.0.reason ≡ true = ap (λ (y : WaitingCall × List WaitingCall). kind y.0.reason) (sym s.3) ∙ h in
      let rest = found_seen kind k t ws s.0 s.2 its in
      rw s.3 (elim (cases_Bool (kind w.reason)) [
        | inl o ↦ rw o (past_first (is_task t) (waiter_of k w) (waiters_among kind k ws) s.1 ∙ ap (put_back (waiter_of k w)) rest)
        | inr o ↦ rw o rest
      ])
      )
]

module _ (k : PlainKernel) (s : IsStanding k) (t : TaskId) (after : PlainTasks) (one : OnePriority k t after) where
  -- the kernel with these tasks, and without a move
  stays_agrees : take_first (waits_by_priority k t) k.waits ≡ None → parts_with_tasks (parts_of k) after ≡ parts_of (with_tasks k after)
  stays_agrees none =
      let l : PlainKernel = with_tasks k after in
      same_parts k.clock k.waits k.last_call after (tasks_of l) (semaphores_of k) (semaphores_of l) (flags_of k) (flags_of l) (queues_of k) (queues_of l)
      (ap (λ ws. record after { waits = ws }) one.waits)
      (ap (λ ws. record (semaphores_of k) { waiters = ws }) (sym (seen is_for_a_semaphore)))
      (ap (λ ws. record (flags_of k) { waiters = ws }) (sym (seen is_for_a_flag)))
      (ap (λ ws. record (queues_of k) { waiters = ws }) (sym (seen is_for_a_queue)))
    where
      seen : (kind : WaitReason → Bool) → waiters_among kind (with_tasks k after) k.waits ≡ waiters_among kind k k.waits
      seen kind = same_seen kind k (with_tasks k after) k.waits (alike_unless kind k t after k.waits one none)

  module _ (z : WaitingCall × List WaitingCall) (found : take_first (waits_by_priority k t) k.waits ≡ Some z) where
    both : (z.0.task.0 ≡ t.0) × (is_by_priority k.objects z.0.reason ≡ true)
    both = let parts = and_parts (is_of t.0 z.0) (is_by_priority k.objects z.0.reason) (found_passes (waits_by_priority k t) k.waits z found) in (eqb-true z.0.task.0 t.0 parts.0, parts.1)

    none_left : (n : ℕ) → n ≡ z.0.task.0 → times waiting_number n z.1 ≡ 0
    none_left n same = omega (arith, s.once n, times-found waiting_number n (waits_by_priority k t) k.waits z found, one_if-same z.0.task.0 n (sym same))

    -- the call in its new place
    last : WaitingCall
    last = record z.0 { rank = after.next_rank }

    seen_left : (kind : WaitReason → Bool) → waiters_among kind (with_tasks k after) z.1 ≡ waiters_among kind k z.1
    seen_left kind = same_seen kind k (with_tasks k after) z.1 (alike_others kind k t after z.1 one (none_left t.0 (sym both.0)))

    -- a part moves the task, if it waits there
    moves : (kind ordered : WaitReason → Bool) → ((r : WaitReason) → kind r ≡ true → ordered r ≡ is_by_priority k.objects r)
        → reprioritised_in ordered z.0.task (priority_of (get after.tasks z.0.task.0)) after.next_rank (waiters_among kind k k.waits) ≡ waiters_among kind (with_tasks k after) (z.1 ++ last ∷ [])
    unfolding last
    moves kind ordered same = elim (cases_Bool (kind z.0.reason)) [
      | inl h ↦ (
          let first : take_first (is_task z.0.task) (waiters_among kind k k.waits) ≡ Some (waiter_of k z.0, waiters_among kind k z.1) = found_seen kind k z.0.task k.waits z (first_of_its_task (waits_by_priority k t) k.waits z found s.once) h in
          let by_priority : ordered z.0.reason ≡ true = same z.0.reason h ∙ both.1 in
          ap (waiter_moved ordered (waiters_among kind k k.waits) (priority_of (get after.tasks z.0.task.0)) after.next_rank) first
          ∙ rw (by_priority, waiters_joined kind (with_tasks k after) z.1 last h, both.1) (ap (λ vs. vs ++ record (waiter_of k z.0) { urgency = priority_of (get after.tasks z.0.task.0); rank = after.next_rank } ∷ []) (sym (seen_left kind)))
          )
      | inr h ↦ (
          let same_left : waiters_among kind k z.1 ≡ waiters_among kind k k.waits = taken_elsewhere kind k (waits_by_priority k t) k.waits z found h in
          let nobody : take_first (is_task z.0.task) (waiters_among kind k k.waits) ≡ None = ap (take_first (is_task z.0.task)) (sym same_left) ∙ nobody_found kind k z.1 z.0.task (none_left z.0.task.0 refl) in
          ap (waiter_moved ordered (waiters_among kind k k.waits) (priority_of (get after.tasks z.0.task.0)) after.next_rank) nobody
          ∙ (sym same_left ∙ (sym (seen_left kind) ∙ sym (waiters_as_before kind (with_tasks k after) z.1 last h)))
          )
    ]

    -- the tasks see the same
    tasks_see : waits_by_task k.waits ≡ waits_by_task (z.1 ++ last ∷ [])
    unfolding last
    tasks_see =
        let ws = waits_by_task k.waits in
        let it = Some (task_wait z.0.reason) in
        sym (waits_joined z.1 last (none_left z.0.task.0 refl)
        ∙ (ap (λ vs. slice_set vs z.0.task.0 it) (waits_left (waits_by_priority k t) k.waits z.0 z.1 found s.once)
        ∙ (set-set ws z.0.task.0 None it ∙ (ap (λ o. slice_set ws z.0.task.0 o) (sym (sees_found k s (waits_by_priority k t) z found)) ∙ set-get_or ws z.0.task.0 None))))

    moves_agree : parts_moved (parts_with_tasks (parts_of k) after) (Some z) ≡ parts_of (moved (with_tasks k after) (Some z))
    unfolding last
    moves_agree =
        let l : PlainKernel = moved (with_tasks k after) (Some z) in
        let p : PlainParts = parts_moved (parts_with_tasks (parts_of k) after) (Some z) in
        same_parts k.clock (z.1 ++ last ∷ []) k.last_call p.tasks (tasks_of l) p.sems (semaphores_of l) p.flags (flags_of l) p.dtqs (queues_of l)
        (ap (λ ws. record p.tasks { waits = ws }) (one.waits ∙ tasks_see))
        (ap (λ ws. record (semaphores_of k) { waiters = ws }) (moves is_for_a_semaphore (is_ordered_semaphore k.objects.semaphores) (ordered_semaphores k)))
        (ap (λ ws. record (flags_of k) { waiters = ws }) (moves is_for_a_flag (is_ordered_flag k.objects.flags) (ordered_flags k)))
        (ap (λ ws. record (queues_of k) { waiters = ws }) (moves is_for_a_queue (is_ordered_queue k.objects.queues) (ordered_queues k)))

  -- a new place, where the task waits in a queue by priority
  last_agrees : parts_last (parts_with_tasks (parts_of k) after) t ≡ parts_of (last_in_its_queue (with_tasks k after) t)
  last_agrees = ap (parts_moved (parts_with_tasks (parts_of k) after)) (same_first _ (waits_by_priority k t) k.waits (λ w. ap (λ b. is_of t.0 w && b) (ordered_alike k w.reason))) ∙ of (take_first (waits_by_priority k t) k.waits) refl
    where
      of : (o : Option (WaitingCall × List WaitingCall)) → take_first (waits_by_priority k t) k.waits ≡ o → parts_moved (parts_with_tasks (parts_of k) after) o ≡ parts_of (moved (with_tasks k after) o)
      of None e = stays_agrees e
      of (Some z) e = moves_agree z e

-- ---- the call

pub reprioritised_agrees : (k : PlainKernel) (s : IsStanding k) (ctx : Ctx) (t : TaskId) (n : ℕ) (tests : List (Bool × Er))
    → let done = task_refused_or tests (tasks_of k) (reprioritised (tasks_of k) (named ctx t) n) in parts_moving (parts_of k) ctx t done ≡ told (moving k ctx t done)
reprioritised_agrees k s ctx t n tests = of (first_refusal tests)
  where
    of : (o : Option Er) → let done = unless_task_refused o (tasks_of k) (reprioritised (tasks_of k) (named ctx t) n) in parts_moving (parts_of k) ctx t done ≡ told (moving k ctx t done)
    of (Some code) = elim (cases_Bool (is_negative code.0)) [
      | inl e ↦ rw e refl
      | inr e ↦ rw e (ap (λ q. record (told (done_at_once k ctx (task_answered (tasks_of k) code))) { parts = q }) (last_agrees k s (named ctx t) (tasks_of k) (record { waits = refl; next_rank = refl; others = λ id ne. refl })))
    ]
    of None = ap (λ q. record (told (done_at_once k ctx (reprioritised (tasks_of k) (named ctx t) n))) { parts = q })
        (last_agrees k s (named ctx t) (last_in_order (is_same (named ctx t)) (with_task (tasks_of k) (named ctx t) (with_priority n)))
        (record { waits = refl; next_rank = refl; others = λ id ne. ap priority_of (other_task k.tasks (named ctx t).0 id (with_priority n) ne) }))
