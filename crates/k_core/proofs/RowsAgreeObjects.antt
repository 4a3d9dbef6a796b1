-- The calls on objects, but for those that end the call of another: the parts side by side do what the whole kernel does.
use Rattle.std.proofs.Common.{◌≡◌, ℕ, ◌≤◌, Bool, true, false, List, [], ◌∷◌, ◌++◌, length, Option, Some, None, refl, ap, sym, ◌∙◌, subst, inl, inr}
use Rattle.std.proofs.lemmas.Bool.{cases_Bool, cases_eq, cases_lt}
use Rattle.std.proofs.lemmas.List.{get_or-set_same, get_or_past, length-set}
use Rattle.it_types.specs.declared.id.ObjId.{ObjId}
use Rattle.it_types.specs.declared.id.CallNo.{CallNo}
use Rattle.it_types.specs.declared.er.Er.{Er}
use Rattle.it_types.specs.declared.er.TheConstants.{E_OK}
use Rattle.it_types.specs.declared.timeout.Tmo.{Tmo}
use Rattle.it_types.specs.declared.context.Ctx.{Ctx}
use Rattle.it_types.specs.Callers.{caller, is_poll}
use Rattle.spec_lists.specs.Tables.{get, change}
use Rattle.spec_lists.specs.Refusal.{first_refusal}
use Rattle.spec_lists.proofs.Changes.{get-change_other}
use Rattle.spec_kernel.specs.declared.semaphore_block.SemaphoreBlock.{SemaphoreBlock}
use Rattle.spec_kernel.specs.declared.flag_block.FlagBlock.{FlagBlock}
use Rattle.spec_kernel.specs.declared.reason.FlagWait.{FlagWait}
use Rattle.spec_kernel.specs.declared.reason.WaitReason.{WaitReason}
use Rattle.spec_kernel.specs.declared.reason.WaitReason.TheVariants as reasons
use Rattle.spec_kernel.specs.declared.waiter.Waiter.{Waiter}
use Rattle.spec_kernel.specs.Waiters.{joined_by}
use Rattle.spec_kernel.specs.Waiting.{PlainObjects, is_by_priority, semaphores_after, flags_after}
use Rattle.spec_kernel.specs.SemaphoreBlocks.{is_ordered as semaphore_by_priority, one_more, one_less}
use Rattle.spec_kernel.specs.FlagBlocks.{is_ordered as flag_by_priority, with_bits, only_bits, released}
use Rattle.spec_kernel.specs.DataQueues.{sends_by_priority}
use Rattle.spec_kernel.specs.PlainSemaphores.{PlainSemaphores}
use Rattle.spec_kernel.specs.PlainSemaphores.{is_met as is_met_at_semaphores, bytes_of as bytes_at_semaphores}
use Rattle.spec_kernel.specs.PlainFlags.{PlainFlags}
use Rattle.spec_kernel.specs.PlainFlags.{is_met as is_met_at_flags, bytes_of as bytes_at_flags}
use Rattle.spec_kernel.specs.SemaphoreRows.{SemaphoresDone, signalled, asked as asked_at_semaphores, waiting as waiting_at_semaphores, waiter_for as waiter_at_semaphores, took as took_at_semaphores, unless_refused as unless_semaphores_refused, refused_or as semaphores_refused_or}
use Rattle.spec_kernel.specs.FlagRows.{FlagsDone, asked as asked_at_flags, waiting as waiting_at_flags, waiter_for as waiter_at_flags, took as took_at_flags, unless_refused as unless_flags_refused, refused_or as flags_refused_or}
use Rattle.spec_kernel.specs.PlainKernel.{PlainKernel, tasks_of, semaphores_of, flags_of, queues_of, with_objects, is_for_a_semaphore, is_for_a_flag, is_for_a_queue}
use Rattle.spec_kernel.specs.Rows.{priority_in, done_by_semaphores, done_by_flags}
use Rattle.spec_kernel.specs.Standing.{IsStanding}
use Rattle.spec_kernel.specs.Parts.{PlainParts, parts_of}
use Rattle.k_core.specs.PartsRows.{answered_with as parts_answered_with}
use Rattle.k_core.specs.PartsRows.{done_by_semaphores as parts_done_by_semaphores, done_by_flags as parts_done_by_flags}
use Rattle.k_core.proofs.Views.{waiters_among}
use Rattle.k_core.proofs.RowsAgreeSeen.{told, same_seen, alike_by_order}
use Rattle.k_core.proofs.RowsAgreeTasks.{same_parts}
use Rattle.k_core.proofs.RowsAgreeWaits.{CanWait, accepted_agrees, held_tasks_is, wait_agrees}

-- ---- whether tasks wait by priority never changes

module _ {X : Type 0} (ordered : Option X → Bool) where
  pub order_kept : (f : Option X → Option X) → ((o : Option X) → ordered (f o) ≡ ordered o) → (xs : List (Option X)) (i j : ℕ) → ordered (get (change xs i f) j) ≡ ordered (get xs j)
  order_kept f same xs i j = elim (cases_eq j i) [
    | inl e ↦ subst (λ n. ordered (get (change xs i f) n) ≡ ordered (get xs n)) (sym e) (elim (cases_lt i (length xs)) [
      | inl inside ↦ ap ordered (get_or-set_same xs i (f (get xs i)) None inside) ∙ same (get xs i)
      | inr past ↦ ap ordered (get_or_past (change xs i f) i None (subst (λ n. n ≤ i) (sym (length-set xs i (f (get xs i)))) past) ∙ sym (get_or_past xs i None past))
    ])
    | inr e ↦ ap ordered (get-change_other xs i j f e)
  ]

one_more_ordered : (o : Option SemaphoreBlock) → semaphore_by_priority (one_more o) ≡ semaphore_by_priority o
one_more_ordered None = refl
one_more_ordered (Some x) = refl

one_less_ordered : (o : Option SemaphoreBlock) → semaphore_by_priority (one_less o) ≡ semaphore_by_priority o
one_less_ordered None = refl
one_less_ordered (Some x) = refl

pub with_bits_ordered : (bits : ℕ) (o : Option FlagBlock) → flag_by_priority (with_bits bits o) ≡ flag_by_priority o
with_bits_ordered bits None = refl
with_bits_ordered bits (Some x) = refl

pub only_bits_ordered : (bits : ℕ) (o : Option FlagBlock) → flag_by_priority (only_bits bits o) ≡ flag_by_priority o
only_bits_ordered bits None = refl
only_bits_ordered bits (Some x) = refl

released_ordered : (o : Option FlagBlock) → flag_by_priority (released o) ≡ flag_by_priority o
released_ordered None = refl
released_ordered (Some x) = refl

-- ---- other objects, with the same order in each queue

pub record SameOrder (before after : PlainObjects) : Type 0 where
  pub semaphores : (id : ℕ) → semaphore_by_priority (get after.semaphores id) ≡ semaphore_by_priority (get before.semaphores id)
  pub flags : (id : ℕ) → flag_by_priority (get after.flags id) ≡ flag_by_priority (get before.flags id)
  pub queues : (id : ℕ) → sends_by_priority (get after.queues id) ≡ sends_by_priority (get before.queues id)

same_order : (before after : PlainObjects) → SameOrder before after → (r : WaitReason) → is_by_priority after r ≡ is_by_priority before r
same_order before after same (reasons.Semaphore x) = same.semaphores x.0
same_order before after same (reasons.Flag w) = same.flags w.flag.0
same_order before after same (reasons.Send q item) = same.queues q.0
same_order before after same (reasons.Receive q) = refl
same_order before after same reasons.Sleep = refl
same_order before after same reasons.Delay = refl
same_order before after same reasons.Outside = refl

pub objects_agree : (k : PlainKernel) (o : PlainObjects) → SameOrder k.objects o
    → ◌≡◌ {A = PlainParts} (record (parts_of k) { sems = record (semaphores_of k) { semaphores = o.semaphores }; flags = record (flags_of k) { flags = o.flags }; dtqs = record (queues_of k) { queues = o.queues } }) (parts_of (with_objects k o))
objects_agree k o same =
    let l : PlainKernel = with_objects k o in
    same_parts k.clock k.waits k.last_call (tasks_of k) (tasks_of k) (record (semaphores_of k) { semaphores = o.semaphores }) (semaphores_of l) (record (flags_of k) { flags = o.flags }) (flags_of l) (record (queues_of k) { queues = o.queues }) (queues_of l)
    refl
    (ap (λ ws. record (semaphores_of l) { waiters = ws }) (sym (seen is_for_a_semaphore)))
    (ap (λ ws. record (flags_of l) { waiters = ws }) (sym (seen is_for_a_flag)))
    (ap (λ ws. record (queues_of l) { waiters = ws }) (sym (seen is_for_a_queue)))
  where
    seen : (kind : WaitReason → Bool) → waiters_among kind (with_objects k o) k.waits ≡ waiters_among kind k k.waits
    seen kind = same_seen kind k (with_objects k o) k.waits (alike_by_order kind k (with_objects k o) k.waits refl (λ r e. same_order k.objects o same r))

pub joined_poll : (w : Waiter) (tmo : Tmo) (ws : List Waiter) → is_poll tmo ≡ true → joined_by w tmo ws ≡ ws
joined_poll w tmo ws e = rw e refl

pub joined_wait : (w : Waiter) (tmo : Tmo) (ws : List Waiter) → is_poll tmo ≡ false → joined_by w tmo ws ≡ ws ++ w ∷ []
joined_wait w tmo ws e = rw e refl

module _ (k : PlainKernel) (s : IsStanding k) (ctx : Ctx) (number : CallNo) where
  -- ---- semaphores

  pub record SemaphoresAgree (reason : WaitReason) (tmo : Tmo) (done : SemaphoresDone) : Type 0 where
    pub same : parts_done_by_semaphores (parts_of k) ctx done reason tmo number ≡ told (done_by_semaphores k ctx done reason tmo number)

  semaphores_refused : (reason : WaitReason) (tmo : Tmo) (tests : List (Bool × Er)) (done : SemaphoresDone) → SemaphoresAgree reason tmo done → SemaphoresAgree reason tmo (semaphores_refused_or tests (semaphores_of k) done)
  semaphores_refused reason tmo tests done carried = of (first_refusal tests)
    where
      of : (o : Option Er) → SemaphoresAgree reason tmo (unless_semaphores_refused o (semaphores_of k) done)
      of None = carried
      of (Some code) = record { same = refl }

  semaphores_took : (reason : WaitReason) (tmo : Tmo) (semaphores : List (Option SemaphoreBlock)) (bytes : List ℕ)
      → ((id : ℕ) → semaphore_by_priority (get semaphores id) ≡ semaphore_by_priority (get k.objects.semaphores id))
      → SemaphoresAgree reason tmo (took_at_semaphores (record (semaphores_of k) { semaphores = semaphores }) bytes)
  semaphores_took reason tmo semaphores bytes same = record {
    same = ap (λ p. parts_answered_with p E_OK bytes) (objects_agree k (record k.objects { semaphores = semaphores }) (record { semaphores = same; flags = λ id. refl; queues = λ id. refl }));
  }

  semaphores_wait : (x : ObjId) (tmo : Tmo) → (is_poll tmo ≡ false → CanWait k ctx) → let reason = reasons.Semaphore x in
      SemaphoresAgree reason tmo (waiting_at_semaphores (semaphores_of k) (waiter_at_semaphores (semaphores_of k) reason (caller ctx) (priority_in k ctx) k.next_rank) tmo)
  semaphores_wait x tmo can =
      let reason : WaitReason = reasons.Semaphore x in
      let w : Waiter = waiter_at_semaphores (semaphores_of k) reason (caller ctx) (priority_in k ctx) k.next_rank in
      let ws : List Waiter = (semaphores_of k).waiters in
      let sems : PlainSemaphores = record (semaphores_of k) { waiters = joined_by w tmo ws } in
      record {
        same = accepted_agrees k (caller ctx) reason tmo number (record (parts_of k) { sems = sems })
            (λ e. ap (λ vs. record (parts_of k) { sems = record (semaphores_of k) { waiters = vs } }) (joined_poll w tmo ws e))
            (λ e. let may = can e in
            wait_agrees k (caller ctx) may.0 may.1 s reason tmo number (tasks_of k) sems (flags_of k) (queues_of k)
            (held_tasks_is k (caller ctx) may.0 may.1 s _) refl
            (ap (λ vs. record (semaphores_of k) { waiters = vs }) (joined_wait w tmo ws e)) refl refl);
      }

  -- ---- what the calls on semaphores do

  pub signalled_agrees : (x : ObjId) (tmo : Tmo) (tests : List (Bool × Er)) → SemaphoresAgree (reasons.Semaphore x) tmo (semaphores_refused_or tests (semaphores_of k) (signalled (semaphores_of k) x))
  signalled_agrees x tmo tests = semaphores_refused (reasons.Semaphore x) tmo tests (signalled (semaphores_of k) x)
      (semaphores_took (reasons.Semaphore x) tmo (change k.objects.semaphores x.0 one_more) [] (order_kept semaphore_by_priority one_more one_more_ordered k.objects.semaphores x.0))

  pub count_asked_agrees : (x : ObjId) (tmo : Tmo) (tests : List (Bool × Er)) → (is_poll tmo ≡ false → CanWait k ctx)
      → SemaphoresAgree (reasons.Semaphore x) tmo (semaphores_refused_or tests (semaphores_of k) (asked_at_semaphores (semaphores_of k) (reasons.Semaphore x) tmo (caller ctx) (priority_in k ctx) k.next_rank))
  count_asked_agrees x tmo tests can =
      let reason : WaitReason = reasons.Semaphore x in
      semaphores_refused reason tmo tests (asked_at_semaphores (semaphores_of k) reason tmo (caller ctx) (priority_in k ctx) k.next_rank)
      (elim (cases_Bool (is_met_at_semaphores k.objects.semaphores reason)) [
        | inl e ↦ rw e (semaphores_took reason tmo (semaphores_after reason k.objects.semaphores) (bytes_at_semaphores reason) (order_kept semaphore_by_priority one_less one_less_ordered k.objects.semaphores x.0))
        | inr e ↦ rw e (semaphores_wait x tmo can)
      ])

  -- ---- event flags

  pub record FlagsAgree (reason : WaitReason) (tmo : Tmo) (done : FlagsDone) : Type 0 where
    pub same : parts_done_by_flags (parts_of k) ctx done reason tmo number ≡ told (done_by_flags k ctx done reason tmo number)

  flags_refused : (reason : WaitReason) (tmo : Tmo) (tests : List (Bool × Er)) (done : FlagsDone) → FlagsAgree reason tmo done → FlagsAgree reason tmo (flags_refused_or tests (flags_of k) done)
  flags_refused reason tmo tests done carried = of (first_refusal tests)
    where
      of : (o : Option Er) → FlagsAgree reason tmo (unless_flags_refused o (flags_of k) done)
      of None = carried
      of (Some code) = record { same = refl }

  flags_took : (reason : WaitReason) (tmo : Tmo) (flags : List (Option FlagBlock)) (bytes : List ℕ)
      → ((id : ℕ) → flag_by_priority (get flags id) ≡ flag_by_priority (get k.objects.flags id))
      → FlagsAgree reason tmo (took_at_flags (record (flags_of k) { flags = flags }) bytes)
  flags_took reason tmo flags bytes same = record {
    same = ap (λ p. parts_answered_with p E_OK bytes) (objects_agree k (record k.objects { flags = flags }) (record { semaphores = λ id. refl; flags = same; queues = λ id. refl }));
  }

  flags_wait : (x : FlagWait) (tmo : Tmo) → (is_poll tmo ≡ false → CanWait k ctx) → let reason = reasons.Flag x in
      FlagsAgree reason tmo (waiting_at_flags (flags_of k) (waiter_at_flags (flags_of k) reason (caller ctx) (priority_in k ctx) k.next_rank) tmo)
  flags_wait x tmo can =
      let reason : WaitReason = reasons.Flag x in
      let w : Waiter = waiter_at_flags (flags_of k) reason (caller ctx) (priority_in k ctx) k.next_rank in
      let ws : List Waiter = (flags_of k).waiters in
      let flags : PlainFlags = record (flags_of k) { waiters = joined_by w tmo ws } in
      record {
        same = accepted_agrees k (caller ctx) reason tmo number (record (parts_of k) { flags = flags })
            (λ e. ap (λ vs. record (parts_of k) { flags = record (flags_of k) { waiters = vs } }) (joined_poll w tmo ws e))
            (λ e. let may = can e in
            wait_agrees k (caller ctx) may.0 may.1 s reason tmo number (tasks_of k) (semaphores_of k) flags (queues_of k)
            (held_tasks_is k (caller ctx) may.0 may.1 s _) refl
            refl (ap (λ vs. record (flags_of k) { waiters = vs }) (joined_wait w tmo ws e)) refl);
      }

  -- ---- what the calls on event flags do

  pub pattern_changed_agrees : (reason : WaitReason) (tmo : Tmo) (tests : List (Bool × Er)) (x : ObjId) (f : Option FlagBlock → Option FlagBlock)
      → ((o : Option FlagBlock) → flag_by_priority (f o) ≡ flag_by_priority o)
      → FlagsAgree reason tmo (flags_refused_or tests (flags_of k) (took_at_flags (record (flags_of k) { flags = change k.objects.flags x.0 f }) []))
  pattern_changed_agrees reason tmo tests x f ordered = flags_refused reason tmo tests (took_at_flags (record (flags_of k) { flags = change k.objects.flags x.0 f }) [])
      (flags_took reason tmo (change k.objects.flags x.0 f) [] (order_kept flag_by_priority f ordered k.objects.flags x.0))

  pub pattern_asked_agrees : (x : FlagWait) (tmo : Tmo) (tests : List (Bool × Er)) → (is_poll tmo ≡ false → CanWait k ctx)
      → FlagsAgree (reasons.Flag x) tmo (flags_refused_or tests (flags_of k) (asked_at_flags (flags_of k) (reasons.Flag x) tmo (caller ctx) (priority_in k ctx) k.next_rank))
  pattern_asked_agrees x tmo tests can =
      let reason : WaitReason = reasons.Flag x in
      flags_refused reason tmo tests (asked_at_flags (flags_of k) reason tmo (caller ctx) (priority_in k ctx) k.next_rank)
      (elim (cases_Bool (is_met_at_flags k.objects.flags reason)) [
        | inl e ↦ rw e (flags_took reason tmo (flags_after reason k.objects.flags) (bytes_at_flags k.objects.flags reason) (order_kept flag_by_priority released released_ordered k.objects.flags x.flag.0))
        | inr e ↦ rw e (flags_wait x tmo can)
      ])
