-- The call that the parts of a kernel find, whose wait ends next, is the one that the whole kernel finds.
use Rattle.std.proofs.Common.{◌≡◌, ℕ, ◌≤◌, Bool, true, false, not, ◌&&◌, ◌||◌, List, [], ◌∷◌, Option, Some, None, refl, ap, sym, ◌∙◌, subst, inl, inr, arith}
use Rattle.std.specs.Prelude.{nat_lt}
use Rattle.std.specs.List.{list_any}
use Rattle.std.proofs.Math.Bool.{or-false}
use Rattle.std.proofs.lemmas.Bool.{cases_Bool, and_parts, eq-eqb, eqb-true}
use Rattle.spec_lists.specs.Tables.{get}
use Rattle.spec_lists.specs.First.{put_back, take_first}
use Rattle.spec_lists.specs.Counting.{times}
use Rattle.spec_lists.proofs.Firsts.{at_first, past_first, some_parts}
use Rattle.spec_lists.proofs.Counting.{one_if-same, times-found}
use Rattle.spec_kernel.specs.declared.reason.WaitReason.{WaitReason}
use Rattle.spec_kernel.specs.declared.reason.WaitReason.TheVariants as reasons
use Rattle.spec_kernel.specs.declared.reason.WaitingCall.{WaitingCall}
use Rattle.spec_kernel.specs.declared.waiter.Waiter.{Waiter}
use Rattle.spec_kernel.specs.TaskBlocks.{wakeups_of}
use Rattle.spec_kernel.specs.Waiters.{is_same_queue, next_waiter}
use Rattle.spec_kernel.specs.Waiters.{comes_next as comes_next_there}
use Rattle.spec_kernel.specs.Waiting.{is_met}
use Rattle.spec_kernel.specs.ObjectRows.{told}
use Rattle.spec_kernel.specs.PlainTasks.{is_for_a_wakeup}
use Rattle.spec_kernel.specs.PlainSemaphores.{is_met as is_met_at_semaphores, bytes_of as bytes_at_semaphores, next_freed as next_semaphore_freed}
use Rattle.spec_kernel.specs.PlainFlags.{is_met as is_met_at_flags, bytes_of as bytes_at_flags, next_freed as next_flag_freed}
use Rattle.spec_kernel.specs.PlainQueues.{is_met as is_met_at_queues, bytes_of as bytes_at_queues, next_freed as next_queue_freed}
use Rattle.spec_kernel.specs.PlainKernel.{PlainKernel, task_wait, waiter_of, waits_by_task, is_for_a_semaphore, is_for_a_flag, is_for_a_queue, waiters_for, semaphores_of, flags_of, queues_of}
use Rattle.spec_kernel.specs.Settle.{is_awake, is_ready, urgency_of, comes_next, next_freed}
use Rattle.spec_kernel.specs.Parts.{parts_of}
use Rattle.spec_kernel.specs.Standing.{waiting_number, IsStanding}
use Rattle.laws_kernel.proofs.Lists.{found_passes}
use Rattle.laws_kernel.proofs.Room.{waiting_ids}
use Rattle.k_core.specs.PartsSettle.{is_named, names, next_call}
use Rattle.k_core.proofs.Views.{waiters_among, sees_its_call, waits_found}

-- ---- searches

-- two searches find the same, where what each finds passes the other's test
pub meet : {X : Type 0} (f g : X → Bool) (xs : List X)
    → ((z : X × List X) → take_first f xs ≡ Some z → g z.0 ≡ true)
    → ((z : X × List X) → take_first g xs ≡ Some z → f z.0 ≡ true)
    → take_first f xs ≡ take_first g xs
meet f g [] at_f at_g = refl
meet f g (x ∷ xs) at_f at_g = elim (cases_Bool (f x)) [
  | inl t ↦ at_first f x xs t ∙ sym (at_first g x xs (at_f (x, xs) (at_first f x xs t)))
  | inr t ↦ elim (cases_Bool (g x)) [
    | inl u ↦ absurd (let h : false ≡ true = sym t ∙ at_g (x, xs) (at_first g x xs u) in cc)
    | inr u ↦ past_first f x xs t ∙ ap (put_back x)
        (meet f g xs (λ z e. at_f (z.0, x ∷ z.1) (past_first f x xs t ∙ ap (put_back x) e)) (λ z e. at_g (z.0, x ∷ z.1) (past_first g x xs u ∙ ap (put_back x) e))) ∙ sym (past_first g x xs u)
  ]
]

-- what is found first and passes another test as well is the first that passes both
pub first_of_both : {X : Type 0} (f g : X → Bool) (xs : List X) (z : X × List X) → take_first f xs ≡ Some z → g z.0 ≡ true → take_first (λ x. g x && f x) xs ≡ Some z
first_of_both f g xs z e t = sym (meet f (λ x. g x && f x) xs (λ y h. let same : y ≡ z = is_some (sym h ∙ e) in rw same (rw (t, found_passes f xs z e) refl)) (λ y h. (and_parts (g y.0) (f y.0) (found_passes (λ x. g x && f x) xs y h)).1)) ∙ e
  where
    is_some : {X : Type 0} {x y : X} → Some x ≡ Some y → x ≡ y
    is_some h = cc

-- two searches that find a call of the same task find the same call
pub same_found : (f g : WaitingCall → Bool) (ws : List WaitingCall) (z y : WaitingCall × List WaitingCall) (n : ℕ)
    → z.0.task.0 ≡ n
    → y.0.task.0 ≡ n
    → times waiting_number n ws ≤ 1
    → take_first f ws ≡ Some z
    → take_first g ws ≡ Some y
    → z ≡ y
same_found f g [] z y n its his once e h = absurd cc
same_found f g (w ∷ ws) z y n its his once e h = elim (some_parts f w ws z e) [
  | inl a ↦ elim (some_parts g w ws y h) [
    | inl b ↦ a.1 ∙ sym b.1
    | inr b ↦ absurd (
        let number : b.0.0.task.0 ≡ n = ap (λ (x : WaitingCall × List WaitingCall). x.0.task.0) (sym b.3) ∙ his in
        let own : w.task.0 ≡ n = ap (λ (x : WaitingCall × List WaitingCall). x.0.task.0) (sym a.1) ∙ its in
        omega (arith, once, one_if-same w.task.0 n own, times-found waiting_number n g ws b.0 b.2, one_if-same b.0.0.task.0 n number)
        )
  ]
  | inr a ↦ (
      let number : a.0.0.task.0 ≡ n = ap (λ (x : WaitingCall × List WaitingCall). x.0.task.0) (sym a.3) ∙ its in
      elim (some_parts g w ws y h) [
        | inl b ↦ absurd (
            let own : w.task.0 ≡ n = ap (λ (x : WaitingCall × List WaitingCall). x.0.task.0) (sym b.1) ∙ his in
            omega (arith, once, one_if-same w.task.0 n own, times-found waiting_number n f ws a.0 a.2, one_if-same a.0.0.task.0 n number)
            )
        | inr b ↦ (
            let other : b.0.0.task.0 ≡ n = ap (λ (x : WaitingCall × List WaitingCall). x.0.task.0) (sym b.3) ∙ his in
            let same : a.0 ≡ b.0 = same_found f g ws a.0 b.0 n number other (omega (arith, once)) a.2 b.2 in
            a.3 ∙ ap (λ (x : WaitingCall × List WaitingCall). (x.0, w ∷ x.1)) same ∙ sym b.3
            )
      ]
      )
]

-- ---- one kind of object

-- what a search among the calls of one kind finds, as the objects see it
abbrev pub seen : (WaitReason → Bool) → PlainKernel → Option (WaitingCall × List WaitingCall) → Option (Waiter × List Waiter)
seen kind k None = None
seen kind k (Some z) = Some (waiter_of k z.0, waiters_among kind k z.1)

-- the call of a kind that comes next
abbrev pub first_of_kind : (WaitReason → Bool) → PlainKernel → Option (WaitingCall × List WaitingCall)
first_of_kind kind k = take_first (λ w. kind w.reason && comes_next k w) k.waits

module _ (kind : WaitReason → Bool) (k : PlainKernel) (p : Waiter → Bool) (q : WaitingCall → Bool) (same : (w : WaitingCall) → kind w.reason ≡ true → p (waiter_of k w) ≡ q w) where
  kept_behind : (w : WaitingCall) (o : Option (WaitingCall × List WaitingCall)) → kind w.reason ≡ true → put_back (waiter_of k w) (seen kind k o) ≡ seen kind k (put_back w o)
  kept_behind w None h = refl
  kept_behind w (Some z) h = rw h refl

  dropped : (w : WaitingCall) (o : Option (WaitingCall × List WaitingCall)) → kind w.reason ≡ false → seen kind k o ≡ seen kind k (put_back w o)
  dropped w None h = refl
  dropped w (Some z) h = rw h refl

  found_among : (ws : List WaitingCall) → take_first p (waiters_among kind k ws) ≡ seen kind k (take_first (λ w. kind w.reason && q w) ws)
  found_among [] = refl
  found_among (w ∷ ws) = elim (cases_Bool (kind w.reason)) [
    | inl h ↦ elim (cases_Bool (q w)) [
      | inl t ↦ rw (h, same w h, t) refl
      | inr t ↦ rw (h, same w h, t) (ap (put_back (waiter_of k w)) (found_among ws) ∙ kept_behind w (take_first (λ v. kind v.reason && q v) ws) h)
    ]
    | inr h ↦ rw h (found_among ws ∙ dropped w (take_first (λ v. kind v.reason && q v) ws) h)
  ]

  any_among : ((w : WaitingCall) → kind w.reason ≡ false → q w ≡ false) → (ws : List WaitingCall) → list_any p (waiters_among kind k ws) ≡ list_any q ws
  any_among none [] = refl
  any_among none (w ∷ ws) = elim (cases_Bool (kind w.reason)) [
    | inl h ↦ rw (h, same w h, any_among none ws) refl
    | inr h ↦ rw (h, none w h, any_among none ws) refl
  ]

-- calls of this kind wait at objects of their own, which say what the one table says
pub record IsKind (kind met : WaitReason → Bool) (k : PlainKernel) : Type 0 where
  pub met_alike : (r : WaitReason) → kind r ≡ true → met r ≡ is_met k.objects r
  pub no_sleepers : (w : WaitingCall) → kind w.reason ≡ true → is_awake k w ≡ false
  pub own_queues : (u r : WaitReason) → kind u ≡ false → kind r ≡ true → is_same_queue u r ≡ false

module _ (kind met : WaitReason → Bool) (k : PlainKernel) (is : IsKind kind met k) where
  ready_alike : (w : WaitingCall) → kind w.reason ≡ true → met w.reason ≡ is_ready k w
  ready_alike w h = is.met_alike w.reason h ∙ sym (or-false (is_met k.objects w.reason)) ∙ ap (λ b. is_met k.objects w.reason || b) (sym (is.no_sleepers w h))

  next_alike : (w : WaitingCall) → kind w.reason ≡ true → comes_next_there met (waiters_for kind k) (waiter_of k w) ≡ comes_next k w
  next_alike w h =
      let rivals : list_any (λ (v : Waiter). (met v.reason && is_same_queue v.reason w.reason) && nat_lt v.urgency (urgency_of k w)) (waiters_for kind k) ≡ list_any (λ v. (is_ready k v && is_same_queue v.reason w.reason) && nat_lt (urgency_of k v) (urgency_of k w)) k.waits =
      any_among kind k (λ v. (met v.reason && is_same_queue v.reason w.reason) && nat_lt v.urgency (urgency_of k w)) (λ v. (is_ready k v && is_same_queue v.reason w.reason) && nat_lt (urgency_of k v) (urgency_of k w))
      (λ v t. ap (λ b. (b && is_same_queue v.reason w.reason) && nat_lt (urgency_of k v) (urgency_of k w)) (ready_alike v t))
      (λ v t. ap (λ b. (is_ready k v && b) && nat_lt (urgency_of k v) (urgency_of k w)) (is.own_queues v.reason w.reason t h) ∙ no_rival (is_ready k v) (nat_lt (urgency_of k v) (urgency_of k w))) k.waits in
      ap (λ b. b && not (list_any (λ (v : Waiter). (met v.reason && is_same_queue v.reason w.reason) && nat_lt v.urgency (urgency_of k w)) (waiters_for kind k))) (ready_alike w h) ∙ ap (λ b. is_ready k w && not b) rivals
    where
      no_rival : (a b : Bool) → ((a && false) && b) ≡ false
      no_rival true b = refl
      no_rival false b = refl

  -- the objects find whom the kernel finds among the calls of their kind
  pub found_there : next_waiter met (waiters_for kind k) ≡ seen kind k (first_of_kind kind k)
  found_there = found_among kind k (comes_next_there met (waiters_for kind k)) (comes_next k) next_alike k.waits

pub semaphores_alike : (k : PlainKernel) → IsKind is_for_a_semaphore (is_met_at_semaphores k.objects.semaphores) k
semaphores_alike k = record { met_alike = alike; no_sleepers = λ w h. awake w w.reason refl h; own_queues = apart }
  where
    alike : (r : WaitReason) → is_for_a_semaphore r ≡ true → is_met_at_semaphores k.objects.semaphores r ≡ is_met k.objects r
    alike (reasons.Semaphore x) h = refl
    alike r h = absurd (let f : false ≡ true = h in cc)

    awake : (w : WaitingCall) (r : WaitReason) → w.reason ≡ r → is_for_a_semaphore w.reason ≡ true → is_awake k w ≡ false
    awake w (reasons.Semaphore x) e h = rw e refl
    awake w r e h = absurd (let f : false ≡ true = rw e at h in cc)

    apart : (u r : WaitReason) → is_for_a_semaphore u ≡ false → is_for_a_semaphore r ≡ true → is_same_queue u r ≡ false
    apart (reasons.Semaphore x) r e h = absurd (let f : true ≡ false = e in cc)
    apart u (reasons.Semaphore x) e h = refl
    apart u r e h = absurd (let f : false ≡ true = h in cc)

pub flags_alike : (k : PlainKernel) → IsKind is_for_a_flag (is_met_at_flags k.objects.flags) k
flags_alike k = record { met_alike = alike; no_sleepers = λ w h. awake w w.reason refl h; own_queues = apart }
  where
    alike : (r : WaitReason) → is_for_a_flag r ≡ true → is_met_at_flags k.objects.flags r ≡ is_met k.objects r
    alike (reasons.Flag x) h = refl
    alike r h = absurd (let f : false ≡ true = h in cc)

    awake : (w : WaitingCall) (r : WaitReason) → w.reason ≡ r → is_for_a_flag w.reason ≡ true → is_awake k w ≡ false
    awake w (reasons.Flag x) e h = rw e refl
    awake w r e h = absurd (let f : false ≡ true = rw e at h in cc)

    apart : (u r : WaitReason) → is_for_a_flag u ≡ false → is_for_a_flag r ≡ true → is_same_queue u r ≡ false
    apart (reasons.Flag x) r e h = absurd (let f : true ≡ false = e in cc)
    apart u (reasons.Flag x) e h = refl
    apart u r e h = absurd (let f : false ≡ true = h in cc)

pub queues_alike : (k : PlainKernel) → IsKind is_for_a_queue (is_met_at_queues k.objects.queues) k
queues_alike k = record { met_alike = alike; no_sleepers = λ w h. awake w w.reason refl h; own_queues = apart }
  where
    alike : (r : WaitReason) → is_for_a_queue r ≡ true → is_met_at_queues k.objects.queues r ≡ is_met k.objects r
    alike (reasons.Send x item) h = refl
    alike (reasons.Receive x) h = refl
    alike r h = absurd (let f : false ≡ true = h in cc)

    awake : (w : WaitingCall) (r : WaitReason) → w.reason ≡ r → is_for_a_queue w.reason ≡ true → is_awake k w ≡ false
    awake w (reasons.Send x item) e h = rw e refl
    awake w (reasons.Receive x) e h = rw e refl
    awake w r e h = absurd (let f : false ≡ true = rw e at h in cc)

    apart : (u r : WaitReason) → is_for_a_queue u ≡ false → is_for_a_queue r ≡ true → is_same_queue u r ≡ false
    apart (reasons.Send x item) r e h = absurd (let f : true ≡ false = e in cc)
    apart (reasons.Receive x) r e h = absurd (let f : true ≡ false = e in cc)
    apart u (reasons.Send x item) e h = refl
    apart u (reasons.Receive x) e h = refl
    apart u r e h = absurd (let f : false ≡ true = h in cc)

-- what each kind of object finds
pub semaphores_find : (k : PlainKernel) → next_semaphore_freed (semaphores_of k) ≡ seen is_for_a_semaphore k (first_of_kind is_for_a_semaphore k)
semaphores_find k = found_there is_for_a_semaphore (is_met_at_semaphores k.objects.semaphores) k (semaphores_alike k)

pub flags_find : (k : PlainKernel) → next_flag_freed (flags_of k) ≡ seen is_for_a_flag k (first_of_kind is_for_a_flag k)
flags_find k = found_there is_for_a_flag (is_met_at_flags k.objects.flags) k (flags_alike k)

pub queues_find : (k : PlainKernel) → next_queue_freed (queues_of k) ≡ seen is_for_a_queue k (first_of_kind is_for_a_queue k)
queues_find k = found_there is_for_a_queue (is_met_at_queues k.objects.queues) k (queues_alike k)

-- ---- who ends next

-- nobody waits in the queue of a sleeper
alone : (u : WaitReason) → is_same_queue u reasons.Sleep ≡ false
alone (reasons.Semaphore x) = refl
alone u = refl

never : (f : WaitingCall → Bool) (ws : List WaitingCall) → ((w : WaitingCall) → f w ≡ false) → list_any f ws ≡ false
never f [] none = refl
never f (w ∷ ws) none = rw (none w, never f ws none) refl

-- a sleeper comes next exactly where it has a wake-up
sleeper_next : (k : PlainKernel) (w : WaitingCall) → w.reason ≡ reasons.Sleep → comes_next k w ≡ nat_lt 0 (wakeups_of (get k.tasks w.task.0))
sleeper_next k w e =
    let nobody : list_any (λ (v : WaitingCall). (is_ready k v && is_same_queue v.reason w.reason) && nat_lt (urgency_of k v) (urgency_of k w)) k.waits ≡ false =
    never (λ v. (is_ready k v && is_same_queue v.reason w.reason) && nat_lt (urgency_of k v) (urgency_of k w)) k.waits
    (λ v. ap (λ b. (is_ready k v && b) && nat_lt (urgency_of k v) (urgency_of k w)) (ap (is_same_queue v.reason) e ∙ alone v.reason) ∙ no_rival (is_ready k v) (nat_lt (urgency_of k v) (urgency_of k w))) in
    ap (λ b. is_ready k w && not b) nobody ∙ is_true (is_ready k w) ∙ ready
  where
    no_rival : (a b : Bool) → ((a && false) && b) ≡ false
    no_rival true b = refl
    no_rival false b = refl

    is_true : (b : Bool) → (b && true) ≡ b
    is_true true = refl
    is_true false = refl

    ready : is_ready k w ≡ nat_lt 0 (wakeups_of (get k.tasks w.task.0))
    ready = rw e refl

module _ (k : PlainKernel) (s : IsStanding k) where
  -- what a task sees of its call that was found
  pub sees_found : (f : WaitingCall → Bool) (z : WaitingCall × List WaitingCall) → take_first f k.waits ≡ Some z → get (waits_by_task k.waits) z.0.task.0 ≡ Some (task_wait z.0.reason)
  sees_found f z e =
      sees_its_call k.waits z.0.task.0 (waiting_ids k s z.0.task.0 (omega (arith, times-found waiting_number z.0.task.0 f k.waits z e, one_if-same z.0.task.0 z.0.task.0 refl))).1
      ∙ waits_found f k.waits z.0 z.1 e s.once

  -- a sleeper is named exactly where it comes next
  sleeper_alike : (f : WaitingCall → Bool) (z : WaitingCall × List WaitingCall) → take_first f k.waits ≡ Some z → z.0.reason ≡ reasons.Sleep → is_named (parts_of k) z.0 ≡ comes_next k z.0
  sleeper_alike f z e r =
      let asleep : is_for_a_wakeup (get (waits_by_task k.waits) z.0.task.0) ≡ true = ap is_for_a_wakeup (sees_found f z e ∙ ap (λ u. Some (task_wait u)) r) in
      named ∙ ap (λ b. b && nat_lt 0 (wakeups_of (get k.tasks z.0.task.0))) asleep ∙ sym (sleeper_next k z.0 r)
    where
      named : is_named (parts_of k) z.0 ≡ (is_for_a_wakeup (get (waits_by_task k.waits) z.0.task.0) && nat_lt 0 (wakeups_of (get k.tasks z.0.task.0)))
      named = rw r refl

  module _ (kind : WaitReason → Bool) (bytes : WaitReason → List ℕ) where
    -- the call that comes next is named where its objects find the first of their kind
    next_named : (z : WaitingCall × List WaitingCall) → next_freed k ≡ Some z → kind z.0.reason ≡ true → names z.0.task (told bytes (seen kind k (first_of_kind kind k))) ≡ true
    next_named z e h = rw (first_of_both (comes_next k) (λ w. kind w.reason) k.waits z e h) (eq-eqb z.0.task.0 z.0.task.0 refl)

    -- and the one that is named comes next
    named_next : (f : WaitingCall → Bool) (y : WaitingCall × List WaitingCall) → take_first f k.waits ≡ Some y → names y.0.task (told bytes (seen kind k (first_of_kind kind k))) ≡ true → comes_next k y.0 ≡ true
    named_next f y e h = of (first_of_kind kind k) refl h
      where
        of : (o : Option (WaitingCall × List WaitingCall)) → first_of_kind kind k ≡ o → names y.0.task (told bytes (seen kind k o)) ≡ true → comes_next k y.0 ≡ true
        of None first h = absurd (let f : false ≡ true = h in cc)
        of (Some z) first h =
            let same : z ≡ y = same_found (λ w. kind w.reason && comes_next k w) f k.waits z y y.0.task.0 (eqb-true z.0.task.0 y.0.task.0 h) refl (s.once y.0.task.0) first e in
            subst (λ (x : WaitingCall × List WaitingCall). comes_next k x.0 ≡ true) same (and_parts (kind z.0.reason) (comes_next k z.0) (found_passes (λ w. kind w.reason && comes_next k w) k.waits z first)).1

  -- the parts name a call that comes next
  comes_named : (z : WaitingCall × List WaitingCall) → next_freed k ≡ Some z → is_named (parts_of k) z.0 ≡ true
  comes_named z e = of z.0.reason refl
    where
      never_ready : (z : WaitingCall × List WaitingCall) → next_freed k ≡ Some z → is_ready k z.0 ≡ false → ⊥
      never_ready z e fails = let t = (and_parts (is_ready k z.0) _ (found_passes (comes_next k) k.waits z e)).0 in let f : false ≡ true = sym fails ∙ t in cc

      of : (r : WaitReason) → z.0.reason ≡ r → is_named (parts_of k) z.0 ≡ true
      of (reasons.Semaphore x) r = rw r (ap (λ o. names z.0.task (told bytes_at_semaphores o)) (semaphores_find k) ∙ next_named is_for_a_semaphore bytes_at_semaphores z e (ap is_for_a_semaphore r))
      of (reasons.Flag x) r = rw r (ap (λ o. names z.0.task (told (bytes_at_flags k.objects.flags) o)) (flags_find k) ∙ next_named is_for_a_flag (bytes_at_flags k.objects.flags) z e (ap is_for_a_flag r))
      of (reasons.Send x item) r = rw r (ap (λ o. names z.0.task (told (bytes_at_queues k.objects.queues) o)) (queues_find k) ∙ next_named is_for_a_queue (bytes_at_queues k.objects.queues) z e (ap is_for_a_queue r))
      of (reasons.Receive x) r = rw r (ap (λ o. names z.0.task (told (bytes_at_queues k.objects.queues) o)) (queues_find k) ∙ next_named is_for_a_queue (bytes_at_queues k.objects.queues) z e (ap is_for_a_queue r))
      of reasons.Sleep r = sleeper_alike (comes_next k) z e r ∙ found_passes (comes_next k) k.waits z e
      of reasons.Delay r = absurd (never_ready z e (rw r refl))
      of reasons.Outside r = absurd (never_ready z e (rw r refl))

  -- and one that they name comes next
  named_comes : (y : WaitingCall × List WaitingCall) → next_call (parts_of k) ≡ Some y → comes_next k y.0 ≡ true
  named_comes y e = of y.0.reason refl (found_passes (is_named (parts_of k)) k.waits y e)
    where
      of : (r : WaitReason) → y.0.reason ≡ r → is_named (parts_of k) y.0 ≡ true → comes_next k y.0 ≡ true
      of (reasons.Semaphore x) r h = named_next is_for_a_semaphore bytes_at_semaphores (is_named (parts_of k)) y e
          (ap (λ o. names y.0.task (told bytes_at_semaphores o)) (sym (semaphores_find k)) ∙ rw r at h)
      of (reasons.Flag x) r h = named_next is_for_a_flag (bytes_at_flags k.objects.flags) (is_named (parts_of k)) y e
          (ap (λ o. names y.0.task (told (bytes_at_flags k.objects.flags) o)) (sym (flags_find k)) ∙ rw r at h)
      of (reasons.Send x item) r h = named_next is_for_a_queue (bytes_at_queues k.objects.queues) (is_named (parts_of k)) y e
          (ap (λ o. names y.0.task (told (bytes_at_queues k.objects.queues) o)) (sym (queues_find k)) ∙ rw r at h)
      of (reasons.Receive x) r h = named_next is_for_a_queue (bytes_at_queues k.objects.queues) (is_named (parts_of k)) y e
          (ap (λ o. names y.0.task (told (bytes_at_queues k.objects.queues) o)) (sym (queues_find k)) ∙ rw r at h)
      of reasons.Sleep r h = sym (sleeper_alike (is_named (parts_of k)) y e r) ∙ h
      of reasons.Delay r h = absurd (let f : false ≡ true = rw r at h in cc)
      of reasons.Outside r h = absurd (let f : false ≡ true = rw r at h in cc)

  -- the same call ends next
  pub next_agrees : next_call (parts_of k) ≡ next_freed k
  next_agrees = meet (is_named (parts_of k)) (comes_next k) k.waits named_comes comes_named
