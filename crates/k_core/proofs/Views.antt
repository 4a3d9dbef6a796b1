-- What the parts of a kernel see of the calls that wait, after one more call and after one fewer.
use Rattle.std.proofs.Common.{◌≡◌, ◌≢◌, ℕ, zero, suc, ◌+◌, ◌<◌, ◌≤◌, Bool, true, false, map, List, [], ◌∷◌, ◌++◌, Option, Some, None, refl, ap, sym, ◌∙◌, subst, inl, inr, arith}
use Rattle.std.specs.Prelude.{filter, slice_set}
use Rattle.std.proofs.lemmas.Bool.{cases_Bool, cases_eq, eq-eqb, ne_eqb}
use Rattle.it_types.specs.declared.id.TaskId.{TaskId}
use Rattle.spec_lists.specs.Tables.{get}
use Rattle.spec_lists.specs.First.{put_back, take_first}
use Rattle.spec_lists.specs.Counting.{times}
use Rattle.spec_lists.proofs.Firsts.{at_first, past_first, some_parts}
use Rattle.spec_lists.proofs.Counting.{one_if-same, times-found}
use Rattle.spec_kernel.specs.declared.reason.WaitReason.{WaitReason}
use Rattle.spec_kernel.specs.declared.reason.WaitingCall.{WaitingCall}
use Rattle.spec_kernel.specs.declared.waiter.Waiter.{Waiter}
use Rattle.spec_kernel.specs.Waiters.{is_task, left_by, the_others}
use Rattle.spec_kernel.specs.PlainKernel.{PlainKernel, is_of, task_wait, task_wait_of, waits_at, waits_by_task, all_places, waiter_of}
use Rattle.spec_kernel.specs.Standing.{waiting_number}

-- a task waits with one call at most
abbrev pub AreOnce : List WaitingCall → Type 0
AreOnce ws = (id : ℕ) → times waiting_number id ws ≤ 1

-- the calls of one kind among these, as the objects of a kernel see them
abbrev pub waiters_among : (WaitReason → Bool) → PlainKernel → List WaitingCall → List Waiter
waiters_among kind k ws = map (waiter_of k) (filter (λ w. kind w.reason) ws)

-- ---- what the objects see

module _ (kind : WaitReason → Bool) (k : PlainKernel) where
  -- one more call of the kind
  pub waiters_joined : (ws : List WaitingCall) (w : WaitingCall) → kind w.reason ≡ true → waiters_among kind k (ws ++ w ∷ []) ≡ waiters_among kind k ws ++ waiter_of k w ∷ []
  waiters_joined [] w e = rw e refl
  waiters_joined (v ∷ ws) w e = elim (cases_Bool (kind v.reason)) [
    | inl t ↦ rw t (ap (λ vs. waiter_of k v ∷ vs) (waiters_joined ws w e))
    | inr t ↦ rw t (waiters_joined ws w e)
  ]

  -- one more call of another kind
  pub waiters_as_before : (ws : List WaitingCall) (w : WaitingCall) → kind w.reason ≡ false → waiters_among kind k (ws ++ w ∷ []) ≡ waiters_among kind k ws
  waiters_as_before [] w e = rw e refl
  waiters_as_before (v ∷ ws) w e = elim (cases_Bool (kind v.reason)) [
    | inl t ↦ rw t (ap (λ vs. waiter_of k v ∷ vs) (waiters_as_before ws w e))
    | inr t ↦ rw t (waiters_as_before ws w e)
  ]

  -- a task that doesn't wait is found at no object
  pub nobody_found : (ws : List WaitingCall) (t : TaskId) → times waiting_number t.0 ws ≡ 0 → take_first (is_task t) (waiters_among kind k ws) ≡ None
  nobody_found [] t none = refl
  nobody_found (v ∷ ws) t none = elim (cases_eq v.task.0 t.0) [
    | inl same ↦ absurd (omega (arith, none, one_if-same v.task.0 t.0 same))
    | inr other ↦ (
        let rest = nobody_found ws t (omega (arith, none)) in
        elim (cases_Bool (kind v.reason)) [
          | inl e ↦ rw e (past_first (is_task t) (waiter_of k v) (waiters_among kind k ws) (ne_eqb v.task.0 t.0 other) ∙ ap (put_back (waiter_of k v)) rest)
          | inr e ↦ rw e rest
        ]
        )
  ]

  pub stays_away : (ws : List WaitingCall) (t : TaskId) → times waiting_number t.0 ws ≡ 0 → left_by t (waiters_among kind k ws) ≡ waiters_among kind k ws
  stays_away ws t none = rw (nobody_found ws t none) refl

  behind_one : (t : TaskId) (v : Waiter) (vs : List Waiter) → is_task t v ≡ false → left_by t (v ∷ vs) ≡ v ∷ left_by t vs
  behind_one t v vs e = rw e (of (take_first (is_task t) vs))
    where
      of : (o : Option (Waiter × List Waiter)) → the_others (v ∷ vs) (put_back v o) ≡ v ∷ the_others vs o
      of None = refl
      of (Some z) = refl

  leaves : (t : TaskId) (f : WaitingCall → Bool) (ws : List WaitingCall) (z : WaitingCall × List WaitingCall)
      → take_first f ws ≡ Some z
      → z.0.task ≡ t
      → times waiting_number t.0 ws ≤ 1
      → waiters_among kind k z.1 ≡ left_by t (waiters_among kind k ws)
  leaves t f [] z e its once = absurd cc
  leaves t f (v ∷ ws) z e its once = elim (some_parts f v ws z e) [
    | inl s ↦ (
        let first : v.task ≡ t = ap (λ (y : WaitingCall × List WaitingCall). y.0.task) (sym s.1) ∙ its in
        let number : v.task.0 ≡ t.0 = ap (λ (u : TaskId). u.0) first in
        let none : times waiting_number t.0 ws ≡ 0 = omega (arith, once, one_if-same v.task.0 t.0 number) in
        rw s.1 (elim (cases_Bool (kind v.reason)) [
          | inl h ↦ rw h (sym (ap (the_others (waiter_of k v ∷ waiters_among kind k ws)) (at_first (is_task t) (waiter_of k v) (waiters_among kind k ws) (eq-eqb v.task.0 t.0 number))))
          | inr h ↦ rw h (sym (stays_away ws t none))
        ])
        )
    | inr s ↦ (
        let who : s.0.0.task ≡ t = ap (λ (y : WaitingCall × List WaitingCall). y.0.task) (sym s.3) ∙ its in
        elim (cases_eq v.task.0 t.0) [
          | inl same ↦ absurd (omega (arith, once, one_if-same v.task.0 t.0 same, is_counted f ws s.0 s.2 t who))
          | inr other ↦ (
              let rest = leaves t f ws s.0 s.2 who (omega (arith, once)) in
              rw s.3 (elim (cases_Bool (kind v.reason)) [
                | inl h ↦ rw h (ap (λ vs. waiter_of k v ∷ vs) rest ∙ sym (behind_one t (waiter_of k v) (waiters_among kind k ws) (ne_eqb v.task.0 t.0 other)))
                | inr h ↦ rw h rest
              ])
              )
        ]
        )
  ]
    where
      is_counted : (f : WaitingCall → Bool) (ws : List WaitingCall) (y : WaitingCall × List WaitingCall) → take_first f ws ≡ Some y → (t : TaskId) → y.0.task ≡ t → 1 ≤ times waiting_number t.0 ws
      is_counted f ws y e t who = omega (arith, times-found waiting_number t.0 f ws y e, one_if-same y.0.task.0 t.0 (ap (λ (u : TaskId). u.0) who))

  -- a call that was found is out: its task has left the objects of each kind
  pub waiters_left : (f : WaitingCall → Bool) (ws : List WaitingCall) (w : WaitingCall) (others : List WaitingCall)
      → take_first f ws ≡ Some (w, others)
      → AreOnce ws
      → waiters_among kind k others ≡ left_by w.task (waiters_among kind k ws)
  waiters_left f ws w others e once = leaves w.task f ws (w, others) e refl (once w.task.0)

-- ---- what the tasks see

-- so many places from one on
places : ℕ → ℕ → List ℕ
places zero first = []
places (suc n) first = first ∷ places n (suc first)

module _ {X : Type 0} where
  place_at : (g : ℕ → Option X) (n first i : ℕ) → i < n → get (map g (places n first)) i ≡ g (first + i)
  unfolding places
  place_at g zero first i lt = absurd (omega (arith, lt))
  place_at g (suc n) first zero lt = ap g (omega arith)
  place_at g (suc n) first (suc i) lt = place_at g n (suc first) i (omega (arith, lt)) ∙ ap g (omega arith)

  same_places : (g h : ℕ → Option X) (n first : ℕ) → ((j : ℕ) → first ≤ j → g j ≡ h j) → map g (places n first) ≡ map h (places n first)
  unfolding places
  same_places g h zero first same = refl
  same_places g h (suc n) first same = rw (same first (omega arith), same_places g h n (suc first) (λ j le. same j (omega (arith, le)))) refl

  one_place : (g h : ℕ → Option X) (x : Option X) (n first i : ℕ)
      → g (first + i) ≡ x
      → ((j : ℕ) → j ≢ first + i → g j ≡ h j)
      → map g (places n first) ≡ slice_set (map h (places n first)) i x
  unfolding places
  one_place g h x zero first i is other = refl
  one_place g h x (suc n) first zero is other =
      ap (λ y. y ∷ map g (places n (suc first))) (ap g (omega arith) ∙ is) ∙ ap (λ ys. x ∷ ys) (same_places g h n (suc first) (λ j le. other j (λ e. omega (arith, le, e))))
  one_place g h x (suc n) first (suc i) is other =
      ap (λ y. y ∷ map g (places n (suc first))) (other first (λ e. omega (arith, e))) ∙ ap (λ ys. h first ∷ ys) (one_place g h x n (suc first) i (ap g (omega arith) ∙ is) (λ j ne. other j (λ e. ne (omega (arith, e)))))

all_of_them : all_places ≡ places 17 0
unfolding places
all_of_them = refl

-- a task of the table sees its own call
pub sees_its_call : (ws : List WaitingCall) (id : ℕ) → id ≤ 16 → get (waits_by_task ws) id ≡ waits_at ws id
sees_its_call ws id le = ap (λ ps. get (map (waits_at ws) ps) id) all_of_them ∙ place_at (waits_at ws) 17 0 id (omega (arith, le)) ∙ ap (waits_at ws) (omega arith)

none_at : (id : ℕ) (ws : List WaitingCall) → times waiting_number id ws ≡ 0 → take_first (is_of id) ws ≡ None
none_at id [] none = refl
none_at id (w ∷ ws) none = elim (cases_eq w.task.0 id) [
  | inl same ↦ absurd (omega (arith, none, one_if-same w.task.0 id same))
  | inr other ↦ past_first (is_of id) w ws (ne_eqb w.task.0 id other) ∙ ap (put_back w) (none_at id ws (omega (arith, none)))
]

-- a task without a call waits for nothing
pub waits_for_nothing : (id : ℕ) (ws : List WaitingCall) → times waiting_number id ws ≡ 0 → waits_at ws id ≡ None
waits_for_nothing id ws none = ap task_wait_of (none_at id ws none)

put_back_alike : (w : WaitingCall) (o : Option (WaitingCall × List WaitingCall)) → task_wait_of (put_back w o) ≡ task_wait_of o
put_back_alike w None = refl
put_back_alike w (Some z) = refl

-- what the others see is the same without a call
past_other : (id : ℕ) (w : WaitingCall) (ws : List WaitingCall) → id ≢ w.task.0 → waits_at (w ∷ ws) id ≡ waits_at ws id
past_other id w ws ne = ap task_wait_of (past_first (is_of id) w ws (ne_eqb w.task.0 id (λ e. ne (sym e)))) ∙ put_back_alike w (take_first (is_of id) ws)

at_own : (id : ℕ) (w : WaitingCall) (ws : List WaitingCall) → w.task.0 ≡ id → waits_at (w ∷ ws) id ≡ Some (task_wait w.reason)
at_own id w ws e = ap task_wait_of (at_first (is_of id) w ws (eq-eqb w.task.0 id e))

joined_at : (ws : List WaitingCall) (w : WaitingCall) → times waiting_number w.task.0 ws ≡ 0 → waits_at (ws ++ w ∷ []) w.task.0 ≡ Some (task_wait w.reason)
joined_at [] w none = at_own w.task.0 w [] refl
joined_at (v ∷ ws) w none = elim (cases_eq w.task.0 v.task.0) [
  | inl same ↦ absurd (omega (arith, none, one_if-same v.task.0 w.task.0 (sym same)))
  | inr other ↦ past_other w.task.0 v (ws ++ w ∷ []) other ∙ joined_at ws w (omega (arith, none))
]

joined_elsewhere : (ws : List WaitingCall) (w : WaitingCall) (id : ℕ) → id ≢ w.task.0 → waits_at (ws ++ w ∷ []) id ≡ waits_at ws id
joined_elsewhere [] w id ne = past_other id w [] ne
joined_elsewhere (v ∷ ws) w id ne = elim (cases_eq id v.task.0) [
  | inl same ↦ at_own id v (ws ++ w ∷ []) (sym same) ∙ sym (at_own id v ws (sym same))
  | inr other ↦ past_other id v (ws ++ w ∷ []) other ∙ joined_elsewhere ws w id ne ∙ sym (past_other id v ws other)
]

-- one more call of a task that waited for nothing
pub waits_joined : (ws : List WaitingCall) (w : WaitingCall) → times waiting_number w.task.0 ws ≡ 0 → waits_by_task (ws ++ w ∷ []) ≡ slice_set (waits_by_task ws) w.task.0 (Some (task_wait w.reason))
waits_joined ws w none =
    subst (λ ps. map (waits_at (ws ++ w ∷ [])) ps ≡ slice_set (map (waits_at ws) ps) w.task.0 (Some (task_wait w.reason))) (sym all_of_them)
    (one_place (waits_at (ws ++ w ∷ [])) (waits_at ws) (Some (task_wait w.reason)) 17 0 w.task.0
    (ap (waits_at (ws ++ w ∷ [])) (omega arith) ∙ joined_at ws w none) (λ j ne. joined_elsewhere ws w j (λ e. ne (omega (arith, e)))))

found_elsewhere : (f : WaitingCall → Bool) (ws : List WaitingCall) (z : WaitingCall × List WaitingCall) → take_first f ws ≡ Some z → (id : ℕ) → id ≢ z.0.task.0 → waits_at z.1 id ≡ waits_at ws id
found_elsewhere f [] z e id ne = absurd cc
found_elsewhere f (v ∷ ws) z e id ne = elim (some_parts f v ws z e) [
  | inl s ↦ ap (λ (y : WaitingCall × List WaitingCall). waits_at y.1 id) s.1 ∙ sym (past_other id v ws (λ same. ne (same ∙ ap (λ (y : WaitingCall × List WaitingCall). y.0.task.0) (sym s.1))))
  | inr s ↦ (
      let rest : waits_at s.0.1 id ≡ waits_at ws id = found_elsewhere f ws s.0 s.2 id (λ same. ne (same ∙ ap (λ (y : WaitingCall × List WaitingCall). y.0.task.0) (sym s.3))) in
      let here : waits_at z.1 id ≡ waits_at (v ∷ s.0.1) id = ap (λ (y : WaitingCall × List WaitingCall). waits_at y.1 id) s.3 in
      elim (cases_eq id v.task.0) [
        | inl same ↦ here ∙ at_own id v s.0.1 (sym same) ∙ sym (at_own id v ws (sym same))
        | inr other ↦ here ∙ past_other id v s.0.1 other ∙ rest ∙ sym (past_other id v ws other)
      ]
      )
]

-- a call that was found is out
pub waits_left : (f : WaitingCall → Bool) (ws : List WaitingCall) (w : WaitingCall) (others : List WaitingCall)
    → take_first f ws ≡ Some (w, others)
    → AreOnce ws
    → waits_by_task others ≡ slice_set (waits_by_task ws) w.task.0 None
waits_left f ws w others e once =
    subst (λ ps. map (waits_at others) ps ≡ slice_set (map (waits_at ws) ps) w.task.0 None) (sym all_of_them)
    (one_place (waits_at others) (waits_at ws) None 17 0 w.task.0
    (ap (waits_at others) (omega arith) ∙ waits_for_nothing w.task.0 others none) (λ j ne. found_elsewhere f ws (w, others) e j (λ same. ne (omega (arith, same)))))
  where
    none : times waiting_number w.task.0 others ≡ 0
    none = omega (arith, once w.task.0, times-found waiting_number w.task.0 f ws (w, others) e, one_if-same w.task.0 w.task.0 refl)

-- what the task waits for whose call was found
pub waits_found : (f : WaitingCall → Bool) (ws : List WaitingCall) (w : WaitingCall) (others : List WaitingCall)
    → take_first f ws ≡ Some (w, others)
    → AreOnce ws
    → waits_at ws w.task.0 ≡ Some (task_wait w.reason)
waits_found f ws w others e once = of f ws (w, others) e (once w.task.0)
  where
    of : (f : WaitingCall → Bool) (ws : List WaitingCall) (z : WaitingCall × List WaitingCall) → take_first f ws ≡ Some z → times waiting_number z.0.task.0 ws ≤ 1 → waits_at ws z.0.task.0 ≡ Some (task_wait z.0.reason)
    of f [] z e once = absurd cc
    of f (v ∷ ws) z e once = elim (some_parts f v ws z e) [
      | inl s ↦ subst (λ (y : WaitingCall × List WaitingCall). waits_at (v ∷ ws) y.0.task.0 ≡ Some (task_wait y.0.reason)) (sym s.1) (at_own v.task.0 v ws refl)
      | inr s ↦ (
          let who : z.0 ≡ s.0.0 = ap (λ (y : WaitingCall × List WaitingCall). y.0) s.3 in
          let number : z.0.task.0 ≡ s.0.0.task.0 = ap (λ (u : WaitingCall). u.task.0) who in
          let there : 1 ≤ times waiting_number z.0.task.0 ws = omega (arith, times-found waiting_number z.0.task.0 f ws s.0 s.2, one_if-same s.0.0.task.0 z.0.task.0 (sym number)) in
          let fewer : times waiting_number s.0.0.task.0 ws ≤ 1 = subst (λ n. times waiting_number n ws ≤ 1) number (omega (arith, once)) in
          elim (cases_eq z.0.task.0 v.task.0) [
            | inl same ↦ absurd (omega (arith, once, there, one_if-same v.task.0 z.0.task.0 (sym same)))
            | inr other ↦ past_other z.0.task.0 v ws other ∙ ap (waits_at ws) number ∙ of f ws s.0 s.2 fewer ∙ ap (λ (u : WaitingCall). Some (task_wait u.reason)) (sym who)
          ]
          )
    ]
