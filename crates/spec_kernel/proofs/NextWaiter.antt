-- Nobody is freed next exactly where nobody is met who waits at an object.
use Rattle.std.proofs.Common.{◌≡◌, ℕ, Bool, true, false, not, ◌&&◌, ltb, eqb, List, [], ◌∷◌, None, refl, ap, inl, inr}
use Rattle.std.proofs.lemmas.Bool.{cases_Bool, and_parts, eqb-true}
use Rattle.std.specs.List.{list_any}
use Rattle.spec_lists.specs.First.{take_first}
use Rattle.spec_lists.proofs.Firsts.{none_any, none_from_parts, none_weaker}
use Rattle.it_types.specs.declared.id.ObjId.{ObjId}
use Rattle.spec_kernel.specs.declared.reason.FlagWait.{FlagWait}
use Rattle.spec_kernel.specs.declared.reason.WaitReason.{WaitReason}
use Rattle.spec_kernel.specs.declared.reason.WaitReason.TheVariants as reasons
use Rattle.spec_kernel.specs.declared.waiter.Waiter.{Waiter}
use Rattle.spec_kernel.specs.Waiters.{is_same_queue, is_in, comes_next, next_waiter, urgency}
use Rattle.spec_kernel.proofs.Least.{is_least, none_least}

-- ---- queues

at_semaphore : (u : WaitReason) (a b : ObjId) → a.0 ≡ b.0 → is_same_queue u (reasons.Semaphore a) ≡ is_same_queue u (reasons.Semaphore b)
at_semaphore (reasons.Semaphore u) a b e = ap (eqb u.0) e
at_semaphore u a b e = refl

at_flag : (u : WaitReason) (a b : FlagWait) → a.flag.0 ≡ b.flag.0 → is_same_queue u (reasons.Flag a) ≡ is_same_queue u (reasons.Flag b)
at_flag (reasons.Flag u) a b e = ap (eqb u.flag.0) e
at_flag u a b e = refl

at_room : (u : WaitReason) (a b : ObjId) (x y : ℕ) → a.0 ≡ b.0 → is_same_queue u (reasons.Send a x) ≡ is_same_queue u (reasons.Send b y)
at_room (reasons.Send u z) a b x y e = ap (eqb u.0) e
at_room u a b x y e = refl

at_item : (u : WaitReason) (a b : ObjId) → a.0 ≡ b.0 → is_same_queue u (reasons.Receive a) ≡ is_same_queue u (reasons.Receive b)
at_item (reasons.Receive u) a b e = ap (eqb u.0) e
at_item u a b e = refl

-- two that wait in one queue wait there with the same others
pub same_queue : (u a b : WaitReason) → is_same_queue a b ≡ true → is_same_queue u a ≡ is_same_queue u b
same_queue u (reasons.Semaphore a) (reasons.Semaphore b) e = at_semaphore u a b (eqb-true a.0 b.0 e)
same_queue u (reasons.Flag a) (reasons.Flag b) e = at_flag u a b (eqb-true a.flag.0 b.flag.0 e)
same_queue u (reasons.Send a x) (reasons.Send b y) e = at_room u a b x y (eqb-true a.0 b.0 e)
same_queue u (reasons.Receive a) (reasons.Receive b) e = at_item u a b (eqb-true a.0 b.0 e)
same_queue u a b e = absurd (let f : false ≡ true = e in cc)

-- tests that agree
pub same_any : {X : Type 0} (f g : X → Bool) (xs : List X) → ((x : X) → f x ≡ g x) → list_any f xs ≡ list_any g xs
same_any f g [] same = refl
same_any f g (x ∷ xs) same = rw (same x, same_any f g xs same) refl

-- ---- the search

module _ (is_met : WaitReason → Bool) (ws : List Waiter) (reason : WaitReason) where
  -- it is met, and waits in the queue
  abbrev pub is_met_in : Waiter → Bool
  is_met_in w = is_met w.reason && is_in reason w

  least_next : (w : Waiter) → is_least is_met_in urgency ws w ≡ true → comes_next is_met ws w ≡ true
  least_next w e =
      let found = and_parts (is_met_in w) (not (list_any (λ v. is_met_in v && ltb v.urgency w.urgency) ws)) e in
      let parts = and_parts (is_met w.reason) (is_in reason w) found.0 in
      let same : list_any (λ (v : Waiter). (is_met v.reason && is_in w.reason v) && ltb v.urgency w.urgency) ws ≡ list_any (λ v. is_met_in v && ltb v.urgency w.urgency) ws =
      same_any _ _ ws (λ v. rw (same_queue v.reason w.reason reason parts.1) refl) in
      rw (parts.0, same, found.1) refl

  pub nobody_met : next_waiter is_met ws ≡ None → list_any is_met_in ws ≡ false
  nobody_met none = none_any is_met_in ws (none_least is_met_in urgency ws (none_weaker (is_least is_met_in urgency ws) (comes_next is_met ws) ws least_next none))

nobody_found : {X : Type 0} (f : X → Bool) (xs : List X) → list_any f xs ≡ false → take_first f xs ≡ None
nobody_found f [] e = refl
nobody_found f (x ∷ xs) e = elim (cases_Bool (f x)) [
  | inl t ↦ absurd (let h : true ≡ false = rw t at e in cc)
  | inr t ↦ none_from_parts f x xs t (nobody_found f xs (rw t at e))
]

-- and where nobody is met, nobody is freed
pub nobody_next : (is_met : WaitReason → Bool) (ws : List Waiter) → list_any (λ w. is_met w.reason) ws ≡ false → next_waiter is_met ws ≡ None
nobody_next is_met ws none =
    none_weaker (comes_next is_met ws) (λ w. is_met w.reason) ws (λ w e. (and_parts (is_met w.reason) (not (list_any (λ v. (is_met v.reason && is_in w.reason v) && ltb v.urgency w.urgency) ws)) e).0)
    (nobody_found (λ w. is_met w.reason) ws none)
