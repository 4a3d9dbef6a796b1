-- Nobody is freed next exactly where nobody is met who waits.
use Rattle.std.proofs.Common.{◌≡◌, Bool, true, false, not, ◌&&◌, ltb, List, [], ◌∷◌, None, refl, sym, ◌∙◌, inl, inr}
use Rattle.std.specs.List.{list_any}
use Rattle.std.proofs.Math.Bool.{and-false}
use Rattle.std.proofs.lemmas.Bool.{cases_Bool, and_parts, eq-eqb}
use Rattle.spec_lists.specs.First.{take_first}
use Rattle.spec_lists.proofs.Firsts.{none_any, none_from_parts, none_weaker}
use Rattle.spec_kernel.specs.declared.reason.WaitReason.{WaitReason}
use Rattle.spec_kernel.specs.declared.reason.WaitReason.TheVariants as reasons
use Rattle.spec_kernel.specs.declared.waiter.Waiter.{Waiter}
use Rattle.spec_kernel.specs.Waiters.{is_same_queue, is_in, comes_next, next_waiter}
use Rattle.spec_kernel.proofs.NextWaiter.{nobody_met}

-- one that passes, which passes in the list whatever it passes
record IsThere (f : Waiter → Bool) (ws : List Waiter) : Type 0 where
  who : Waiter
  passes : f who ≡ true
  there : (g : Waiter → Bool) → g who ≡ true → list_any g ws ≡ true

one_there : (f : Waiter → Bool) (ws : List Waiter) → list_any f ws ≡ true → IsThere f ws
one_there f [] e = absurd (let h : false ≡ true = e in cc)
one_there f (w ∷ ws) e = elim (cases_Bool (f w)) [
  | inl t ↦ record { who = w; passes = t; there = λ g h. rw h refl }
  | inr t ↦ (let found = one_there f ws (rw t at e) in record { who = found.who; passes = found.passes; there = λ g h. later g w ws (found.there g h) })
]
  where
    later : (g : Waiter → Bool) (w : Waiter) (ws : List Waiter) → list_any g ws ≡ true → list_any g (w ∷ ws) ≡ true
    later g w ws h = elim (cases_Bool (g w)) [
      | inl t ↦ rw t refl
      | inr t ↦ rw (t, h) refl
    ]

none_of : (f : Waiter → Bool) (ws : List Waiter) → list_any f ws ≡ false → take_first f ws ≡ None
none_of f [] e = refl
none_of f (w ∷ ws) e = elim (cases_Bool (f w)) [
  | inl t ↦ absurd (let h : true ≡ false = rw t at e in cc)
  | inr t ↦ none_from_parts f w ws t (none_of f ws (rw t at e))
]

-- where another waits in its queue it waits in a queue itself
own_queue : (a b : WaitReason) → is_same_queue a b ≡ true → is_same_queue b b ≡ true
own_queue (reasons.Semaphore a) (reasons.Semaphore b) e = eq-eqb b.0 b.0 refl
own_queue (reasons.Flag a) (reasons.Flag b) e = eq-eqb b.flag.0 b.flag.0 refl
own_queue (reasons.Send a x) (reasons.Send b y) e = eq-eqb b.0 b.0 refl
own_queue (reasons.Receive a) (reasons.Receive b) e = eq-eqb b.0 b.0 refl
own_queue a b e = absurd (let f : false ≡ true = e in cc)

never_any : (ws : List Waiter) (f : Waiter → Bool) → ((w : Waiter) → f w ≡ false) → list_any f ws ≡ false
never_any [] f none = refl
never_any (w ∷ ws) f none = rw (none w, never_any ws f none) refl

module _ (is_met : WaitReason → Bool) (ws : List Waiter) where
  met : Waiter → Bool
  met w = is_met w.reason

  -- one that waits in a queue is in its own
  nobody_of : (w : Waiter) → next_waiter is_met ws ≡ None → met w ≡ true → ((g : Waiter → Bool) → g w ≡ true → list_any g ws ≡ true) → true ≡ false
  unfolding met
  nobody_of w none e there = elim (cases_Bool (is_in w.reason w)) [
    | inl inside ↦ sym (there (λ v. is_met v.reason && is_in w.reason v) (rw (e, inside) refl)) ∙ nobody_met is_met ws w.reason none
    | inr nowhere ↦ sym (there (comes_next is_met ws) (rw (e, never_any ws (λ (v : Waiter). (is_met v.reason && is_in w.reason v) && ltb v.urgency w.urgency) (λ v. no_rival v nowhere)) refl)) ∙ none_any (comes_next is_met ws) ws none
  ]
    where
      no_rival : (v : Waiter) → is_in w.reason w ≡ false → ((is_met v.reason && is_in w.reason v) && ltb v.urgency w.urgency) ≡ false
      no_rival v nowhere = elim (cases_Bool (is_same_queue v.reason w.reason)) [
        | inl same ↦ absurd (let f : true ≡ false = sym (own_queue v.reason w.reason same) ∙ nowhere in cc)
        | inr other ↦ rw (other, and-false (is_met v.reason)) refl
      ]

  pub none_met : next_waiter is_met ws ≡ None → list_any (λ w. is_met w.reason) ws ≡ false
  unfolding met
  none_met none = elim (cases_Bool (list_any (λ (w : Waiter). is_met w.reason) ws)) [
    | inl some ↦ (let found = one_there met ws some in absurd (let f : true ≡ false = nobody_of found.who none found.passes found.there in cc))
    | inr nobody ↦ nobody
  ]

  pub none_next : list_any (λ w. is_met w.reason) ws ≡ false → next_waiter is_met ws ≡ None
  none_next nobody =
      none_weaker (comes_next is_met ws) (λ w. is_met w.reason) ws (λ w e. (and_parts (is_met w.reason) (not (list_any (λ v. (is_met v.reason && is_in w.reason v) && ltb v.urgency w.urgency) ws)) e).0)
      (none_of (λ w. is_met w.reason) ws nobody)
