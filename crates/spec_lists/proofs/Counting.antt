-- The laws of how many elements of a list have a number.
use Rattle.std.proofs.Common.{◌≡◌, ◌≢◌, ℕ, ◌+◌, ◌<◌, ◌≤◌, Bool, true, false, not, eqb, map, length, List, [], ◌∷◌, ◌++◌, Some, refl, sym, ap, ◌∙◌, inl, inr, arith}
use Rattle.std.specs.Prelude.{◌==◌, filter}
use Rattle.std.specs.List.{AllByRecursion, IsDistinct, list_any}
use Rattle.std.proofs.lemmas.Bool.{cases_Bool, cases_eq, eq-eqb, eqb-true, ne_eqb}
use Rattle.std.proofs.lemmas.Map.Steps.{length-le_from_distinct_below}
use Rattle.spec_lists.specs.Counting.{one_if, times}
use Rattle.spec_lists.specs.First.{take_first}
use Rattle.spec_lists.proofs.Firsts.{some_parts}

pub one_if-at_most : (b : Bool) → one_if b ≤ 1
one_if-at_most true = omega arith
one_if-at_most false = omega arith

pub one_if-same : (m n : ℕ) → m ≡ n → one_if (m == n) ≡ 1
one_if-same m n e = ap one_if (eq-eqb m n e)

pub one_if-other : (m n : ℕ) → m ≢ n → one_if (m == n) ≡ 0
one_if-other m n ne = ap one_if (ne_eqb m n ne)

module _ {X : Type 0} (number : X → ℕ) where
  -- one more at the end
  pub times-end : (n : ℕ) (xs : List X) (x : X) → times number n (xs ++ x ∷ []) ≡ times number n xs + one_if (number x == n)
  times-end n [] x = omega arith
  times-end n (y ∷ ys) x = rw (times-end n ys x) (omega arith)

  -- one that was found is one fewer
  pub times-found : (n : ℕ) (f : X → Bool) (xs : List X) (z : X × List X) → take_first f xs ≡ Some z → times number n xs ≡ times number n z.1 + one_if (number z.0 == n)
  times-found n f [] z e = cc
  times-found n f (x ∷ xs) z e = elim (some_parts f x xs z e) [
    | inl s ↦ rw s.1 (omega arith)
    | inr s ↦ rw s.3 (omega (arith, times-found n f xs s.0 s.2))
  ]

  -- without those of a number none is left
  pub times-without_same : (n : ℕ) (xs : List X) → times number n (filter (λ x. not (number x == n)) xs) ≡ 0
  times-without_same n [] = refl
  times-without_same n (x ∷ xs) = elim (cases_Bool (number x == n)) [
    | inl e ↦ rw e (times-without_same n xs)
    | inr e ↦ rw e (rw e (omega (arith, times-without_same n xs)))
  ]

  -- and the others stay
  pub times-without_other : (m n : ℕ) (xs : List X) → n ≢ m → times number n (filter (λ x. not (number x == m)) xs) ≡ times number n xs
  times-without_other m n [] ne = refl
  times-without_other m n (x ∷ xs) ne = elim (cases_Bool (number x == m)) [
    | inl e ↦ (let other : (number x == n) ≡ false = ne_eqb (number x) n (λ same. ne (sym same ∙ eqb-true (number x) m e)) in rw (e, other) (omega (arith, times-without_other m n xs ne)))
    | inr e ↦ rw (e, times-without_other m n xs ne) refl
  ]

  numbers : List X → List ℕ
  numbers xs = map number xs

  length-numbers : (xs : List X) → length (numbers xs) ≡ length xs
  unfolding numbers
  length-numbers [] = refl
  length-numbers (x ∷ xs) = omega (arith, length-numbers xs)

  -- a number that no element has differs from all
  all_differ : (n : ℕ) (xs : List X) → times number n xs ≡ 0 → AllByRecursion (λ y. eqb n y ≡ false) (numbers xs)
  unfolding numbers
  all_differ n [] e = tt
  all_differ n (x ∷ xs) e = elim (cases_eq n (number x)) [
    | inl same ↦ absurd (omega (arith, e, one_if-same (number x) n (sym same)))
    | inr other ↦ (ne_eqb n (number x) other, all_differ n xs (omega (arith, e)))
  ]

  distinct : (xs : List X) → ((n : ℕ) → times number n xs ≤ 1) → IsDistinct eqb (numbers xs)
  unfolding numbers IsDistinct
  distinct [] once = tt
  distinct (x ∷ xs) once = (
    all_differ (number x) xs (omega (arith, once (number x), one_if-same (number x) (number x) refl)),
    distinct xs (λ n. omega (arith, once n)),
  )

  is_counted : (n : ℕ) (xs : List X) → list_any (eqb n) (numbers xs) ≡ true → 1 ≤ times number n xs
  unfolding numbers
  is_counted n [] e = absurd cc
  is_counted n (x ∷ xs) e = elim (cases_eq n (number x)) [
    | inl same ↦ omega (arith, one_if-same (number x) n (sym same))
    | inr other ↦ (let h : list_any (eqb n) (numbers xs) ≡ true = rw (ne_eqb n (number x) other) at e in omega (arith, is_counted n xs h))
  ]

  -- elements with numbers from 1 to a greatest one, none of them twice, and a number that none of them has: there is room for it
  pub room : (xs : List X) (greatest new : ℕ)
      → ((n : ℕ) → times number n xs ≤ 1)
      → ((n : ℕ) → 1 ≤ times number n xs → (1 ≤ n) × (n ≤ greatest))
      → times number new xs ≡ 0
      → 1 ≤ new
      → new ≤ greatest
      → length xs + 1 ≤ greatest
  unfolding IsDistinct
  room xs greatest new once within absent low high =
      let nobody : times number 0 xs ≡ 0 = nothing (times number 0 xs) (λ le. omega (arith, (within 0 le).0)) in
      let all : IsDistinct eqb (0 ∷ new ∷ numbers xs) = ((ne_eqb 0 new (λ e. omega (arith, low, e)), all_differ 0 xs nobody), (all_differ new xs absent, distinct xs once)) in
      let below : (q : ℕ) → list_any (eqb q) (0 ∷ new ∷ numbers xs) ≡ true → q < greatest + 1 = λ q e. is_below q e in
      omega (arith, length-le_from_distinct_below (0 ∷ new ∷ numbers xs) (greatest + 1) all below, length-numbers xs)
    where
      nothing : (n : ℕ) → (1 ≤ n → ⊥) → n ≡ 0
      nothing n h = elim (cases_eq n 0) [
        | inl e ↦ e
        | inr e ↦ absurd (h (omega (arith, e)))
      ]

      is_below : (q : ℕ) → list_any (eqb q) (0 ∷ new ∷ numbers xs) ≡ true → q < greatest + 1
      is_below q e = elim (cases_eq q 0) [
        | inl zero_is ↦ omega (arith, zero_is)
        | inr a ↦ elim (cases_eq q new) [
          | inl same ↦ omega (arith, same, high)
          | inr b ↦ (let h : list_any (eqb q) (numbers xs) ≡ true = rw (ne_eqb q 0 a, ne_eqb q new b) at e in omega (arith, (within q (is_counted q xs h)).1))
        ]
      ]
