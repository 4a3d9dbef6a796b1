-- Among finitely many elements that pass a test, one has the least number.
use Rattle.std.proofs.Common.{◌≡◌, ℕ, zero, suc, ◌+◌, ◌≤◌, Bool, true, false, not, ◌&&◌, ◌||◌, ltb, List, [], ◌∷◌, None, refl, ap, sym, ◌∙◌, inl, inr, arith}
use Rattle.std.proofs.lemmas.Bool.{and_parts, ltb-true, lt-ltb, cases_lt, or_right}
use Rattle.std.specs.List.{list_any}
use Rattle.spec_lists.specs.First.{take_first}
use Rattle.spec_lists.proofs.Firsts.{none_any, none_from_parts, none_parts, none_weaker, or_first}

-- passes, and no element that passes has a lower number
abbrev pub is_least : {X : Type 0} → (X → Bool) → (X → ℕ) → List X → X → Bool
is_least f key all x = f x && not (list_any (λ v. f v && ltb (key v) (key x)) all)

-- passes, and its number is below a limit
abbrev pub is_below : {X : Type 0} → (X → Bool) → (X → ℕ) → ℕ → X → Bool
is_below f key n x = f x && ltb (key x) n

-- where no element that passes has a number below n, one with the number n is the least
least_at : {X : Type 0} (f : X → Bool) (key : X → ℕ) (all : List X) (n : ℕ) (x : X)
    → list_any (is_below f key n) all ≡ false
    → (f x ≡ true) × (ltb (key x) (suc n) ≡ true)
    → (is_least f key all x || is_below f key n x) ≡ true
least_at f key all n x none p = elim (cases_lt (key x) n) [
  | inl lt ↦ or_right (is_least f key all x) (is_below f key n x) (rw (p.0, lt-ltb (key x) n lt) refl)
  | inr le ↦
      let same : key x ≡ n = omega (arith, ltb-true (key x) (suc n) p.1) in
      rw (p.0, ap (λ m. list_any (λ v. f v && ltb (key v) m) all) same, none) refl
]

none_below : {X : Type 0} (f : X → Bool) (key : X → ℕ) (all : List X) → take_first (is_least f key all) all ≡ None → (n : ℕ) → take_first (is_below f key n) all ≡ None
none_below f key all none zero = none_weaker (is_below f key 0) (is_least f key all) all (λ x e. let p = and_parts (f x) (ltb (key x) 0) e in absurd (omega (arith, ltb-true (key x) 0 p.1))) none
none_below f key all none (suc n) =
    let fewer = none_below f key all none n in
    none_weaker (is_below f key (suc n)) (λ x. is_least f key all x || is_below f key n x) all (λ x e. least_at f key all n x (none_any (is_below f key n) all fewer) (and_parts (f x) (ltb (key x) (suc n)) e))
    (or_first (is_least f key all) (is_below f key n) all fewer ∙ none)

-- a number above those of all elements
above : {X : Type 0} → (X → ℕ) → List X → ℕ
above key [] = 0
above key (x ∷ xs) = key x + 1 + above key xs

none_above : {X : Type 0} (f : X → Bool) (key : X → ℕ) (n : ℕ) (xs : List X) → above key xs ≤ n → take_first (is_below f key n) xs ≡ None → take_first f xs ≡ None
unfolding above
none_above f key n [] le none = refl
none_above f key n (x ∷ xs) le none =
    let parts = none_parts (is_below f key n) x xs none in
    none_from_parts f x xs (fails (f x) (ltb (key x) n) (lt-ltb (key x) n (omega arith)) parts.0) (none_above f key n xs (omega arith) parts.1)
  where
    fails : (a b : Bool) → b ≡ true → (a && b) ≡ false → a ≡ false
    fails true b e h = absurd (let s : true ≡ false = sym e ∙ h in cc)
    fails false b e h = refl

-- where none of a list is the least of those that pass, none passes
pub none_least : {X : Type 0} (f : X → Bool) (key : X → ℕ) (all : List X) → take_first (is_least f key all) all ≡ None → take_first f all ≡ None
none_least f key all none = none_above f key (above key all) all (omega arith) (none_below f key all none (above key all))

-- where none passes, none is the least
pub none_passes : {X : Type 0} (f : X → Bool) (key : X → ℕ) (all : List X) → take_first f all ≡ None → take_first (is_least f key all) all ≡ None
none_passes f key all none = none_weaker (is_least f key all) f all (λ x e. (and_parts (f x) (not (list_any (λ v. f v && ltb (key v) (key x)) all)) e).0) none
