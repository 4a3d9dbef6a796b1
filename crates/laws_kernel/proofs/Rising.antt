-- Numbers that rise along a list: the first that passes a test has the least number of those that pass.
use Rattle.std.proofs.Common.{◌≡◌, ℕ, ◌<◌, ◌≤◌, Bool, true, false, ◌&&◌, ◌||◌, List, [], ◌∷◌, ◌++◌, Some, refl, ◌∙◌, ap, subst, inl, inr, arith}
use Rattle.std.specs.Prelude.{nat_lt, filter}
use Rattle.std.specs.List.{list_any}
use Rattle.std.proofs.lemmas.Bool.{cases_Bool, le-ltb}
use Rattle.spec_lists.specs.First.{take_first, put_back, is_least, take_least}
use Rattle.spec_lists.proofs.Firsts.{same_first, some_parts}
use Rattle.laws_kernel.specs.Rising.{AllAbove, AllBelow, Rises}

-- two numberings agree on the list
abbrev pub AgreeOn : {X : Type 0} → (X → ℕ) → (X → ℕ) → List X → Type 0
AgreeOn key other [] = Unit {0}
AgreeOn key other (x ∷ xs) = (key x ≡ other x) × AgreeOn key other xs

-- ---- at the end

above_end : {X : Type 0} (key : X → ℕ) (n : ℕ) (xs : List X) (x : X) → AllAbove key n xs → n < key x → AllAbove key n (xs ++ x ∷ [])
above_end key n [] x h lt = (lt, tt)
above_end key n (y ∷ ys) x h lt = (h.0, above_end key n ys x h.1 lt)

pub below_end : {X : Type 0} (key : X → ℕ) (n : ℕ) (xs : List X) (x : X) → AllBelow key n xs → key x < n → AllBelow key n (xs ++ x ∷ [])
below_end key n [] x h lt = (lt, tt)
below_end key n (y ∷ ys) x h lt = (h.0, below_end key n ys x h.1 lt)

-- a number above all others is a place at the end
pub rises_end : {X : Type 0} (key : X → ℕ) (xs : List X) (x : X) → Rises key xs → AllBelow key (key x) xs → Rises key (xs ++ x ∷ [])
rises_end key [] x h low = (tt, tt)
rises_end key (y ∷ ys) x h low = (above_end key (key y) ys x h.0 low.0, rises_end key ys x h.1 low.1)

pub below_more : {X : Type 0} (key : X → ℕ) (m n : ℕ) (xs : List X) → m ≤ n → AllBelow key m xs → AllBelow key n xs
below_more key m n [] le h = tt
below_more key m n (x ∷ xs) le h = (omega (arith, h.0), below_more key m n xs le h.1)

-- ---- taken out

above_found : {X : Type 0} (key : X → ℕ) (n : ℕ) (f : X → Bool) (xs : List X) (z : X × List X) → take_first f xs ≡ Some z → AllAbove key n xs → AllAbove key n z.1
above_found key n f [] z e h = cc
above_found key n f (x ∷ xs) z e h = elim (some_parts f x xs z e) [
  | inl s ↦ rw s.1 h.1
  | inr s ↦ rw s.3 (h.0, above_found key n f xs s.0 s.2 h.1)
]

pub below_found : {X : Type 0} (key : X → ℕ) (n : ℕ) (f : X → Bool) (xs : List X) (z : X × List X) → take_first f xs ≡ Some z → AllBelow key n xs → AllBelow key n z.1
below_found key n f [] z e h = cc
below_found key n f (x ∷ xs) z e h = elim (some_parts f x xs z e) [
  | inl s ↦ rw s.1 h.1
  | inr s ↦ rw s.3 (h.0, below_found key n f xs s.0 s.2 h.1)
]

-- without the one that was found they rise still
pub rises_found : {X : Type 0} (key : X → ℕ) (f : X → Bool) (xs : List X) (z : X × List X) → take_first f xs ≡ Some z → Rises key xs → Rises key z.1
rises_found key f [] z e h = cc
rises_found key f (x ∷ xs) z e h = elim (some_parts f x xs z e) [
  | inl s ↦ rw s.1 h.1
  | inr s ↦ rw s.3 (above_found key (key x) f xs s.0 s.2 h.0, rises_found key f xs s.0 s.2 h.1)
]

above_filter : {X : Type 0} (key : X → ℕ) (n : ℕ) (f : X → Bool) (xs : List X) → AllAbove key n xs → AllAbove key n (filter f xs)
above_filter key n f [] h = tt
above_filter key n f (x ∷ xs) h = elim (cases_Bool (f x)) [
  | inl t ↦ rw t (h.0, above_filter key n f xs h.1)
  | inr t ↦ rw t (above_filter key n f xs h.1)
]

pub below_filter : {X : Type 0} (key : X → ℕ) (n : ℕ) (f : X → Bool) (xs : List X) → AllBelow key n xs → AllBelow key n (filter f xs)
below_filter key n f [] h = tt
below_filter key n f (x ∷ xs) h = elim (cases_Bool (f x)) [
  | inl t ↦ rw t (h.0, below_filter key n f xs h.1)
  | inr t ↦ rw t (below_filter key n f xs h.1)
]

pub rises_filter : {X : Type 0} (key : X → ℕ) (f : X → Bool) (xs : List X) → Rises key xs → Rises key (filter f xs)
rises_filter key f [] h = tt
rises_filter key f (x ∷ xs) h = elim (cases_Bool (f x)) [
  | inl t ↦ rw t (above_filter key (key x) f xs h.0, rises_filter key f xs h.1)
  | inr t ↦ rw t (rises_filter key f xs h.1)
]

-- ---- numberings that agree

above_agree : {X : Type 0} (key other : X → ℕ) (n : ℕ) (xs : List X) → AgreeOn key other xs → AllAbove key n xs → AllAbove other n xs
above_agree key other n [] same h = tt
above_agree key other n (x ∷ xs) same h = (omega (arith, same.0, h.0), above_agree key other n xs same.1 h.1)

pub below_agree : {X : Type 0} (key other : X → ℕ) (n : ℕ) (xs : List X) → AgreeOn key other xs → AllBelow key n xs → AllBelow other n xs
below_agree key other n [] same h = tt
below_agree key other n (x ∷ xs) same h = (omega (arith, same.0, h.0), below_agree key other n xs same.1 h.1)

pub rises_agree : {X : Type 0} (key other : X → ℕ) (xs : List X) → AgreeOn key other xs → Rises key xs → Rises other xs
rises_agree key other [] same h = tt
rises_agree key other (x ∷ xs) same h = (subst (λ n. AllAbove other n xs) same.0 (above_agree key other (key x) xs same.1 h.0), rises_agree key other xs same.1 h.1)

-- ---- the first has the least number

none_lower : {X : Type 0} (f : X → Bool) (key : X → ℕ) (n : ℕ) (xs : List X) → AllAbove key n xs → list_any (λ v. f v && nat_lt (key v) n) xs ≡ false
none_lower f key n [] h = refl
none_lower f key n (x ∷ xs) h = rw (le-ltb (key x) n (omega (arith, h.0)), none_lower f key n xs h.1) (no_lower (f x))
  where
    no_lower : (b : Bool) → (b && false) || false ≡ false
    no_lower true = refl
    no_lower false = refl

pub first_is_least : {X : Type 0} (f : X → Bool) (key : X → ℕ) (xs : List X) → Rises key xs → take_least f key xs ≡ take_first f xs
first_is_least f key [] h = refl
first_is_least f key (x ∷ xs) h = elim (cases_Bool (f x)) [
  | inl t ↦ rw (t, le-ltb (key x) (key x) (omega arith), none_lower f key (key x) xs h.0) refl
  | inr t ↦ rw t (ap (put_back x) (same_first (is_least f key (x ∷ xs)) (is_least f key xs) xs (λ y. rw t refl) ∙ first_is_least f key xs h.1))
]
