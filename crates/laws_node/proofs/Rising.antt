-- Numbers that rise along a list: with one more at its end, and with one taken out.
use Rattle.std.proofs.Common.{◌≡◌, ℕ, ◌<◌, ◌≤◌, Bool, List, [], ◌∷◌, ◌++◌, Some, inl, inr, arith}
use Rattle.spec_lists.specs.First.{take_first}
use Rattle.spec_lists.proofs.Firsts.{some_parts}

-- each number of the list is above n
abbrev pub AllAbove : {X : Type 0} → (X → ℕ) → ℕ → List X → Type 0
AllAbove key n [] = Unit {0}
AllAbove key n (x ∷ xs) = (n < key x) × AllAbove key n xs

-- each is below n
abbrev pub AllBelow : {X : Type 0} → (X → ℕ) → ℕ → List X → Type 0
AllBelow key n [] = Unit {0}
AllBelow key n (x ∷ xs) = (key x < n) × AllBelow key n xs

-- the numbers rise along the list
abbrev pub Rises : {X : Type 0} → (X → ℕ) → List X → Type 0
Rises key [] = Unit {0}
Rises key (x ∷ xs) = AllAbove key (key x) xs × Rises key xs

-- ---- at the end

above_end : {X : Type 0} (key : X → ℕ) (n : ℕ) (xs : List X) (x : X) → AllAbove key n xs → n < key x → AllAbove key n (xs ++ x ∷ [])
above_end key n [] x h lt = (lt, tt)
above_end key n (y ∷ ys) x h lt = (h.0, above_end key n ys x h.1 lt)

pub below_end : {X : Type 0} (key : X → ℕ) (n : ℕ) (xs : List X) (x : X) → AllBelow key n xs → key x < n → AllBelow key n (xs ++ x ∷ [])
below_end key n [] x h lt = (lt, tt)
below_end key n (y ∷ ys) x h lt = (h.0, below_end key n ys x h.1 lt)

-- a number above all others is a place at the end
pub rises_end : {X : Type 0} (key : X → ℕ) (xs : List X) (x : X) → Rises key xs → AllBelow key (key x) xs → Rises key (xs ++ x ∷ [])
rises_end key [] x h low = (tt, tt)
rises_end key (y ∷ ys) x h low = (above_end key (key y) ys x h.0 low.0, rises_end key ys x h.1 low.1)

pub below_more : {X : Type 0} (key : X → ℕ) (m n : ℕ) (xs : List X) → m ≤ n → AllBelow key m xs → AllBelow key n xs
below_more key m n [] le h = tt
below_more key m n (x ∷ xs) le h = (omega (arith, h.0), below_more key m n xs le h.1)

-- ---- taken out

above_found : {X : Type 0} (key : X → ℕ) (n : ℕ) (f : X → Bool) (xs : List X) (z : X × List X) → take_first f xs ≡ Some z → AllAbove key n xs → AllAbove key n z.1
above_found key n f [] z e h = cc
above_found key n f (x ∷ xs) z e h = elim (some_parts f x xs z e) [
  | inl s ↦ rw s.1 h.1
  | inr s ↦ rw s.3 (h.0, above_found key n f xs s.0 s.2 h.1)
]

pub below_found : {X : Type 0} (key : X → ℕ) (n : ℕ) (f : X → Bool) (xs : List X) (z : X × List X) → take_first f xs ≡ Some z → AllBelow key n xs → AllBelow key n z.1
below_found key n f [] z e h = cc
below_found key n f (x ∷ xs) z e h = elim (some_parts f x xs z e) [
  | inl s ↦ rw s.1 h.1
  | inr s ↦ rw s.3 (h.0, below_found key n f xs s.0 s.2 h.1)
]

-- without the one that was found they rise still
pub rises_found : {X : Type 0} (key : X → ℕ) (f : X → Bool) (xs : List X) (z : X × List X) → take_first f xs ≡ Some z → Rises key xs → Rises key z.1
rises_found key f [] z e h = cc
rises_found key f (x ∷ xs) z e h = elim (some_parts f x xs z e) [
  | inl s ↦ rw s.1 h.1
  | inr s ↦ rw s.3 (above_found key (key x) f xs s.0 s.2 h.0, rises_found key f xs s.0 s.2 h.1)
]
