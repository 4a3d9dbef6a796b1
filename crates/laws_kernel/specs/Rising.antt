-- Numbers that rise along a list: words of this project's own.
use Rattle.std.specs.Prelude.{ℕ, ◌<◌, List, [], ◌∷◌}

-- each number is above n
abbrev pub AllAbove : {X : Type 0} → (X → ℕ) → ℕ → List X → Type 0
AllAbove number n [] = Unit {0}
AllAbove number n (x ∷ xs) = (n < number x) × AllAbove number n xs

-- each is below n
abbrev pub AllBelow : {X : Type 0} → (X → ℕ) → ℕ → List X → Type 0
AllBelow number n [] = Unit {0}
AllBelow number n (x ∷ xs) = (number x < n) × AllBelow number n xs

-- each is below those of all that come later
abbrev pub Rises : {X : Type 0} → (X → ℕ) → List X → Type 0
Rises number [] = Unit {0}
Rises number (x ∷ xs) = AllAbove number (number x) xs × Rises number xs
