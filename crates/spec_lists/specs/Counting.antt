-- How many elements of a list have a number: words of this project's own.
use Rattle.std.specs.Prelude.{ℕ, ◌+◌, Bool, true, false, List, [], ◌∷◌, ◌==◌}

abbrev pub one_if : Bool → ℕ
one_if true = 1
one_if false = 0

-- how many times an element with this number stands in the list
abbrev pub times : {X : Type 0} → (X → ℕ) → ℕ → List X → ℕ
times number n [] = 0
times number n (x ∷ xs) = one_if (number x == n) + times number n xs
