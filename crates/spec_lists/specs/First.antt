-- The first of a list that passes a test, and the least of those that do: words of this project's own.
use Rattle.std.specs.Prelude.{ℕ, Bool, not, ◌&&◌, List, [], ◌∷◌, Option, Some, None, nat_lt, if◌then◌else◌}
use Rattle.std.specs.List.{list_any}

abbrev pub put_back : {X : Type 0} → X → Option (X × List X) → Option (X × List X)
put_back x None = None
put_back x (Some found) = Some (found.0, x ∷ found.1)

-- the first element that passes, and the others in their order
abbrev pub take_first : {X : Type 0} → (X → Bool) → List X → Option (X × List X)
take_first passes [] = None
take_first passes (x ∷ xs) = if passes x then Some (x, xs) else put_back x (take_first passes xs)

-- it passes, and no element that passes has a lower number
abbrev pub is_least : {X : Type 0} → (X → Bool) → (X → ℕ) → List X → X → Bool
is_least passes number all x = passes x && not (list_any (λ v. passes v && nat_lt (number v) (number x)) all)

-- of the elements that pass the first one of the least number, and the others in their order
abbrev pub take_least : {X : Type 0} → (X → Bool) → (X → ℕ) → List X → Option (X × List X)
take_least passes number xs = take_first (is_least passes number xs) xs
