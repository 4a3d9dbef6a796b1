-- The laws of the first of a list that passes a test: that it passes, and that one passes exactly where one is found.
use Rattle.std.proofs.Common.{◌≡◌, Bool, true, List, [], ◌∷◌, Option, Some, None, is_some, refl, inl, inr}
use Rattle.std.specs.List.{list_any}
use Rattle.std.proofs.lemmas.Bool.{cases_Bool}
use Rattle.spec_lists.specs.First.{put_back, take_first}
use Rattle.spec_lists.proofs.Firsts.{some_parts}

-- what is found passes
pub found_passes : {X : Type 0} (f : X → Bool) (xs : List X) (z : X × List X) → take_first f xs ≡ Some z → f z.0 ≡ true
found_passes f [] z e = cc
found_passes f (x ∷ xs) z e = elim (some_parts f x xs z e) [
  | inl s ↦ rw s.1 s.0
  | inr s ↦ rw s.3 (found_passes f xs s.0 s.2)
]

put_back-is_some : {X : Type 0} (x : X) (o : Option (X × List X)) → is_some o ≡ is_some (put_back x o)
put_back-is_some x None = refl
put_back-is_some x (Some z) = refl

-- one passes exactly where one is found
pub any_found : {X : Type 0} (f : X → Bool) (xs : List X) → list_any f xs ≡ is_some (take_first f xs)
any_found f [] = refl
any_found f (x ∷ xs) = elim (cases_Bool (f x)) [
  | inl t ↦ rw t refl
  | inr t ↦ rw (t, any_found f xs) (put_back-is_some x (take_first f xs))
]
