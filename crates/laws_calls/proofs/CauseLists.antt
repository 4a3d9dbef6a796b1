-- Elements of a list, how many of them pass a test, and those that are left where one is taken out.
use Rattle.std.proofs.Common.{◌≡◌, ◌≤◌, ◌⊎◌, Bool, true, List, [], ◌∷◌, Some, refl, sym, ap, ◌∙◌, subst, inl, inr, arith}
use Rattle.std.proofs.lemmas.Bool.{cases_Bool}
use Rattle.spec_lists.specs.First.{take_first}
use Rattle.spec_lists.specs.Counting.{one_if}
use Rattle.spec_lists.proofs.Firsts.{some_parts}
use Rattle.laws_node.specs.Agreement.{times}

abbrev pub IsAmong : {X : Type 0} → X → List X → Type 0
IsAmong y [] = ⊥
IsAmong y (x ∷ xs) = (y ≡ x) ⊎ IsAmong y xs

-- the one that was found
pub found_among : {X : Type 0} (f : X → Bool) (xs : List X) (z : X × List X) → take_first f xs ≡ Some z → IsAmong z.0 xs
found_among f [] z e = absurd cc
found_among f (x ∷ xs) z e = elim (some_parts f x xs z e) [
  | inl s ↦ inl (ap (λ (q : _ × List _). q.0) s.1)
  | inr s ↦ inr (subst (λ y. IsAmong y xs) (sym (ap (λ (q : _ × List _). q.0) s.3)) (found_among f xs s.0 s.2))
]

-- and the others
pub others_among : {X : Type 0} (f : X → Bool) (xs : List X) (z : X × List X) (y : X) → take_first f xs ≡ Some z → IsAmong y z.1 → IsAmong y xs
others_among {X = X} f [] z y e m = absurd cc
others_among {X = X} f (x ∷ xs) z y e m = elim (some_parts f x xs z e) [
  | inl s ↦ inr (subst (IsAmong y) (ap (λ (q : _ × List _). q.1) s.1) m)
  | inr s ↦ of s.0 (others_among f xs s.0 y s.2) (subst (IsAmong y) (ap (λ (q : _ × List _). q.1) s.3) m)
]
  where
    of : (w : X × List X) → (IsAmong y w.1 → IsAmong y xs) → IsAmong y (x ∷ w.1) → IsAmong y (x ∷ xs)
    of w later (inl here) = inl here
    of w later (inr there) = inr (later there)

-- one at least passes where this one does
pub one_at_least : {X : Type 0} (p : X → Bool) (xs : List X) (y : X) → IsAmong y xs → p y ≡ true → 1 ≤ times p xs
one_at_least p [] y m e = absurd m
one_at_least p (x ∷ xs) y (inl here) e = let one : one_if (p x) ≡ 1 = ap one_if (ap p (sym here) ∙ e) in omega (arith, one)
one_at_least p (x ∷ xs) y (inr there) e = omega (arith, one_at_least p xs y there e)

-- where one at least passes there is one that does
pub some_passes : {X : Type 0} (p : X → Bool) (xs : List X) → 1 ≤ times p xs → (y : X) × IsAmong y xs × (p y ≡ true)
some_passes p [] le = absurd (omega (arith, le))
some_passes p (x ∷ xs) le = elim (cases_Bool (p x)) [
  | inl t ↦ (x, inl refl, t)
  | inr t ↦ (let rest = some_passes p xs (omega (arith, le, ap one_if t)) in (rest.0, inr rest.1, rest.2))
]

-- where one at most passes, two that do are the same
pub the_same : {X : Type 0} (p : X → Bool) (xs : List X) (y z : X) → times p xs ≤ 1 → IsAmong y xs → IsAmong z xs → p y ≡ true → p z ≡ true → y ≡ z
the_same p [] y z le m n a b = absurd m
the_same p (x ∷ xs) y z le (inl m) (inl n) a b = m ∙ sym n
the_same p (x ∷ xs) y z le (inl m) (inr n) a b = absurd (let one : one_if (p x) ≡ 1 = ap one_if (ap p (sym m) ∙ a) in omega (arith, le, one, one_at_least p xs z n b))
the_same p (x ∷ xs) y z le (inr m) (inl n) a b = absurd (let one : one_if (p x) ≡ 1 = ap one_if (ap p (sym n) ∙ b) in omega (arith, le, one, one_at_least p xs y m a))
the_same p (x ∷ xs) y z le (inr m) (inr n) a b = the_same p xs y z (omega (arith, le)) m n a b
