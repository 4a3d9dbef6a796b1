-- A word that is read is what the bytes begin with, and it is read wherever they do.
use Rattle.std.proofs.Common.{◌≡◌, ◌≢◌, ◌⊎◌, ℕ, true, eqb, List, [], ◌∷◌, ◌++◌, Option, Some, None, refl, inl, inr, MatchOption, Bor}
use Rattle.std.proofs.lemmas.Bool.{cases_Bool, eqb-true, eq-eqb}
use Rattle.it_types.specs.Cursor.{and_then, Gives, after, at_end}

-- an option is something or nothing
pub some_or_none : {A : Type 0} (o : Option A) → ((x : A) × (o ≡ Some x)) ⊎ (o ≡ None)
some_or_none None = inr refl
some_or_none (Some x) = inl (x, refl)

-- what follows from a step that read something, and from the next one
pub read_step : {A B P : Type 0} {o : Option A} {f : A → Option B} {y : B} → and_then o f ≡ Some y → ((x : A) → o ≡ Some x → f x ≡ Some y → P) → P
unfolding and_then
read_step {o = None} e go = absurd cc
read_step {o = Some x} e go = go x refl e

-- something that was read
abbrev found : {A : Type 0} → A → Option A
found x = Some x

-- one result is one value
pub found_is : {A : Type 0} (x y : A) → found x ≡ found y → x ≡ y
found_is x y e = cc

-- what is read at the end, and that nothing follows
pub at_end_is : {X : Type 0} (rest : List ℕ) (x y : X) → at_end rest x ≡ Some y → (rest ≡ []) × (x ≡ y)
at_end_is [] x y e = (refl, found_is x y e)
at_end_is (b ∷ bs) x y e = absurd cc

-- a word is read again
pub after_again : (word rest : List ℕ) → after word (word ++ rest) ≡ Some rest
unfolding after
after_again [] rest = refl
after_again (c ∷ word) rest = let same : eqb c c ≡ true = eq-eqb c c refl in rw same (after_again word rest)

-- a word that is read is what the bytes begin with
pub after_takes : (word bytes rest : List ℕ) → after word bytes ≡ Some rest → bytes ≡ word ++ rest
unfolding after
after_takes [] bytes rest e = found_is bytes rest e
after_takes (c ∷ word) [] rest e = absurd cc
after_takes (c ∷ word) (b ∷ bytes) rest e =
    elim (cases_Bool (eqb b c)) [
      | inl t ↦ let more = after_takes word bytes rest (rw t at e) in let same : b ≡ c = eqb-true b c t in cc
      | inr f ↦ let none : None ≡ Some rest = rw f at e in absurd cc
    ]

-- what std says of a prefix is what reading a word gives
pub after_is : (word bytes : List ℕ) (r : Option (Bor (List ℕ))) → MatchOption r ((rest : List ℕ) → bytes ≢ word ++ rest) (λ x. bytes ≡ word ++ x.now) → Gives (λ x. x.now) r (after word bytes)
after_is word bytes None h =
    elim (some_or_none (after word bytes)) [
      | inl w ↦ absurd (h w.0 (after_takes word bytes w.0 w.1))
      | inr n ↦ n
    ]
after_is word bytes (Some x) h = rw h (after_again word x.now)
