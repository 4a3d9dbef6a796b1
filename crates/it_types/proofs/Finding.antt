-- What is found by its text.
use Rattle.std.proofs.Common.{◌≡◌, ℕ, Bool, true, List, [], ◌∷◌, Some, sym, ap, ◌∙◌, inl, inr}
use Rattle.std.specs.Prelude.{nat_eq}
use Rattle.std.specs.List.{find, list_all}
use Rattle.std.specs.Cmp.Lexicographic.{pointwise}
use Rattle.std.proofs.lemmas.Bool.{cases_Bool, and_parts}
use Rattle.std.proofs.lemmas.Slice.Eq.{bytes_eq-Decides}
use Rattle.it_types.proofs.ReadSteps.{found_is}

-- what is found by a word has that text
pub found_text : {W : Type 0} (text : W → List ℕ) (word : List ℕ) (ws : List W) (w : W) → find (λ v. pointwise nat_eq word (text v)) ws ≡ Some w → word ≡ text w
found_text text word [] w e = absurd cc
found_text text word (v ∷ ws) w e =
    elim (cases_Bool (pointwise nat_eq word (text v))) [
      | inl t ↦ (bytes_eq-Decides word (text v)).0 t ∙ ap text (found_is v w (rw t at e))
      | inr f ↦ found_text text word ws w (rw f at e)
    ]

-- what is found passes what all pass
pub found_passes : {W : Type 0} (test pass : W → Bool) (ws : List W) (w : W) → list_all pass ws ≡ true → find test ws ≡ Some w → pass w ≡ true
found_passes test pass [] w all e = absurd cc
found_passes test pass (v ∷ ws) w all e =
    let parts = and_parts (pass v) (list_all pass ws) all in
    elim (cases_Bool (test v)) [
      | inl t ↦ ap pass (sym (found_is v w (rw t at e))) ∙ parts.0
      | inr f ↦ found_passes test pass ws w parts.1 (rw f at e)
    ]
