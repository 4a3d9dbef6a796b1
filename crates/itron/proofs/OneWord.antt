-- A list of one word.
use Rattle.std.proofs.Common.{◌≡◌, ℕ, ◌<◌, ◌≤◌, Bool, List, [], ◌∷◌, length, get_or, map, sym, ◌∙◌, ap, arith, String, Global}
use Rattle.std.specs.Prelude.{IsTrue, ◌↔◌, string_bytes, nat_eq, codes}
use Rattle.std.specs.Bool.{Decides}
use Rattle.std.proofs.lemmas.Bool.Decides.{Decides-eqb}
use Rattle.std.proofs.lemmas.Slice.Eq.{slice_eq-Decides}
use lib.Pointwise.{pointwise}
use Rattle.itron.specs.Top.{sim_words}

only_one : {X : Type 0} (xs : List X) (x : X) → 1 ≤ length xs → length xs < 2 → x ≡ get_or xs 0 x → xs ≡ x ∷ []
only_one [] x low high e = absurd (omega arith)
only_one (y ∷ []) x low high e = ap (λ w. w ∷ []) (sym e)
only_one (y ∷ z ∷ zs) x low high e = absurd (omega arith)

head_is : (t u : List ℕ) → t ∷ [] ≡ u ∷ [] → t ≡ u
head_is t u e = cc

pub is_the_word : (words : List (String Global)) (word : String Global) (text : List ℕ) (r : Bool)
    → 1 ≤ length words
    → length words < 2
    → word ≡ get_or words 0 word
    → text ≡ string_bytes word
    → r ≡ pointwise nat_eq text (codes "sim")
    → IsTrue r ↔ (map string_bytes words ≡ sim_words)
is_the_word words word text r low high e t p =
    let one : map string_bytes words ≡ text ∷ [] = ap (map string_bytes) (only_one words word low high e) ∙ ap (λ w. w ∷ []) (sym t) in
    let same : Decides r (text ≡ codes "sim") = slice_eq-Decides Decides-eqb text (codes "sim") r p in
    (λ h. one ∙ ap (λ w. w ∷ []) (same.0 h), λ h. same.1 (head_is text (codes "sim") (sym one ∙ h)))
