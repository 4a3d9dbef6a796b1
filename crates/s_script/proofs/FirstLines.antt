-- The first line of a text.
use Rattle.std.proofs.Common.{◌≡◌, ℕ, suc, ◌+◌, ◌-◌, ◌<◌, ◌≤◌, Bool, not, eqb, ltb, List, [], ◌∷◌, length, take, drop, Some, None, refl, sym, inl, inr, arith}
use Rattle.std.specs.List.{prefix_len}
use Rattle.std.proofs.lemmas.Bool.{cases_Bool, ltb-true, ltb-false}
use Rattle.std.proofs.lemmas.List.{take_rest, length-drop}
use Rattle.it_types.proofs.Fronts.{stop, stop_is, stop_none}
use Rattle.spec_script.specs.Text.{split_lines}
use Rattle.s_script.specs.Cutting.{BeginsWith}

-- a byte that is no LF
abbrev pub is_no_lf : ℕ → Bool
is_no_lf byte = not (eqb byte 10)

-- a text with an LF begins with a line
lines_at : (text : List ℕ) → prefix_len is_no_lf text < length text
    → split_lines text ≡ (take (prefix_len is_no_lf text) text ∷ (split_lines (drop (suc (prefix_len is_no_lf text)) text)).0, (split_lines (drop (suc (prefix_len is_no_lf text)) text)).1)
unfolding split_lines
lines_at [] lt = absurd (omega arith)
lines_at (b ∷ bs) lt =
    let more : 1 + prefix_len is_no_lf bs ≡ suc (prefix_len is_no_lf bs) = omega arith in
    elim (cases_Bool (eqb b 10)) [
      | inl t ↦ rw t refl
      | inr f ↦ rw (f, more) (rw (lines_at bs (let below = rw (f, more) at lt in omega arith)) refl)
    ]

-- what a text without LF is
lines_whole : (text : List ℕ) → length text ≤ prefix_len is_no_lf text → split_lines text ≡ ([], text)
unfolding split_lines
lines_whole [] le = refl
lines_whole (b ∷ bs) le =
    let more : 1 + prefix_len is_no_lf bs ≡ suc (prefix_len is_no_lf bs) = omega arith in
    elim (cases_Bool (eqb b 10)) [
      | inl t ↦ absurd (let below = rw t at le in omega arith)
      | inr f ↦ rw f (rw (lines_whole bs (let below = rw (f, more) at le in omega arith)) refl)
    ]

-- the code's cut gives the first line
pub cut_at : (text : List ℕ) (n : ℕ) → Some n ≡ stop is_no_lf text → n < length text
    → BeginsWith text (take n text) (take (length text - (n + 1)) (drop (n + 1) text)) × (length (take (length text - (n + 1)) (drop (n + 1) text)) < length text)
cut_at text n e lt =
    let s = stop_is (ltb (prefix_len is_no_lf text) (length text)) (prefix_len is_no_lf text) n (sym e) in
    let next : n + 1 ≡ suc (prefix_len is_no_lf text) = omega (arith, s.1) in
    let whole : take (length text - (n + 1)) (drop (n + 1) text) ≡ drop (n + 1) text = take_rest text (n + 1) in
    rw whole (record { lines = rw (next, s.1) (lines_at text (ltb-true _ _ s.0)) }, simp length-drop (omega arith))

-- the code's cut gives nothing where there is no line
pub cut_none : (text : List ℕ) → None ≡ stop is_no_lf text → split_lines text ≡ ([], text)
cut_none text e = lines_whole text (ltb-false _ _ (stop_none (ltb (prefix_len is_no_lf text) (length text)) (prefix_len is_no_lf text) (sym e)))
