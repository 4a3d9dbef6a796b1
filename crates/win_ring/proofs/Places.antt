-- How the bytes that are kept and those ahead of them change with a ring: the first `kept` bytes are kept.
use Rattle.std.proofs.Common.{◌≡◌, ℕ, zero, suc, ◌+◌, ◌-◌, ◌≤◌, List, [], ◌∷◌, ◌++◌, length, take, drop, min, refl, sym, ap, ◌∙◌, inl, inr, arith, length-append, length-take, length-drop}
use Rattle.std.proofs.lemmas.List.{same_lists, places, take_all, drop_all, drop-drop}
use Rattle.std.proofs.lemmas.Bool.{cases_lt}
use Rattle.win_ring.specs.Rings.{turned, written}
use Rattle.win_ring.specs.Windows.{overlaid, put_over}

module _ (kept n : ℕ) (r : List ℕ) where
  pub kept_turned : n ≤ kept → kept ≤ length r → take (kept - n) (turned n r) ≡ drop n (take kept r)
  kept_turned small within = same_lists _ _ (grind (arith, length-append, length-take, length-drop)) (λ k d lt. grind (arith, places))

  pub ahead_turned : n ≤ kept → kept ≤ length r → drop (kept - n) (turned n r) ≡ drop kept r ++ take n (take kept r)
  ahead_turned small within = same_lists _ _ (grind (arith, length-append, length-take, length-drop)) (λ k d lt. grind (arith, places))

  pub kept_grown : kept + n ≤ length r → take (kept + n) r ≡ take kept r ++ take n (drop kept r)
  kept_grown within = same_lists _ _ (grind (arith, length-append, length-take, length-drop)) (λ k d lt. grind (arith, places))

  pub ahead_grown : drop (kept + n) r ≡ drop n (drop kept r)
  ahead_grown = sym (drop-drop n kept r)

-- ---- bytes that come ahead

put_first : (load xs : List ℕ) → put_over zero load xs ≡ overlaid load xs
put_first [] [] = refl
put_first (b ∷ bs) [] = refl
put_first [] (x ∷ xs) = refl
put_first (b ∷ bs) (x ∷ xs) = ap (λ l. b ∷ l) (put_first bs xs)

-- what stands before them stays, and they are laid over the rest
pub put_over-parts : (n : ℕ) (load xs : List ℕ) → put_over n load xs ≡ take n xs ++ overlaid load (drop n xs)
put_over-parts zero load xs = put_first load xs
put_over-parts (suc n) load [] = sym (drop_all (length load) [] (omega arith))
put_over-parts (suc n) load (x ∷ xs) = ap (λ l. x ∷ l) (put_over-parts n load xs)

-- past the window nothing changes
pub put_over-past : (n : ℕ) (load xs : List ℕ) → length xs ≤ n → put_over n load xs ≡ xs
put_over-past zero load [] h = refl
put_over-past zero load (x ∷ xs) h = absurd (omega arith)
put_over-past (suc n) load [] h = refl
put_over-past (suc n) load (x ∷ xs) h = ap (λ l. x ∷ l) (put_over-past n load xs (omega arith))

pub length-put_over : (n : ℕ) (load xs : List ℕ) → length (put_over n load xs) ≡ length xs
length-put_over n load [] = refl
length-put_over zero [] (x ∷ xs) = refl
length-put_over zero (b ∷ bs) (x ∷ xs) = ap (λ k. suc k) (length-put_over zero bs xs)
length-put_over (suc n) load (x ∷ xs) = ap (λ k. suc k) (length-put_over n load xs)

pub kept_written : (kept at : ℕ) (load r : List ℕ) → kept ≤ at → at + length load ≤ length r → take kept (written at load r) ≡ take kept r
kept_written kept at load r h within = same_lists _ _ (grind (arith, length-append, length-take, length-drop)) (λ k d lt. grind (arith, places))

-- bytes that all find a place, and the front of those that do not
all_written : (kept n : ℕ) (load r : List ℕ) → kept + n + length load ≤ length r → drop kept (written (kept + n) load r) ≡ take n (drop kept r) ++ overlaid load (drop n (drop kept r))
all_written kept n load r within = same_lists _ _ (grind (arith, length-append, length-take, length-drop)) (λ k d lt. grind (arith, places))

front_written : (kept n : ℕ) (load r : List ℕ) → kept + n ≤ length r → length r - kept - n ≤ length load → drop kept (written (kept + n) (take (length r - kept - n) load) r) ≡ take n (drop kept r) ++ overlaid load (drop n (drop kept r))
front_written kept n load r within more = same_lists _ _ (grind (arith, length-append, length-take, length-drop)) (λ k d lt. grind (arith, places))

pub ahead_written : (kept n count : ℕ) (load r : List ℕ) → kept + n ≤ length r → count ≡ min (length load) (length r - kept - n) → drop kept (written (kept + n) (take count load) r) ≡ put_over n load (drop kept r)
ahead_written kept n count load r within e = elim (cases_lt (length r - kept - n) (length load)) [
  | inl more ↦
      let most : count ≡ length r - kept - n = omega arith in
      ap (λ j. drop kept (written (kept + n) (take j load) r)) most ∙ front_written kept n load r within (omega arith) ∙ sym (put_over-parts n load (drop kept r))
  | inr all ↦
      ap (λ l. drop kept (written (kept + n) l r)) (take_all count load (omega arith)) ∙ all_written kept n load r (omega arith) ∙ sym (put_over-parts n load (drop kept r))
]
