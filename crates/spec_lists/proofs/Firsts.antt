-- The laws of `take_first`.
use Rattle.std.proofs.Common.{◌≡◌, ℕ, suc, ◌+◌, ◌<◌, Bool, true, false, ◌||◌, List, [], ◌∷◌, ◌++◌, length, get_or, take, drop, Option, Some, None, refl, ap, sym, ◌∙◌, inl, inr, arith}
use mathlib.Core.Logic.{◌⊎◌}
use Rattle.std.proofs.Math.Bool.{or-false}
use Rattle.std.proofs.Math.Seq.{split_at}
use Rattle.std.proofs.lemmas.Bool.{cases_Bool}
use Rattle.std.proofs.lemmas.List.{get_or_read, take_more}
use Rattle.std.specs.List.{list_any, remove}
use Rattle.spec_lists.specs.First.{put_back, take_first}

-- something is found, or nothing is
pub cases_of_first : {X : Type 0} (o : Option X) → (o ≡ None) ⊎ ((x : X) × (o ≡ Some x))
cases_of_first None = inl refl
cases_of_first (Some x) = inr (x, refl)

-- where the first element passes, it is found
pub at_first : {X : Type 0} (f : X → Bool) (x : X) (xs : List X) → f x ≡ true → take_first f (x ∷ xs) ≡ Some (x, xs)
at_first f x xs e = rw e refl

-- where it doesn't pass, the search goes on
pub past_first : {X : Type 0} (f : X → Bool) (x : X) (xs : List X) → f x ≡ false → take_first f (x ∷ xs) ≡ put_back x (take_first f xs)
past_first f x xs e = rw e refl

-- nothing is found only where nothing was found behind the element
pub put_back-none : {X : Type 0} (x : X) (o : Option (X × List X)) → put_back x o ≡ None → o ≡ None
put_back-none x None e = refl
put_back-none x (Some p) e = cc

-- what is found behind an element is what was found, with the element back in its place
pub put_back-some : {X : Type 0} (x : X) (o : Option (X × List X)) (z : X × List X) → put_back x o ≡ Some z → (w : X × List X) × (o ≡ Some w) × (z ≡ (w.0, x ∷ w.1))
put_back-some x None z e = cc
put_back-some x (Some p) z e = (p, refl, cc)

-- where nothing passes, the first element doesn't, nor any behind it
pub none_parts : {X : Type 0} (f : X → Bool) (x : X) (xs : List X) → take_first f (x ∷ xs) ≡ None → (f x ≡ false) × (take_first f xs ≡ None)
none_parts f x xs e = elim (cases_Bool (f x)) [
  | inl t ↦ absurd (let s = at_first f x xs t in cc)
  | inr t ↦ (t, put_back-none x (take_first f xs) (sym (past_first f x xs t) ∙ e))
]

-- nothing is found in a list where nothing passes
pub none_from_parts : {X : Type 0} (f : X → Bool) (x : X) (xs : List X) → f x ≡ false → take_first f xs ≡ None → take_first f (x ∷ xs) ≡ None
none_from_parts f x xs t e = past_first f x xs t ∙ ap (put_back x) e

-- what is found is the first element, or it is found behind it
pub some_parts : {X : Type 0} (f : X → Bool) (x : X) (xs : List X) (z : X × List X)
    → take_first f (x ∷ xs) ≡ Some z
    → ((f x ≡ true) × (z ≡ (x, xs))) ⊎ ((w : X × List X) × (f x ≡ false) × (take_first f xs ≡ Some w) × (z ≡ (w.0, x ∷ w.1)))
some_parts f x xs z e = elim (cases_Bool (f x)) [
  | inl t ↦ inl (t, let s = at_first f x xs t in cc)
  | inr t ↦ (let s = put_back-some x (take_first f xs) z (sym (past_first f x xs t) ∙ e) in inr (s.0, t, s.1, s.2))
]

-- what is found is taken out: one element fewer is left
pub take_first-shorter : {X : Type 0} (f : X → Bool) (xs : List X) (z : X × List X) → take_first f xs ≡ Some z → length z.1 + 1 ≡ length xs
take_first-shorter f [] z e = cc
take_first-shorter f (x ∷ xs) z e = elim (some_parts f x xs z e) [
  | inl s ↦ rw s.1 (omega arith)
  | inr s ↦ rw s.3 (omega (arith, take_first-shorter f xs s.0 s.2))
]

-- what is found passes; and where nothing passed another test before, nothing that is left does
pub found : {X : Type 0} (f g : X → Bool) (xs : List X) (z : X × List X)
    → take_first g xs ≡ None
    → take_first f xs ≡ Some z
    → (f z.0 ≡ true) × (take_first g z.1 ≡ None)
found f g [] z n e = cc
found f g (x ∷ xs) z n e = elim (some_parts f x xs z e) [
  | inl s ↦ rw s.1 (s.0, (none_parts g x xs n).1)
  | inr s ↦ let rest = found f g xs s.0 (none_parts g x xs n).1 s.2 in rw s.3 (rest.0, none_from_parts g x s.0.1 (none_parts g x xs n).0 rest.1)
]

-- tests that agree find the same
pub same_first : {X : Type 0} (f g : X → Bool) (xs : List X) → ((x : X) → f x ≡ g x) → take_first f xs ≡ take_first g xs
same_first f g [] same = refl
same_first f g (x ∷ xs) same = rw (same x, same_first f g xs same) refl

-- nothing passes a test that is harder to pass
pub none_weaker : {X : Type 0} (f g : X → Bool) (xs : List X) → ((x : X) → f x ≡ true → g x ≡ true) → take_first g xs ≡ None → take_first f xs ≡ None
none_weaker f g [] weaker e = refl
none_weaker f g (x ∷ xs) weaker e = elim (cases_Bool (f x)) [
  | inl t ↦ absurd (let s = weaker x t in let p = (none_parts g x xs e).0 in cc)
  | inr t ↦ none_from_parts f x xs t (none_weaker f g xs weaker (none_parts g x xs e).1)
]

-- where nothing passes one of two tests, the other finds what both find
pub or_first : {X : Type 0} (f g : X → Bool) (xs : List X) → take_first g xs ≡ None → take_first (λ x. f x || g x) xs ≡ take_first f xs
or_first f g [] e = refl
or_first f g (x ∷ xs) e = let p = none_parts g x xs e in rw (p.0, or-false (f x), or_first f g xs p.1) refl

-- nothing is found in two lists where nothing is found in either
pub none_append : {X : Type 0} (f : X → Bool) (xs ys : List X) → take_first f xs ≡ None → take_first f ys ≡ None → take_first f (xs ++ ys) ≡ None
none_append f [] ys e h = h
none_append f (x ∷ xs) ys e h = let p = none_parts f x xs e in none_from_parts f x (xs ++ ys) p.0 (none_append f xs ys p.1 h)

-- what is found behind a list where nothing passes
pub found_past : {X : Type 0} (f : X → Bool) (xs : List X) (x : X) (ys : List X) → take_first f xs ≡ None → f x ≡ true → take_first f (xs ++ x ∷ ys) ≡ Some (x, xs ++ ys)
found_past f [] x ys e t = at_first f x ys t
found_past f (w ∷ xs) x ys e t = let p = none_parts f w xs e in past_first f w (xs ++ x ∷ ys) p.0 ∙ ap (put_back w) (found_past f xs x ys p.1 t)

-- a search over places that has come to one that passes
pub found_at : {X : Type 0} (f : X → Bool) (xs : List X) (i : ℕ) (d : X)
    → i < length xs
    → take_first f (take i xs) ≡ None
    → f (get_or xs i d) ≡ true
    → (x : X) → x ≡ get_or xs i x → take_first f xs ≡ Some (x, remove xs i)
found_at f xs i d inside none passes x at =
    let parts : xs ≡ take i xs ++ x ∷ drop (suc i) xs = split_at xs i x inside ∙ ap (λ w. take i xs ++ w ∷ drop (suc i) xs) (sym at) in
    ap (take_first f) parts ∙ found_past f (take i xs) x (drop (suc i) xs) none (ap f (get_or_read xs i x inside at d) ∙ passes)

-- a search over places that has come to one that doesn't pass
pub none_more : {X : Type 0} (f : X → Bool) (xs : List X) (i : ℕ) (d : X)
    → i < length xs
    → take_first f (take i xs) ≡ None
    → f (get_or xs i d) ≡ false
    → take_first f (take (i + 1) xs) ≡ None
none_more f xs i d inside none fails = ap (take_first f) (take_more xs i d inside) ∙ none_append f (take i xs) (get_or xs i d ∷ []) none (none_from_parts f (get_or xs i d) [] fails refl)

-- where nothing is found, no element passes
pub none_any : {X : Type 0} (f : X → Bool) (xs : List X) → take_first f xs ≡ None → list_any f xs ≡ false
none_any f [] e = refl
none_any f (x ∷ xs) e = let p = none_parts f x xs e in rw (p.0, none_any f xs p.1) refl
