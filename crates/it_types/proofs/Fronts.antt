-- The bytes from the front on that pass a test.
use Rattle.std.proofs.Common.{◌≡◌, ℕ, suc, ◌+◌, ◌≤◌, Bool, true, false, not, cond, ltb, List, [], ◌∷◌, ◌++◌, length, take, drop, Option, Some, None, refl, sym, ap, inl, inr, arith}
use Rattle.std.specs.List.{prefix_len, list_all}
use Rattle.std.proofs.lemmas.Bool.{cases_Bool, and_parts, not-true, ltb-false}
use Rattle.std.proofs.lemmas.List.{take_all, drop_all}
use Rattle.it_types.specs.Cursor.{split_while}

-- a split by its place
pub split_prefix : (test : ℕ → Bool) (xs : List ℕ) → split_while test xs ≡ (take (prefix_len test xs) xs, drop (prefix_len test xs) xs)
split_prefix test [] = refl
split_prefix test (x ∷ xs) =
    let more : 1 + prefix_len test xs ≡ suc (prefix_len test xs) = omega arith in
    elim (cases_Bool (test x)) [
      | inl t ↦ rw (t, more, split_prefix test xs) refl
      | inr f ↦ rw f refl
    ]

-- the place of the first element that does not pass
abbrev pub stop : (ℕ → Bool) → List ℕ → Option ℕ
stop test xs = cond (ltb (prefix_len test xs) (length xs)) (Some (prefix_len test xs)) None

-- where a place is found, it is this one
pub stop_is : (b : Bool) (m n : ℕ) → cond b (Some m) None ≡ Some n → (b ≡ true) × (n ≡ m)
stop_is true m n e = (refl, cc)
stop_is false m n e = absurd cc

-- where none is found, the test failed
pub stop_none : (b : Bool) (m : ℕ) → cond b (Some m) None ≡ None → b ≡ false
stop_none true m e = absurd cc
stop_none false m e = refl

-- the split at a place that is found
pub split_at_stop : (test : ℕ → Bool) (xs : List ℕ) (n : ℕ) → Some n ≡ stop test xs → (take n xs, drop n xs) ≡ split_while test xs
split_at_stop test xs n e =
    let s = stop_is (ltb (prefix_len test xs) (length xs)) (prefix_len test xs) n (sym e) in
    rw s.1 (sym (split_prefix test xs))

-- the split where none is found
pub split_whole : (test : ℕ → Bool) (xs : List ℕ) → None ≡ stop test xs → (xs, []) ≡ split_while test xs
split_whole test xs e =
    let le : length xs ≤ prefix_len test xs = ltb-false _ _ (stop_none (ltb (prefix_len test xs) (length xs)) (prefix_len test xs) (sym e)) in
    rw (split_prefix test xs, take_all (prefix_len test xs) xs le, drop_all (prefix_len test xs) xs le) refl

-- ---- laws of a split

-- the parts of a split make the whole
pub split_joins : (test : ℕ → Bool) (xs : List ℕ) → xs ≡ (split_while test xs).0 ++ (split_while test xs).1
split_joins test [] = refl
split_joins test (x ∷ xs) =
    elim (cases_Bool (test x)) [
      | inl t ↦ rw t (ap (λ (ys : List ℕ). x ∷ ys) (split_joins test xs))
      | inr f ↦ rw f refl
    ]

-- tests that agree split alike
pub split_same : (f g : ℕ → Bool) (same : (x : ℕ) → f x ≡ g x) (xs : List ℕ) → split_while f xs ≡ split_while g xs
split_same f g same [] = refl
split_same f g same (x ∷ xs) = rw (same x, split_same f g same xs) refl

-- the test fails at the front, or nothing is there
abbrev pub stops : (ℕ → Bool) → List ℕ → Bool
stops test [] = true
stops test (x ∷ xs) = not (test x)

-- a front that passes is split off again
pub split_again : (test : ℕ → Bool) (front rest : List ℕ) → list_all test front ≡ true → stops test rest ≡ true → split_while test (front ++ rest) ≡ (front, rest)
split_again test [] [] all stop = refl
split_again test [] (x ∷ xs) all stop = let no_more : test x ≡ false = not-true (test x) stop in rw no_more refl
split_again test (x ∷ front) rest all stop =
    let parts = and_parts (test x) (list_all test front) all in
    rw (parts.0, split_again test front rest parts.1 stop) refl

-- what is split off passes
pub split_passes : (test : ℕ → Bool) (xs : List ℕ) → list_all test (split_while test xs).0 ≡ true
split_passes test [] = refl
split_passes test (x ∷ xs) =
    elim (cases_Bool (test x)) [
      | inl t ↦ rw t (rw t (split_passes test xs))
      | inr f ↦ rw f refl
    ]
