-- How a memory changes, and what its bytes are from the head on.
use Rattle.std.proofs.Common.{◌≡◌, ℕ, ◌+◌, ◌-◌, ◌<◌, ◌≤◌, List, ◌++◌, length, take, drop, min, ap, ◌∙◌, inl, inr, arith, length-append, length-take, length-drop, length-take-le, take-append-drop}
use Rattle.std.proofs.lemmas.List.{same_lists, places, take_all, take_at, drop_all, append-nil}
use Rattle.std.proofs.lemmas.Bool.{cases_lt}
use Rattle.win_ring.specs.Rings.{turned, written}

module _ (head : ℕ) (m : List ℕ) (within : head ≤ length m) where
  pub length-turned : length (turned head m) ≡ length m
  length-turned = grind (arith, length-append, length-take, length-drop)

  pub turned_on : (n : ℕ) → n < length m - head → turned (head + n) m ≡ turned n (turned head m)
  turned_on n h = same_lists _ _ (grind (arith, length-append, length-take, length-drop)) (λ k d lt. grind (arith, places))

  pub turned_back : (n : ℕ) → length m - head ≤ n → n ≤ length m → turned (n - (length m - head)) m ≡ turned n (turned head m)
  turned_back n h le = same_lists _ _ (grind (arith, length-append, length-take, length-drop)) (λ k d lt. grind (arith, places))

  pub written_on : (at : ℕ) (load : List ℕ) → head + at + length load ≤ length m → turned head (written (head + at) load m) ≡ written at load (turned head m)
  written_on at load h = same_lists _ _ (grind (arith, length-append, length-take, length-drop)) (λ k d lt. grind (arith, places))

  pub written_back : (at : ℕ) (load : List ℕ) → length m - head ≤ at → at + length load ≤ length m → turned head (written (at - (length m - head)) load m) ≡ written at load (turned head m)
  written_back at load h le = same_lists _ _ (grind (arith, length-append, length-take, length-drop)) (λ k d lt. grind (arith, places))

-- two pieces, of which the second stands behind the first
pub written_twice : (at place : ℕ) (first second xs : List ℕ) → place ≡ at + length first → place + length second ≤ length xs → written place second (written at first xs) ≡ written at (first ++ second) xs
written_twice at place first second xs e h = same_lists _ _ (grind (arith, length-append, length-take, length-drop)) (λ k d lt. grind (arith, places))

pub length-written : (at : ℕ) (load xs : List ℕ) → at + length load ≤ length xs → length (written at load xs) ≡ length xs
length-written at load xs h = grind (arith, length-append, length-take, length-drop)

pub written_start : (head : ℕ) (m : List ℕ) → head ≤ length m → (at : ℕ) (load : List ℕ) → at ≡ length m - head → length load ≤ head → turned head (written 0 load m) ≡ written at load (turned head m)
written_start head m within at load e h = same_lists _ _ (grind (arith, length-append, length-take, length-drop)) (λ k d lt. grind (arith, places))

-- a piece up to the end of the memory, and the rest at its start
pub written_around : (head : ℕ) (m : List ℕ) → head ≤ length m → (at : ℕ) (load : List ℕ) (n : ℕ) → at < length m - head → at + length load ≤ length m → n ≡ min (length load) (length m - head - at) → turned head (written 0 (drop n load) (written (head + at) (take n load) m)) ≡ written at load (turned head m)
written_around head m within at load n h le e = elim (cases_lt (length m - head - at) (length load)) [
  | inl more ↦
      let n_is : n ≡ length m - head - at = omega arith in
      let l1 = take n load in
      let l2 = drop n load in
      let len1 : length l1 ≡ n = length-take-le n load (omega arith) in
      let len2 : length l2 ≡ length load - n = length-drop n load in
      let x = written (head + at) l1 m in
      let len : length x ≡ length m = length-written (head + at) l1 m (omega arith) in
      written_start head x (omega arith) (at + n) l2 (omega arith) (omega arith)
      ∙ ap (written (at + n) l2) (written_on head m within at l1 (omega arith))
      ∙ written_twice at (at + n) l1 l2 (turned head m) (omega arith) (omega (arith, length-turned head m within))
      ∙ ap (λ l. written at l (turned head m)) (take-append-drop n load)
  | inr all ↦ rw (drop_all n load (omega arith), take_all n load (omega arith)) (written_on head m within at load (omega arith))
]

pub read_back : (head : ℕ) (m : List ℕ) → head ≤ length m → (at k : ℕ) → length m - head ≤ at → at + k ≤ length m → take k (drop (at - (length m - head)) m) ≡ take k (drop at (turned head m))
read_back head m within at k h le = same_lists _ _ (grind (arith, length-append, length-take, length-drop)) (λ i d lt. grind (arith, places))

pub read_around : (head : ℕ) (m : List ℕ) → head ≤ length m → (at k n : ℕ) → at < length m - head → at + k ≤ length m → n ≡ min k (length m - head - at) → take n (drop (head + at) m) ++ take (k - n) (drop 0 m) ≡ take k (drop at (turned head m))
read_around head m within at k n h le e = same_lists _ _ (grind (arith, length-append, length-take, length-drop)) (λ i d lt. grind (arith, places))

-- a list of which first the front was written, and then the rest
pub in_two : (n : ℕ) (a b out : List ℕ) → length a ≡ n → n ≤ length out → take n (a ++ drop n out) ++ (b ++ drop (length (a ++ drop n out) - n) (drop n (a ++ drop n out))) ≡ a ++ b
in_two n a b out e h =
    rw (take_at a (drop n out) n e, drop_all (length (a ++ drop n out) - n) (drop n (a ++ drop n out)) (omega (arith, length-drop n (a ++ drop n out))))
    (ap (λ l. a ++ l) (append-nil b))
