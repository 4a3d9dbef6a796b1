-- Declarations whose ids are new: no more of them than places.
use Rattle.std.proofs.Common.{◌≡◌, ℕ, ◌+◌, ◌≤◌, ◌<◌, true, ◌&&◌, cond, leb, List, [], ◌∷◌, length, slice_set, Option, Some, None, is_none, is_some, count_by, refl, ◌∙◌, arith}
use Rattle.std.proofs.lemmas.Bool.{and_parts, leb-true}
use Rattle.std.proofs.lemmas.List.{get_or-set_other, length-set}
use Rattle.std.proofs.lemmas.List.Sums.{sum_by-set, count_by-le-length}
use Rattle.spec_lists.specs.Tables.{get}
use Rattle.spec_kernel.specs.Ids.{greatest_id}
use Rattle.spec_kernel.specs.Ids.{are_new_ids}

-- how many objects a table has
abbrev pub occupied : {X : Type 0} → List (Option X) → ℕ
occupied objects = count_by is_some objects

none_from_test : {X : Type 0} (o : Option X) → is_none o ≡ true → o ≡ None
none_from_test None e = refl
none_from_test (Some x) e = cc

-- what is known of the first of declarations whose ids are new
pub record FirstIsNew {D X : Type 0} (id_of : D → ℕ) (made : D → X) (objects : List (Option X)) (d : D) (ds : List D) : Type 0 where
  pub low : 1 ≤ id_of d
  pub high : id_of d ≤ greatest_id
  pub free : get objects (id_of d) ≡ None
  pub later : are_new_ids id_of made (slice_set objects (id_of d) (Some (made d))) ds ≡ true

pub first_is_new : {D X : Type 0} (id_of : D → ℕ) (made : D → X) (objects : List (Option X)) (d : D) (ds : List D)
    → are_new_ids id_of made objects (d ∷ ds) ≡ true
    → FirstIsNew id_of made objects d ds
first_is_new id_of made objects d ds new =
    let after = slice_set objects (id_of d) (Some (made d)) in
    let low = and_parts (leb 1 (id_of d)) (leb (id_of d) greatest_id && (is_none (get objects (id_of d)) && are_new_ids id_of made after ds)) new in
    let high = and_parts (leb (id_of d) greatest_id) (is_none (get objects (id_of d)) && are_new_ids id_of made after ds) low.1 in
    let free = and_parts (is_none (get objects (id_of d))) (are_new_ids id_of made after ds) high.1 in
    record {
      low = leb-true 1 (id_of d) low.0;
      high = leb-true (id_of d) greatest_id high.0;
      free = none_from_test (get objects (id_of d)) free.0;
      later = free.1;
    }

-- place 0 is empty, so that a table of 17 places has 16 objects at most
occupied_le : {X : Type 0} (objects : List (Option X)) → length objects ≡ 17 → get objects 0 ≡ None → occupied objects ≤ 16
occupied_le [] long first = omega arith
occupied_le (None ∷ os) long first = omega (arith, count_by-le-length is_some os)
occupied_le (Some x ∷ os) long first = cc

-- an object more
occupied-set : {X : Type 0} (objects : List (Option X)) (i : ℕ) (x : X) → i < length objects → get objects i ≡ None → occupied (slice_set objects i (Some x)) ≡ occupied objects + 1
occupied-set objects i x inside free =
    let counted = sum_by-set (λ o. cond (is_some o) 1 0) objects i (Some x) None inside in
    omega (arith, rw free at counted)

-- declarations whose ids are new are no more than the free places
pub new_ids_fit : {D X : Type 0} (id_of : D → ℕ) (made : D → X) (ds : List D) (objects : List (Option X))
    → length objects ≡ 17
    → get objects 0 ≡ None
    → are_new_ids id_of made objects ds ≡ true
    → length ds + occupied objects ≤ 16
new_ids_fit id_of made [] objects long first new = omega (arith, occupied_le objects long first)
new_ids_fit id_of made (d ∷ ds) objects long first new =
    let one = first_is_new id_of made objects d ds new in
    let after = slice_set objects (id_of d) (Some (made d)) in
    let more = occupied-set objects (id_of d) (made d) (omega (arith, one.high)) one.free in
    let kept : get after 0 ≡ None = get_or-set_other objects (id_of d) 0 (Some (made d)) None (λ e. absurd (omega (arith, one.low))) ∙ first in
    omega (arith, more, new_ids_fit id_of made ds after (length-set objects (id_of d) (Some (made d)) ∙ long) kept one.later)
