-- Declared objects are put into their table one after another.
use Rattle.std.proofs.Common.{◌≡◌, ℕ, ◌+◌, ◌<◌, true, false, leb, List, ◌∷◌, length, get_or, set, drop, Option, Some, None, is_none, is_some, refl, ap, sym, ◌∙◌, arith}
use Rattle.std.proofs.lemmas.Bool.{and_parts}
use Rattle.std.proofs.lemmas.Bool.Decides.{nat_tests}
use Rattle.std.proofs.lemmas.List.{drop_more}
use Rattle.it_types.specs.Table.{is_no_id, put_into}
use Rattle.spec_lists.specs.Tables.{get, filled}
use Rattle.spec_kernel.specs.Ids.{are_new_ids}

right_id : (id : ℕ) → leb 1 id ≡ true → leb id 16 ≡ true → is_no_id 16 id ≡ false
right_id id low high = grind (arith, nat_tests)

is_free : {X : Type 0} (o : Option X) → is_none o ≡ true → is_some o ≡ false
is_free None e = refl
is_free (Some x) e = cc

-- what is put where the id is new
put_new : {X : Type 0} (table : List (Option X)) (id : ℕ) (x : X) → is_no_id 16 id ≡ false → is_none (get table id) ≡ true → put_into 16 table id x ≡ set table id (Some x)
put_new table id x right free = rw (right, is_free (get table id) free) refl

module _ {D X : Type 0} (id_of : D → ℕ) (made : D → X) where
  -- the first declaration is put, and those behind it are new still
  puts_first : (d : D) (ds : List D) (table after : List (Option X))
      → are_new_ids id_of made table (d ∷ ds) ≡ true
      → after ≡ put_into 16 table (id_of d) (made d)
      → (filled id_of made ds after ≡ filled id_of made (d ∷ ds) table) × (are_new_ids id_of made after ds ≡ true)
  puts_first d ds table after new put =
      let low = and_parts (leb 1 (id_of d)) _ new in
      let high = and_parts (leb (id_of d) 16) _ low.1 in
      let free = and_parts (is_none (get table (id_of d))) _ high.1 in
      let is : after ≡ set table (id_of d) (Some (made d)) = put ∙ put_new table (id_of d) (made d) (right_id (id_of d) low.0 high.0) free.0 in
      (ap (filled id_of made ds) is, ap (λ t. are_new_ids id_of made t ds) is ∙ free.1)

  -- one more of the declarations is put
  pub puts_one : (ds : List D) (i : ℕ) (d : D) (table after objects : List (Option X))
      → i < length ds
      → filled id_of made (drop i ds) table ≡ objects
      → are_new_ids id_of made table (drop i ds) ≡ true
      → after ≡ put_into 16 table (id_of (get_or ds i d)) (made (get_or ds i d))
      → (filled id_of made (drop (i + 1) ds) after ≡ objects) × (are_new_ids id_of made after (drop (i + 1) ds) ≡ true)
  puts_one ds i d table after objects inside fills new put =
      let one = puts_first (get_or ds i d) (drop (i + 1) ds) table after (ap (are_new_ids id_of made table) (sym (drop_more ds i d inside)) ∙ new) put in
      (one.0 ∙ ap (λ rest. filled id_of made rest table) (sym (drop_more ds i d inside)) ∙ fills, one.1)
