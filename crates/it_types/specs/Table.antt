-- A table of values by their ids, from 1 up: the list has a place for each id, and its place 0 stays empty (µITRON4.0 section
-- 2.1, ID numbers).
use Rattle.std.specs.Prelude.{◌≡◌, ℕ, ◌+◌, length, Bool, ◌||◌, ◌==◌, List, Option, Some, None, is_some, nat_lt, slice_index_or, slice_set, if◌then◌else◌}
use Rattle.std.specs.Prelude.{Result, Ok, Err}
use Rattle.it_types.specs.declared.table.PutErr.{PutErr}
use Rattle.it_types.specs.declared.table.PutErr.TheVariants.{BadId, Taken}

abbrev pub is_no_id : ℕ → ℕ → Bool
is_no_id greatest id = (id == 0) || nat_lt greatest id

abbrev pub put_answer : {X : Type 0} → ℕ → List (Option X) → ℕ → X → Result (Unit {0}) (PutErr X)
put_answer greatest values id x = if is_no_id greatest id then Err (BadId x) else if is_some (slice_index_or values id None) then Err (Taken x) else Ok tt

abbrev pub put_into : {X : Type 0} → ℕ → List (Option X) → ℕ → X → List (Option X)
put_into greatest values id x = if is_no_id greatest id || is_some (slice_index_or values id None) then values else slice_set values id (Some x)

pub record IsTable {X : Type 0} (greatest : ℕ) (values : List (Option X)) : Type 0 where
  pub places : length values ≡ greatest + 1
  pub empty : slice_index_or values 0 None ≡ None
