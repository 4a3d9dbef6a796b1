-- A change of a value keeps a table.
use Rattle.std.proofs.Common.{◌≢◌, ℕ, List, Option, None, slice_set, sym, ◌∙◌}
use Rattle.std.proofs.lemmas.List.{get_or-set_other, length-set}
use Rattle.it_types.specs.Table.{IsTable}

pub kept : {X : Type 0} (greatest : ℕ) (values : List (Option X)) (id : ℕ) (o : Option X) → IsTable greatest values → id ≢ 0 → IsTable greatest (slice_set values id o)
kept greatest values id o h other = record {
  places = length-set values id o ∙ h.places;
  empty = get_or-set_other values id 0 o None (λ e. other (sym e)) ∙ h.empty;
}
