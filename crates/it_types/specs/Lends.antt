-- What a borrow of a value of a table leaves.
use Rattle.std.specs.Prelude.{ℕ, List, Option, Some, slice_set}
use Rattle.std.specs.Borrow.{LendsIf, MutBor, Fml, RattleType}
use Rattle.it_types.specs.contracts.table.Table.{the_row}

module _ (T N : RattleType) (s : MutBor (List (Option T.Denot))) (id : ℕ) where
  -- once the borrow ends, the id has the last value written; at None the table stays as it is
  abbrev pub lends_at : Option (MutBor T.Denot) → Fml
  lends_at r = LendsIf (the_row T N) T s r (λ v. slice_set s.now id (Some v)) s.now
