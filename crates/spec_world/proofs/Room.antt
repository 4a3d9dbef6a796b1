-- A history with room is shorter than the limit.
use Rattle.std.proofs.Common.{◌≡◌, ◌<◌, true, false, List, length, refl, inl, inr}
use Rattle.std.specs.Prelude.{nat_le}
use Rattle.std.proofs.lemmas.Bool.{cases_lt, le-leb}
use Rattle.it_types.specs.declared.entry.Entry.{Entry}
use Rattle.spec_world.specs.Sizes.{entry_limit, is_full}

pub room_short : (log : List Entry) → is_full log ≡ false → length log < entry_limit
room_short log room = elim (cases_lt (length log) entry_limit) [
  | inl lt ↦ lt
  | inr le ↦ absurd (let full : nat_le entry_limit (length log) ≡ true = le-leb entry_limit (length log) le in let all : is_full log ≡ true = rw full refl in cc)
]
