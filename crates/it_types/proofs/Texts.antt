-- Texts to whose end nothing is appended.
use Rattle.std.proofs.Common.{◌≡◌, ℕ, List, [], ◌++◌}
use Rattle.std.proofs.lemmas.List.{append-nil}

pub no_more : (xs : List ℕ) → xs ++ [] ≡ xs
no_more xs = append-nil xs
