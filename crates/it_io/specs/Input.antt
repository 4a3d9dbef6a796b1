-- What a reader to the end takes from a source, by the bytes that the source tells.
use Rattle.std.specs.Prelude.{◌≡◌, ℕ, ◌+◌, ◌≤◌, List, Option, length}
use Rattle.std.specs.Io.KnownBytes.{Consumes, IsAtEnd}

-- these bytes were taken, and nothing is left
pub record ReadToEnd (old new : Option (List ℕ)) (bytes : List ℕ) : Type 0 where
  pub taken : Consumes old new bytes
  pub at_end : IsAtEnd new

-- exactly n bytes were taken
pub record TookExactly (old new : Option (List ℕ)) (n : ℕ) : Type 0 where
  pub bytes : List ℕ
  pub taken : Consumes old new bytes
  pub count : length bytes ≡ n

-- as many bytes as the limit were taken, and one more
abbrev pub TookPast : Option (List ℕ) → Option (List ℕ) → ℕ → Type 0
TookPast old new limit = TookExactly old new (limit + 1)

-- no more than n bytes were taken
pub record TookAtMost (old new : Option (List ℕ)) (n : ℕ) : Type 0 where
  pub bytes : List ℕ
  pub taken : Consumes old new bytes
  pub bound : length bytes ≤ n
