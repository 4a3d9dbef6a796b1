-- What the memory of a window keeps.
use Rattle.std.specs.Prelude.{ℕ, ◌≡◌, ◌≤◌, ◌<◌, ◌^◌, List, length}

-- so many of its bytes are kept, behind so many that are counted
pub record Holds (size count kept : ℕ) (ring : List ℕ) : Type 0 where
  pub most : size ≤ 65280
  pub counted : count < 2 ^ 63
  pub within : kept ≤ size
  pub whole : length ring ≡ size
