-- What an end point keeps.
use Rattle.std.specs.Prelude.{◌≡◌, ℕ, ◌≤◌}

pub record PointKept (capacity wanted : ℕ) : Type 0 where
  pub capacity_is : capacity ≡ 8  -- the places of its ring
  pub within : wanted ≤ 65280  -- no receive wants more bytes than it may ask for
