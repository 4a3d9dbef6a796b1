-- What contracts see of a source and of a sink over memory.
use Rattle.std.specs.Prelude.{ℕ, List}

-- a source over memory
pub record Supply : Type 0 where
  -- the bytes that are left
  pub left : List ℕ
  -- how many bytes one call gives at most
  pub piece : ℕ
  -- the numbers of the calls that fail, from 1
  pub fail : List ℕ
  -- the calls so far, how many of them failed, and how many told the end
  pub calls : ℕ
  pub faults : ℕ
  pub ends : ℕ

-- a sink over memory
pub record Store : Type 0 where
  -- the bytes that were written
  pub written : List ℕ
  -- for how many bytes room is left
  pub room : ℕ
  -- how many bytes one call takes at most
  pub piece : ℕ
  -- the numbers of the calls that fail, from 1
  pub fail : List ℕ
  -- the calls so far, and how many of them failed
  pub calls : ℕ
  pub faults : ℕ
