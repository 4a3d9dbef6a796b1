-- What a running kernel keeps: its parts are those of one kernel, in which tasks and calls stand as they ought to and no call is ready.
use Rattle.std.specs.Prelude.{◌≡◌}
use Rattle.spec_kernel.specs.Parts.{PlainParts, parts_of, whole_of}
use Rattle.spec_kernel.specs.Standing.{IsStanding}
use Rattle.spec_kernel.specs.Settle.{AtRest}

pub record Tied (p : PlainParts) : Type 0 where
  pub agree : p ≡ parts_of (whole_of p)
  pub standing : IsStanding (whole_of p)
  pub rest : AtRest (whole_of p)
