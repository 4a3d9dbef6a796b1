-- What a call of the kernel does, in its parts.
use Rattle.std.specs.Prelude.{◌≡◌}
use Rattle.spec_kernel.specs.Parts.{PlainParts}
use Rattle.k_core.specs.PartsRows.{PartsOutcome}
use Rattle.k_core.specs.declared.done.Done.{Done}

-- the parts afterwards and what the call tells are those of the outcome
pub record Does (new : PlainParts) (done : Done) (o : PartsOutcome) : Type 0 where
  pub parts : new ≡ o.parts
  pub answer : done.ans ≡ o.answer
  pub ends : done.ends.items ≡ o.ends
  pub gone : done.gone ≡ o.gone
  pub begun : done.begun ≡ o.begun
