-- What a call of the running kernel does.
use Rattle.std.specs.Prelude.{◌≡◌, Bool, true, false, [], ◌∷◌}
use Rattle.it_types.specs.declared.timeout.Tmo.{Tmo}
use Rattle.it_types.specs.declared.timeout.Tmo.TheVariants as timeouts
use Rattle.it_types.specs.Callers.{nobody}
use Rattle.spec_kernel.specs.declared.outcome.KAns.TheVariants.{Quiet}
use Rattle.spec_kernel.specs.declared.outcome.KEnd.{KEnd}
use Rattle.spec_kernel.specs.PlainKernel.{PlainKernel}
use Rattle.spec_kernel.specs.Settle.{Outcome}
use Rattle.k_core.specs.declared.done.Done.{Done}

-- the kernel afterwards and what the call tells are those of the outcome
pub record DoesWhole (new : PlainKernel) (done : Done) (o : Outcome) : Type 0 where
  pub kernel : new ≡ o.kernel
  pub answer : done.ans ≡ o.answer
  pub ends : done.ends.items ≡ o.ends
  pub gone : done.gone ≡ o.gone
  pub begun : done.begun ≡ o.begun

-- an end by time that makes no other call end
abbrev pub ended_alone : PlainKernel → KEnd → Outcome
ended_alone k e = record { kernel = k; answer = Quiet; ends = e ∷ []; gone = nobody; begun = nobody }

-- the task of a call with this time-out may come to wait: a poll is over at once, and a non-blocking call goes on without it
abbrev pub may_wait : Tmo → Bool
may_wait timeouts.Fevr = true
may_wait (timeouts.Ms ticks) = true
may_wait timeouts.Pol = false
may_wait timeouts.Nblk = false
