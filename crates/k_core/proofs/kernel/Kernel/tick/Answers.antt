use Rattle.std.proofs.Common.{ap, sym, ◌∙◌}
use Rattle.spec_kernel.specs.Rows.{tick}
use Rattle.k_core.proofs.KernelSteps.{tick_does, tick_ends, tick_tied}
use Rattle.k_core.proofs.kernel.Kernel.tick.Goals as goal

pub invariant_of-self : goal.invariant_of-self
invariant_of-self c = tick_tied c.self.invariant c.tick.ensures.parts

pub returns-clause-kernel : goal.returns-clause-kernel
returns-clause-kernel c = tick_does c.self.invariant c.tick.ensures.parts ∙ ap (λ k. (tick k).kernel) c.self.view_is

pub returns-clause-rest : goal.returns-clause-rest
returns-clause-rest c = sym (ap (λ k. (tick k).ends) c.self.view_is) ∙ tick_ends c.self.invariant
