use Rattle.std.proofs.Common.{sym, ap, ◌∙◌}
use Rattle.spec_kernel.specs.PlainSemaphores.{next_ready as next_at_semaphores}
use Rattle.spec_kernel.specs.PlainFlags.{next_ready as next_at_flags}
use Rattle.spec_kernel.specs.Parts.{PlainParts}
use Rattle.k_core.specs.PartsSettle.{next_at}
use Rattle.k_core.proofs.parts.Parts.next_at.Goals as goal

pub returns-in-Semaphore : goal.returns-in-Semaphore
returns-in-Semaphore c = c.next_ready.ensures ∙ ap (λ (p : PlainParts). next_at_semaphores p.sems) c.self.view_is ∙ sym (ap (next_at c.args.self.now) c.in-Semaphore.is)

pub returns-in-Flag : goal.returns-in-Flag
returns-in-Flag c = c.next_ready-in-Flag.ensures ∙ ap (λ (p : PlainParts). next_at_flags p.flags) c.self.view_is ∙ sym (ap (next_at c.args.self.now) c.in-Flag.is)
