use Rattle.std.proofs.Common.{sym, ap, ◌∙◌}
use Rattle.spec_kernel.specs.declared.reason.WaitReason.TheVariants as reasons
use Rattle.spec_kernel.specs.Parts.{PlainParts}
use Rattle.k_core.specs.PartsSettle.{let_go}
use Rattle.k_core.proofs.parts.Parts.let_go.Goals as goal

pub returns-in-Semaphore : goal.returns-in-Semaphore
returns-in-Semaphore c = rw c.free.ensures (ap (λ (p : PlainParts). let_go p (reasons.Semaphore c.in-Semaphore.field-0)) c.self.view_is) ∙ sym (ap (let_go c.args.self.now) c.in-Semaphore.is)

pub returns-in-Flag : goal.returns-in-Flag
returns-in-Flag c = rw c.free-in-Flag.ensures (ap (λ (p : PlainParts). let_go p (reasons.Flag c.in-Flag.field-0)) c.self.view_is) ∙ sym (ap (let_go c.args.self.now) c.in-Flag.is)
