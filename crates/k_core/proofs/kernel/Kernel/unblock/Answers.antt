use Rattle.std.proofs.Common.{false, refl, ap, sym, ◌∙◌}
use Rattle.spec_kernel.specs.Parts.{PlainParts, whole_of}
use Rattle.spec_kernel.specs.Time.{is_outside_of, unblocked}
use Rattle.k_core.specs.PartsTime.{ended_from}
use Rattle.k_core.proofs.KernelSteps.{end_tied, unblock_none, unblock_some}
use Rattle.k_core.proofs.kernel.Kernel.unblock.Goals as goal

pub invariant_of-self : goal.invariant_of-self
invariant_of-self c =
    end_tied c.self.invariant (is_outside_of c.args.task) c.in-Some.wait c.take_outside.new.self.waits c.in-Some.ensures.call
    (c.end_wait.ensures ∙ ap (λ (q : PlainParts). ended_from q c.in-Some.wait) c.in-Some.ensures.parts)

pub returns-in-Some : goal.returns-in-Some
returns-in-Some c =
    sym (ap (λ k. unblocked k c.args.task) c.self.view_is)
    ∙ unblock_some c.self.invariant c.args.task c.in-Some.wait c.take_outside.new.self.waits c.in-Some.ensures.call
    (c.end_wait.ensures ∙ ap (λ (q : PlainParts). ended_from q c.in-Some.wait) c.in-Some.ensures.parts)

pub returns-in-None : goal.returns-in-None
returns-in-None c =
    sym (ap (λ k. unblocked k c.args.task) c.self.view_is)
    ∙ unblock_none c.self.invariant c.args.task c.in-None.ensures.call
    ∙ ap (λ q. (whole_of q, false)) (sym (c.in-None.ensures.none refl))
