use Rattle.std.proofs.Common.{◌≡◌, Some, refl, ap, sym, ◌∙◌}
use Rattle.spec_kernel.specs.declared.outcome.KEnd.{KEnd}
use Rattle.spec_kernel.specs.Parts.{PlainParts, whole_of}
use Rattle.spec_kernel.specs.Settle.{ending}
use Rattle.spec_kernel.specs.Time.{code_by_time, due, is_next_past}
use Rattle.laws_kernel.proofs.Timing.{due_none, next_past_none}
use Rattle.k_core.specs.PartsTime.{ended_from}
use Rattle.k_core.proofs.KernelSteps.{due_does, end_tied}
use Rattle.k_core.proofs.kernel.Kernel.due.Goals as goal

pub returns-in_err-wait-clause-none : goal.returns-in_err-wait-clause-none
returns-in_err-wait-clause-none c = λ nothing. (
  sym (ap due c.self.view_is) ∙ due_none (whole_of c.self.inside.parts) (next_past_none (whole_of c.self.inside.parts) c.in_err-wait.ensures.call),
  ap whole_of (c.in_err-wait.ensures.none refl) ∙ c.self.view_is,
)

pub invariant_of-self-2 : goal.invariant_of-self-2
invariant_of-self-2 c =
    end_tied c.self.invariant (is_next_past c.self.inside.parts.clock.now c.self.inside.parts.waits) c.in_ok-wait.wait c.take_past.new.self.waits c.in_ok-wait.ensures.call
    (c.end_wait.ensures ∙ ap (λ (q : PlainParts). ended_from q c.in_ok-wait.wait) c.in_ok-wait.ensures.parts)

pub returns-clause-some : goal.returns-clause-some
returns-clause-some c = λ e is.
    sym (ap due c.self.view_is)
    ∙ due_does c.self.invariant c.in_ok-wait.wait c.take_past.new.self.waits c.end_wait.new.self e c.in_ok-wait.ensures.call
    (c.end_wait.ensures ∙ ap (λ (q : PlainParts). ended_from q c.in_ok-wait.wait) c.in_ok-wait.ensures.parts)
    (same is ∙ c.ending.ensures ∙ ap (λ code. ending c.in_ok-wait.wait code c.new.result) c.code_by_time.ensures ∙ ap (ending c.in_ok-wait.wait (code_by_time c.in_ok-wait.wait.reason)) c.new.ensures)
  where
    same : {d e : KEnd} → Some d ≡ Some e → e ≡ d
    same is = cc
