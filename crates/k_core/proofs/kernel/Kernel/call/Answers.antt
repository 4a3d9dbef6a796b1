use Rattle.std.proofs.Common.{subst, sym}
use Rattle.spec_kernel.specs.Parts.{whole_of}
use Rattle.spec_kernel.specs.Rows.{call}
use Rattle.laws_kernel.specs.Calling.{Calls}
use Rattle.k_core.specs.Kernel.{DoesWhole}
use Rattle.k_core.proofs.KernelSteps.{call_does, call_tied, may, rests}
use Rattle.k_core.proofs.kernel.Kernel.call.Goals as goal

pub row-done-requires-clause-sems : goal.row-done-requires-clause-sems
row-done-requires-clause-sems c = (rests c.self.invariant).sems

pub row-done-requires-clause-dtqs : goal.row-done-requires-clause-dtqs
row-done-requires-clause-dtqs c = (rests c.self.invariant).dtqs

pub row-done-requires-clause-caller : goal.row-done-requires-clause-caller
row-done-requires-clause-caller c = may c.self.invariant c.args.ctx (subst (λ k. Calls k c.args.ctx) (sym c.self.view_is) c.requires.caller)

pub invariant_of-self : goal.invariant_of-self
invariant_of-self c =
    call_tied c.self.invariant c.args.ctx c.args.req.now c.args.no (subst (λ k. Calls k c.args.ctx) (sym c.self.view_is) c.requires.caller) c.row-done.ensures.does c.settle.new.self c.settle.ensures.parts

pub returns : goal.returns
returns c =
    subst (λ k. DoesWhole (whole_of c.settle.new.self) c.settle.new.done (call k c.args.ctx c.args.req.now c.args.no)) c.self.view_is
    (call_does c.self.invariant c.args.ctx c.args.req.now c.args.no (subst (λ k. Calls k c.args.ctx) (sym c.self.view_is) c.requires.caller) c.row-done.ensures.does
    c.settle.new.self c.settle.new.done c.settle.ensures.parts c.settle.ensures.ends c.settle.ensures.answer c.settle.ensures.gone c.settle.ensures.begun)
