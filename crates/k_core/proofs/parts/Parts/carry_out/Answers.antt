use Rattle.std.proofs.Common.{sym, subst, ap, ◌∙◌, ◌&&◌, not}
use Rattle.it_types.specs.declared.kernel_request.KReq.{KReq}
use Rattle.it_types.specs.Callers.{is_handler}
use Rattle.spec_kernel.specs.Parts.{PlainParts}
use Rattle.spec_kernel.specs.Calls.{is_a_handlers}
use Rattle.k_core.specs.Callers.{MayCall}
use Rattle.k_core.proofs.Calling.{as_caller, no_handler}
use Rattle.k_core.proofs.parts.Parts.carry_out.Goals as goal

pub wait_or_finish-requires-clause-room : goal.wait_or_finish-requires-clause-room
wait_or_finish-requires-clause-room c = λ e.
    let task = no_handler c.args.ctx (sym (ap (λ (r : KReq). is_handler c.args.ctx && not (is_a_handlers r)) c.in-TslpTsk.is) ∙ c.requires.allowed) in
    (as_caller c.args.ctx (subst (λ (p : PlainParts). MayCall p c.args.ctx) (sym c.self-in-TslpTsk.view_is) c.requires.caller) task).room

pub wait_or_finish-requires-in-DlyTsk-clause-room : goal.wait_or_finish-requires-in-DlyTsk-clause-room
wait_or_finish-requires-in-DlyTsk-clause-room c = λ e.
    let task = no_handler c.args.ctx (sym (ap (λ (r : KReq). is_handler c.args.ctx && not (is_a_handlers r)) c.in-DlyTsk.is) ∙ c.requires.allowed) in
    (as_caller c.args.ctx (subst (λ (p : PlainParts). MayCall p c.args.ctx) (sym c.self-in-DlyTsk.view_is) c.requires.caller) task).room
