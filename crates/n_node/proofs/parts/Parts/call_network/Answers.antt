use Rattle.std.proofs.Common.{List, ◌+◌, refl, sym, subst, ap, ◌∙◌}
use Rattle.std.proofs.lemmas.Result.{IfOk-weaker}
use Rattle.it_types.specs.declared.entry.Out.{Out}
use Rattle.spec_pend.specs.declared.call.NetCall.{NetCall}
use Rattle.spec_udp.specs.Rows.{udp_call}
use Rattle.e_udp.specs.Does.{side}
use Rattle.n_node.specs.Callers.{listed, TellWho}
use Rattle.n_node.proofs.Answering.{pends_so}
use Rattle.n_node.proofs.Ending.{call_told}
use Rattle.n_node.proofs.Telling.{network_step}
use Rattle.n_node.proofs.parts.Parts.call_network.Goals as goal

pub finish-requires-clause-waits : goal.finish-requires-clause-waits
finish-requires-clause-waits c =
    rw c.timeout.ensures
    (λ number is. pends_so (side c.args.self.now.udps c.args.self.now.pend) c.args.ctx c.args.request.now (record { 0 = c.args.self.now.calls + 1 }) number c.in_ok-out.out.ans (ap (λ (w : Out). w.ans) c.in_ok-out.ensures.does.told) is)

pub returns : goal.returns
returns c =
    let before = side c.args.self.now.udps c.args.self.now.pend in
    let ends = (udp_call before c.args.ctx c.args.request.now (record { 0 = c.args.self.now.calls + 1 })).endings.ends in
    let who : TellWho c.as_slice.result.now ends
    = subst (λ (cs : List NetCall). TellWho cs ends) (sym (c.as_slice.ensures.value ∙ c.only-callers.ensures ∙ ap listed c.ended_by.ensures)) (call_told before c.args.ctx (record { 0 = c.args.self.now.calls + 1 }) c.requires.rest c.args.request.now) in
    IfOk-weaker c.finish.result _ _
    (λ out finished. network_step c.args.self.now (record c.args.self.now { udps = c.udp_call.new.udps; pend = c.udp_call.new.pend }) c.finish.new.self c.args.ctx c.args.request.now out refl
    (finished (udp_call before c.args.ctx c.args.request.now (record { 0 = c.args.self.now.calls + 1 })) c.in_ok-out.ensures.does who)) (rw c.timeout.ensures at c.finish.ensures)
