use Rattle.std.proofs.Common.{List, refl, sym, subst, ◌∙◌}
use Rattle.std.proofs.lemmas.Result.{IfOk-weaker}
use Rattle.spec_pend.specs.declared.call.NetCall.{NetCall}
use Rattle.spec_udp.specs.Arrival.{arrive}
use Rattle.e_udp.specs.Does.{side}
use Rattle.n_node.specs.Callers.{TellWho}
use Rattle.n_node.proofs.Telling.{arrival_told}
use Rattle.n_node.proofs.parts.Parts.arrive.Goals as goal

pub returns : goal.returns
returns c =
    let ends = (arrive (side c.args.self.now.udps c.args.self.now.pend) c.args.bytes.now).endings.ends in
    IfOk-weaker c.out.result _ _
    (λ out is. arrival_told c.args.self.now (record c.args.self.now { udps = c.receive.new.udps; pend = c.receive.new.pend }) c.take_net.new.self c.nothing-told.result c.take_net.new.told c.as_slice.result.now c.running-before.result c.running.result c.args.bytes.now c.in_ok-out.out c.in_ok-ans.ans out
    c.in_ok-out.ensures refl (subst (λ (cs : List NetCall). TellWho cs ends) (sym (c.as_slice.ensures.value ∙ c.receives-callers.ensures)) c.requires.told) c.in_ok-ans.ensures.node c.in_ok-ans.ensures.told
    (record { ends = c.nothing-told.ensures.ends; marks = c.nothing-told.ensures.marks; packets = c.nothing-told.ensures.packets }) c.running-before.ensures.task c.running.ensures.task c.in_ok-ans.ensures.answer is) (rw c.between-turn.ensures at c.out.ensures)
