use Rattle.std.proofs.Common.{◌≡◌, refl, sym, subst, ap, ◌∙◌, List}
use Rattle.e_udp.specs.Does.{side}
use Rattle.spec_pend.specs.declared.call.NetCall.{NetCall}
use Rattle.spec_pend.specs.Slots.{numbered}
use Rattle.spec_udp.specs.Outside.{ended}
use Rattle.spec_udp.specs.Settling.{UdpAtRest}
use Rattle.spec_node.specs.PlainNode.{PlainNode}
use Rattle.n_node.specs.Callers.{call_found, listed, TellWho}
use Rattle.n_node.specs.Plain.{plain}
use Rattle.n_node.proofs.Ending.{ended_told}
use Rattle.n_node.proofs.Moving.{outside_end_moves, inside_end_moves}
use Rattle.n_node.proofs.Waking.{net_stays}
use Rattle.n_node.proofs.Successes.{on_ok_two}
use Rattle.n_node.proofs.parts.Parts.take_kernel_end.Goals as goal

pub returns-in_ok-take_net-clause-moves : goal.returns-in_ok-take_net-clause-moves
returns-in_ok-take_net-clause-moves c =
    let before = side c.args.self.now.udps c.args.self.now.pend in
    let callers : c.as_slice.result.now ≡ listed (call_found (numbered c.args.self.now.pend c.args.end.now.call)) = c.as_slice.ensures.value ∙ c.only-callers.ensures ∙ ap listed c.call.ensures in
    outside_end_moves c.args.self.now (record c.args.self.now { udps = c.end.new.self; pend = c.end.new.pend }) c.take_net.new.self c.args.told.now c.take_net.new.told c.as_slice.result.now c.in_ok-out.out c.args.end.now c.if-end.true refl c.in_ok-out.ensures.does
    (subst (λ (cs : List NetCall). TellWho cs (ended before c.args.end.now.call c.args.end.now.code).endings.ends) (sym callers) (ended_told before c.args.end.now.call c.args.end.now.code c.requires.rest)) c.in_ok-take_net.ensures.node c.in_ok-take_net.ensures.told

pub returns-in_ok-take_net-clause-rest : goal.returns-in_ok-take_net-clause-rest
returns-in_ok-take_net-clause-rest c =
    subst UdpAtRest
    (sym (ap (λ (n : PlainNode). n.net) c.in_ok-take_net.ensures.node ∙ net_stays c.as_slice.result.now (plain (record c.args.self.now { udps = c.end.new.self; pend = c.end.new.pend })) c.in_ok-out.out.ends)) c.in_ok-out.ensures.rest

pub returns-else-end-clause-moves : goal.returns-else-end-clause-moves
returns-else-end-clause-moves c =
    on_ok_two c.tell_end.result (λ node told. inside_end_moves c.args.self.now c.tell_end.new.self c.args.told.now c.tell_end.new.told c.args.end.now c.if-end.false node told) c.tell_end.ensures.node c.tell_end.ensures.told
