use Rattle.std.proofs.Common.{ap, sym, ◌∙◌}
use Rattle.std.proofs.lemmas.Result.{IfOk-weaker}
use Rattle.net_ip4.specs.Shown.{shown}
use Rattle.spec_udp.specs.Packets.{if_for}
use Rattle.spec_udp.specs.PlainUdps.{PlainUdps}
use Rattle.spec_udp.specs.Arrival.{after_arrival}
use Rattle.e_udp.specs.Does.{side}
use Rattle.e_udp.proofs.Delivering.{quiet_does}
use Rattle.e_udp.proofs.Doing.{settled_leaves}
use Rattle.e_udp.proofs.udps.Udps.arrive.Goals as goal

pub returns-in-Some-clause-rest : goal.returns-in-Some-clause-rest
returns-in-Some-clause-rest c = IfOk-weaker c.deliver.result _ _ (λ o does. settled_leaves _ does) c.deliver.ensures

pub returns-in-None-clause-does : goal.returns-in-None-clause-does
returns-in-None-clause-does c =
    quiet_does (after_arrival (side c.args.self.now c.args.pend.now) (if_for c.args.self.now.addr (shown c.args.d.now))) c.requires.rest
    (ap (after_arrival (side c.args.self.now c.args.pend.now)) (ap (λ (u : PlainUdps). if_for u.addr (shown c.args.d.now)) (sym c.self.view_is) ∙ c.in-None.ensures.read)) c.alone.ensures
