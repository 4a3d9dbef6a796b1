use Rattle.std.proofs.Common.{Some, ap, sym, ◌∙◌}
use Rattle.std.specs.List.{position}
use Rattle.std.proofs.lemmas.Result.{IfOk-weaker}
use Rattle.spec_udp.specs.declared.point.Received.{Received}
use Rattle.spec_udp.specs.PlainUdps.{PlainUdps}
use Rattle.spec_udp.specs.Points.{has_port}
use Rattle.spec_udp.specs.Settling.{settled}
use Rattle.spec_udp.specs.Arrival.{after_arrival}
use Rattle.e_udp.specs.Does.{side}
use Rattle.e_udp.proofs.Delivering.{at_place, is_there, nowhere, quiet_does}
use Rattle.e_udp.proofs.Doing.{does_same}
use Rattle.e_udp.proofs.udps.Udps.deliver.Goals as goal

pub give-requires-clause-there : goal.give-requires-clause-there
give-requires-clause-there c =
    is_there (side c.args.self.now c.args.pend.now) c.args.port (record { from = c.args.from; load = c.args.load.now }) c.in-Some.place
    (ap (λ (u : PlainUdps). position (has_port c.args.port) u.points) (sym c.self.view_is) ∙ ap (position (has_port c.args.port)) (sym c.deref.ensures.value) ∙ sym c.in-Some.ensures)

pub returns-in-Some : goal.returns-in-Some
returns-in-Some c =
    IfOk-weaker c.give.result _ _
    (λ o does. does_same
    (ap settled (at_place (side c.args.self.now c.args.pend.now) c.args.port (record { from = c.args.from; load = c.args.load.now }) c.in-Some.place
    (ap (λ (u : PlainUdps). position (has_port c.args.port) u.points) (sym c.self.view_is) ∙ ap (position (has_port c.args.port)) (sym c.deref.ensures.value) ∙ sym c.in-Some.ensures))) does) c.give.ensures

pub returns-in-None : goal.returns-in-None
returns-in-None c =
    let d : Received = record { from = c.args.from; load = c.args.load.now } in
    quiet_does (after_arrival (side c.args.self.now c.args.pend.now) (Some (record { port = c.args.port; received = d }))) c.requires.rest
    (nowhere (side c.args.self.now c.args.pend.now) c.args.port d
    (ap (λ (u : PlainUdps). position (has_port c.args.port) u.points) (sym c.self.view_is) ∙ ap (position (has_port c.args.port)) (sym c.deref.ensures.value) ∙ sym c.in-None.ensures)) c.alone.ensures
