use Rattle.std.proofs.Common.{ap, sym, ◌∙◌}
use Rattle.std.proofs.lemmas.Result.{IfOk-weaker}
use Rattle.spec_lists.specs.Tables.{get, change}
use Rattle.spec_udp.specs.Arrival.{has_place}
use Rattle.spec_udp.specs.Points.{joined, routine_at}
use Rattle.e_udp.proofs.Delivering.{full_there, joins_there, tells_there}
use Rattle.e_udp.proofs.udps.Udps.queue.Goals as goal

pub returns-then-not-has_place : goal.returns-then-not-has_place
returns-then-not-has_place c =
    full_there c.args.pend.now c.self.view_is c.requires.rest c.args.cep (record { from = c.args.from; load = c.args.load.now }) c.requires.there
    (sym (c.has_place.ensures ∙ ap has_place (c.point_at.ensures ∙ ap (λ ps. get ps c.args.cep.0) c.deref.ensures.value)) ∙ c.if-not-has_place.true) c.alone.ensures

pub returns-then-cbr-eq0 : goal.returns-then-cbr-eq0
returns-then-cbr-eq0 c =
    joins_there c.args.pend.now c.self.view_is c.requires.rest c.args.cep (record { from = c.args.from; load = c.args.load.now }) c.requires.there
    (sym (c.has_place.ensures ∙ ap has_place (c.point_at.ensures ∙ ap (λ ps. get ps c.args.cep.0) c.deref.ensures.value)) ∙ c.if-not-has_place.false) c.requires.free c.routine_at-cbr.result
    (c.join.ensures ∙ ap (λ l. change c.self.inside.points.items c.args.cep.0 (joined (record { from = c.args.from; load = l }))) c.in_ok-load_kept.ensures)
    (c.routine_at-cbr.ensures.routine ∙ ap routine_at (c.point_at-2.ensures ∙ ap (λ ps. get ps c.args.cep.0) c.deref-2.ensures.value)) c.if-cbr-eq0.true c.alone-then-cbr-eq0.ensures

pub returns : goal.returns
returns c =
    IfOk-weaker c.telling.result _ _
    (λ o shows. tells_there c.args.pend.now c.self.view_is c.requires.rest c.args.cep (record { from = c.args.from; load = c.args.load.now }) c.requires.there
    (sym (c.has_place.ensures ∙ ap has_place (c.point_at.ensures ∙ ap (λ ps. get ps c.args.cep.0) c.deref.ensures.value)) ∙ c.if-not-has_place.false) c.requires.free c.routine_at-cbr.result c.count_code.result c.event_slot.ensures
    (c.join.ensures ∙ ap (λ l. change c.self.inside.points.items c.args.cep.0 (joined (record { from = c.args.from; load = l }))) c.in_ok-load_kept.ensures)
    (c.routine_at-cbr.ensures.routine ∙ ap routine_at (c.point_at-2.ensures ∙ ap (λ ps. get ps c.args.cep.0) c.deref-2.ensures.value)) c.if-cbr-eq0.false c.count_code.ensures shows) c.telling.ensures
