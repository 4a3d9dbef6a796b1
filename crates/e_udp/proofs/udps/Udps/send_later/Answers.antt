use Rattle.std.proofs.Common.{ap, sym, ◌∙◌}
use Rattle.spec_lists.specs.Tables.{get}
use Rattle.spec_udp.specs.Packets.{sent_packet}
use Rattle.spec_pend.specs.Slots.{is_taken}
use Rattle.spec_udp.specs.Points.{local_port, routine_at, sending_at}
use Rattle.e_udp.specs.Does.{side}
use Rattle.e_udp.proofs.Doing.{sending_later_does}
use Rattle.e_udp.proofs.NonBlocking.{send_free}
use Rattle.e_udp.proofs.udps.Udps.send_later.Goals as goal

pub begin_and_end-requires-clause-free : goal.begin_and_end-requires-clause-free
begin_and_end-requires-clause-free c = ap (is_taken c.args.pend.now) c.send_slot.ensures ∙ send_free (side c.args.self.now c.args.pend.now) c.args.cep c.requires.rest

pub returns : goal.returns
returns c =
    let point = c.point_at-point.ensures ∙ ap (λ ps. get ps c.args.cep.0) c.deref.ensures.value in
    sending_later_does c.args.pend.now c.self.view_is c.requires.rest c.args.by c.args.cep c.args.dest c.args.load.now c.args.tmo c.args.no c.routine_at.result c.count_code-code.result c.in_ok-packet.packet c.requires.allowed
    c.send_slot.ensures c.requires.later (c.routine_at.ensures.routine ∙ ap routine_at point) (ap sending_at (sym point) ∙ c.routine_at.ensures.idle) c.count_code-code.ensures
    (c.in_ok-packet.ensures ∙ ap (λ port. sent_packet c.self.inside.addr port c.args.dest c.args.load.now) (c.local_port.ensures ∙ ap local_port point)) c.in_ok-out.ensures
    (ap (λ packs. record c.in_ok-out.out { packs = packs }) c.in_ok-push.ensures.ok)
