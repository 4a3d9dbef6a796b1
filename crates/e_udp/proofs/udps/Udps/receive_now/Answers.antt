use Rattle.std.proofs.Common.{sym, ◌∙◌}
use Rattle.e_udp.proofs.Taking.{poll_does, taking_does, waiting_does}
use Rattle.e_udp.proofs.udps.Udps.receive_now.Goals as goal

pub returns-in_ok-bytes-in-Some : goal.returns-in_ok-bytes-in-Some
returns-in_ok-bytes-in-Some c =
    taking_does c.args.pend.now c.self.view_is c.requires.rest c.args.by c.args.cep c.args.len c.args.tmo c.args.no c.requires.allowed c.in-Some.datagram c.receive_code.result c.in_ok-bytes-in-Some.bytes c.requires.waits
    c.in-Some.ensures.oldest c.in-Some.ensures.points (rw (sym c.as_slice-load.ensures) (c.receive_code.ensures c.in-Some.datagram.from)) (rw (sym c.as_slice-load.ensures) c.in_ok-bytes-in-Some.ensures) c.alone.ensures

pub returns-in-None : goal.returns-in-None
returns-in-None c =
    poll_does c.args.pend.now c.self.view_is c.requires.rest c.args.by c.args.cep c.args.len c.args.tmo c.args.no c.requires.allowed c.requires.waits c.in-None.ensures.oldest c.in-None.ensures.points
    (sym c.is_poll.ensures ∙ c.if-is_poll.true) c.code.ensures

pub returns-in-None-2 : goal.returns-in-None-2
returns-in-None-2 c =
    waiting_does c.args.pend.now c.self.view_is c.requires.rest c.args.by c.args.cep c.args.len c.args.tmo c.args.no c.requires.allowed c.accept.result c.receive_slot.ensures c.requires.waits c.in-None.ensures.oldest c.in-None.ensures.points c.want.ensures
    (sym c.is_poll.ensures ∙ c.if-is_poll.false) c.accept.ensures c.alone-in-None-2.ensures
