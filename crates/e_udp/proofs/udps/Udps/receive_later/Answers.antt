use Rattle.std.proofs.Common.{ap, sym, ◌∙◌}
use Rattle.spec_lists.specs.Tables.{get}
use Rattle.spec_udp.specs.Points.{routine_at}
use Rattle.e_udp.proofs.Taking.{taking_later_does, waiting_later_does}
use Rattle.e_udp.proofs.udps.Udps.receive_later.Goals as goal
use Rattle.e_udp.proofs.udps.Udps.receive_later.Goals.{in-Some+in_ok-bytes-in-Some+in_ok-out-in-Some, in-None}

pub returns : goal.returns
returns c =
    elim c.match-take_oldest.branch [
      | in-Some+in_ok-bytes-in-Some+in_ok-out-in-Some w ↦ rw (w.result-is, w.pend-is)
          (taking_later_does c.args.pend.now c.self.view_is c.requires.rest c.args.by c.args.cep c.args.len c.args.tmo c.args.no c.requires.allowed c.routine_at.result w.in-Some.datagram w.receive_code-code.result w.as_slice.result.now
          w.receive_slot-slot.ensures c.requires.later (c.routine_at.ensures.routine ∙ ap routine_at (c.point_at.ensures ∙ ap (λ ps. get ps c.args.cep.0) c.deref.ensures.value)) c.want.ensures w.in-Some.ensures.oldest w.in-Some.ensures.points
          (rw (sym w.as_slice-load.ensures) (w.receive_code-code.ensures w.in-Some.datagram.from)) (w.as_slice.ensures ∙ rw (sym w.as_slice-load.ensures) w.in_ok-bytes-in-Some.ensures) w.in_ok-out-in-Some.ensures)
      | in-None w ↦ rw (w.result-is, w.pend-is)
          (waiting_later_does c.args.pend.now c.self.view_is c.requires.rest c.args.by c.args.cep c.args.len c.args.tmo c.args.no c.requires.allowed c.routine_at.result w.accept.result w.receive_slot.ensures c.requires.later
          (c.routine_at.ensures.routine ∙ ap routine_at (c.point_at.ensures ∙ ap (λ ps. get ps c.args.cep.0) c.deref.ensures.value)) c.want.ensures w.in-None.ensures.oldest w.in-None.ensures.points w.accept.ensures w.alone.ensures)
    ]
