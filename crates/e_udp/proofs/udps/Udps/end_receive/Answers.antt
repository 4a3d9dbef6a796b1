use Rattle.std.proofs.Common.{ap, ◌∙◌}
use Rattle.std.proofs.lemmas.Result.{IfOk-weaker}
use Rattle.spec_lists.specs.Tables.{get}
use Rattle.spec_udp.specs.declared.point.Received.{Received}
use Rattle.spec_udp.specs.Receiving.{receive_bytes, receive_code}
use Rattle.spec_udp.specs.Points.{wanted_at}
use Rattle.e_udp.proofs.Delivering.{ends_there}
use Rattle.e_udp.proofs.udps.Udps.end_receive.Goals as goal

pub returns : goal.returns
returns c =
    let d : Received = record { from = c.args.from; load = c.args.load.now } in
    let wanted = c.wanted_at-len.ensures.wanted ∙ ap wanted_at (c.point_at.ensures ∙ ap (λ ps. get ps c.args.cep.0) c.deref.ensures.value) in
    IfOk-weaker c.ending_at.result _ _
    (λ o shows. ends_there c.args.pend.now c.self.view_is c.requires.rest c.args.cep d c.requires.there c.receive_code-code.result c.as_slice.result.now c.receive_slot.ensures c.requires.waits
    (c.receive_code-code.ensures c.args.from ∙ ap (λ n. receive_code n d) wanted) (c.as_slice.ensures ∙ c.in_ok-bytes.ensures ∙ ap (λ n. receive_bytes n d) wanted) shows) c.ending_at.ensures
