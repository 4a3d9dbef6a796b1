use Rattle.std.proofs.lemmas.Result.{IfOk-weaker}
use Rattle.e_udp.proofs.Searches.{begun_shows}
use Rattle.e_udp.proofs.telling.begin_and_end.Goals as goal

pub returns : goal.returns
returns c =
    IfOk-weaker c.ending_at.result _ _
    (λ o shows. begun_shows c.args.pend.now c.accept.new.self c.args.who c.args.slot c.args.no c.accept.result c.args.code c.args.bytes.now c.requires.free c.accept.ensures shows) c.ending_at.ensures
