use Rattle.std.proofs.lemmas.Result.{IfOk-weaker}
use Rattle.e_udp.specs.Contexts.{context_of}
use Rattle.e_udp.proofs.Doing.{deleting_does}
use Rattle.e_udp.proofs.udps.Udps.delete.Goals as goal

pub returns : goal.returns
returns c =
    IfOk-weaker c.ending_named.result _ _
    (λ o shows. deleting_does c.args.pend.now c.self.view_is c.requires.rest (context_of c.args.by) c.args.cep c.args.no c.requires.allowed c.put.ensures shows) c.ending_named.ensures
