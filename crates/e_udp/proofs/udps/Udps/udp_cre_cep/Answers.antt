use Rattle.std.proofs.Common.{sym}
use Rattle.std.proofs.lemmas.Result.{IfOk-weaker}
use Rattle.it_types.specs.declared.request.Req.TheVariants.{UdpCreCep}
use Rattle.e_udp.specs.Contexts.{context_of}
use Rattle.e_udp.specs.Does.{side}
use Rattle.e_udp.proofs.Doing.{call_leaves, refused_does}
use Rattle.e_udp.proofs.udps.Udps.udp_cre_cep.Goals as goal

pub returns-in-Some-clause-does : goal.returns-in-Some-clause-does
returns-in-Some-clause-does c =
    refused_does (context_of c.args.by) (UdpCreCep c.args.cep c.args.port c.args.cbr) c.args.no c.in-Some.refusal c.requires.rest (c.in-Some.ensures c.args.pend.now) c.code.ensures

pub returns-in-None-clause-rest : goal.returns-in-None-clause-rest
returns-in-None-clause-rest c =
    IfOk-weaker c.create.result _ _
    (λ o does. call_leaves (side c.args.self.now c.args.pend.now) (context_of c.args.by) (UdpCreCep c.args.cep c.args.port c.args.cbr) does) c.create.ensures

pub create-requires-clause-allowed : goal.create-requires-clause-allowed
create-requires-clause-allowed c = sym (c.in-None.ensures c.args.pend.now)
