use Rattle.std.proofs.lemmas.Result.{IfOk-weaker}
use Rattle.it_types.specs.declared.request.Req.TheVariants.{UdpRcvDat}
use Rattle.e_udp.specs.Contexts.{context_of}
use Rattle.e_udp.specs.Does.{side}
use Rattle.e_udp.proofs.Doing.{call_leaves, refused_does}
use Rattle.e_udp.proofs.udps.Udps.udp_rcv_dat.Goals as goal

pub returns-in-Some-clause-does : goal.returns-in-Some-clause-does
returns-in-Some-clause-does c =
    refused_does (context_of c.args.by) (UdpRcvDat c.args.cep c.args.len c.args.tmo) c.args.no c.in-Some.refusal c.requires.rest c.in-Some.ensures c.code.ensures

pub returns-in-None-clause-rest : goal.returns-in-None-clause-rest
returns-in-None-clause-rest c =
    IfOk-weaker c.receive_later.result _ _
    (λ o does. call_leaves (side c.args.self.now c.args.pend.now) (context_of c.args.by) (UdpRcvDat c.args.cep c.args.len c.args.tmo) does) c.receive_later.ensures

pub returns-in-None-2-clause-rest : goal.returns-in-None-2-clause-rest
returns-in-None-2-clause-rest c =
    IfOk-weaker c.receive_now.result _ _
    (λ o does. call_leaves (side c.args.self.now c.args.pend.now) (context_of c.args.by) (UdpRcvDat c.args.cep c.args.len c.args.tmo) does) c.receive_now.ensures
