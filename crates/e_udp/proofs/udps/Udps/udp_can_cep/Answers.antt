use Rattle.std.proofs.Common.{refl, sym}
use Rattle.std.proofs.lemmas.Result.{IfOk-weaker}
use Rattle.it_types.specs.declared.request.Req.TheVariants.{UdpCanCep}
use Rattle.e_udp.specs.Contexts.{context_of}
use Rattle.e_udp.specs.Does.{side}
use Rattle.e_udp.proofs.Doing.{call_leaves, canceling_does, refused_does}
use Rattle.e_udp.proofs.udps.Udps.udp_can_cep.Goals as goal

pub returns-in-Some-clause-does : goal.returns-in-Some-clause-does
returns-in-Some-clause-does c = refused_does (context_of c.args.by) (UdpCanCep c.args.cep c.args.func) c.args.no c.in-Some.refusal c.requires.rest c.in-Some.ensures c.code.ensures

pub returns-in-None-clause-does : goal.returns-in-None-clause-does
returns-in-None-clause-does c =
    IfOk-weaker c.ending_named.result _ _
    (λ o shows. canceling_does c.args.pend.now refl c.requires.rest (context_of c.args.by) c.args.cep c.args.func c.args.no (sym c.in-None.ensures) shows) c.ending_named.ensures

pub returns-in-None-clause-rest : goal.returns-in-None-clause-rest
returns-in-None-clause-rest c =
    IfOk-weaker c.ending_named.result _ _
    (λ o shows. call_leaves (side c.args.self.now c.args.pend.now) (context_of c.args.by) (UdpCanCep c.args.cep c.args.func)
    (canceling_does c.args.pend.now refl c.requires.rest (context_of c.args.by) c.args.cep c.args.func c.args.no (sym c.in-None.ensures) shows)) c.ending_named.ensures
