use Rattle.std.proofs.Common.{refl, sym, ◌∙◌}
use Rattle.std.proofs.lemmas.Result.{IfOk-weaker}
use Rattle.it_types.specs.declared.request.Req.TheVariants.{UdpSndDat}
use Rattle.e_udp.specs.Contexts.{context_of}
use Rattle.e_udp.specs.Does.{side}
use Rattle.e_udp.proofs.Allowed.{may_send}
use Rattle.e_udp.proofs.Doing.{call_leaves, refused_does, sending_does}
use Rattle.e_udp.proofs.udps.Udps.udp_snd_dat.Goals as goal

pub returns-in-Some-clause-does : goal.returns-in-Some-clause-does
returns-in-Some-clause-does c =
    refused_does (context_of c.args.by) (UdpSndDat c.args.cep c.args.dest c.args.load.now c.args.tmo) c.args.no c.in-Some.refusal c.requires.rest (c.in-Some.ensures c.args.pend.now) c.code.ensures

pub returns-in-None-clause-rest : goal.returns-in-None-clause-rest
returns-in-None-clause-rest c =
    IfOk-weaker c.send_later.result _ _
    (λ o does. call_leaves (side c.args.self.now c.args.pend.now) (context_of c.args.by) (UdpSndDat c.args.cep c.args.dest c.args.load.now c.args.tmo) does) c.send_later.ensures

pub returns-in-None-2-clause-does : goal.returns-in-None-2-clause-does
returns-in-None-2-clause-does c =
    IfOk-weaker c.send_now.result _ _
    (λ o told. sending_does c.args.pend.now refl c.requires.rest (context_of c.args.by) c.args.cep c.args.dest c.args.load.now c.args.tmo c.args.no (sym (c.in-None.ensures c.args.pend.now)) (sym c.is_nblk.ensures ∙ c.if-is_nblk.false) told) c.send_now.ensures

pub send_later-requires-clause-allowed : goal.send_later-requires-clause-allowed
send_later-requires-clause-allowed c = sym (c.in-None.ensures c.args.pend.now)

pub send_now-requires : goal.send_now-requires
send_now-requires c = (may_send (side c.args.self.now c.args.pend.now) (context_of c.args.by) c.args.cep c.args.dest c.args.load.now c.args.tmo (sym (c.in-None.ensures c.args.pend.now))).size
