use Rattle.e_udp.specs.Contexts.{context_of}
use Rattle.e_udp.specs.Does.{side}
use Rattle.n_node.proofs.Answering.{unsupported_does, no_udp}
use Rattle.n_node.proofs.udp_calls.call_by.Goals as goal

pub returns-in_default : goal.returns-in_default
returns-in_default c = record {
  does =
      unsupported_does (side c.args.udps.now c.args.pend.now) (context_of c.args.by) c.args.request.now c.args.number c.code.result c.requires.rest
      (no_udp c.args.request.now c.in_default.not-UdpCreCep c.in_default.not-UdpDelCep c.in_default.not-UdpSndDat c.in_default.not-UdpRcvDat c.in_default.not-UdpCanCep) c.code.ensures;
  rest = c.requires.rest;
}
