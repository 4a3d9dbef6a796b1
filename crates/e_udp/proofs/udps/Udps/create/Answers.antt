use Rattle.std.proofs.Common.{refl}
use Rattle.e_udp.specs.Contexts.{context_of}
use Rattle.e_udp.proofs.Doing.{making_does}
use Rattle.e_udp.proofs.udps.Udps.create.Goals as goal

pub returns : goal.returns
returns c =
    making_does c.args.pend.now c.self.view_is c.requires.rest (context_of c.args.by) c.args.cep c.args.port c.args.cbr c.args.no c.requires.allowed
    (rw (c.put.ensures, c.in_ok-point.ensures, c.port_for-port.ensures, c.deref.ensures.value) refl) c.code.ensures
