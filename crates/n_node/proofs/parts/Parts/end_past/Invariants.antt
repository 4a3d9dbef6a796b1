use Rattle.std.proofs.Common.{length}
use Rattle.spec_udp.specs.Settling.{UdpAtRest}
use Rattle.e_udp.specs.Does.{side}
use Rattle.n_node.proofs.Timing.{Ends}
use Rattle.n_node.proofs.parts.Parts.end_past.Given as goal

abbrev pub invariant-loop-end : goal.invariant-loop-end
invariant-loop-end l = record {
  ends : Ends l.fn.self l.fn.told l.self l.told;
  rest : UdpAtRest (side l.self.udps l.self.pend);
}

abbrev pub decreases-loop-end : goal.decreases-loop-end
decreases-loop-end l = length l.self.kernel.waits
