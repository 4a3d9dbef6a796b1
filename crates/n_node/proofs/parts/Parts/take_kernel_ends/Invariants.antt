use Rattle.std.proofs.Common.{take}
use Rattle.spec_udp.specs.Settling.{UdpAtRest}
use Rattle.e_udp.specs.Does.{side}
use Rattle.spec_node.specs.Progress.{after_ends}
use Rattle.n_node.specs.Coming.{Moves}
use Rattle.n_node.proofs.parts.Parts.take_kernel_ends.Given as goal

abbrev pub invariant-loop-end : goal.invariant-loop-end
invariant-loop-end l = record {
  moves : Moves l.fn.self l.fn.told l.self l.told (λ p. after_ends p (take l.end-index l.ends));
  rest : UdpAtRest (side l.self.udps l.self.pend);
}
