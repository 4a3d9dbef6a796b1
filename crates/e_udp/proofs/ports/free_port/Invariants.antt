use Rattle.std.proofs.Common.{◌≡◌, ◌+◌, ◌≤◌}
use Rattle.spec_udp.specs.Ports.{first_free, free_port, is_taken}
use Rattle.e_udp.proofs.ports.free_port.Given as goal

abbrev pub invariant-loop-left : goal.invariant-loop-left
invariant-loop-left l = record {
  found : first_free l.left l.port (is_taken l.points) ≡ free_port l.points;
  within : l.port + l.left ≤ 49169;
}

abbrev pub decreases-loop-left : goal.decreases-loop-left
decreases-loop-left l = l.left
