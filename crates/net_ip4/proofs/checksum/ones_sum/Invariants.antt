use Rattle.std.proofs.Common.{◌≡◌, ◌≤◌, length}
use Rattle.spec_wire.specs.Octets.{AreOctets}
use Rattle.spec_wire.specs.Sum.{words, ones_sum, end_around}
use Rattle.net_ip4.proofs.checksum.ones_sum.Given as goal

abbrev pub invariant-loop-rest : goal.invariant-loop-rest
invariant-loop-rest l = record {
  so_far : end_around l.total (ones_sum (words l.rest)) ≡ ones_sum (words l.bytes);
  small : l.total ≤ 65535;
  octets : AreOctets l.rest;
}

abbrev pub decreases-loop-rest : goal.decreases-loop-rest
decreases-loop-rest l = length l.rest
