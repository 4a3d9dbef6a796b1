use Rattle.std.proofs.Common.{◌≡◌, ◌+◌, ◌*◌, ◌≤◌, length, sum}
use Rattle.spec_wire.specs.Sum.{words}
use Rattle.net_ip4.proofs.checksum.word_sum.Given as goal

abbrev pub invariant-loop-rest : goal.invariant-loop-rest
invariant-loop-rest l = record { so_far : l.total + sum (words l.rest) ≡ sum (words l.bytes); room : l.total + 65535 * length l.rest ≤ 65535 * length l.bytes }

abbrev pub decreases-loop-rest : goal.decreases-loop-rest
decreases-loop-rest l = length l.rest
