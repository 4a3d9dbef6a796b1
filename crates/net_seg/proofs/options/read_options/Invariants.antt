use Rattle.std.proofs.Common.{◌≡◌, length}
use Rattle.spec_wire.specs.Segment.{read_options, no_options}
use Rattle.net_seg.specs.Shown.{shown_options}
use Rattle.net_seg.proofs.options.read_options.Given as goal

abbrev pub invariant-loop-rest : goal.invariant-loop-rest
invariant-loop-rest l = record { so_far : read_options (length l.left) l.left (shown_options l.options) ≡ read_options (length l.octets) l.octets no_options }

abbrev pub decreases-loop-rest : goal.decreases-loop-rest
decreases-loop-rest l = length l.left
