use Rattle.std.proofs.Common.{◌≡◌, ◌+◌, None, replicate}
use Rattle.it_types.proofs.table.Table.new.Given as goal

abbrev pub invariant-loop-place : goal.invariant-loop-place
invariant-loop-place g l = l.places.items ≡ replicate (l._place + 1) None
