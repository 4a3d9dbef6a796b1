use Rattle.std.proofs.Common.{◌≡◌, ◌≤◌, length}
use Rattle.n_node.specs.Callers.{receives_below}
use Rattle.n_node.proofs.callers.receives.Given as goal

abbrev pub invariant-loop-place : goal.invariant-loop-place
invariant-loop-place l = record {
  found : l.callers.items ≡ receives_below l.fn.pend l.place;
  room : length l.callers.items ≤ l.place;
}
