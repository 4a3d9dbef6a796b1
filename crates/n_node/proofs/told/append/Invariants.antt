use Rattle.std.proofs.Common.{◌≡◌, ◌++◌}
use Rattle.n_node.proofs.told.append.Given as goal

abbrev pub invariant-loop-item : goal.invariant-loop-item
invariant-loop-item g l = record {
  items : l.list ≡ l.fn.list ++ l.yielded;
}
