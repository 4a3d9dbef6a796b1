use Rattle.std.proofs.Common.{◌≡◌, take}
use Rattle.spec_node.specs.Handlers.{with_cyclics}
use Rattle.n_node.proofs.handlers.make_due.Given as goal

abbrev pub invariant-loop-cyclic : goal.invariant-loop-cyclic
invariant-loop-cyclic l = l.pend ≡ record l.fn.pend { due = with_cyclics l.fn.pend.due (take l.cyclic-index l.cyclics) }
