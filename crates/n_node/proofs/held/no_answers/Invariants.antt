use Rattle.std.proofs.Common.{◌≡◌, None, replicate}
use Rattle.n_node.proofs.held.no_answers.Given as goal

abbrev pub invariant-loop : goal.invariant-loop
invariant-loop l = l.held.items ≡ replicate l.counter None
