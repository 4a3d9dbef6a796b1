use Rattle.std.proofs.Common.{◌≤◌}
use Rattle.bench_link.proofs.traffic.take_all.Given as goal

abbrev pub invariant-loop : goal.invariant-loop
invariant-loop l = l.taken ≤ l.counter
