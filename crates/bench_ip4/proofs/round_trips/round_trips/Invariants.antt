use Rattle.std.proofs.Common.{◌≡◌, ◌*◌}
use Rattle.bench_ip4.proofs.round_trips.round_trips.Given as goal

abbrev pub invariant-loop-dst : goal.invariant-loop-dst
invariant-loop-dst l = record { datagrams : l.totals.datagrams ≡ l.dst; bytes : l.totals.bytes ≡ 1500 * l.dst }
