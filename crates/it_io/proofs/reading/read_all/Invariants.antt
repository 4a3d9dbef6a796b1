use Rattle.std.proofs.Common.{◌≡◌, length, ◌-◌, ◌≤◌}
use Rattle.std.specs.Io.KnownBytes.{Consumes}
use Rattle.it_io.proofs.reading.read_all.Given as goal

abbrev pub invariant-loop-all : goal.invariant-loop-all
invariant-loop-all g l = record {
  within : length l.all.items ≤ l.limit;
  faults : g.S.Source.faults l.src ≡ g.S.Source.faults l.fn.src;
  ends : g.S.Source.ends l.src ≡ g.S.Source.ends l.fn.src;
  taken : Consumes (g.S.Source.left l.fn.src) (g.S.Source.left l.src) l.all.items;
}

abbrev pub decreases-loop-all : goal.decreases-loop-all
decreases-loop-all g l = l.limit - length l.all.items
