use Rattle.std.proofs.Common.{◌≡◌, ◌+◌, ◌≤◌, ◌++◌, drop, length, map, take}
use Rattle.spec_kernel.specs.PlainClock.{due_from, next_time}
use Rattle.k_time.proofs.cyclics.come_due.Given as goal

abbrev pub invariant-loop-id : goal.invariant-loop-id
invariant-loop-id l = record {
  moved : take l.id l.cyclics ++ map (next_time l.now) (drop l.id l.cyclics) ≡ map (next_time l.now) l.initial.cyclics;
  due : l.due.items ++ due_from l.now l.id (drop l.id l.cyclics) ≡ due_from l.now 0 l.initial.cyclics;
  places : length l.cyclics ≡ 9;
  few : length l.due.items + 1 ≤ l.id;
}
