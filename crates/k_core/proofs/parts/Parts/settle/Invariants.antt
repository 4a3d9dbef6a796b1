use Rattle.std.proofs.Common.{◌≡◌, ◌+◌, ◌≤◌, ◌++◌, length}
use Rattle.k_core.specs.PartsSettle.{settle}
use Rattle.k_core.proofs.parts.Parts.settle.Given as goal

abbrev pub invariant-loop-wait : goal.invariant-loop-wait
invariant-loop-wait l = record {
  parts : (settle (length l.self.waits) l.self).0 ≡ (settle (length l.initial.self.waits) l.initial.self).0;
  ends : l.done.ends.items ++ (settle (length l.self.waits) l.self).1 ≡ l.initial.done.ends.items ++ (settle (length l.initial.self.waits) l.initial.self).1;
  room : length l.done.ends.items + length l.self.waits ≤ 32;
  answer : l.done.ans ≡ l.initial.done.ans;
  gone : l.done.gone ≡ l.initial.done.gone;
  begun : l.done.begun ≡ l.initial.done.begun;
}

abbrev pub decreases-loop-wait : goal.decreases-loop-wait
decreases-loop-wait l = length l.self.waits
