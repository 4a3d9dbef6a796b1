use Rattle.std.proofs.Common.{◌≡◌, ◌+◌, ◌≤◌, length}
use Rattle.spec_script.specs.Interpreter.{after_pool}
use Rattle.s_exec.proofs.passing.after_pool.Given as goal

abbrev pub invariant-loop-rest : goal.invariant-loop-rest
invariant-loop-rest l = record {
  same : after_pool l.inner l.rest ≡ after_pool 0 l.fn.lines;
  room : l.inner + length l.rest ≤ length l.fn.lines;
}

abbrev pub decreases-loop-rest : goal.decreases-loop-rest
decreases-loop-rest l = length l.rest
