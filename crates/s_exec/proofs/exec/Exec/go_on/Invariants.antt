use Rattle.std.proofs.Common.{◌≡◌}
use Rattle.spec_script.specs.Interpreter.{up_to_call, most_passed}
use Rattle.s_exec.proofs.exec.Exec.go_on.Given as goal

abbrev pub invariant-loop-alloc : goal.invariant-loop-alloc
invariant-loop-alloc l = up_to_call l.self ≡ up_to_call l.initial.self

abbrev pub decreases-loop-alloc : goal.decreases-loop-alloc
decreases-loop-alloc l = most_passed l.self
