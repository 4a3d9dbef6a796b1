use Rattle.std.proofs.Common.{◌≡◌, ◌-◌, ◌++◌}
use Rattle.spec_script.specs.Interpreter.{pattern_bytes}
use Rattle.s_exec.proofs.pattern.pattern_bytes.Given as goal

abbrev pub invariant-loop : goal.invariant-loop
invariant-loop l = l.bytes.items ++ pattern_bytes (l.len - l.counter) l.byte ≡ pattern_bytes l.len l.first
