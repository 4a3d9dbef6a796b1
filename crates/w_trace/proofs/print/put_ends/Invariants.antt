use Rattle.std.proofs.Common.{◌≡◌, ◌++◌, take}
use Rattle.std.specs.List.{flat_map}
use Rattle.spec_trace.specs.Trace.{end_text}
use Rattle.w_trace.proofs.print.put_ends.Given as goal

abbrev pub invariant-loop-end : goal.invariant-loop-end
invariant-loop-end l = l.out.items ≡ l.fn.out.items ++ flat_map end_text (take l.end-index l.ends)
