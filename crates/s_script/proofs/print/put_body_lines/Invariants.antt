use Rattle.std.proofs.Common.{◌≡◌, ◌++◌, map, take}
use Rattle.std.specs.List.{flat_map}
use Rattle.spec_script.specs.Lines.{spelled, body_line}
use Rattle.s_script.proofs.print.put_body_lines.Given as goal

abbrev pub invariant-loop-line : goal.invariant-loop-line
invariant-loop-line l = l.out.items ≡ l.fn.out.items ++ flat_map spelled (map body_line (take l.line-index l.body.lines))
