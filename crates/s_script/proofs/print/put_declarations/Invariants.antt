use Rattle.std.proofs.Common.{◌≡◌, ◌++◌, take}
use Rattle.std.specs.List.{flat_map}
use Rattle.spec_script.specs.Lines.{spelled, declaration_lines}
use Rattle.s_script.proofs.print.put_declarations.Given as goal

abbrev pub invariant-loop-decl : goal.invariant-loop-decl
invariant-loop-decl l = l.out.items ≡ l.fn.out.items ++ flat_map spelled (flat_map declaration_lines (take l.decl-index l.decls))
