use Rattle.std.proofs.Common.{◌≡◌, ◌++◌, drop}
use Rattle.spec_script.specs.Configuration.{declared_cyclics}
use Rattle.s_script.proofs.conf.declared_cyclics.Given as goal

abbrev pub invariant-loop-decl : goal.invariant-loop-decl
invariant-loop-decl l = l.list ++ declared_cyclics (drop l.decl-index l.decls) ≡ declared_cyclics l.decls
