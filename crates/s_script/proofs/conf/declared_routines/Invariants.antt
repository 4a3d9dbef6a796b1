use Rattle.std.proofs.Common.{◌≡◌, ◌++◌, drop}
use Rattle.spec_script.specs.Configuration.{declared_routines}
use Rattle.s_script.proofs.conf.declared_routines.Given as goal

abbrev pub invariant-loop-decl : goal.invariant-loop-decl
invariant-loop-decl l = l.list ++ declared_routines (drop l.decl-index l.decls) ≡ declared_routines l.decls
