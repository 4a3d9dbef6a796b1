use Rattle.std.proofs.Common.{◌≡◌, ◌++◌, drop}
use Rattle.spec_script.specs.Configuration.{declared_flags}
use Rattle.s_script.proofs.conf.declared_flags.Given as goal

abbrev pub invariant-loop-decl : goal.invariant-loop-decl
invariant-loop-decl l = l.list ++ declared_flags (drop l.decl-index l.decls) ≡ declared_flags l.decls
