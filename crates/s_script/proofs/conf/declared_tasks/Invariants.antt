use Rattle.std.proofs.Common.{◌≡◌, ◌++◌, drop}
use Rattle.spec_script.specs.Configuration.{declared_tasks}
use Rattle.s_script.proofs.conf.declared_tasks.Given as goal

abbrev pub invariant-loop-decl : goal.invariant-loop-decl
invariant-loop-decl l = l.list ++ declared_tasks (drop l.decl-index l.decls) ≡ declared_tasks l.decls
