use Rattle.std.proofs.Common.{◌≡◌, ◌++◌, drop}
use Rattle.spec_script.specs.Configuration.{declared_semaphores}
use Rattle.s_script.proofs.conf.declared_semaphores.Given as goal

abbrev pub invariant-loop-decl : goal.invariant-loop-decl
invariant-loop-decl l = l.list ++ declared_semaphores (drop l.decl-index l.decls) ≡ declared_semaphores l.decls
