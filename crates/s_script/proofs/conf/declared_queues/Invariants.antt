use Rattle.std.proofs.Common.{◌≡◌, ◌++◌, drop}
use Rattle.spec_script.specs.Configuration.{declared_queues}
use Rattle.s_script.proofs.conf.declared_queues.Given as goal

abbrev pub invariant-loop-decl : goal.invariant-loop-decl
invariant-loop-decl l = l.list ++ declared_queues (drop l.decl-index l.decls) ≡ declared_queues l.decls
