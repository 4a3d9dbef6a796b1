use Rattle.std.proofs.Common.{◌≡◌, ◌-◌, ◌++◌}
use Rattle.spec_sim.specs.Bodies.{tasks_started}
use Rattle.w_sim.proofs.starting.tasks_started.Given as goal

abbrev pub invariant-loop-at : goal.invariant-loop-at
invariant-loop-at l = l.tasks.items ++ tasks_started l.id l.decls (17 - l.at) l.at ≡ tasks_started l.id l.decls 17 0
