use Rattle.std.proofs.Common.{◌≡◌, drop}
use Rattle.spec_sim.specs.Bodies.{routine_body}
use Rattle.w_sim.proofs.body.routine_body.Given as goal

abbrev pub invariant-loop-decl : goal.invariant-loop-decl
invariant-loop-decl l = routine_body (drop l.decl-index l.decls) l.cbr ≡ routine_body l.decls l.cbr
