use Rattle.std.proofs.Common.{◌≡◌, drop}
use Rattle.spec_sim.specs.Bodies.{body_of}
use Rattle.w_sim.proofs.body.body_of.Given as goal

abbrev pub invariant-loop-decl : goal.invariant-loop-decl
invariant-loop-decl l = body_of (drop l.decl-index l.decls) l.task ≡ body_of l.decls l.task
