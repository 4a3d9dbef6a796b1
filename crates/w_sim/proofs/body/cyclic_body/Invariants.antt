use Rattle.std.proofs.Common.{◌≡◌, drop}
use Rattle.spec_sim.specs.Bodies.{cyclic_body}
use Rattle.w_sim.proofs.body.cyclic_body.Given as goal

abbrev pub invariant-loop-decl : goal.invariant-loop-decl
invariant-loop-decl l = cyclic_body (drop l.decl-index l.decls) l.cyc ≡ cyclic_body l.decls l.cyc
