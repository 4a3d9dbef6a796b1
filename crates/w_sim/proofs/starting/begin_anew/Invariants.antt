use Rattle.std.proofs.Common.{◌≡◌, drop}
use Rattle.spec_sim.specs.Bodies.{after_marks}
use Rattle.w_sim.proofs.starting.begin_anew.Given as goal

abbrev pub invariant-loop-mark : goal.invariant-loop-mark
invariant-loop-mark l = after_marks l.id l.decls (drop l.mark-index l.marks) l.tasks.items ≡ after_marks l.id l.decls l.marks l.fn.tasks.items
