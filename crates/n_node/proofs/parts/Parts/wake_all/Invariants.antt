use Rattle.std.proofs.Common.{◌≡◌, take}
use Rattle.n_node.specs.Plain.{plain}
use Rattle.n_node.specs.Callers.{woken_all}
use Rattle.n_node.proofs.parts.Parts.wake_all.Given as goal

abbrev pub invariant-loop-end : goal.invariant-loop-end
invariant-loop-end l = plain l.self ≡ woken_all l.callers (plain l.fn.self) (take l.end-index l.ends)
