use Rattle.std.proofs.Common.{◌≡◌, take}
use Rattle.std.specs.Prelude.{sum_by}
use Rattle.spec_world.specs.Sizes.{mark_size}
use Rattle.w_world.specs.Capped.{capped}
use Rattle.w_world.proofs.sizes.marks_size.Given as goal

abbrev pub invariant-loop-mark : goal.invariant-loop-mark
invariant-loop-mark l = l.total ≡ capped (sum_by mark_size (take l.mark-index l.marks))
