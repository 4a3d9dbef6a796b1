use Rattle.std.proofs.Common.{◌≡◌, take}
use Rattle.std.specs.Prelude.{sum_by}
use Rattle.spec_world.specs.Sizes.{end_size}
use Rattle.w_world.specs.Capped.{capped}
use Rattle.w_world.proofs.sizes.ends_size.Given as goal

abbrev pub invariant-loop-end : goal.invariant-loop-end
invariant-loop-end l = l.total ≡ capped (sum_by end_size (take l.end-index l.ends))
