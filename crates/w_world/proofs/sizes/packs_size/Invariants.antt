use Rattle.std.proofs.Common.{◌≡◌, take}
use Rattle.std.specs.Prelude.{sum_by}
use Rattle.spec_world.specs.Sizes.{pack_size}
use Rattle.w_world.specs.Capped.{capped}
use Rattle.w_world.proofs.sizes.packs_size.Given as goal

abbrev pub invariant-loop-pack : goal.invariant-loop-pack
invariant-loop-pack l = l.total ≡ capped (sum_by pack_size (take l.pack-index l.packs))
