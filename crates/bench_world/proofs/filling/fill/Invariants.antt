use Rattle.std.proofs.Common.{◌-◌, length}
use Rattle.spec_world.specs.Sizes.{entry_limit}
use Rattle.bench_world.proofs.filling.fill.Given as goal

abbrev pub decreases-loop-alloc : goal.decreases-loop-alloc
decreases-loop-alloc l = entry_limit - length l.world.log
