use Rattle.std.proofs.Common.{◌-◌, length}
use Rattle.spec_world.specs.Sizes.{entry_limit}
use Rattle.w_sim.proofs.Looping.{IsSoFar}
use Rattle.w_sim.proofs.history.sim.Given as goal

abbrev pub invariant-loop-going : goal.invariant-loop-going
invariant-loop-going l = IsSoFar l.script l.going l.play

abbrev pub decreases-loop-going : goal.decreases-loop-going
decreases-loop-going l = entry_limit - length l.play.history.log
