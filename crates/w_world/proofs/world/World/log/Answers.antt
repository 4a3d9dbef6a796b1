use Rattle.laws_world.proofs.OnceInBoth.{log_once}
use Rattle.laws_world.proofs.CauseInBoth.{log_caused}
use Rattle.w_world.proofs.world.World.log.Goals as goal

pub returns-clause-once : goal.returns-clause-once
returns-clause-once c = rw c.as_slice.ensures (log_once c.self.inside.conf c.self.inside.log c.self.invariant.opens c.self.invariant.run)

pub returns-clause-caused : goal.returns-clause-caused
returns-clause-caused c = rw (c.as_slice.ensures, ← c.self.view_is) (log_caused c.self.inside.conf c.self.inside.log c.self.invariant.opens c.self.invariant.run)
