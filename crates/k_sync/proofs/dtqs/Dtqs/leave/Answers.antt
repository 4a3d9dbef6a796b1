use Rattle.k_sync.proofs.AtQueues.{kept_left}
use Rattle.k_sync.proofs.dtqs.Dtqs.leave.Goals as goal

pub invariant_of-self : goal.invariant_of-self
invariant_of-self c = kept_left c.self.inside.queues c.self.inside.waiters.items c.self.invariant c.leave.new.waiters.items c.leave.ensures.apart c.args.task c.leave.ensures.waiters
