use Rattle.k_sync.proofs.AtQueues.{kept_reprioritised}
use Rattle.k_sync.proofs.dtqs.Dtqs.reprioritise.Goals as goal

pub invariant_of-self : goal.invariant_of-self
invariant_of-self c = kept_reprioritised c.self.inside.queues c.self.inside.waiters.items c.self.invariant c.reprioritise.new.waiters.items c.reprioritise.ensures.apart c.args.task c.args.pri c.args.rank c.reprioritise.ensures.waiters
