use Rattle.k_sync.proofs.AtQueues.{kept_joined}
use Rattle.k_sync.proofs.dtqs.Dtqs.wait.Goals as goal

pub invariant_of-self : goal.invariant_of-self
invariant_of-self c =
    kept_joined _ c.args.self.now c.args.reason c.args.task c.args.pri c.args.rank c.urgency_in.result c.is_by_priority.result c.args.tmo c.join.new.waiters.items
    c.self.view_is c.urgency_in.ensures c.is_by_priority.ensures c.requires.one_side c.join.ensures.apart c.join.ensures.waiters
