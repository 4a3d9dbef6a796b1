use Rattle.k_sync.proofs.Searching.{reason_at, no_reason}
use Rattle.k_sync.proofs.waiters.reason_of.Goals as goal

pub returns-in-Some : goal.returns-in-Some
returns-in-Some c = reason_at c.args.task c.args.waiters.now _ c.in-Some.place c.waiter_at.result c.find.ensures c.in-Some.is c.waiter_at.ensures

pub returns-in-None : goal.returns-in-None
returns-in-None c = no_reason c.args.task c.args.waiters.now _ c.find.ensures c.in-None.is
