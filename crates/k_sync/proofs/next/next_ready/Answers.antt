use Rattle.k_sync.proofs.Telling.{one_told, none_told}
use Rattle.k_sync.proofs.next.next_ready.Goals as goal

pub returns-in-Some : goal.returns-in-Some
returns-in-Some g c = one_told _ _ c.args.waiters.now _ c.in-Some.place c.waiter_at-waiter.result c.bytes_of.result c.next_place.ensures c.in-Some.is c.waiter_at-waiter.ensures c.bytes_of.ensures

pub returns-in-None : goal.returns-in-None
returns-in-None g c = none_told _ _ c.args.waiters.now _ c.next_place.ensures c.in-None.is
