use Rattle.spec_lists.specs.First.{is_least}
use Rattle.spec_kernel.specs.Waiters.{is_in, urgency}
use Rattle.k_sync.proofs.AtQueues.{kept_taken}
use Rattle.k_sync.proofs.dtqs.Dtqs.take_other_side.Goals as goal

pub invariant_of-self : goal.invariant_of-self
invariant_of-self c =
    let first = is_least (is_in c.args.reason) urgency c.self.inside.waiters.items in
    kept_taken c.self.inside.queues c.self.inside.waiters.items c.self.invariant c.take_out.new.waiters.items c.take_out.ensures.apart first c.take_out.result
    (c.take_out.ensures.found first (rw c.as_slice.ensures.value at c.first_in-place.ensures)) c.take_out.ensures.none
