use Rattle.std.proofs.Common.{refl}
use Rattle.std.proofs.lemmas.Bool.{and_parts}
use Rattle.spec_kernel.specs.PlainQueues.{is_met}
use Rattle.spec_kernel.specs.Waiters.{comes_next}
use Rattle.k_sync.proofs.AtQueues.{frees, frees_nobody, kept_taken}
use Rattle.k_sync.proofs.Found.{found_passes}
use Rattle.k_sync.proofs.dtqs.Dtqs.free_next.Goals as goal

pub take_effect-requires : goal.take_effect-requires
take_effect-requires c =
    let queues = c.self.inside.queues in
    let waiters = c.self.inside.waiters.items in
    let first = c.in-Some.ensures.found (comes_next (is_met queues) waiters) (rw c.as_slice.ensures.value at c.next_place-place.ensures) in
    (and_parts (is_met queues c.in-Some.waiter.reason) _ (found_passes (comes_next (is_met queues) waiters) waiters (c.in-Some.waiter, c.take_out.new.waiters.items) first)).0

pub returns-in-Some : goal.returns-in-Some
returns-in-Some c =
    let first = c.in-Some.ensures.found (comes_next (is_met c.self.inside.queues) c.self.inside.waiters.items) (rw c.as_slice.ensures.value at c.next_place-place.ensures) in
    frees _ c.args.self.now c.in-Some.waiter c.take_out.new.waiters.items c.take_effect.new.queues c.self.view_is first c.take_effect.ensures

pub returns-in_default : goal.returns-in_default
returns-in_default c =
    let first = c.in_default.ensures.found (comes_next (is_met c.self.inside.queues) c.self.inside.waiters.items) (rw c.as_slice.ensures.value at c.next_place-place.ensures) in
    frees_nobody _ c.args.self.now c.take_out.new.waiters.items c.self.view_is first (c.in_default.ensures.none refl)

pub invariant_of-self : goal.invariant_of-self
invariant_of-self c =
    let next = comes_next (is_met c.self.inside.queues) c.self.inside.waiters.items in
    kept_taken c.self.inside.queues c.self.inside.waiters.items c.self.invariant c.take_out.new.waiters.items c.take_out.ensures.apart next c.take_out.result
    (c.take_out.ensures.found next (rw c.as_slice.ensures.value at c.next_place-place.ensures)) c.take_out.ensures.none
