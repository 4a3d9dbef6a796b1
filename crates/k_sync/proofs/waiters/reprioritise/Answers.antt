use Rattle.std.proofs.Common.{refl, arith}
use Rattle.spec_kernel.specs.Waiters.{is_task}
use Rattle.k_sync.proofs.Apart.{apart_moved}
use Rattle.k_sync.proofs.Searching.{one_taken, none_taken, room_again}
use Rattle.k_sync.proofs.waiters.reprioritise.Goals as goal

pub push-requires : goal.push-requires
push-requires c =
    let first = c.in-Some.ensures.found (is_task c.args.task) (rw c.as_slice-2.ensures.value at c.find-place.ensures) in
    (omega arith, room_again (is_task c.args.task) c.args.waiters.now.items c.take_out.new.waiters.items c.in-Some.waiter first (rw c.as_slice-2.ensures.value at c.as_slice-2.ensures.fits))

pub returns-in-Some-clause-waits : goal.returns-in-Some-clause-waits
returns-in-Some-clause-waits c =
    let first = c.in-Some.ensures.found (is_task c.args.task) (rw c.as_slice-2.ensures.value at c.find-place.ensures) in one_taken (is_task c.args.task) c.args.waiters.now.items c.take_out.new.waiters.items c.in-Some.waiter first

pub returns-in-Some-clause-apart : goal.returns-in-Some-clause-apart
returns-in-Some-clause-apart c = λ apart.
    let first = c.in-Some.ensures.found (is_task c.args.task) (rw c.as_slice-2.ensures.value at c.find-place.ensures) in
    rw c.push.ensures.items (apart_moved (is_task c.args.task) c.args.waiters.now.items (c.in-Some.waiter, c.take_out.new.waiters.items) _ first refl apart)

pub returns-in-None-clause-waits : goal.returns-in-None-clause-waits
returns-in-None-clause-waits c =
    let first = c.in-None.ensures.found (is_task c.args.task) (rw c.as_slice-2.ensures.value at c.find-place.ensures) in none_taken (is_task c.args.task) c.args.waiters.now.items c.take_out.new.waiters.items first
