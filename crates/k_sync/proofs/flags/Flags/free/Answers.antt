use Rattle.std.proofs.Common.{refl}
use Rattle.spec_kernel.specs.PlainFlags.{is_met}
use Rattle.spec_kernel.specs.Waiters.{comes_next}
use Rattle.k_sync.proofs.FlagLaws.{one_freed, none_freed}
use Rattle.k_sync.proofs.flags.Flags.free.Goals as goal

pub returns-in-Some : goal.returns-in-Some
returns-in-Some c =
    one_freed c.args.self.now c.self.inside.flags c.take.new.flags c.self.inside.waiters.items c.take_out.new.waiters.items c.in-Some.waiter c.self.view_is
    (c.in-Some.ensures.found (comes_next (is_met c.self.inside.flags) c.self.inside.waiters.items) (rw c.as_slice.ensures.value at c.next_place-place.ensures))
    c.take.ensures

pub returns-in_default : goal.returns-in_default
returns-in_default c =
    none_freed c.args.self.now c.self.inside.flags c.self.inside.waiters.items c.take_out.new.waiters.items c.self.view_is
    (c.in_default.ensures.found (comes_next (is_met c.self.inside.flags) c.self.inside.waiters.items) (rw c.as_slice.ensures.value at c.next_place-place.ensures))
    (c.in_default.ensures.none refl)
