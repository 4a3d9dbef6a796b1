use Rattle.std.proofs.Common.{ap, subst}
use Rattle.spec_kernel.specs.PlainQueues.{PlainQueues}
use Rattle.spec_kernel.specs.QueueRuns.{NeverBoth}
use Rattle.k_sync.proofs.AtQueues.{told_at_rest, told_next}
use Rattle.k_sync.proofs.dtqs.Dtqs.next_ready.Goals as goal

pub returns-in-None : goal.returns-in-None
returns-in-None c =
    let next = told_next _ c.args.self.now _ c.next_ready.result c.self.view_is c.in-None.is c.as_slice.ensures.value c.next_ready.ensures in
    record { next = next; at_rest = told_at_rest c.args.self.now c.next_ready.result next; one_side = subst NeverBoth (ap (λ (d : PlainQueues). d.waiters) c.self.view_is) c.self.invariant.one_side }
