use Rattle.std.proofs.Common.{refl, sym, ap, ◌∙◌}
use Rattle.spec_kernel.specs.PlainQueues.{PlainQueues, is_met}
use Rattle.spec_kernel.specs.declared.reason.WaitReason.TheVariants as reasons
use Rattle.k_sync.proofs.AtQueues.{receiver_joins}
use Rattle.k_sync.proofs.dtqs.Dtqs.trcv_dtq.Goals as goal

pub wait-requires-clause-one_side : goal.wait-requires-clause-one_side
wait-requires-clause-one_side c =
    receiver_joins c.args.self.now _ c.take_other_side.new.self (c.in_default-take_other_side.ensures.none refl) c.self.view_is c.self.invariant c.requires.settled _ c.args.tmo c.args.dtq
    c.in_default-take_other_side.ensures.found refl (ap (λ (d : PlainQueues). is_met d.queues (reasons.Receive c.args.dtq)) (sym c.self.view_is) ∙ sym c.is_met.ensures ∙ c.if-is_met.false)
