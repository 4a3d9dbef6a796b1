use Rattle.std.proofs.Common.{refl, sym, ◌∙◌}
use Rattle.k_sync.proofs.AtQueues.{sender_joins}
use Rattle.k_sync.proofs.dtqs.Dtqs.tsnd_dtq.Goals as goal

pub wait-requires-clause-one_side : goal.wait-requires-clause-one_side
wait-requires-clause-one_side c =
    sender_joins c.args.self.now _ c.take_other_side.new.self (c.in_default-take_other_side.ensures.none refl) c.self.view_is c.self.invariant c.requires.settled _ c.args.tmo c.args.dtq c.args.item
    c.in_default-take_other_side.ensures.found refl (sym c.sends_at_once.ensures ∙ c.if-sends_at_once.false)
