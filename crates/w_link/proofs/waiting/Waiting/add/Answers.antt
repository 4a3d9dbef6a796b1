use Rattle.std.proofs.Common.{ap, ◌∙◌}
use Rattle.spec_link.specs.Deliveries.{with_delivery}
use Rattle.w_link.proofs.InOrder.{permuted}
use Rattle.w_link.proofs.waiting.Waiting.add.Goals as goal

pub returns-clause-added : goal.returns-clause-added
returns-clause-added c = permuted _ _ c.in_ok-push.ensures.permutation ∙ ap (with_delivery c.args.delivery) c.self.view_is
