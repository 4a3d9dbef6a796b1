use Rattle.std.proofs.Common.{ap, ◌∙◌}
use Rattle.std.specs.Prelude.{is_some}
use Rattle.spec_pend.specs.Slots.{has_slot}
use Rattle.e_udp.proofs.Searches.{is_some-any}
use Rattle.e_udp.proofs.telling.is_waiting.Goals as goal

pub returns : goal.returns
returns c = c.is_some.ensures ∙ ap is_some c.of.ensures.number ∙ is_some-any (has_slot c.args.slot) c.args.pend.now.calls
