use Rattle.std.proofs.Common.{ap, sym, ◌∙◌}
use Rattle.spec_world.specs.History.{is_stop}
use Rattle.w_world.proofs.Stopping.{stops_at_last, not_stop}
use Rattle.w_world.proofs.world.ends_with_stop.Goals as goal

pub returns-in-Stop : goal.returns-in-Stop
returns-in-Stop c = sym (stops_at_last c.args.log.now c.in-Some.entry.now (sym c.in-Some.ensures.value) ∙ ap is_stop c.in-Stop.is)

pub returns-in_default : goal.returns-in_default
returns-in_default c = sym (stops_at_last c.args.log.now c.in-Some.entry.now (sym c.in-Some.ensures.value) ∙ not_stop c.in-Some.entry.now.ev c.in_default.not-Stop)
