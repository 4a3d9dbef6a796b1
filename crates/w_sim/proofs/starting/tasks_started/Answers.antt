use Rattle.std.proofs.Common.{◌∙◌, ◌+◌, ◌-◌, arith}
use Rattle.w_sim.proofs.Opening.{one_started, all_started}
use Rattle.w_sim.proofs.starting.tasks_started.Goals as goal

pub loop-at-preserved : goal.loop-at-preserved
loop-at-preserved c =
    rw (c.in_ok-push.ensures.items, c.in_ok-task_started.ensures) (one_started c.args.id c.args.decls.now (17 - c.loop-at.at) (17 - (c.loop-at.at + 1)) c.loop-at.at c.loop-at.tasks.items (omega arith) ∙ c.loop-at.invariant)

pub returns : goal.returns
returns c = all_started c.args.id c.args.decls.now (17 - c.loop-at.at) c.loop-at.at c.loop-at.tasks.items (omega arith) ∙ c.loop-at.invariant
