use Rattle.n_node.proofs.Cyclics.{next_cyclic}
use Rattle.n_node.proofs.handlers.make_due.Goals as goal

pub loop-cyclic-preserved : goal.loop-cyclic-preserved
loop-cyclic-preserved c =
    next_cyclic c.args.pend.now c.loop-cyclic.pend c.make_one_due.new.pend c.args.cyclics.now c.loop-cyclic.cyclic-index (record { 0 = 0 }) c.loop-cyclic-test.true c.loop-cyclic.invariant c.in_ok-make_one_due.ensures
