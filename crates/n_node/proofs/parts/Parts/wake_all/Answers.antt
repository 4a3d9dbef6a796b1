use Rattle.n_node.specs.Plain.{plain}
use Rattle.n_node.proofs.Waking.{next_woken}
use Rattle.n_node.proofs.parts.Parts.wake_all.Goals as goal

pub loop-end-preserved : goal.loop-end-preserved
loop-end-preserved c =
    next_woken c.args.callers.now (plain c.args.self.now) (plain c.loop-end.self) (plain c.wake.new.self) c.args.ends.now c.loop-end.end-index c.end-item.result c.loop-end-test.true c.end-item.is c.loop-end.invariant c.in_ok-wake.ensures
