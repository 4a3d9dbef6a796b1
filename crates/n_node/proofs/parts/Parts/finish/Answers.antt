use Rattle.std.proofs.lemmas.Result.{IfOk-weaker}
use Rattle.it_types.specs.Callers.{caller}
use Rattle.n_node.proofs.Telling.{network_told}
use Rattle.n_node.proofs.parts.Parts.finish.Goals as goal

pub returns : goal.returns
returns c =
    IfOk-weaker c.out.result _ _
    (λ out is o does who. network_told c.args.self.now c.block.new.self c.take_net.new.self c.nothing-told.result c.take_net.new.told c.args.callers.now (caller c.args.ctx) c.running-before.result c.running.result c.args.tmo c.args.out o c.in_ok-ans.ans out
    c.in_ok-ans.ensures.answer c.block.ensures c.in_ok-ans.ensures.node c.in_ok-ans.ensures.told (record { ends = c.nothing-told.ensures.ends; marks = c.nothing-told.ensures.marks; packets = c.nothing-told.ensures.packets }) c.running-before.ensures.task c.running.ensures.task is does who) (rw c.between-turn.ensures at c.out.ensures)
