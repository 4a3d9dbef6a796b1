use Rattle.std.proofs.Common.{◌∙◌}
use Rattle.std.proofs.lemmas.Result.{IfOk-weaker}
use Rattle.n_node.proofs.Telling.{tick_told, ticked_at}
use Rattle.n_node.proofs.parts.Parts.tick.Goals as goal

pub returns : goal.returns
returns c =
    let middle = record c.args.self.now { kernel = c.tick-cyclics.new.self; pend = c.make_due.new.pend } in
    IfOk-weaker c.out.result _ _
    (λ out is. tick_told c.args.self.now middle c.end_past.new.self c.nothing-told.result c.end_past.new.told c.running-before.result c.running.result out c.tick-cyclics.ensures.kernel c.tick-cyclics.ensures.rest
    (ticked_at c.args.self.now c.tick-cyclics.new.self c.make_due.new.pend c.as_slice.result.now c.in_ok-make_due.ensures (c.as_slice.ensures.value ∙ c.tick-cyclics.ensures.handlers)) c.in_ok-end_past.ensures
    (record { ends = c.nothing-told.ensures.ends; marks = c.nothing-told.ensures.marks; packets = c.nothing-told.ensures.packets }) c.running-before.ensures.task c.running.ensures.task is) (rw c.between-turn.ensures at c.out.ensures)
