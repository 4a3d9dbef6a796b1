use Rattle.n_node.specs.Plain.{plain}
use Rattle.n_node.proofs.Telling.{node_returned}
use Rattle.n_node.proofs.parts.Parts.return_from.Goals as goal

pub returns : goal.returns
returns c =
    rw (c.new.ensures, c.new-2.ensures, c.new-3.ensures) (node_returned (plain c.args.self.now) c.args.task c.take_answer-held.result c.take_answer-held.new.held.items c.held_answer.result c.take_answer-held.ensures.answer c.take_answer-held.ensures.after c.held_answer.ensures)
