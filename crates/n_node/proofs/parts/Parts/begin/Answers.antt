use Rattle.n_node.specs.Plain.{plain}
use Rattle.n_node.proofs.Telling.{handler_begun}
use Rattle.n_node.proofs.parts.Parts.begin.Goals as goal

pub returns : goal.returns
returns c =
    handler_begun (plain c.args.self.now) c.next_handler.new.self c.next_handler.result c.in_ok-marks.marks c.marked.result c.next_handler.ensures.first c.next_handler.ensures.pend c.in_ok-marks.ensures c.marked.ensures
