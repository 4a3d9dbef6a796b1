use Rattle.n_node.specs.Plain.{plain}
use Rattle.n_node.proofs.Telling.{handler_ended}
use Rattle.n_node.proofs.parts.Parts.end_handler.Goals as goal

pub returns : goal.returns
returns c = handler_ended (plain c.args.self.now) c.new.result c.marked.result c.new.ensures c.marked.ensures
