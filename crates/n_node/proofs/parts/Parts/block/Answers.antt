use Rattle.n_node.proofs.Answering.{answered_pends, answered_else}
use Rattle.n_node.proofs.parts.Parts.block.Goals as goal
use Rattle.n_node.proofs.parts.Parts.block.Goals.{in-Pends, in_default}

pub returns : goal.returns
returns c = elim c.match-ans.branch [
  | in-Pends w ↦ answered_pends c.args.self.now c.match-ans.self w.block.new.self c.args.ctx c.args.tmo c.args.ans.now w.in-Pends.number w.caller.result c.calls_after-self.result w.in-Pends.is w.caller.ensures w.block.ensures w.self-is c.calls_after-self.ensures
  | in_default w ↦ answered_else c.args.self.now c.match-ans.self c.args.ctx c.args.tmo c.args.ans.now c.calls_after-self.result w.in_default.not-Pends w.self-is c.calls_after-self.ensures
]
