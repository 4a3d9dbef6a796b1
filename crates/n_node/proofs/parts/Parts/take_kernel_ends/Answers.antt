use Rattle.std.proofs.Common.{◌+◌, [], ◌∷◌, ◌++◌, take, ap, sym, ◌∙◌}
use Rattle.std.proofs.lemmas.List.{take_more, take_all}
use Rattle.n_node.proofs.Moving.{next_kernel_end}
use Rattle.n_node.proofs.parts.Parts.take_kernel_ends.Goals as goal

pub loop-end-init : goal.loop-end-init
loop-end-init c = record { moves = λ start answer before p h. h; rest = c.requires.rest }

pub loop-end-preserved : goal.loop-end-preserved
loop-end-preserved c = record {
  moves =
      let before = take c.loop-end.end-index c.args.ends.now in
      next_kernel_end c.args.self.now c.loop-end.self c.take_kernel_end.new.self c.args.told.now c.loop-end.told c.take_kernel_end.new.told before (take (c.loop-end.end-index + 1) c.args.ends.now) c.end-item.result
      (take_more c.args.ends.now c.loop-end.end-index c.end-item.result c.loop-end-test.true ∙ ap (λ e. before ++ e ∷ []) (sym c.end-item.is)) c.loop-end.invariant.moves c.in_ok-take_kernel_end.ensures.moves;
  rest = c.in_ok-take_kernel_end.ensures.rest;
}

pub returns-clause-moves : goal.returns-clause-moves
returns-clause-moves c = rw (← take_all c.loop-end.end-index c.args.ends.now c.loop-end-test.false) c.loop-end.invariant.moves
