use Rattle.s_script.proofs.FirstLines.{cut_at, cut_none}
use Rattle.s_script.proofs.lines.cut.Goals as goal

pub returns : goal.returns
returns c = cut_at c.args.text.now c.in_ok-len.len c.in_ok-len.ensures.first c.in_ok-len.ensures.within

pub returns-in_err-len : goal.returns-in_err-len
returns-in_err-len c = rw c.from_residual.ensures (cut_none c.args.text.now c.in_err-len.ensures.first)
