use Rattle.std.proofs.Common.{sym, ◌∙◌, arith}
use Rattle.std.proofs.lemmas.Result.{err_from_is_err_and}
use Rattle.s_script.proofs.ReadLoop.{read_on, wrong_line, all_lines}
use Rattle.s_script.proofs.reader.read_lines.Goals as goal

pub returns-in_err-take_line : goal.returns-in_err-take_line
returns-in_err-take_line c =
    let p = err_from_is_err_and c.from_residual.result c.from_residual.ensures.1 in
    rw (p.1, p.2) (wrong_line c.args.text.now c.loop-line.rest.now c.in-Some.line.now c.in-Some.more.now c.loop-line.number c.loop-line.draft c.in_err-take_line.field-0.0 c.loop-line.invariant.given c.in-Some.ensures.0 c.in_err-take_line.ensures)

pub loop-line-preserved : goal.loop-line-preserved
loop-line-preserved c = record {
  given = sym (read_on c.loop-line.number c.loop-line.draft c.take_line.new.draft c.loop-line.rest.now c.in-Some.line.now c.in-Some.more.now c.in-Some.ensures.0 c.in_ok-take_line.ensures) ∙ c.loop-line.invariant.given;
  counted = omega (arith, c.in-Some.ensures.1);
}

pub returns : goal.returns
returns c = all_lines c.args.text.now c.loop-line.rest.now c.loop-line.number c.loop-line.draft c.finish.result c.loop-line.invariant.given c.in_default.ensures c.finish.ensures
