use Rattle.std.proofs.Common.{◌∙◌, ap, refl, ◌-◌, vec_len, arith}
use Rattle.spec_script.specs.Interpreter.{Interpreter, round_ended}
use Rattle.s_exec.specs.Standing.{interpreter}
use Rattle.s_exec.proofs.Loops.{another_round}
use Rattle.s_exec.proofs.exec.Exec.end_round.Goals as goal

pub returns : goal.returns
returns c =
    another_round c.self.inside.loops.items c.in-Some.inner.now (record { lines = c.in-Some.inner.now.lines; rounds = c.in-Some.inner.now.rounds - 1 }) (vec_len c.self.inside.loops - 1) c.args.lines.now (interpreter c.self.inside) (omega (arith, c.in-Some.ensures.variant.0 refl))
    c.in-Some.ensures.value c.if-inner-eq0.false refl
    ∙ ap (λ (i : Interpreter). round_ended i.loops c.args.lines.now i) c.self.view_is
