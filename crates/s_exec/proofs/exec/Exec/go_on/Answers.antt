use Rattle.std.proofs.Common.{◌≡◌, ◌∙◌, sym, ap, false, true}
use Rattle.spec_script.specs.Interpreter.{is_stopped, up_to_call}
use Rattle.spec_script.proofs.Passing.{fewer_left, goes_on, stays}
use Rattle.s_exec.proofs.exec.Exec.go_on.Goals as goal

pub loop-alloc-smaller : goal.loop-alloc-smaller
loop-alloc-smaller c =
    let moves : is_stopped c.loop-alloc.self.rest ≡ false = sym c.is_stopped.ensures ∙ c.loop-alloc-test.true in
    rw c.in_ok-pass_line.ensures (fewer_left c.loop-alloc.self moves)

pub loop-alloc-preserved : goal.loop-alloc-preserved
loop-alloc-preserved c =
    let moves : is_stopped c.loop-alloc.self.rest ≡ false = sym c.is_stopped.ensures ∙ c.loop-alloc-test.true in
    ap up_to_call c.in_ok-pass_line.ensures ∙ sym (goes_on c.loop-alloc.self moves) ∙ c.loop-alloc.invariant

pub returns : goal.returns
returns c = let stopped : is_stopped c.loop-alloc.self.rest ≡ true = sym c.is_stopped.ensures ∙ c.loop-alloc-test.false in sym (stays c.loop-alloc.self stopped) ∙ c.loop-alloc.invariant
