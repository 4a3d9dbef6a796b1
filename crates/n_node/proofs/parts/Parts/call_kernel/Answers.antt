use Rattle.std.proofs.Common.{ℕ, List, Option, ap, subst}
use Rattle.std.proofs.lemmas.Result.{IfOk-weaker}
use Rattle.spec_kernel.specs.declared.outcome.KEnd.{KEnd}
use Rattle.spec_node.specs.declared.held.Held.{Held}
use Rattle.spec_node.specs.Progress.{after_ends}
use Rattle.n_node.specs.Plain.{plain}
use Rattle.n_node.specs.Coming.{Moves}
use Rattle.n_node.proofs.Telling.{kernel_told}
use Rattle.n_node.proofs.parts.Parts.call_kernel.Goals as goal

pub returns : goal.returns
returns c =
    let middle = record c.args.self.now { kernel = c.call-done.new.self; calls = c.calls_after-self.result } in
    let moves : Moves middle c.nothing-told.result c.take_kernel_ends.new.self c.take_kernel_ends.new.told (λ p. after_ends p c.call-done.result.ends.items)
    = subst (λ (es : List KEnd). Moves middle c.nothing-told.result c.take_kernel_ends.new.self c.take_kernel_ends.new.told (λ p. after_ends p es)) c.as_slice.ensures.value c.in_ok-take_kernel_ends.ensures.moves in
    IfOk-weaker c.out.result _ _
    (λ out is. kernel_told c.args.self.now middle c.take_kernel_ends.new.self (record c.take_kernel_ends.new.self { held = c.forget.new.held }) c.nothing-told.result c.take_kernel_ends.new.told c.args.ctx c.running-before.result c.running.result c.args.request.now c.call-done.result c.in_ok-ans.ans out
    c.call-done.ensures c.in_ok-ans.ensures (ap (λ (calls : ℕ). record (plain c.args.self.now) { kernel = c.call-done.new.self; calls = calls }) c.calls_after-self.ensures) moves (ap (λ (held : List (Option Held)). record (plain c.take_kernel_ends.new.self) { held = held }) c.forget.ensures)
    (record { ends = c.nothing-told.ensures.ends; marks = c.nothing-told.ensures.marks; packets = c.nothing-told.ensures.packets }) c.running-before.ensures.task c.running.ensures.task is) c.out.ensures
