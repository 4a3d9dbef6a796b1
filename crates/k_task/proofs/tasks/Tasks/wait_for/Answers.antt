use Rattle.std.proofs.Common.{sym, ap, ◌∙◌}
use Rattle.spec_kernel.specs.TaskBlocks.{is_active}
use Rattle.spec_kernel.specs.PlainTasks.{PlainTasks, block_of, is_waiting}
use Rattle.k_task.proofs.Keeping.{kept_waiting}
use Rattle.k_task.proofs.tasks.Tasks.wait_for.Goals as goal

pub invariant_of-self : goal.invariant_of-self
invariant_of-self c =
    let active = ap (λ (d : PlainTasks). is_active (block_of d c.args.task)) c.self.view_is ∙ sym (c.is_active.ensures ∙ ap is_active c.block.ensures) ∙ c.if-is_active.true in
    let idle = ap (λ (d : PlainTasks). is_waiting d c.args.task) c.self.view_is ∙ sym c.is_waiting.ensures ∙ c.if-not-is_waiting.true in
    kept_waiting c.self.invariant c.args.task c.args.what active idle c.put.ensures.table c.take_out.ensures
