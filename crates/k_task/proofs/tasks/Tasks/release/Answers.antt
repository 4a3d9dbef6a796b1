use Rattle.std.proofs.Common.{sym, ap, ◌∙◌, arith}
use Rattle.spec_kernel.specs.TaskBlocks.{is_suspended}
use Rattle.spec_kernel.specs.PlainTasks.{PlainTasks, block_of, is_waiting}
use Rattle.k_task.proofs.Keeping.{active_there, kept_released, room_for, waiting_active, waiting_off}
use Rattle.k_task.proofs.tasks.Tasks.release.Goals as goal

pub push-requires : goal.push-requires
push-requires c =
    let waits = ap (λ (d : PlainTasks). is_waiting d c.args.task) c.self.view_is ∙ c.requires in
    let x = active_there _ (waiting_active c.self.invariant c.args.task.0 waits) in
    (omega arith, room_for c.self.invariant c.args.task.0 x.0 x.1 (waiting_off c.self.invariant c.args.task.0 waits))

pub invariant_of-self : goal.invariant_of-self
invariant_of-self c =
    let waits = ap (λ (d : PlainTasks). is_waiting d c.args.task) c.self.view_is ∙ c.requires in
    let free = ap (λ (d : PlainTasks). is_suspended (block_of d c.args.task)) c.self.view_is ∙ sym (c.is_suspended-stays.ensures ∙ ap is_suspended c.block.ensures) ∙ c.if-not-stays.true in
    kept_released c.self.invariant c.args.task waits free c.take.ensures.table c.push.ensures.items
