use Rattle.std.proofs.Common.{sym, ap, ◌∙◌, ◌||◌, ltb, arith}
use Rattle.spec_kernel.specs.TaskBlocks.{is_active, is_suspended}
use Rattle.spec_kernel.specs.PlainTasks.{PlainTasks, block_of, is_waiting}
use Rattle.k_task.proofs.Keeping.{active_there, kept_resumed, kept_still, room_for, suspended_off}
use Rattle.k_task.proofs.tasks.Tasks.resume.Goals as goal

pub push-requires : goal.push-requires
push-requires c =
    let active = ap (λ (d : PlainTasks). is_active (block_of d c.args.task)) c.self.view_is ∙ c.requires.active in
    let suspended = ap (λ (d : PlainTasks). is_suspended (block_of d c.args.task)) c.self.view_is ∙ c.requires.suspended in
    let x = active_there _ active in
    (omega arith, room_for c.self.invariant c.args.task.0 x.0 x.1 (suspended_off c.self.invariant c.args.task.0 suspended))

pub invariant_of-self : goal.invariant_of-self
invariant_of-self c =
    let active = ap (λ (d : PlainTasks). is_active (block_of d c.args.task)) c.self.view_is ∙ c.requires.active in
    let suspended = ap (λ (d : PlainTasks). is_suspended (block_of d c.args.task)) c.self.view_is ∙ c.requires.suspended in
    let goes = ap (λ (d : PlainTasks). ltb 0 c.args.left || is_waiting d c.args.task) c.self.view_is ∙ sym c.stays_out-stays.ensures ∙ c.if-not-stays.true in
    kept_resumed c.self.invariant c.args.task c.args.left active suspended c.requires.fewer goes c.set_suspensions.ensures c.push.ensures.items

pub invariant_of-self-else-not-stays : goal.invariant_of-self-else-not-stays
invariant_of-self-else-not-stays c =
    let suspended = ap (λ (d : PlainTasks). is_suspended (block_of d c.args.task)) c.self.view_is ∙ c.requires.suspended in
    let stays = ap (λ (d : PlainTasks). ltb 0 c.args.left || is_waiting d c.args.task) c.self.view_is ∙ sym c.stays_out-stays.ensures ∙ c.if-not-stays.false in
    kept_still c.self.invariant c.args.task c.args.left suspended c.requires.fewer stays c.set_suspensions.ensures
