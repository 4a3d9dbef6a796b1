use Rattle.std.proofs.Common.{ap, ◌∙◌, is_none, arith}
use Rattle.spec_kernel.specs.TaskBlocks.{is_active}
use Rattle.spec_kernel.specs.PlainTasks.{PlainTasks, block_of}
use Rattle.k_task.proofs.Keeping.{known, kept_begun, room_for, inactive_off}
use Rattle.k_task.proofs.tasks.Tasks.begin.Goals as goal

pub push-requires : goal.push-requires
push-requires c =
    let x = known _ (ap (λ (d : PlainTasks). is_none (block_of d c.args.task)) c.self.view_is ∙ c.requires.there) in
    let inactive = ap (λ (d : PlainTasks). is_active (block_of d c.args.task)) c.self.view_is ∙ c.requires.dormant in
    (omega arith, room_for c.self.invariant c.args.task.0 x.0 x.1 (inactive_off c.self.invariant c.args.task.0 inactive))

pub invariant_of-self : goal.invariant_of-self
invariant_of-self c =
    let x = known _ (ap (λ (d : PlainTasks). is_none (block_of d c.args.task)) c.self.view_is ∙ c.requires.there) in
    let inactive = ap (λ (d : PlainTasks). is_active (block_of d c.args.task)) c.self.view_is ∙ c.requires.dormant in
    kept_begun c.self.invariant c.args.task x.0 x.1 inactive c.make_active.ensures c.push.ensures.items
