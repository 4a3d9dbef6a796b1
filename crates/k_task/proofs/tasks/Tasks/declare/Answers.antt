use Rattle.std.proofs.Common.{ap, ◌∙◌, refl, arith}
use Rattle.spec_lists.specs.Tables.{get}
use Rattle.spec_kernel.specs.PlainTasks.{PlainTasks}
use Rattle.spec_kernel.specs.TaskOpening.{block_at_start}
use Rattle.k_task.proofs.Keeping.{kept_declared_active, room_for_new}
use Rattle.k_task.proofs.tasks.Tasks.declare.Goals as goal

pub push-requires : goal.push-requires
push-requires c =
    let new = ap (λ (d : PlainTasks). get d.tasks c.args.decl.id) c.self.view_is ∙ c.requires.new in
    (omega arith, room_for_new c.self.invariant c.args.decl.id c.requires.low c.requires.high new)

pub invariant_of-self : goal.invariant_of-self
invariant_of-self c =
    let new = ap (λ (d : PlainTasks). get d.tasks c.args.decl.id) c.self.view_is ∙ c.requires.new in
    kept_declared_active c.self.invariant (record { 0 = c.args.decl.id }) (block_at_start c.args.decl) c.requires.low c.requires.high new c.if-decl.true (omega arith) (omega arith) refl c.put.ensures.table c.push.ensures.items
