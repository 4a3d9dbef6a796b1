use Rattle.std.proofs.Common.{refl}
use Rattle.spec_lists.proofs.Places.{searched, searched_none}
use Rattle.spec_kernel.specs.PlainTasks.{has_priority}
use Rattle.k_task.proofs.order.rotate.Goals as goal

pub returns-in-Some : goal.returns-in-Some
returns-in-Some c =
    rw (c.push.ensures.items, c.remove-task.ensures.items, (searched (has_priority c.args.tasks.now c.args.priority) _ _ _ c.in-Some.place c.as_slice.ensures.value c.place_of_first.ensures c.in-Some.is).first c.remove-task.result c.remove-task.ensures.value) refl

pub returns-in_default : goal.returns-in_default
returns-in_default c = rw (searched_none (has_priority c.args.tasks.now c.args.priority) _ _ _ c.as_slice.ensures.value c.place_of_first.ensures c.in_default.is) refl
