use Rattle.std.proofs.Common.{◌≡◌, drop}
use Rattle.spec_kernel.specs.PlainTasks.{most_urgent}
use Rattle.k_task.proofs.order.first_of.Given as goal

abbrev pub invariant-loop-task : goal.invariant-loop-task
invariant-loop-task l = most_urgent l.tasks l.best (drop l.task-index l.others) ≡ most_urgent l.tasks l.initial.best l.others
