use Rattle.std.proofs.Common.{◌≡◌, drop}
use Rattle.std.specs.List.{list_any}
use Rattle.spec_kernel.specs.TaskBlocks.{is_active}
use Rattle.k_task.proofs.tasks.Tasks.is_any_active.Given as goal

abbrev pub invariant-loop-id : goal.invariant-loop-id
invariant-loop-id l = list_any is_active (drop l.id l.self.tasks) ≡ list_any is_active l.self.tasks
