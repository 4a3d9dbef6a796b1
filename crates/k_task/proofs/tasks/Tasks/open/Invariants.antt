use Rattle.std.proofs.Common.{◌≡◌, true, drop}
use Rattle.spec_kernel.specs.Ids.{are_new_ids, task_id}
use Rattle.spec_kernel.specs.TaskOpening.{all_declared, block_at_start, opened_tasks}
use Rattle.k_task.proofs.tasks.Tasks.open.Given as goal

abbrev pub invariant-loop-decl : goal.invariant-loop-decl
invariant-loop-decl l = record {
  tasks : all_declared (drop l.decl-index l.decl-items) l.tasks ≡ opened_tasks l.decl-items;
  new : are_new_ids task_id block_at_start l.tasks.tasks (drop l.decl-index l.decl-items) ≡ true;
}
