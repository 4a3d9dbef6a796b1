-- The tasks of a kernel at its opening (µITRON4.0 section 4.1): those that are active from the start are runnable in the order of
-- their declarations.
use Rattle.std.specs.Prelude.{◌≡◌, Bool, true, not, ◌&&◌, List, [], ◌∷◌, Some, nat_le, slice_set}
use Rattle.std.specs.List.{list_all}
use Rattle.it_types.specs.declared.conf.TaskDecl.{TaskDecl}
use Rattle.spec_lists.specs.Tables.{empty_table}
use Rattle.spec_kernel.specs.declared.task_block.TaskBlock.{TaskBlock}
use Rattle.spec_kernel.specs.Ids.{greatest_id, are_new_ids, task_id}
use Rattle.spec_kernel.specs.PlainTasks.{PlainTasks, joining_unless}

-- the ranges of a declaration
abbrev pub keeps_priority : TaskDecl → Bool
keeps_priority c = nat_le 1 c.pri && nat_le c.pri 16

abbrev pub block_at_start : TaskDecl → TaskBlock
block_at_start c = record { active = c.act; initial_priority = c.pri; priority = c.pri; activations = 0; wakeups = 0; suspensions = 0 }

-- what can be declared: each id once and in its range, and each priority from 1, the most urgent, to 16
pub record AreDeclarable (tasks : List TaskDecl) : Type 0 where
  pub ids : are_new_ids task_id block_at_start (empty_table greatest_id) tasks ≡ true
  pub ranges : list_all keeps_priority tasks ≡ true

abbrev pub no_tasks : PlainTasks
no_tasks = record { tasks = empty_table greatest_id; waits = empty_table greatest_id; runnable = []; next_rank = 0 }

abbrev pub declared : PlainTasks → TaskDecl → PlainTasks
declared d c = joining_unless (not c.act) (record d { tasks = slice_set d.tasks c.id (Some (block_at_start c)) }) (record { 0 = c.id })

abbrev pub all_declared : List TaskDecl → PlainTasks → PlainTasks
all_declared [] d = d
all_declared (c ∷ cs) d = all_declared cs (declared d c)

abbrev pub opened_tasks : List TaskDecl → PlainTasks
opened_tasks cs = all_declared cs no_tasks
