-- The tasks of a kernel as plain lists, and which of them runs (µITRON4.0 section 3.2). Ranks are places: a task that becomes
-- runnable goes to the end of its list.
use Rattle.std.specs.Prelude.{ℕ, Bool, true, false, not, ◌&&◌, List, [], ◌∷◌, ◌++◌, Option, Some, None, is_some, nat_lt, ◌==◌, if◌then◌else◌, filter, slice_set}
use Rattle.it_types.specs.declared.id.TaskId.{TaskId}
use Rattle.it_types.specs.Callers.{nobody}
use Rattle.spec_lists.specs.Tables.{get, change}
use Rattle.spec_lists.specs.First.{take_first}
use Rattle.spec_kernel.specs.declared.task_block.TaskBlock.{TaskBlock}
use Rattle.spec_kernel.specs.declared.task_wait.TaskWait.{TaskWait}
use Rattle.spec_kernel.specs.declared.task_wait.TaskWait.TheVariants.{Sleep, Other}
use Rattle.spec_kernel.specs.TaskBlocks.{changed, priority_of, wakeups_of, is_active, is_suspended, one_wakeup_less}

pub record PlainTasks : Type 0 where
  pub tasks : List (Option TaskBlock)  -- by id
  pub waits : List (Option TaskWait)  -- by id: what a task waits for that waits
  pub runnable : List TaskId  -- in the order in which they became runnable
  pub next_rank : ℕ  -- the number that a call is given next which waits elsewhere in the order of ranks

-- ---- one task

abbrev pub block_of : PlainTasks → TaskId → Option TaskBlock
block_of d t = get d.tasks t.0

abbrev pub is_waiting : PlainTasks → TaskId → Bool
is_waiting d t = is_some (get d.waits t.0)

abbrev pub is_for_a_wakeup : Option TaskWait → Bool
is_for_a_wakeup (Some Sleep) = true
is_for_a_wakeup (Some Other) = false
is_for_a_wakeup None = false

abbrev pub is_asleep : PlainTasks → TaskId → Bool
is_asleep d t = is_for_a_wakeup (get d.waits t.0)

-- it sleeps and has a wake-up
abbrev pub is_woken : PlainTasks → TaskId → Bool
is_woken d t = is_asleep d t && nat_lt 0 (wakeups_of (block_of d t))

abbrev pub with_task : PlainTasks → TaskId → (TaskBlock → TaskBlock) → PlainTasks
with_task d t f = record d { tasks = change d.tasks t.0 (changed f) }

-- ---- the running task

-- the first task of the least priority, from the best so far on
abbrev pub most_urgent : List (Option TaskBlock) → TaskId → List TaskId → TaskId
most_urgent tasks best [] = best
most_urgent tasks best (t ∷ ts) = most_urgent tasks (if nat_lt (priority_of (get tasks t.0)) (priority_of (get tasks best.0)) then t else best) ts

-- of the runnable tasks of the least priority the one that became runnable first
abbrev pub first_of : List (Option TaskBlock) → List TaskId → TaskId
first_of tasks [] = nobody
first_of tasks (t ∷ ts) = most_urgent tasks t ts

-- the running task, or nobody
abbrev pub running : PlainTasks → TaskId
running d = first_of d.tasks d.runnable

-- ---- runnable tasks

abbrev pub is_same : TaskId → TaskId → Bool
is_same task t = t.0 == task.0

abbrev pub has_priority : List (Option TaskBlock) → ℕ → TaskId → Bool
has_priority tasks p t = priority_of (get tasks t.0) == p

-- the runnable tasks without one of them
abbrev pub without : TaskId → List TaskId → List TaskId
without task runnable = filter (λ t. not (t.0 == task.0)) runnable

abbrev pub leaving : PlainTasks → TaskId → PlainTasks
leaving d t = record d { runnable = without t d.runnable }

-- the task is runnable from now on, the last in order
abbrev pub joining : PlainTasks → TaskId → PlainTasks
joining d t = record d { runnable = d.runnable ++ t ∷ [] }

abbrev pub joining_unless : Bool → PlainTasks → TaskId → PlainTasks
joining_unless stays d t = if stays then d else joining d t

-- what was found goes to the end
abbrev pub to_the_end : {X : Type 0} → List X → Option (X × List X) → List X
to_the_end xs None = xs
to_the_end xs (Some found) = found.1 ++ found.0 ∷ []

-- the first runnable task that passes is the last in order from now on
abbrev pub last_in_order : (TaskId → Bool) → PlainTasks → PlainTasks
last_in_order passes d = record d { runnable = to_the_end d.runnable (take_first passes d.runnable) }

-- ---- waits

-- an active task that doesn't wait begins to
abbrev pub waiting : PlainTasks → TaskId → TaskWait → PlainTasks
waiting d t what = if is_active (block_of d t) && not (is_waiting d t) then leaving (record d { waits = slice_set d.waits t.0 (Some what) }) t else d

-- the wait of a task is over: it is runnable, unless it is suspended
abbrev pub released : PlainTasks → TaskId → PlainTasks
released d t = joining_unless (is_suspended (block_of d t)) (record d { waits = slice_set d.waits t.0 None }) t

-- a sleeper takes a wake-up
abbrev pub wakeup_taken : PlainTasks → TaskId → PlainTasks
wakeup_taken d t = if is_asleep d t then with_task d t one_wakeup_less else d

-- a task that waits has what it waits for
abbrev pub woken : PlainTasks → TaskId → PlainTasks
woken d t = if is_waiting d t then released (wakeup_taken d t) t else d
