-- How tasks stand at any time (µITRON4.0 section 3.2, task states), and what their tables keep.
use Rattle.std.specs.Prelude.{◌≡◌, ℕ, ◌≤◌, Bool, false, not, ◌&&◌, length, None, is_some}
use Rattle.it_types.specs.declared.id.TaskId.{TaskId}
use Rattle.spec_lists.specs.Tables.{get}
use Rattle.spec_lists.specs.Counting.{one_if, times}
use Rattle.spec_kernel.specs.TaskBlocks.{is_active, is_suspended, activations_of, wakeups_of, suspensions_of}
use Rattle.spec_kernel.specs.PlainTasks.{PlainTasks}

abbrev pub number : TaskId → ℕ
number t = t.0

-- it is active, not suspended, and doesn't wait
abbrev pub is_runnable : PlainTasks → ℕ → Bool
is_runnable d id = is_active (get d.tasks id) && (not (is_suspended (get d.tasks id)) && not (is_some (get d.waits id)))

-- one task: it is listed once where it is runnable, and else not; it waits only while it is active; its counts are 255 at most
pub record StandsAt (d : PlainTasks) (id : ℕ) : Type 0 where
  pub listed : times number id d.runnable ≡ one_if (is_runnable d id)
  pub dormant : is_active (get d.tasks id) ≡ false → is_some (get d.waits id) ≡ false
  pub activations : activations_of (get d.tasks id) ≤ 255
  pub wakeups : wakeups_of (get d.tasks id) ≤ 255
  pub suspensions : suspensions_of (get d.tasks id) ≤ 255

-- all tasks
pub record Standing (d : PlainTasks) : Type 0 where
  pub each : (id : ℕ) → StandsAt d id

pub record Kept (d : PlainTasks) : Type 0 where
  pub places : length d.tasks ≡ 17
  pub wait_places : length d.waits ≡ 17
  pub nobody : get d.tasks 0 ≡ None
  pub standing : Standing d
