-- The semaphores of a kernel and the tasks that wait at them, as plain lists (µITRON4.0 section 4.4.1).
use Rattle.std.specs.Prelude.{◌≡◌, ℕ, Bool, true, false, List, [], Option, Some, None}
use Rattle.std.specs.List.{list_all}
use Rattle.it_types.specs.declared.id.TaskId.{TaskId}
use Rattle.it_types.specs.declared.er.Er.{Er}
use Rattle.it_types.specs.declared.conf.SemDecl.{SemDecl}
use Rattle.it_types.specs.declared.conf.SyncConf.{SyncConf}
use Rattle.spec_lists.specs.Tables.{get, empty_table, filled}
use Rattle.spec_kernel.specs.declared.semaphore_block.SemaphoreBlock.{SemaphoreBlock}
use Rattle.spec_kernel.specs.declared.reason.WaitReason.{WaitReason}
use Rattle.spec_kernel.specs.declared.reason.WaitReason.TheVariants as reasons
use Rattle.spec_kernel.specs.declared.waiter.Waiter.{Waiter}
use Rattle.spec_kernel.specs.Ids.{greatest_id}
use Rattle.spec_kernel.specs.Waiters.{left_by, next_waiter}
use Rattle.spec_kernel.specs.Waiters.{reprioritised as reprioritised_in}
use Rattle.spec_kernel.specs.Ids.{are_new_ids}
use Rattle.spec_kernel.specs.ObjectRows.{told}
use Rattle.spec_kernel.specs.Waiting.{semaphores_after}
use Rattle.spec_kernel.specs.SemaphoreBlocks.{is_ordered, has_count, semaphore_id, semaphore_declared, keeps_ranges}

pub record PlainSemaphores : Type 0 where
  pub semaphores : List (Option SemaphoreBlock)  -- by id
  pub waiters : List Waiter  -- in the order of their ranks

-- what can be declared: each id once and in its range, and all numbers in theirs
pub record AreDeclarable (sems : List SemDecl) : Type 0 where
  pub ids : are_new_ids semaphore_id semaphore_declared (empty_table greatest_id) sems ≡ true
  pub ranges : list_all keeps_ranges sems ≡ true

-- at the start nobody waits
abbrev pub opened : SyncConf → PlainSemaphores
opened conf = record { semaphores = filled semaphore_id semaphore_declared conf.sems (empty_table greatest_id); waiters = [] }

-- ---- what a task waits for

abbrev pub is_met : List (Option SemaphoreBlock) → WaitReason → Bool
is_met semaphores (reasons.Semaphore s) = has_count (get semaphores s.0)
is_met semaphores _ = false

abbrev pub is_by_priority : List (Option SemaphoreBlock) → WaitReason → Bool
is_by_priority semaphores (reasons.Semaphore s) = is_ordered (get semaphores s.0)
is_by_priority semaphores _ = false

-- a task that is met gets no bytes
abbrev pub bytes_of : WaitReason → List ℕ
bytes_of reason = []

-- ---- whose wait ends next

abbrev pub next_freed : PlainSemaphores → Option (Waiter × List Waiter)
next_freed d = next_waiter (is_met d.semaphores) d.waiters

abbrev pub next_ready : PlainSemaphores → Option (TaskId × Er × List ℕ)
next_ready d = told bytes_of (next_freed d)

abbrev pub without : PlainSemaphores → Option (Waiter × List Waiter) → PlainSemaphores
without d None = d
without d (Some found) = record { semaphores = semaphores_after found.0.reason d.semaphores; waiters = found.1 }

-- the state after the end of that wait
abbrev pub freed : PlainSemaphores → PlainSemaphores
freed d = without d (next_freed d)

-- ---- one task

-- the task waits no longer, and nothing else changes
abbrev pub left : PlainSemaphores → TaskId → PlainSemaphores
left d task = record d { waiters = left_by task d.waiters }

abbrev pub reprioritised : PlainSemaphores → TaskId → ℕ → ℕ → PlainSemaphores
reprioritised d task pri rank = record d { waiters = reprioritised_in (is_by_priority d.semaphores) task pri rank d.waiters }
