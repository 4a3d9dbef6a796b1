-- Room in the lists of the whole kernel: tasks have distinct ids from 1 to 16, so that neither list has more than 16 elements, and fewer
-- where a task of the table isn't in it.
use Rattle.std.proofs.Common.{◌≡◌, ◌≢◌, ℕ, ◌+◌, ◌≤◌, true, length, sym, ap, ◌∙◌, inl, inr, arith}
use Rattle.std.proofs.lemmas.Bool.{cases_eq}
use Rattle.it_types.specs.declared.id.TaskId.{TaskId}
use Rattle.spec_lists.specs.Tables.{get}
use Rattle.spec_lists.specs.Counting.{times}
use Rattle.spec_lists.proofs.Counting.{one_if-at_most, room}
use Rattle.spec_kernel.specs.TaskBlocks.{is_active}
use Rattle.spec_kernel.specs.PlainTasks.{running}
use Rattle.spec_kernel.specs.PlainKernel.{PlainKernel, tasks_of}
use Rattle.spec_kernel.specs.Standing.{task_number, waiting_number, is_runnable, IsStanding}
use Rattle.laws_kernel.proofs.Balanced.{listed_active, listed_idle}
use Rattle.laws_kernel.proofs.Standing.{good_standing, active_within, running_listed}

module _ (k : PlainKernel) (s : IsStanding k) where
  -- an active task has an id from 1 to 16
  pub active_ids : (id : ℕ) → is_active (get k.tasks id) ≡ true → (1 ≤ id) × (id ≤ 16)
  active_ids id e = (
    elim (cases_eq id 0) [
      | inl nil ↦ absurd (let f = sym (ap is_active (ap (get k.tasks) nil ∙ s.nobody)) ∙ e in cc)
      | inr some ↦ omega (arith, some)
    ],
    omega (arith, active_within k s id e),
  )

  -- and so has one whose call waits
  pub waiting_ids : (id : ℕ) → 1 ≤ times waiting_number id k.waits → (1 ≤ id) × (id ≤ 16)
  waiting_ids id le = active_ids id (s.active id le)

  -- and one that is runnable
  pub listed_ids : (id : ℕ) → 1 ≤ times task_number id k.runnable → (1 ≤ id) × (id ≤ 16)
  listed_ids id le = active_ids id (listed_active _ _ _ _ (good_standing k s id).good le)

  -- there is room for the call of a task that doesn't wait
  pub waits_fit : (id : ℕ) → 1 ≤ id → id ≤ 16 → times waiting_number id k.waits ≡ 0 → length k.waits + 1 ≤ 16
  waits_fit id low high none = room waiting_number k.waits 16 id s.once waiting_ids none low high

  -- and for a task that isn't runnable
  pub runnable_fit : (id : ℕ) → 1 ≤ id → id ≤ 16 → times task_number id k.runnable ≡ 0 → length k.runnable + 1 ≤ 16
  runnable_fit id low high none = room task_number k.runnable 16 id (λ n. rw (s.runnable n) (one_if-at_most (is_runnable k n))) listed_ids none low high

-- there is room for a call of the running task
pub running_fits : (k : PlainKernel) (task : TaskId) → task.0 ≢ 0 → running (tasks_of k) ≡ task → IsStanding k → length k.waits + 1 ≤ 16
running_fits k task some runs s =
    let listed = running_listed (tasks_of k) task some runs in
    let ids = listed_ids k s task.0 listed in
    waits_fit k s task.0 ids.0 ids.1 (listed_idle _ _ _ _ (good_standing k s task.0).good listed)
