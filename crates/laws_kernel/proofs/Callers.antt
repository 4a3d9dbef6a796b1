-- What is known of the running task where tasks and calls stand: it is active, and waits nowhere.
use Rattle.std.proofs.Common.{◌≡◌, ◌≢◌, ◌≤◌, Bool, true, false, map, List, [], ◌∷◌, refl, sym, ◌∙◌, inl, inr}
use Rattle.std.specs.Prelude.{◌==◌, filter}
use Rattle.std.specs.List.{list_any}
use Rattle.std.proofs.lemmas.Bool.{cases_Bool}
use Rattle.it_types.specs.declared.id.TaskId.{TaskId}
use Rattle.spec_lists.specs.Tables.{get}
use Rattle.spec_lists.specs.Counting.{times}
use Rattle.spec_kernel.specs.declared.reason.WaitReason.{WaitReason}
use Rattle.spec_kernel.specs.declared.reason.WaitingCall.{WaitingCall}
use Rattle.spec_kernel.specs.TaskBlocks.{is_active}
use Rattle.spec_kernel.specs.PlainTasks.{is_waiting, running}
use Rattle.spec_kernel.specs.Waiters.{is_task}
use Rattle.spec_kernel.specs.PlainKernel.{PlainKernel, is_of, tasks_of, waiter_of, waiters_for}
use Rattle.spec_kernel.specs.Standing.{task_number, waits_now, IsStanding}
use Rattle.laws_kernel.proofs.Standing.{sees_its_wait, listed_is_active, listed_doesnt_wait, running_listed}
use Rattle.laws_kernel.proofs.Room.{listed_ids}

-- a task of which no call waits waits at no object
pub waits_nowhere : (k : PlainKernel) (kind : WaitReason → Bool) (task : TaskId) → waits_now k task.0 ≡ false → list_any (is_task task) (waiters_for kind k) ≡ false
waits_nowhere k kind task none = of k.waits none
  where
    of : (ws : List WaitingCall) → list_any (is_of task.0) ws ≡ false → list_any (is_task task) (map (waiter_of k) (filter (λ w. kind w.reason) ws)) ≡ false
    of [] e = refl
    of (w ∷ ws) e = elim (cases_Bool (w.task.0 == task.0)) [
      | inl same ↦ absurd (let f : true ≡ false = rw same at e in cc)
      | inr other ↦ (let rest : list_any (is_of task.0) ws ≡ false = rw other at e in elim (cases_Bool (kind w.reason)) [
        | inl its ↦ rw its (rw (other, of ws rest) refl)
        | inr not_its ↦ rw not_its (of ws rest)
      ])
    ]

module _ (k : PlainKernel) (task : TaskId) (some : task.0 ≢ 0) (runs : running (tasks_of k) ≡ task) (s : IsStanding k) where
  caller_listed : 1 ≤ times task_number task.0 k.runnable
  caller_listed = running_listed (tasks_of k) task some runs

  pub caller_ids : (1 ≤ task.0) × (task.0 ≤ 16)
  caller_ids = listed_ids k s task.0 caller_listed

  pub caller_active : is_active (get k.tasks task.0) ≡ true
  caller_active = listed_is_active k s task caller_listed

  -- it sees no wait of its own
  pub caller_idle : is_waiting (tasks_of k) task ≡ false
  caller_idle = listed_doesnt_wait k s task caller_listed

  -- and no call of its own waits
  pub caller_waits_not : waits_now k task.0 ≡ false
  caller_waits_not = sym (sees_its_wait k s task) ∙ caller_idle

  -- at no object either
  pub caller_nowhere : (kind : WaitReason → Bool) → list_any (is_task task) (waiters_for kind k) ≡ false
  caller_nowhere kind = waits_nowhere k kind task caller_waits_not
