-- What a row may do to tasks and to calls that wait: every event of the whole kernel is a few of these acts, and perhaps one new wait.
-- A law over the acts is a law over all events.
use Rattle.std.specs.Prelude.{◌≡◌, ℕ, ◌≤◌, Bool, true, false, List, length, Option, Some, None}
use Rattle.it_types.specs.declared.id.TaskId.{TaskId}
use Rattle.it_types.specs.declared.id.CallNo.{CallNo}
use Rattle.it_types.specs.declared.timeout.Tmo.{Tmo}
use Rattle.spec_lists.specs.Tables.{get, change}
use Rattle.spec_lists.specs.First.{take_first}
use Rattle.spec_lists.specs.Counting.{times}
use Rattle.spec_kernel.specs.declared.task_block.TaskBlock.{TaskBlock}
use Rattle.spec_kernel.specs.declared.reason.WaitReason.{WaitReason}
use Rattle.spec_kernel.specs.declared.reason.WaitingCall.{WaitingCall}
use Rattle.spec_kernel.specs.TaskBlocks.{changed, is_active, is_suspended, dormant, one_suspension_more}
use Rattle.spec_kernel.specs.PlainTasks.{without, leaving, with_task, last_in_order}
use Rattle.spec_kernel.specs.TaskRows.{begun_anew, resumed}
use Rattle.spec_kernel.specs.PlainKernel.{PlainKernel, is_of, tasks_of, with_tasks}
use Rattle.spec_kernel.specs.Settle.{ended}
use Rattle.spec_kernel.specs.Rows.{with_wait, moved, the_others}
use Rattle.spec_kernel.specs.Standing.{task_number}

-- the same tasks are active, and the same are suspended
pub record SameTasks (before after : List (Option TaskBlock)) : Type 0 where
  pub places : length after ≡ length before
  pub nobody : get before 0 ≡ None → get after 0 ≡ None
  pub active : (id : ℕ) → is_active (get after id) ≡ is_active (get before id)
  pub suspended : (id : ℕ) → is_suspended (get after id) ≡ is_suspended (get before id)

-- the task is dormant, and its call, if one waits, waits no longer
abbrev pub laid : PlainKernel → TaskId → PlainKernel
laid k t = record k { tasks = change k.tasks t.0 (changed dormant); runnable = without t k.runnable; waits = the_others k.waits (take_first (is_of t.0) k.waits) }

pub data Act (k l : PlainKernel) : Type 0 where
  -- nothing but objects, counts and priorities changes
  stays : SameTasks k.tasks l.tasks → l.runnable ≡ k.runnable → l.waits ≡ k.waits → l.next_rank ≡ k.next_rank → l.last_call ≡ k.last_call → l.clock.now ≡ k.clock.now → Act k l
  -- a call that waits ends
  wakes : (test : WaitingCall → Bool) (z : WaitingCall × List WaitingCall) → take_first test k.waits ≡ Some z → l ≡ ended k z.0 z.1 → Act k l
  -- a task ends
  lies_down : (t : TaskId) → l ≡ laid k t → Act k l
  -- a dormant task begins
  begins : (t : TaskId) (x : TaskBlock) → get k.tasks t.0 ≡ Some x → x.active ≡ false → l ≡ with_tasks k (begun_anew (tasks_of k) t) → Act k l
  -- a task is suspended once more
  suspends : (t : TaskId) → l ≡ with_tasks k (leaving (with_task (tasks_of k) t one_suspension_more) t) → Act k l
  -- so many suspensions are left of a suspended task
  resumes : (t : TaskId) (left : ℕ) → is_active (get k.tasks t.0) ≡ true → is_suspended (get k.tasks t.0) ≡ true → l ≡ with_tasks k (resumed (tasks_of k) t left) → Act k l
  -- a task is the last in order from now on
  goes_last : (test : TaskId → Bool) → l ≡ with_tasks k (last_in_order test (tasks_of k)) → Act k l
  -- a call is the last in rank from now on
  waits_last : (test : WaitingCall → Bool) → l ≡ moved k (take_first test k.waits) → Act k l

-- and a runnable task waits under a number
pub data Blocks (number : CallNo) (k l : PlainKernel) : Type 0 where
  blocks : (t : TaskId) (reason : WaitReason) (tmo : Tmo) → 1 ≤ times task_number t.0 k.runnable → l ≡ with_wait k t reason tmo number → Blocks number k l
