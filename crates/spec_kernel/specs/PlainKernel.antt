-- The state of the whole kernel as plain lists, which is this project's own, and what each of its parts sees of it. Ranks are places,
-- beside which each call that waits has the number that was drawn for it.
use Rattle.std.specs.Prelude.{ℕ, Bool, true, false, ◌==◌, List, [], ◌∷◌, Option, Some, None, map, filter}
use Rattle.it_types.specs.declared.id.TaskId.{TaskId}
use Rattle.spec_lists.specs.Tables.{get}
use Rattle.spec_lists.specs.First.{take_first}
use Rattle.spec_kernel.specs.declared.task_block.TaskBlock.{TaskBlock}
use Rattle.spec_kernel.specs.declared.task_wait.TaskWait.{TaskWait}
use Rattle.spec_kernel.specs.declared.task_wait.TaskWait.TheVariants as task_waits
use Rattle.spec_kernel.specs.declared.reason.WaitReason.{WaitReason}
use Rattle.spec_kernel.specs.declared.reason.WaitReason.TheVariants as reasons
use Rattle.spec_kernel.specs.declared.reason.WaitingCall.{WaitingCall}
use Rattle.spec_kernel.specs.declared.waiter.Waiter.{Waiter}
use Rattle.spec_kernel.specs.TaskBlocks.{priority_of}
use Rattle.spec_kernel.specs.PlainTasks.{PlainTasks}
use Rattle.spec_kernel.specs.Waiting.{PlainObjects, is_by_priority}
use Rattle.spec_kernel.specs.ObjectRows.{urgency_in}
use Rattle.spec_kernel.specs.PlainSemaphores.{PlainSemaphores}
use Rattle.spec_kernel.specs.PlainFlags.{PlainFlags}
use Rattle.spec_kernel.specs.PlainQueues.{PlainQueues}
use Rattle.spec_kernel.specs.PlainClock.{PlainClock}

pub record PlainKernel : Type 0 where
  pub clock : PlainClock
  pub last_call : ℕ  -- the greatest number with which a call waited
  pub tasks : List (Option TaskBlock)  -- by id
  pub runnable : List TaskId  -- in the order in which they became runnable
  pub objects : PlainObjects
  pub waits : List WaitingCall  -- in the order of their ranks
  pub next_rank : ℕ  -- the number of the next rank

-- ---- what the tasks see

abbrev pub is_of : ℕ → WaitingCall → Bool
is_of id w = w.task.0 == id

abbrev pub task_wait : WaitReason → TaskWait
task_wait reasons.Sleep = task_waits.Sleep
task_wait _ = task_waits.Other

abbrev pub task_wait_of : Option (WaitingCall × List WaitingCall) → Option TaskWait
task_wait_of None = None
task_wait_of (Some found) = Some (task_wait found.0.reason)

-- what a task waits for that waits
abbrev pub waits_at : List WaitingCall → ℕ → Option TaskWait
waits_at waits id = task_wait_of (take_first (is_of id) waits)

abbrev pub all_places : List ℕ
all_places = 0 ∷ 1 ∷ 2 ∷ 3 ∷ 4 ∷ 5 ∷ 6 ∷ 7 ∷ 8 ∷ 9 ∷ 10 ∷ 11 ∷ 12 ∷ 13 ∷ 14 ∷ 15 ∷ 16 ∷ []

-- by id
abbrev pub waits_by_task : List WaitingCall → List (Option TaskWait)
waits_by_task waits = map (waits_at waits) all_places

abbrev pub tasks_of : PlainKernel → PlainTasks
tasks_of k = record { tasks = k.tasks; waits = waits_by_task k.waits; runnable = k.runnable; next_rank = k.next_rank }

-- the kernel with other tasks; the calls that wait stay
abbrev pub with_tasks : PlainKernel → PlainTasks → PlainKernel
with_tasks k d = record k { tasks = d.tasks; runnable = d.runnable; next_rank = d.next_rank }

-- ---- what the objects see

-- a call in the queue of an object: its task's priority counts where the queue is by priority
abbrev pub waiter_of : PlainKernel → WaitingCall → Waiter
waiter_of k w = record { task = w.task; reason = w.reason; urgency = urgency_in (is_by_priority k.objects w.reason) (priority_of (get k.tasks w.task.0)); rank = w.rank }

abbrev pub is_for_a_semaphore : WaitReason → Bool
is_for_a_semaphore (reasons.Semaphore s) = true
is_for_a_semaphore _ = false

abbrev pub is_for_a_flag : WaitReason → Bool
is_for_a_flag (reasons.Flag w) = true
is_for_a_flag _ = false

abbrev pub is_for_a_queue : WaitReason → Bool
is_for_a_queue (reasons.Send q item) = true
is_for_a_queue (reasons.Receive q) = true
is_for_a_queue _ = false

abbrev pub waiters_for : (WaitReason → Bool) → PlainKernel → List Waiter
waiters_for kind k = map (waiter_of k) (filter (λ w. kind w.reason) k.waits)

abbrev pub semaphores_of : PlainKernel → PlainSemaphores
semaphores_of k = record { semaphores = k.objects.semaphores; waiters = waiters_for is_for_a_semaphore k }

abbrev pub flags_of : PlainKernel → PlainFlags
flags_of k = record { flags = k.objects.flags; waiters = waiters_for is_for_a_flag k }

abbrev pub queues_of : PlainKernel → PlainQueues
queues_of k = record { queues = k.objects.queues; waiters = waiters_for is_for_a_queue k; handed = None }

abbrev pub with_objects : PlainKernel → PlainObjects → PlainKernel
with_objects k o = record k { objects = o }
