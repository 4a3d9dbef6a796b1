-- The calls of the kernel as its parts make them, one part after another: it is proved that this is what the whole kernel does.
use Rattle.std.specs.Prelude.{ℕ, ◌+◌, Bool, not, ◌&&◌, ◌||◌, List, [], ◌∷◌, ◌++◌, Option, Some, None, if◌then◌else◌}
use Rattle.std.specs.Int.{is_negative}
use Rattle.it_types.specs.declared.id.TaskId.{TaskId}
use Rattle.it_types.specs.declared.id.CallNo.{CallNo}
use Rattle.it_types.specs.declared.er.Er.{Er}
use Rattle.it_types.specs.declared.er.TheConstants.{E_OK, E_CTX, E_TMOUT}
use Rattle.it_types.specs.declared.timeout.Tmo.{Tmo}
use Rattle.it_types.specs.declared.context.Ctx.{Ctx}
use Rattle.it_types.specs.declared.synced.Synced.{Synced}
use Rattle.it_types.specs.declared.synced.Synced.TheVariants.{Took, MustWait, Refused}
use Rattle.it_types.specs.declared.kernel_request.KReq.{KReq}
use Rattle.it_types.specs.Callers.{nobody, is_handler, caller, is_poll}
use Rattle.spec_lists.specs.First.{take_first}
use Rattle.spec_kernel.specs.declared.did.Did.{Did}
use Rattle.spec_kernel.specs.declared.handed.Handed.{Handed}
use Rattle.spec_kernel.specs.declared.task_wait.TaskWait.TheVariants.{Other}
use Rattle.spec_kernel.specs.declared.outcome.KAns.{KAns}
use Rattle.spec_kernel.specs.declared.outcome.KAns.TheVariants.{Now, Pends}
use Rattle.spec_kernel.specs.declared.outcome.KEnd.{KEnd}
use Rattle.spec_kernel.specs.declared.reason.WaitReason.{WaitReason}
use Rattle.spec_kernel.specs.declared.reason.WaitingCall.{WaitingCall}
use Rattle.spec_kernel.specs.TaskBlocks.{priority_of}
use Rattle.spec_kernel.specs.PlainTasks.{PlainTasks, block_of, waiting, woken}
use Rattle.spec_kernel.specs.TaskRows.{TaskDone, named}
use Rattle.spec_kernel.specs.PlainSemaphores.{left as left_semaphores, reprioritised as semaphores_reprioritised, is_by_priority as is_ordered_semaphore}
use Rattle.spec_kernel.specs.PlainFlags.{left as left_flags, reprioritised as flags_reprioritised, is_by_priority as is_ordered_flag}
use Rattle.spec_kernel.specs.PlainQueues.{left as left_queues, reprioritised as queues_reprioritised, is_by_priority as is_ordered_queue, handed_bytes}
use Rattle.spec_kernel.specs.SemaphoreRows.{SemaphoresDone}
use Rattle.spec_kernel.specs.FlagRows.{FlagsDone}
use Rattle.spec_kernel.specs.QueueRows.{QueuesDone}
use Rattle.spec_kernel.specs.Calls.{Row, is_a_handlers, row_of}
use Rattle.spec_kernel.specs.Calls.Row.{TasksAtOnce, TasksInTime, NewPriority, OnSemaphores, OnFlags, OnQueues, OnClock}
use Rattle.spec_kernel.specs.PlainKernel.{is_of}
use Rattle.spec_kernel.specs.Settle.{ending}
use Rattle.spec_kernel.specs.Rows.{deadline_of, or_nobody, answer_of, ended_call, released_end}
use Rattle.spec_kernel.specs.Parts.{PlainParts}

pub record PartsOutcome : Type 0 where
  pub parts : PlainParts
  pub answer : KAns
  pub ends : List KEnd
  pub gone : TaskId
  pub begun : TaskId

abbrev pub answered_with : PlainParts → Er → List ℕ → PartsOutcome
answered_with p code bytes = record { parts = p; answer = Now code bytes; ends = []; gone = nobody; begun = nobody }

abbrev pub answered : PlainParts → Er → PartsOutcome
answered p code = answered_with p code []

-- ---- waiting, and its end

-- the task waits at no object
abbrev pub left_by : PlainParts → TaskId → PlainParts
left_by p t = record p { sems = left_semaphores p.sems t; flags = left_flags p.flags t; dtqs = left_queues p.dtqs t }

-- the call that was found waits no longer
abbrev pub without_call : PlainParts → Option (WaitingCall × List WaitingCall) → PlainParts
without_call p None = p
without_call p (Some found) = record (left_by p found.0.task) { waits = found.1 }

abbrev pub waiting_call : PlainParts → TaskId → WaitReason → Tmo → CallNo → WaitingCall
waiting_call p task reason tmo number = record { call = number; task = task; reason = reason; deadline = deadline_of p.clock.now tmo; rank = p.tasks.next_rank }

-- the task waits under this number, where it may wait at an object already
abbrev pub with_wait : PlainParts → TaskId → WaitReason → Tmo → CallNo → PlainParts
with_wait p task reason tmo number = let tasks = waiting p.tasks task Other in record p {
  tasks = record tasks { next_rank = tasks.next_rank + 1 };
  waits = p.waits ++ waiting_call p task reason tmo number ∷ [];
  last_call = number.0;
}

abbrev pub accepted : PlainParts → TaskId → WaitReason → Tmo → CallNo → PartsOutcome
accepted p task reason tmo number = if is_poll tmo then answered p E_TMOUT else record (answered (with_wait p task reason tmo number) E_OK) { answer = Pends }

-- ---- calls on tasks

abbrev pub with_tasks : PlainParts → PlainTasks → PlainParts
with_tasks p tasks = record p { tasks = tasks }

-- the tasks have done their part
abbrev pub done_at_once : PlainParts → Ctx → Did → PartsOutcome
done_at_once p ctx did = let call = ended_call p.waits p.tasks did.freed in record {
  parts = without_call p call;
  answer = answer_of ctx did;
  ends = released_end call;
  gone = or_nobody did.gone;
  begun = or_nobody did.begun;
}

abbrev pub at_once : PlainParts → Ctx → TaskDone → PartsOutcome
at_once p ctx done = done_at_once (with_tasks p done.tasks) ctx done.did

-- or the caller waits
abbrev pub waits_or_done : PlainParts → Ctx → Did → WaitReason → Tmo → CallNo → PartsOutcome
waits_or_done p ctx did reason tmo number = if did.wait then accepted p (caller ctx) reason tmo number else done_at_once p ctx did

abbrev pub done_by_tasks : PlainParts → Ctx → TaskDone → WaitReason → Tmo → CallNo → PartsOutcome
done_by_tasks p ctx done reason tmo number = waits_or_done (with_tasks p done.tasks) ctx done.did reason tmo number

-- a task that waits for this waits by priority
abbrev pub is_ordered : PlainParts → WaitReason → Bool
is_ordered p reason = is_ordered_semaphore p.sems.semaphores reason || (is_ordered_flag p.flags.flags reason || is_ordered_queue p.dtqs.queues reason)

abbrev pub waits_in_order : PlainParts → TaskId → WaitingCall → Bool
waits_in_order p t w = is_of t.0 w && is_ordered p w.reason

-- it has a new rank, and the priority that its task has now
abbrev pub moved : PlainParts → Option (WaitingCall × List WaitingCall) → PlainParts
moved p None = p
moved p (Some found) = let pri = priority_of (block_of p.tasks found.0.task) in record {
  clock = p.clock;
  tasks = record p.tasks { next_rank = p.tasks.next_rank + 1 };
  sems = semaphores_reprioritised p.sems found.0.task pri p.tasks.next_rank;
  flags = flags_reprioritised p.flags found.0.task pri p.tasks.next_rank;
  dtqs = queues_reprioritised p.dtqs found.0.task pri p.tasks.next_rank;
  waits = found.1 ++ record found.0 { rank = p.tasks.next_rank } ∷ [];
  last_call = p.last_call;
}

abbrev pub last_in_its_queue : PlainParts → TaskId → PlainParts
last_in_its_queue p t = moved p (take_first (waits_in_order p t) p.waits)

abbrev pub moved_unless_refused : Er → PlainParts → TaskId → PlainParts
moved_unless_refused code p t = if is_negative code.0 then p else last_in_its_queue p t

abbrev pub reprioritised : PlainParts → Ctx → TaskId → TaskDone → PartsOutcome
reprioritised p ctx t done = let o = at_once p ctx done in record o { parts = moved_unless_refused done.did.code o.parts (named ctx t) }

-- ---- calls on objects

-- the objects have done their part
abbrev pub done_by_objects : PlainParts → Ctx → Synced → WaitReason → Tmo → CallNo → PartsOutcome
done_by_objects p ctx (Took code bytes) reason tmo number = answered_with p code bytes
done_by_objects p ctx MustWait reason tmo number = accepted p (caller ctx) reason tmo number
done_by_objects p ctx (Refused code) reason tmo number = answered p code

abbrev pub done_by_semaphores : PlainParts → Ctx → SemaphoresDone → WaitReason → Tmo → CallNo → PartsOutcome
done_by_semaphores p ctx done reason tmo number = done_by_objects (record p { sems = done.sems }) ctx done.synced reason tmo number

abbrev pub done_by_flags : PlainParts → Ctx → FlagsDone → WaitReason → Tmo → CallNo → PartsOutcome
done_by_flags p ctx done reason tmo number = done_by_objects (record p { flags = done.flags }) ctx done.synced reason tmo number

-- the call that was ended by another: its task is runnable, unless it is suspended
abbrev pub ended_by_other : PartsOutcome → List ℕ → Option (WaitingCall × List WaitingCall) → PartsOutcome
ended_by_other o bytes None = o
ended_by_other o bytes (Some found) = record o {
  parts = record o.parts { tasks = woken o.parts.tasks found.0.task; waits = found.1 };
  ends = o.ends ++ ending found.0 E_OK bytes ∷ [];
}

abbrev pub with_handed : PartsOutcome → Option Handed → PartsOutcome
with_handed o None = o
with_handed o (Some h) = ended_by_other (record o { parts = record o.parts { dtqs = record o.parts.dtqs { handed = None } } }) (handed_bytes h.item) (take_first (is_of h.task.0) o.parts.waits)

abbrev pub handed_over : PartsOutcome → PartsOutcome
handed_over o = with_handed o o.parts.dtqs.handed

abbrev pub done_by_queues : PlainParts → Ctx → QueuesDone → WaitReason → Tmo → CallNo → PartsOutcome
done_by_queues p ctx done reason tmo number = handed_over (done_by_objects (record p { dtqs = done.dtqs }) ctx done.synced reason tmo number)

-- ---- the calls

abbrev pub priority_in : PlainParts → Ctx → ℕ
priority_in p ctx = priority_of (block_of p.tasks (caller ctx))

-- what a call of each kind comes to
abbrev pub done_as : PlainParts → Ctx → Row → CallNo → PartsOutcome
done_as p ctx (TasksAtOnce done) number = at_once p ctx (done p.tasks)
done_as p ctx (TasksInTime done reason tmo) number = done_by_tasks p ctx (done p.tasks) reason tmo number
done_as p ctx (NewPriority task done) number = reprioritised p ctx task (done p.tasks)
done_as p ctx (OnSemaphores done reason tmo) number = done_by_semaphores p ctx (done p.sems (priority_in p ctx) p.tasks.next_rank) reason tmo number
done_as p ctx (OnFlags done reason tmo) number = done_by_flags p ctx (done p.flags (priority_in p ctx) p.tasks.next_rank) reason tmo number
done_as p ctx (OnQueues done reason tmo) number = done_by_queues p ctx (done p.dtqs (priority_in p ctx) p.tasks.next_rank) reason tmo number
done_as p ctx (OnClock after code bytes) number = answered_with (record p { clock = after p.clock }) (code p.clock) (bytes p.clock)

abbrev pub carried_out : PlainParts → Ctx → KReq → CallNo → PartsOutcome
carried_out p ctx request number = done_as p ctx (row_of ctx request) number

abbrev pub row : PlainParts → Ctx → KReq → CallNo → PartsOutcome
row p ctx request number = if is_handler ctx && not (is_a_handlers request) then answered p E_CTX else carried_out p ctx request number
