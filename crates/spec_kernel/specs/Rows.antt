-- What a kernel call comes to (µITRON4.0 chapter 4), by kind: first what its part makes of it. A call that a part leaves to wait is accepted
-- here, under a number and with its deadline.
use Rattle.std.specs.Prelude.{ℕ, ◌+◌, Bool, not, ◌&&◌, ◌==◌, List, [], ◌∷◌, ◌++◌, Option, Some, None, if◌then◌else◌}
use Rattle.std.specs.Int.{is_negative}
use Rattle.it_types.specs.declared.id.TaskId.{TaskId}
use Rattle.it_types.specs.declared.id.CallNo.{CallNo}
use Rattle.it_types.specs.declared.er.Er.{Er}
use Rattle.it_types.specs.declared.er.TheConstants.{E_OK, E_CTX, E_RLWAI, E_TMOUT}
use Rattle.it_types.specs.declared.timeout.Tmo.{Tmo}
use Rattle.it_types.specs.declared.timeout.Tmo.TheVariants as timeouts
use Rattle.it_types.specs.declared.context.Ctx.{Ctx}
use Rattle.it_types.specs.declared.synced.Synced.{Synced}
use Rattle.it_types.specs.declared.synced.Synced.TheVariants.{Took, MustWait, Refused}
use Rattle.it_types.specs.declared.kernel_request.KReq.{KReq}
use Rattle.it_types.specs.Callers.{nobody, is_handler, caller, is_poll}
use Rattle.spec_lists.specs.Tables.{get}
use Rattle.spec_lists.specs.First.{take_first}
use Rattle.spec_kernel.specs.declared.did.Did.{Did}
use Rattle.spec_kernel.specs.declared.handed.Handed.{Handed}
use Rattle.spec_kernel.specs.declared.outcome.KAns.{KAns}
use Rattle.spec_kernel.specs.declared.outcome.KAns.TheVariants.{Now, Pends, Quiet}
use Rattle.spec_kernel.specs.declared.outcome.KEnd.{KEnd}
use Rattle.spec_kernel.specs.declared.reason.WaitReason.{WaitReason}
use Rattle.spec_kernel.specs.declared.reason.WaitingCall.{WaitingCall}
use Rattle.spec_kernel.specs.AnswerBytes.{four_bytes}
use Rattle.spec_kernel.specs.TaskBlocks.{priority_of}
use Rattle.spec_kernel.specs.PlainTasks.{PlainTasks, is_waiting}
use Rattle.spec_kernel.specs.PlainTasks.{waiting as waiting_task}
use Rattle.spec_kernel.specs.TaskRows.{TaskDone, named}
use Rattle.spec_kernel.specs.Waiting.{is_by_priority}
use Rattle.spec_kernel.specs.SemaphoreRows.{SemaphoresDone}
use Rattle.spec_kernel.specs.FlagRows.{FlagsDone}
use Rattle.spec_kernel.specs.PlainQueues.{handed_bytes}
use Rattle.spec_kernel.specs.QueueRows.{QueuesDone}
use Rattle.spec_kernel.specs.PlainClock.{ticked_clock}
use Rattle.spec_kernel.specs.Calls.{Row, is_a_handlers, row_of}
use Rattle.spec_kernel.specs.Calls.Row.{TasksAtOnce, TasksInTime, NewPriority, OnSemaphores, OnFlags, OnQueues, OnClock}
use Rattle.spec_kernel.specs.PlainKernel.{PlainKernel, is_of, task_wait, tasks_of, with_tasks, semaphores_of, flags_of, queues_of, with_objects}
use Rattle.spec_kernel.specs.Settle.{Outcome, ending, ended, settled}

-- ---- answers

abbrev pub answered_with : PlainKernel → Er → List ℕ → Outcome
answered_with k code bytes = record { kernel = k; answer = Now code bytes; ends = []; gone = nobody; begun = nobody }

-- the call is answered at once, and no task ends or begins
abbrev pub answered : PlainKernel → Er → Outcome
answered k code = answered_with k code []

-- the tick at which a call with this time-out ends, accepted at the tick now (µITRON4.0 section 2.1, time-outs and relative time): t
-- ticks are over at the tick after the t-th
abbrev pub deadline_of : ℕ → Tmo → Option ℕ
deadline_of now (timeouts.Ms ticks) = Some (now + ticks + 1)
deadline_of now _ = None

-- ---- waiting

-- the caller waits under this number, the last in rank
abbrev pub waiting_call : PlainKernel → TaskId → WaitReason → Tmo → CallNo → WaitingCall
waiting_call k task reason tmo number = record { call = number; task = task; reason = reason; deadline = deadline_of k.clock.now tmo; rank = k.next_rank }

abbrev pub with_wait : PlainKernel → TaskId → WaitReason → Tmo → CallNo → PlainKernel
with_wait k task reason tmo number = record (with_tasks k (waiting_task (tasks_of k) task (task_wait reason))) {
  last_call = number.0;
  waits = k.waits ++ waiting_call k task reason tmo number ∷ [];
  next_rank = k.next_rank + 1;
}

abbrev pub waiting : PlainKernel → TaskId → WaitReason → Tmo → CallNo → Outcome
waiting k task reason tmo number = record { kernel = with_wait k task reason tmo number; answer = Pends; ends = []; gone = nobody; begun = nobody }

-- a call that isn't met at once: a poll is over, any other waits
abbrev pub accepted : PlainKernel → TaskId → WaitReason → Tmo → CallNo → Outcome
accepted k task reason tmo number = if is_poll tmo then answered k E_TMOUT else waiting k task reason tmo number

-- ---- calls on tasks

abbrev pub or_nobody : Option TaskId → TaskId
or_nobody None = nobody
or_nobody (Some t) = t

abbrev pub word_bytes : Option ℕ → List ℕ
word_bytes None = []
word_bytes (Some n) = four_bytes n

-- the caller that has ended is answered nothing
abbrev pub answer_of : Ctx → Did → KAns
answer_of ctx did = of did.gone
  where
    of : Option TaskId → KAns
    of None = Now did.code (word_bytes did.value)
    of (Some t) = if t.0 == (caller ctx).0 then Quiet else Now did.code (word_bytes did.value)

-- the call of a task which ends by the row itself: the task waits no longer
abbrev pub ended_call : List WaitingCall → PlainTasks → Option TaskId → Option (WaitingCall × List WaitingCall)
ended_call waits after None = None
ended_call waits after (Some t) = if is_waiting after t then None else take_first (is_of t.0) waits

abbrev pub released_end : Option (WaitingCall × List WaitingCall) → List KEnd
released_end None = []
released_end (Some found) = ending found.0 E_RLWAI [] ∷ []

abbrev pub the_others : List WaitingCall → Option (WaitingCall × List WaitingCall) → List WaitingCall
the_others waits None = waits
the_others waits (Some found) = found.1

-- the row of a call that doesn't wait
abbrev pub done_at_once : PlainKernel → Ctx → TaskDone → Outcome
done_at_once k ctx done = let call = ended_call k.waits done.tasks done.did.freed in record {
  kernel = record (with_tasks k done.tasks) { waits = the_others k.waits call };
  answer = answer_of ctx done.did;
  ends = released_end call;
  gone = or_nobody done.did.gone;
  begun = or_nobody done.did.begun;
}

-- and of one that may
abbrev pub done_by_tasks : PlainKernel → Ctx → TaskDone → WaitReason → Tmo → CallNo → Outcome
done_by_tasks k ctx done reason tmo number = if done.did.wait then accepted k (caller ctx) reason tmo number else done_at_once k ctx done

-- a task with a new priority, whose call waits by priority, is the last there
abbrev pub waits_by_priority : PlainKernel → TaskId → WaitingCall → Bool
waits_by_priority k t w = is_of t.0 w && is_by_priority k.objects w.reason

abbrev pub moved : PlainKernel → Option (WaitingCall × List WaitingCall) → PlainKernel
moved k None = k
moved k (Some found) = record k { waits = found.1 ++ record found.0 { rank = k.next_rank } ∷ []; next_rank = k.next_rank + 1 }

abbrev pub last_in_its_queue : PlainKernel → TaskId → PlainKernel
last_in_its_queue k t = moved k (take_first (waits_by_priority k t) k.waits)

-- a refused call moves nothing
abbrev pub moved_unless_refused : Er → PlainKernel → TaskId → PlainKernel
moved_unless_refused code k t = if is_negative code.0 then k else last_in_its_queue k t

abbrev pub reprioritised : PlainKernel → Ctx → TaskId → TaskDone → Outcome
reprioritised k ctx t done = let o = done_at_once k ctx done in record o { kernel = moved_unless_refused done.did.code o.kernel (named ctx t) }

-- ---- calls on objects

-- the kernel with what a part has left, where it didn't have to wait
abbrev pub done_by_objects : PlainKernel → PlainKernel → Ctx → Synced → WaitReason → Tmo → CallNo → Outcome
done_by_objects k after ctx (Took code bytes) reason tmo number = answered_with after code bytes
done_by_objects k after ctx MustWait reason tmo number = accepted k (caller ctx) reason tmo number
done_by_objects k after ctx (Refused code) reason tmo number = answered k code

abbrev pub done_by_semaphores : PlainKernel → Ctx → SemaphoresDone → WaitReason → Tmo → CallNo → Outcome
done_by_semaphores k ctx done reason tmo number = done_by_objects k (with_objects k (record k.objects { semaphores = done.sems.semaphores })) ctx done.synced reason tmo number

abbrev pub done_by_flags : PlainKernel → Ctx → FlagsDone → WaitReason → Tmo → CallNo → Outcome
done_by_flags k ctx done reason tmo number = done_by_objects k (with_objects k (record k.objects { flags = done.flags.flags })) ctx done.synced reason tmo number

-- a call on a queue without capacity has ended that of another task, which comes first
abbrev pub handed_to : Outcome → List ℕ → Option (WaitingCall × List WaitingCall) → Outcome
handed_to o bytes None = o
handed_to o bytes (Some found) = record o { kernel = ended o.kernel found.0 found.1; ends = o.ends ++ ending found.0 E_OK bytes ∷ [] }

abbrev pub with_handed : Outcome → Option Handed → Outcome
with_handed o None = o
with_handed o (Some h) = handed_to o (handed_bytes h.item) (take_first (is_of h.task.0) o.kernel.waits)

abbrev pub done_by_queues : PlainKernel → Ctx → QueuesDone → WaitReason → Tmo → CallNo → Outcome
done_by_queues k ctx done reason tmo number =
    with_handed (done_by_objects k (with_objects k (record k.objects { queues = done.dtqs.queues })) ctx done.synced reason tmo number) done.dtqs.handed

-- ---- the calls

-- the priority of a caller that may wait
abbrev pub priority_in : PlainKernel → Ctx → ℕ
priority_in k ctx = priority_of (get k.tasks (caller ctx).0)

-- what a call of each kind comes to
abbrev pub done_as : PlainKernel → Ctx → Row → CallNo → Outcome
done_as k ctx (TasksAtOnce done) number = done_at_once k ctx (done (tasks_of k))
done_as k ctx (TasksInTime done reason tmo) number = done_by_tasks k ctx (done (tasks_of k)) reason tmo number
done_as k ctx (NewPriority task done) number = reprioritised k ctx task (done (tasks_of k))
done_as k ctx (OnSemaphores done reason tmo) number = done_by_semaphores k ctx (done (semaphores_of k) (priority_in k ctx) k.next_rank) reason tmo number
done_as k ctx (OnFlags done reason tmo) number = done_by_flags k ctx (done (flags_of k) (priority_in k ctx) k.next_rank) reason tmo number
done_as k ctx (OnQueues done reason tmo) number = done_by_queues k ctx (done (queues_of k) (priority_in k ctx) k.next_rank) reason tmo number
done_as k ctx (OnClock after code bytes) number = answered_with (record k { clock = after k.clock }) (code k.clock) (bytes k.clock)

-- what each call comes to, where it may be made
abbrev pub carried_out : PlainKernel → Ctx → KReq → CallNo → Outcome
carried_out k ctx request number = done_as k ctx (row_of ctx request) number

-- the row of a request
abbrev pub row : PlainKernel → Ctx → KReq → CallNo → Outcome
row k ctx request number = if is_handler ctx && not (is_a_handlers request) then answered k E_CTX else carried_out k ctx request number

-- a call of the kernel: its row, and the ends of all calls that are met then
unfoldable pub call : PlainKernel → Ctx → KReq → CallNo → Outcome
call k ctx request number = settled (row k ctx request number)

-- ---- ticks

-- an event that is answered nothing, and after which no task ends or begins
abbrev pub quiet : PlainKernel → Outcome
quiet k = record { kernel = k; answer = Quiet; ends = []; gone = nobody; begun = nobody }

-- a tick of the kernel's clock
abbrev pub ticked : PlainKernel → PlainKernel
ticked k = record k { clock = ticked_clock k.clock }

-- its row, and the ends of all calls that are met then
unfoldable pub tick : PlainKernel → Outcome
tick k = settled (quiet (ticked k))
