-- Tasks that wait at the objects of one kind, in the order of their ranks, and which of them comes first (µITRON4.0 section 4.4:
-- where an object is declared so its tasks wait by priority, and else by arrival).
use Rattle.std.specs.Prelude.{ℕ, Bool, false, not, ◌&&◌, ◌==◌, List, [], ◌∷◌, ◌++◌, Option, Some, None, nat_lt, if◌then◌else◌}
use Rattle.std.specs.List.{list_any}
use Rattle.it_types.specs.declared.id.TaskId.{TaskId}
use Rattle.it_types.specs.declared.timeout.Tmo.{Tmo}
use Rattle.it_types.specs.Callers.{is_poll}
use Rattle.spec_lists.specs.First.{take_first, take_least}
use Rattle.spec_kernel.specs.declared.reason.WaitReason.{WaitReason}
use Rattle.spec_kernel.specs.declared.reason.WaitReason.TheVariants as reasons
use Rattle.spec_kernel.specs.declared.waiter.Waiter.{Waiter}

-- ---- the queues

-- two calls that wait so wait in one queue
abbrev pub is_same_queue : WaitReason → WaitReason → Bool
is_same_queue (reasons.Semaphore a) (reasons.Semaphore b) = a.0 == b.0
is_same_queue (reasons.Flag a) (reasons.Flag b) = a.flag.0 == b.flag.0
is_same_queue (reasons.Send a x) (reasons.Send b y) = a.0 == b.0
is_same_queue (reasons.Receive a) (reasons.Receive b) = a.0 == b.0
is_same_queue _ _ = false

-- it waits in the queue of a call with this reason
abbrev pub is_in : WaitReason → Waiter → Bool
is_in reason w = is_same_queue w.reason reason

abbrev pub urgency : Waiter → ℕ
urgency w = w.urgency

-- the first of a queue, and the others
abbrev pub first_in : WaitReason → List Waiter → Option (Waiter × List Waiter)
first_in reason ws = take_least (is_in reason) urgency ws

-- ---- one task

abbrev pub is_task : TaskId → Waiter → Bool
is_task task w = w.task.0 == task.0

abbrev pub the_others : List Waiter → Option (Waiter × List Waiter) → List Waiter
the_others ws None = ws
the_others ws (Some found) = found.1

-- without the task
abbrev pub left_by : TaskId → List Waiter → List Waiter
left_by task ws = the_others ws (take_first (is_task task) ws)

-- a call that isn't met: its task joins the queue, the last in rank, but for a poll
abbrev pub joined_by : Waiter → Tmo → List Waiter → List Waiter
joined_by w tmo ws = if is_poll tmo then ws else ws ++ w ∷ []

-- ---- who is freed next

-- it is met, and in its queue none is that is more urgent
abbrev pub comes_next : (WaitReason → Bool) → List Waiter → Waiter → Bool
comes_next is_met ws w = is_met w.reason && not (list_any (λ v. (is_met v.reason && is_in w.reason v) && nat_lt v.urgency w.urgency) ws)

-- of the tasks that come next in their queues the first in rank, and the others
abbrev pub next_waiter : (WaitReason → Bool) → List Waiter → Option (Waiter × List Waiter)
next_waiter is_met ws = take_first (comes_next is_met ws) ws

-- ---- a new priority

-- a task in a queue by priority has a new place there, the last in rank; one that waits by arrival keeps its own
abbrev pub moved : (WaitReason → Bool) → List Waiter → ℕ → ℕ → Option (Waiter × List Waiter) → List Waiter
moved is_by_priority ws pri rank None = ws
moved is_by_priority ws pri rank (Some found) = if is_by_priority found.0.reason then found.1 ++ record found.0 { urgency = pri; rank = rank } ∷ [] else ws

abbrev pub reprioritised : (WaitReason → Bool) → TaskId → ℕ → ℕ → List Waiter → List Waiter
reprioritised is_by_priority task pri rank ws = moved is_by_priority ws pri rank (take_first (is_task task) ws)
