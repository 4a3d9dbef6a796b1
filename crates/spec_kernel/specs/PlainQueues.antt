-- The data queues of a kernel and the tasks that wait at them, as plain lists (µITRON4.0 section 4.4.3).
use Rattle.std.specs.Prelude.{◌≡◌, ℕ, Bool, true, false, List, [], Option, Some, None}
use Rattle.std.specs.List.{list_all, list_any}
use Rattle.it_types.specs.declared.id.TaskId.{TaskId}
use Rattle.it_types.specs.declared.er.Er.{Er}
use Rattle.it_types.specs.declared.er.TheConstants.{E_OK}
use Rattle.it_types.specs.declared.conf.DtqDecl.{DtqDecl}
use Rattle.it_types.specs.declared.conf.SyncConf.{SyncConf}
use Rattle.spec_lists.specs.Tables.{get, empty_table, filled}
use Rattle.spec_kernel.specs.declared.handed.Handed.{Handed}
use Rattle.spec_kernel.specs.declared.reason.WaitReason.{WaitReason}
use Rattle.spec_kernel.specs.declared.reason.WaitReason.TheVariants as reasons
use Rattle.spec_kernel.specs.declared.waiter.Waiter.{Waiter}
use Rattle.spec_kernel.specs.Ids.{greatest_id}
use Rattle.spec_kernel.specs.AnswerBytes.{four_bytes}
use Rattle.spec_kernel.specs.Waiters.{left_by, next_waiter}
use Rattle.spec_kernel.specs.Waiters.{reprioritised as reprioritised_in}
use Rattle.spec_kernel.specs.Ids.{are_new_ids}
use Rattle.spec_kernel.specs.ObjectRows.{told}
use Rattle.spec_kernel.specs.Waiting.{queues_after}
use Rattle.spec_kernel.specs.DataQueues.{DataQueue, queue_id, queue_declared, sends_by_priority, has_room, has_item, oldest_bytes, keeps_capacity}

pub record PlainQueues : Type 0 where
  pub queues : List (Option DataQueue)  -- by id
  pub waiters : List Waiter  -- in the order of their ranks
  pub handed : Option Handed  -- the task whose call the last one on a queue without capacity has ended, until it is freed

-- what can be declared: each id once and in its range, and all numbers in theirs
pub record AreDeclarable (dtqs : List DtqDecl) : Type 0 where
  pub ids : are_new_ids queue_id queue_declared (empty_table greatest_id) dtqs ≡ true
  pub ranges : list_all keeps_capacity dtqs ≡ true

-- at the start nobody waits
abbrev pub opened : SyncConf → PlainQueues
opened conf = record { queues = filled queue_id queue_declared conf.dtqs (empty_table greatest_id); waiters = []; handed = None }

-- ---- what a task waits for

-- a sender waits for room, a receiver for an item
abbrev pub is_met : List (Option DataQueue) → WaitReason → Bool
is_met queues (reasons.Send q item) = has_room (get queues q.0)
is_met queues (reasons.Receive q) = has_item (get queues q.0)
is_met queues _ = false

-- receivers always wait by arrival
abbrev pub is_by_priority : List (Option DataQueue) → WaitReason → Bool
is_by_priority queues (reasons.Send q item) = sends_by_priority (get queues q.0)
is_by_priority queues _ = false

-- a receiver that is met gets the oldest item
abbrev pub bytes_of : List (Option DataQueue) → WaitReason → List ℕ
bytes_of queues (reasons.Receive q) = oldest_bytes (get queues q.0)
bytes_of queues _ = []

-- ---- whose wait ends next

abbrev pub next_freed : PlainQueues → Option (Waiter × List Waiter)
next_freed d = next_waiter (is_met d.queues) d.waiters

-- a receiver gets the item that was handed to it, a sender nothing
abbrev pub handed_bytes : Option ℕ → List ℕ
handed_bytes None = []
handed_bytes (Some item) = four_bytes item

abbrev pub handed_task : Option Handed → Option TaskId
handed_task None = None
handed_task (Some h) = Some h.task

abbrev pub next_ready_after : PlainQueues → Option Handed → Option (TaskId × Er × List ℕ)
next_ready_after d None = told (bytes_of d.queues) (next_freed d)
next_ready_after d (Some h) = Some (h.task, E_OK, handed_bytes h.item)

-- first of all that of the call that was ended by another
abbrev pub next_ready : PlainQueues → Option (TaskId × Er × List ℕ)
next_ready d = next_ready_after d d.handed

-- no call has ended by another, and nobody is met who waits
abbrev pub IsAtRest : PlainQueues → Type 0
IsAtRest d = (d.handed ≡ None) × (list_any (λ w. is_met d.queues w.reason) d.waiters ≡ false)

abbrev pub without : PlainQueues → Option (Waiter × List Waiter) → PlainQueues
without d None = d
without d (Some found) = record d { queues = queues_after found.0.reason d.queues; waiters = found.1 }

abbrev pub freed_after : PlainQueues → Option Handed → PlainQueues
freed_after d None = without d (next_freed d)
freed_after d (Some h) = record d { handed = None }

-- the state after the end of that wait
abbrev pub freed : PlainQueues → PlainQueues
freed d = freed_after d d.handed

-- ---- one task

-- the task waits no longer, and nothing else changes
abbrev pub left : PlainQueues → TaskId → PlainQueues
left d task = record d { waiters = left_by task d.waiters }

abbrev pub reprioritised : PlainQueues → TaskId → ℕ → ℕ → PlainQueues
reprioritised d task pri rank = record d { waiters = reprioritised_in (is_by_priority d.queues) task pri rank d.waiters }
