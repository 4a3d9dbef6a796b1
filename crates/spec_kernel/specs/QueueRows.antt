-- The calls on data queues (µITRON4.0 section 4.4.3), but for the test of the context in which each is made: the first refusal
-- that holds, or what is taken or given at once, or that the task must wait.
use Rattle.std.specs.Prelude.{ℕ, Bool, not, ◌&&◌, List, [], ◌∷◌, Option, Some, None, if◌then◌else◌}
use Rattle.std.specs.List.{list_any}
use Rattle.it_types.specs.declared.id.TaskId.{TaskId}
use Rattle.it_types.specs.declared.id.ObjId.{ObjId}
use Rattle.it_types.specs.declared.er.Er.{Er}
use Rattle.it_types.specs.declared.er.TheConstants.{E_OK, E_PAR, E_ILUSE}
use Rattle.it_types.specs.declared.timeout.Tmo.{Tmo}
use Rattle.it_types.specs.declared.synced.Synced.{Synced}
use Rattle.it_types.specs.declared.synced.Synced.TheVariants.{Took, MustWait, Refused}
use Rattle.it_types.specs.Callers.{is_nblk}
use Rattle.spec_lists.specs.Tables.{get, change}
use Rattle.spec_lists.specs.Refusal.{first_refusal}
use Rattle.spec_kernel.specs.declared.reason.WaitReason.{WaitReason}
use Rattle.spec_kernel.specs.declared.reason.WaitReason.TheVariants as reasons
use Rattle.spec_kernel.specs.declared.waiter.Waiter.{Waiter}
use Rattle.spec_kernel.specs.Waiters.{is_in, first_in, joined_by}
use Rattle.spec_kernel.specs.AnswerBytes.{four_bytes}
use Rattle.spec_kernel.specs.ObjectRows.{at_object, urgency_in}
use Rattle.spec_kernel.specs.Waiting.{queues_after}
use Rattle.spec_kernel.specs.DataQueues.{hands_over, with_forced_item}
use Rattle.spec_kernel.specs.PlainQueues.{PlainQueues, is_met, is_by_priority, bytes_of}

-- what a call comes to, and the data queues after it
pub record QueuesDone : Type 0 where
  pub dtqs : PlainQueues
  pub synced : Synced

abbrev pub took : PlainQueues → List ℕ → QueuesDone
took d bytes = record { dtqs = d; synced = Took E_OK bytes }

abbrev pub unless_refused : Option Er → PlainQueues → QueuesDone → QueuesDone
unless_refused (Some code) d done = record { dtqs = d; synced = Refused code }
unless_refused None d done = done

-- a call with these refusals, which comes to this where none holds
abbrev pub refused_or : List (Bool × Er) → PlainQueues → QueuesDone → QueuesDone
refused_or tests d done = unless_refused (first_refusal tests) d done

-- ---- waiting, and the other side

abbrev pub met : PlainQueues → WaitReason → QueuesDone
met d reason = took (record d { queues = queues_after reason d.queues }) (bytes_of d.queues reason)

abbrev pub waiter_for : PlainQueues → WaitReason → TaskId → ℕ → ℕ → Waiter
waiter_for d reason task pri rank = record { task = task; reason = reason; urgency = urgency_in (is_by_priority d.queues reason) pri; rank = rank }

-- the task joins the queue, but for a poll
abbrev pub waiting : PlainQueues → Waiter → Tmo → QueuesDone
waiting d w tmo = record { dtqs = record d { waiters = joined_by w tmo d.waiters }; synced = MustWait }

-- the first task that waits so, where the queue hands over, and the others
abbrev pub other_side : PlainQueues → ObjId → WaitReason → Option (Waiter × List Waiter)
other_side d q reason = if hands_over (get d.queues q.0) then first_in reason d.waiters else None

-- the call of this task ends by this one, with the item if it receives
abbrev pub handing : PlainQueues → Waiter × List Waiter → Option ℕ → PlainQueues
handing d found item = record d { waiters = found.1; handed = Some (record { task = found.0.task; item = item }) }

-- ---- an item is sent: to the first receiver where the queue hands over, else where there is room and no sender waits already

abbrev pub tsnd_dtq_refusals : PlainQueues → ObjId → Tmo → List (Bool × Er)
tsnd_dtq_refusals d q tmo = at_object d.queues q ((is_nblk tmo, E_PAR) ∷ [])

abbrev pub sends_at_once : PlainQueues → WaitReason → Bool
sends_at_once d reason = is_met d.queues reason && not (list_any (is_in reason) d.waiters)

abbrev pub sent_to : PlainQueues → ObjId → ℕ → Tmo → TaskId → ℕ → ℕ → Option (Waiter × List Waiter) → QueuesDone
sent_to d q item tmo task pri rank None =
    if sends_at_once d (reasons.Send q item) then met d (reasons.Send q item) else waiting d (waiter_for d (reasons.Send q item) task pri rank) tmo
sent_to d q item tmo task pri rank (Some receiver) = took (handing d receiver (Some item)) []

abbrev pub tsnd_dtq : PlainQueues → ObjId → ℕ → Tmo → TaskId → ℕ → ℕ → QueuesDone
tsnd_dtq d q item tmo task pri rank = refused_or (tsnd_dtq_refusals d q tmo) d (sent_to d q item tmo task pri rank (other_side d q (reasons.Receive q)))

-- ---- an item is sent though senders wait; where the queue is full its oldest makes room

abbrev pub fsnd_dtq_refusals : PlainQueues → ObjId → List (Bool × Er)
fsnd_dtq_refusals d q = at_object d.queues q ((hands_over (get d.queues q.0), E_ILUSE) ∷ [])

abbrev pub forced : PlainQueues → ObjId → ℕ → QueuesDone
forced d q item = took (record d { queues = change d.queues q.0 (with_forced_item item) }) []

abbrev pub fsnd_dtq : PlainQueues → ObjId → ℕ → QueuesDone
fsnd_dtq d q item = refused_or (fsnd_dtq_refusals d q) d (forced d q item)

-- ---- an item is received: of the first sender where the queue hands over, else the oldest

abbrev pub trcv_dtq_refusals : PlainQueues → ObjId → Tmo → List (Bool × Er)
trcv_dtq_refusals d q tmo = at_object d.queues q ((is_nblk tmo, E_PAR) ∷ [])

-- the item that a sender waits with
abbrev pub item_sent : WaitReason → ℕ
item_sent (reasons.Send q item) = item
item_sent _ = 0

abbrev pub received_from : PlainQueues → ObjId → Tmo → TaskId → ℕ → ℕ → Option (Waiter × List Waiter) → QueuesDone
received_from d q tmo task pri rank None =
    if is_met d.queues (reasons.Receive q) then met d (reasons.Receive q) else waiting d (waiter_for d (reasons.Receive q) task pri rank) tmo
received_from d q tmo task pri rank (Some sender) = took (handing d sender None) (four_bytes (item_sent sender.0.reason))

abbrev pub trcv_dtq : PlainQueues → ObjId → Tmo → TaskId → ℕ → ℕ → QueuesDone
trcv_dtq d q tmo task pri rank = refused_or (trcv_dtq_refusals d q tmo) d (received_from d q tmo task pri rank (other_side d q (reasons.Send q 0)))
