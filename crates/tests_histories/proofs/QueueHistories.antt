-- Worked histories of the calls on data queues, checked by computation.
use Rattle.std.proofs.Common.{◌≡◌, ℕ, zero, suc, true, false, List, [], ◌∷◌, Option, Some, None, refl}
use Rattle.it_types.specs.declared.id.TaskId.{TaskId}
use Rattle.it_types.specs.declared.er.Er.{Er}
use Rattle.it_types.specs.declared.er.TheConstants.{E_OK, E_PAR, E_ID, E_ILUSE, E_NOEXS}
use Rattle.it_types.specs.declared.conf.DtqDecl.{DtqDecl}
use Rattle.it_types.specs.declared.timeout.Tmo.{Tmo}
use Rattle.it_types.specs.declared.timeout.Tmo.TheVariants.{Pol, Nblk, Fevr, Ms}
use Rattle.it_types.specs.declared.synced.Synced.{Synced}
use Rattle.it_types.specs.declared.synced.Synced.TheVariants.{Took, MustWait, Refused}
use Rattle.spec_kernel.specs.PlainQueues.{PlainQueues, opened, next_ready, freed, left, reprioritised}
use Rattle.spec_kernel.specs.QueueRows.{QueuesDone, took, tsnd_dtq, fsnd_dtq, trcv_dtq}

-- ---- what happens

abbrev Step : Type 0
Step = PlainQueues → QueuesDone

abbrev the_task : ℕ → TaskId
the_task n = record { 0 = n }

-- the task, of this priority, sends the item with this rank
abbrev sends : ℕ → ℕ → Tmo → ℕ → ℕ → ℕ → Step
sends q item tmo task pri rank d = tsnd_dtq d (record { 0 = q }) item tmo (the_task task) pri rank

abbrev forces : ℕ → ℕ → Step
forces q item d = fsnd_dtq d (record { 0 = q }) item

abbrev receives : ℕ → Tmo → ℕ → ℕ → ℕ → Step
receives q tmo task pri rank d = trcv_dtq d (record { 0 = q }) tmo (the_task task) pri rank

abbrev is_given_priority : ℕ → ℕ → ℕ → Step
is_given_priority task pri rank d = took (reprioritised d (the_task task) pri rank) []

abbrev leaves : ℕ → Step
leaves task d = took (left d (the_task task)) []

-- ---- what is told of it

-- the end of a call that waited: its task, and the code and the bytes that it gets
record End : Type 0 where
  task : ℕ
  code : Er
  bytes : List ℕ

-- what the call comes to, and the ends of those that wait no longer by it, one after another
record Told : Type 0 where
  synced : Synced
  ends : List End

abbrev one_end : (PlainQueues → PlainQueues × List End) → PlainQueues → Option (TaskId × Er × List ℕ) → PlainQueues × List End
one_end go_on d None = (d, [])
one_end go_on d (Some end) = let rest = go_on (freed d) in (rest.0, record { task = end.0.0; code = end.1; bytes = end.2 } ∷ rest.1)

-- while there is one that ends, it is freed: at most as many times
abbrev all_ends : ℕ → PlainQueues → PlainQueues × List End
all_ends zero d = (d, [])
all_ends (suc n) d = one_end (all_ends n) d (next_ready d)

abbrev history : PlainQueues → List Step → List Told
history d [] = []
history d (s ∷ ss) = let o = s d in let after = all_ends 4 o.dtqs in record { synced = o.synced; ends = after.1 } ∷ history after.0 ss

-- the call is met without bytes
abbrev ok : List End → Told
ok ends = record { synced = Took E_OK []; ends = ends }

-- it is met with an item, which is below 256
abbrev got : ℕ → List End → Told
got item ends = record { synced = Took E_OK (0 ∷ 0 ∷ 0 ∷ item ∷ []); ends = ends }

abbrev waits : Told
waits = record { synced = MustWait; ends = [] }

abbrev refused : Er → Told
refused code = record { synced = Refused code; ends = [] }

abbrev has_sent : ℕ → End
has_sent task = record { task = task; code = E_OK; bytes = [] }

abbrev has_received : ℕ → ℕ → End
has_received task item = record { task = task; code = E_OK; bytes = 0 ∷ 0 ∷ 0 ∷ item ∷ [] }

-- ---- the data queues

abbrev by_arrival : ℕ → ℕ → DtqDecl
by_arrival id cap = record { id = id; pri = false; cap = cap }

abbrev by_priority : ℕ → ℕ → DtqDecl
by_priority id cap = record { id = id; pri = true; cap = cap }

abbrev queues : List DtqDecl → PlainQueues
queues dtqs = opened (record { sems = []; flags = []; dtqs = dtqs })

-- ---- items

-- the oldest item is received first, and a poll that finds none, or no room, changes nothing
oldest_first : history (queues (by_arrival 1 2 ∷ []))
    (receives 1 Pol 1 5 1 ∷ sends 1 7 Fevr 1 5 1 ∷ sends 1 8 Pol 1 5 1 ∷ sends 1 9 Pol 1 5 1 ∷ receives 1 Fevr 1 5 1 ∷ receives 1 (Ms 3) 1 5 1 ∷ receives 1 Pol 1 5 1 ∷ [])
    ≡ waits ∷ ok [] ∷ ok [] ∷ waits ∷ got 7 [] ∷ got 8 [] ∷ waits ∷ []
oldest_first = refl

-- an item has four bytes, the highest first
four_bytes_each : history (queues (by_arrival 1 1 ∷ [])) (sends 1 16909060 Fevr 1 5 1 ∷ receives 1 Fevr 1 5 1 ∷ []) ≡ ok [] ∷ record { synced = Took E_OK (1 ∷ 2 ∷ 3 ∷ 4 ∷ []); ends = [] } ∷ []
four_bytes_each = refl

-- receivers that wait get the items in the order of their ranks, whatever their priorities, also in a queue by priority
receivers_by_arrival : history (queues (by_priority 1 1 ∷ [])) (receives 1 Fevr 1 9 1 ∷ receives 1 Fevr 2 3 2 ∷ sends 1 7 Fevr 3 5 3 ∷ forces 1 8 ∷ []) ≡ waits ∷ waits ∷ ok (has_received 1 7 ∷ []) ∷ ok (has_received 2 8 ∷ []) ∷ []
receivers_by_arrival = refl

-- a sender that waits joins its item when there is room, behind the items that are there
joins_when_room : history (queues (by_arrival 1 1 ∷ [])) (sends 1 7 Fevr 1 5 1 ∷ sends 1 8 Fevr 1 5 1 ∷ receives 1 Fevr 2 5 2 ∷ receives 1 Fevr 2 5 3 ∷ receives 1 Pol 2 5 4 ∷ [])
    ≡ ok [] ∷ waits ∷ got 7 (has_sent 1 ∷ []) ∷ got 8 [] ∷ waits ∷ []
joins_when_room = refl

-- senders wait by arrival, or by priority where the queue is declared so
senders_by_arrival : history (queues (by_arrival 1 1 ∷ [])) (sends 1 7 Fevr 1 5 1 ∷ sends 1 8 Fevr 1 5 1 ∷ sends 1 9 Fevr 2 3 2 ∷ receives 1 Fevr 3 5 3 ∷ receives 1 Fevr 3 5 4 ∷ receives 1 Fevr 3 5 5 ∷ [])
    ≡ ok [] ∷ waits ∷ waits ∷ got 7 (has_sent 1 ∷ []) ∷ got 8 (has_sent 2 ∷ []) ∷ got 9 [] ∷ []
senders_by_arrival = refl

senders_by_priority : history (queues (by_priority 1 1 ∷ [])) (sends 1 7 Fevr 1 5 1 ∷ sends 1 8 Fevr 1 5 1 ∷ sends 1 9 Fevr 2 3 2 ∷ receives 1 Fevr 3 5 3 ∷ receives 1 Fevr 3 5 4 ∷ receives 1 Fevr 3 5 5 ∷ [])
    ≡ ok [] ∷ waits ∷ waits ∷ got 7 (has_sent 2 ∷ []) ∷ got 9 (has_sent 1 ∷ []) ∷ got 8 [] ∷ []
senders_by_priority = refl

-- a new priority is a new place among the senders of a queue by priority: behind those of that priority, also where it stays
-- the same
priority_changed : history (queues (by_priority 1 1 ∷ []))
    (sends 1 6 Fevr 4 5 1 ∷ sends 1 7 Fevr 1 5 2 ∷ sends 1 8 Fevr 2 5 3 ∷ is_given_priority 1 5 4 ∷ receives 1 Fevr 3 5 5 ∷ receives 1 Fevr 3 5 6 ∷ [])
    ≡ ok [] ∷ waits ∷ waits ∷ ok [] ∷ got 6 (has_sent 2 ∷ []) ∷ got 8 (has_sent 1 ∷ []) ∷ []
priority_changed = refl

-- and it changes nothing for those that wait by arrival, as receivers do
place_kept : history (queues (by_priority 1 1 ∷ [])) (receives 1 Fevr 1 5 1 ∷ receives 1 Fevr 2 5 2 ∷ is_given_priority 1 9 3 ∷ sends 1 7 Fevr 3 5 4 ∷ []) ≡ waits ∷ waits ∷ ok [] ∷ ok (has_received 1 7 ∷ []) ∷ []
place_kept = refl

-- an item is forced into a full queue, where the oldest makes room, and before those of the senders that wait
forced_with_senders : history (queues (by_arrival 1 2 ∷ []))
    (sends 1 6 Fevr 1 5 1 ∷ sends 1 7 Fevr 1 5 1 ∷ sends 1 8 Fevr 1 5 1 ∷ forces 1 9 ∷ receives 1 Fevr 2 5 2 ∷ receives 1 Fevr 2 5 3 ∷ receives 1 Fevr 2 5 4 ∷ receives 1 Pol 2 5 5 ∷ [])
    ≡ ok [] ∷ ok [] ∷ waits ∷ ok [] ∷ got 7 (has_sent 1 ∷ []) ∷ got 9 [] ∷ got 8 [] ∷ waits ∷ []
forced_with_senders = refl

-- a task that waits no longer gets and gives nothing, and each data queue has tasks of its own
another_is_first : history (queues (by_arrival 1 1 ∷ by_arrival 2 1 ∷ []))
    (receives 1 Fevr 1 5 1 ∷ receives 2 Fevr 2 5 2 ∷ receives 1 Fevr 3 5 3 ∷ leaves 1 ∷ sends 1 7 Fevr 4 5 4 ∷ sends 1 8 Fevr 4 5 5 ∷ sends 2 9 Fevr 4 5 6 ∷ [])
    ≡ waits ∷ waits ∷ waits ∷ ok [] ∷ ok (has_received 3 7 ∷ []) ∷ ok [] ∷ ok (has_received 2 9 ∷ []) ∷ []
another_is_first = refl

-- ---- without capacity

-- a sender hands its item to the first receiver that waits, whose call ends
handed_to_receiver : history (queues (by_arrival 1 0 ∷ [])) (receives 1 Fevr 1 5 1 ∷ receives 1 Fevr 2 3 2 ∷ sends 1 7 Pol 3 5 3 ∷ sends 1 8 Fevr 3 5 3 ∷ sends 1 9 Pol 3 5 3 ∷ [])
    ≡ waits ∷ waits ∷ ok (has_received 1 7 ∷ []) ∷ ok (has_received 2 8 ∷ []) ∷ waits ∷ []
handed_to_receiver = refl

-- a receiver gets the item of the first sender that waits, whose call ends
handed_by_sender : history (queues (by_priority 1 0 ∷ [])) (sends 1 7 Fevr 1 5 1 ∷ sends 1 8 Fevr 2 3 2 ∷ receives 1 Pol 3 5 3 ∷ receives 1 Fevr 3 5 3 ∷ receives 1 Pol 3 5 3 ∷ [])
    ≡ waits ∷ waits ∷ got 8 (has_sent 2 ∷ []) ∷ got 7 (has_sent 1 ∷ []) ∷ waits ∷ []
handed_by_sender = refl

-- ---- each refusal

send_refused : history (queues (by_arrival 1 1 ∷ [])) (sends 0 7 Nblk 1 5 1 ∷ sends 17 7 Pol 1 5 1 ∷ sends 16 7 Nblk 1 5 1 ∷ sends 1 7 Nblk 1 5 1 ∷ []) ≡ refused E_ID ∷ refused E_ID ∷ refused E_NOEXS ∷ refused E_PAR ∷ []
send_refused = refl

force_refused : history (queues (by_arrival 1 0 ∷ [])) (forces 0 7 ∷ forces 17 7 ∷ forces 2 7 ∷ forces 1 7 ∷ []) ≡ refused E_ID ∷ refused E_ID ∷ refused E_NOEXS ∷ refused E_ILUSE ∷ []
force_refused = refl

receive_refused : history (queues (by_arrival 1 1 ∷ [])) (receives 0 Nblk 1 5 1 ∷ receives 17 Pol 1 5 1 ∷ receives 16 Nblk 1 5 1 ∷ receives 1 Nblk 1 5 1 ∷ []) ≡ refused E_ID ∷ refused E_ID ∷ refused E_NOEXS ∷ refused E_PAR ∷ []
receive_refused = refl
