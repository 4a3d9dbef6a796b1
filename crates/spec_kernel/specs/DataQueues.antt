-- One data queue, and its changes (µITRON4.0 section 4.4.3).
use Rattle.std.specs.Prelude.{ℕ, Bool, false, List, [], ◌∷◌, ◌++◌, length, Option, Some, None, nat_le, nat_lt, ◌==◌, if◌then◌else◌}
use Rattle.it_types.specs.declared.conf.DtqDecl.{DtqDecl}
use Rattle.spec_kernel.specs.AnswerBytes.{four_bytes}

pub record DataQueue : Type 0 where
  pub by_priority : Bool  -- whether its senders wait by priority
  pub capacity : ℕ  -- how many items it holds at most
  pub items : List ℕ  -- from the oldest on

abbrev pub queue_id : DtqDecl → ℕ
queue_id d = d.id

-- at the start it is empty
abbrev pub queue_declared : DtqDecl → DataQueue
queue_declared d = record { by_priority = d.pri; capacity = d.cap; items = [] }

-- it holds at most 1,024 items
abbrev pub keeps_capacity : DtqDecl → Bool
keeps_capacity d = nat_le d.cap 1024

abbrev pub items_of : Option DataQueue → List ℕ
items_of None = []
items_of (Some q) = q.items

abbrev pub capacity_of : Option DataQueue → ℕ
capacity_of None = 0
capacity_of (Some q) = q.capacity

-- its senders wait by priority; its receivers always by arrival
abbrev pub sends_by_priority : Option DataQueue → Bool
sends_by_priority None = false
sends_by_priority (Some q) = q.by_priority

-- without capacity it hands over from a sender to a receiver
abbrev pub hands_over : Option DataQueue → Bool
hands_over q = capacity_of q == 0

abbrev pub has_room : Option DataQueue → Bool
has_room q = nat_lt (length (items_of q)) (capacity_of q)

abbrev pub has_item : Option DataQueue → Bool
has_item q = nat_lt 0 (length (items_of q))

abbrev pub oldest : List ℕ → ℕ
oldest [] = 0
oldest (item ∷ items) = item

abbrev pub without_oldest : List ℕ → List ℕ
without_oldest [] = []
without_oldest (item ∷ items) = items

-- the bytes of its oldest item
abbrev pub oldest_bytes : Option DataQueue → List ℕ
oldest_bytes q = four_bytes (oldest (items_of q))

abbrev pub with_item : ℕ → Option DataQueue → Option DataQueue
with_item item None = None
with_item item (Some q) = Some (record q { items = q.items ++ item ∷ [] })

-- where it is full the oldest item makes room
abbrev pub with_forced_item : ℕ → Option DataQueue → Option DataQueue
with_forced_item item None = None
with_forced_item item (Some q) = Some (record q { items = (if nat_lt (length q.items) q.capacity then q.items else without_oldest q.items) ++ item ∷ [] })

abbrev pub item_taken : Option DataQueue → Option DataQueue
item_taken None = None
item_taken (Some q) = Some (record q { items = without_oldest q.items })
