-- What a task waits for at the objects of a kernel (µITRON4.0 section 4.4): what it is met by, what it is told then, and what it
-- takes. The table is the same for a call that is met at once and for one that has waited.
use Rattle.std.specs.Prelude.{ℕ, Bool, false, List, [], Option}
use Rattle.spec_lists.specs.Tables.{get, change}
use Rattle.spec_kernel.specs.declared.semaphore_block.SemaphoreBlock.{SemaphoreBlock}
use Rattle.spec_kernel.specs.declared.flag_block.FlagBlock.{FlagBlock}
use Rattle.spec_kernel.specs.declared.reason.WaitReason.{WaitReason}
use Rattle.spec_kernel.specs.declared.reason.WaitReason.TheVariants as reasons
use Rattle.spec_kernel.specs.SemaphoreBlocks.{has_count, one_less}
use Rattle.spec_kernel.specs.SemaphoreBlocks.{is_ordered as semaphore_by_priority}
use Rattle.spec_kernel.specs.FlagBlocks.{pattern_of, holds, pattern_bytes, released}
use Rattle.spec_kernel.specs.FlagBlocks.{is_ordered as flag_by_priority}
use Rattle.spec_kernel.specs.DataQueues.{DataQueue, sends_by_priority, has_room, has_item, oldest_bytes, with_item, item_taken}

-- the objects of a kernel, each kind by id
pub record PlainObjects : Type 0 where
  pub semaphores : List (Option SemaphoreBlock)
  pub flags : List (Option FlagBlock)
  pub queues : List (Option DataQueue)

-- what the task waits for is there. A sender of a queue without capacity ends only with a receiver, by the receiver's call, and
-- a receiver by the sender's
abbrev pub is_met : PlainObjects → WaitReason → Bool
is_met o (reasons.Semaphore s) = has_count (get o.semaphores s.0)
is_met o (reasons.Flag w) = holds (pattern_of (get o.flags w.flag.0)) w
is_met o (reasons.Send q item) = has_room (get o.queues q.0)
is_met o (reasons.Receive q) = has_item (get o.queues q.0)
is_met o reasons.Sleep = false
is_met o reasons.Delay = false
is_met o reasons.Outside = false

-- the bytes that it is told with the code of its end
abbrev pub bytes_of : PlainObjects → WaitReason → List ℕ
bytes_of o (reasons.Flag w) = pattern_bytes (get o.flags w.flag.0)
bytes_of o (reasons.Receive q) = oldest_bytes (get o.queues q.0)
bytes_of o _ = []

abbrev pub semaphores_after : WaitReason → List (Option SemaphoreBlock) → List (Option SemaphoreBlock)
semaphores_after (reasons.Semaphore s) semaphores = change semaphores s.0 one_less
semaphores_after _ semaphores = semaphores

abbrev pub flags_after : WaitReason → List (Option FlagBlock) → List (Option FlagBlock)
flags_after (reasons.Flag w) flags = change flags w.flag.0 released
flags_after _ flags = flags

abbrev pub queues_after : WaitReason → List (Option DataQueue) → List (Option DataQueue)
queues_after (reasons.Send q item) queues = change queues q.0 (with_item item)
queues_after (reasons.Receive q) queues = change queues q.0 item_taken
queues_after _ queues = queues

-- the objects after it has what it waited for
abbrev pub taken : PlainObjects → WaitReason → PlainObjects
taken o reason = record {
  semaphores = semaphores_after reason o.semaphores;
  flags = flags_after reason o.flags;
  queues = queues_after reason o.queues;
}

-- its queue is by priority; receivers always wait by arrival
abbrev pub is_by_priority : PlainObjects → WaitReason → Bool
is_by_priority o (reasons.Semaphore s) = semaphore_by_priority (get o.semaphores s.0)
is_by_priority o (reasons.Flag w) = flag_by_priority (get o.flags w.flag.0)
is_by_priority o (reasons.Send q item) = sends_by_priority (get o.queues q.0)
is_by_priority o _ = false
