-- What the kernel keeps of one semaphore, and its changes (µITRON4.0 section 4.4.1).
use Rattle.std.specs.Prelude.{ℕ, ◌+◌, ◌-◌, Bool, ◌&&◌, true, false, Option, Some, None, nat_le, nat_lt}
use Rattle.it_types.specs.declared.conf.SemDecl.{SemDecl}
use Rattle.spec_kernel.specs.declared.semaphore_block.SemaphoreBlock.{SemaphoreBlock}

abbrev pub count_of : Option SemaphoreBlock → ℕ
count_of None = 0
count_of (Some s) = s.count

-- its count is the maximum
abbrev pub is_full : Option SemaphoreBlock → Bool
is_full None = true
is_full (Some s) = nat_le s.max s.count

-- its tasks wait by priority
abbrev pub is_ordered : Option SemaphoreBlock → Bool
is_ordered None = false
is_ordered (Some s) = s.by_priority

-- what a task that asks for it is met by
abbrev pub has_count : Option SemaphoreBlock → Bool
has_count s = nat_lt 0 (count_of s)

abbrev pub one_more : Option SemaphoreBlock → Option SemaphoreBlock
one_more None = None
one_more (Some s) = Some (record s { count = s.count + 1 })

-- what a task that is met takes
abbrev pub one_less : Option SemaphoreBlock → Option SemaphoreBlock
one_less None = None
one_less (Some s) = Some (record s { count = s.count - 1 })

-- ---- declarations

abbrev pub semaphore_id : SemDecl → ℕ
semaphore_id d = d.id

abbrev pub semaphore_declared : SemDecl → SemaphoreBlock
semaphore_declared d = record { by_priority = d.pri; count = d.init; max = d.max }

-- the ranges of a declaration
abbrev pub keeps_ranges : SemDecl → Bool
keeps_ranges d = nat_le d.init d.max && (nat_le 1 d.max && nat_le d.max 65535)
