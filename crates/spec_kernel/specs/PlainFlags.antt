-- The event flags of a kernel and the tasks that wait at them, as plain lists (µITRON4.0 section 4.4.2).
use Rattle.std.specs.Prelude.{◌≡◌, ℕ, Bool, true, false, List, [], Option, Some, None}
use Rattle.it_types.specs.declared.id.TaskId.{TaskId}
use Rattle.it_types.specs.declared.er.Er.{Er}
use Rattle.it_types.specs.declared.conf.FlgDecl.{FlgDecl}
use Rattle.it_types.specs.declared.conf.SyncConf.{SyncConf}
use Rattle.spec_lists.specs.Tables.{get, empty_table, filled}
use Rattle.spec_kernel.specs.declared.flag_block.FlagBlock.{FlagBlock}
use Rattle.spec_kernel.specs.declared.reason.WaitReason.{WaitReason}
use Rattle.spec_kernel.specs.declared.reason.WaitReason.TheVariants as reasons
use Rattle.spec_kernel.specs.declared.waiter.Waiter.{Waiter}
use Rattle.spec_kernel.specs.Ids.{greatest_id}
use Rattle.spec_kernel.specs.Waiters.{left_by, next_waiter}
use Rattle.spec_kernel.specs.Waiters.{reprioritised as reprioritised_in}
use Rattle.spec_kernel.specs.Ids.{are_new_ids}
use Rattle.spec_kernel.specs.ObjectRows.{told}
use Rattle.spec_kernel.specs.Waiting.{flags_after}
use Rattle.spec_kernel.specs.FlagBlocks.{pattern_of, is_ordered, holds, pattern_bytes, flag_id, flag_declared}

pub record PlainFlags : Type 0 where
  pub flags : List (Option FlagBlock)  -- by id
  pub waiters : List Waiter  -- in the order of their ranks

-- what can be declared: each id once and in its range
pub record AreDeclarable (flags : List FlgDecl) : Type 0 where
  pub ids : are_new_ids flag_id flag_declared (empty_table greatest_id) flags ≡ true

-- at the start nobody waits
abbrev pub opened : SyncConf → PlainFlags
opened conf = record { flags = filled flag_id flag_declared conf.flags (empty_table greatest_id); waiters = [] }

-- ---- what a task waits for

abbrev pub is_met : List (Option FlagBlock) → WaitReason → Bool
is_met flags (reasons.Flag w) = holds (pattern_of (get flags w.flag.0)) w
is_met flags _ = false

abbrev pub is_by_priority : List (Option FlagBlock) → WaitReason → Bool
is_by_priority flags (reasons.Flag w) = is_ordered (get flags w.flag.0)
is_by_priority flags _ = false

-- a task that is met is told the pattern
abbrev pub bytes_of : List (Option FlagBlock) → WaitReason → List ℕ
bytes_of flags (reasons.Flag w) = pattern_bytes (get flags w.flag.0)
bytes_of flags _ = []

-- ---- whose wait ends next

abbrev pub next_freed : PlainFlags → Option (Waiter × List Waiter)
next_freed d = next_waiter (is_met d.flags) d.waiters

abbrev pub next_ready : PlainFlags → Option (TaskId × Er × List ℕ)
next_ready d = told (bytes_of d.flags) (next_freed d)

abbrev pub without : PlainFlags → Option (Waiter × List Waiter) → PlainFlags
without d None = d
without d (Some found) = record { flags = flags_after found.0.reason d.flags; waiters = found.1 }

-- the state after the end of that wait
abbrev pub freed : PlainFlags → PlainFlags
freed d = without d (next_freed d)

-- ---- one task

-- the task waits no longer, and nothing else changes
abbrev pub left : PlainFlags → TaskId → PlainFlags
left d task = record d { waiters = left_by task d.waiters }

abbrev pub reprioritised : PlainFlags → TaskId → ℕ → ℕ → PlainFlags
reprioritised d task pri rank = record d { waiters = reprioritised_in (is_by_priority d.flags) task pri rank d.waiters }
