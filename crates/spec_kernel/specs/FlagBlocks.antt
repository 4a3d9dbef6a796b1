-- What the kernel keeps of one event flag, and its changes (µITRON4.0 section 4.4.2).
use Rattle.std.specs.Prelude.{ℕ, Bool, true, false, not, ◌==◌, List, Option, Some, None, if◌then◌else◌, bit_and, bit_or}
use Rattle.it_types.specs.declared.conf.FlgDecl.{FlgDecl}
use Rattle.spec_kernel.specs.declared.flag_block.FlagBlock.{FlagBlock}
use Rattle.spec_kernel.specs.declared.reason.FlagWait.{FlagWait}
use Rattle.spec_kernel.specs.AnswerBytes.{four_bytes}

abbrev pub pattern_of : Option FlagBlock → ℕ
pattern_of None = 0
pattern_of (Some f) = f.pattern

-- its tasks wait by priority
abbrev pub is_ordered : Option FlagBlock → Bool
is_ordered None = false
is_ordered (Some f) = f.by_priority

-- several tasks may wait at it
abbrev pub takes_many : Option FlagBlock → Bool
takes_many None = true
takes_many (Some f) = f.many

-- what a task that waits so is met by: all of its bits, or one of them
abbrev pub holds : ℕ → FlagWait → Bool
holds pattern w = if w.all then bit_and pattern w.bits == w.bits else not (bit_and pattern w.bits == 0)

-- what a task that is met is told
abbrev pub pattern_bytes : Option FlagBlock → List ℕ
pattern_bytes f = four_bytes (pattern_of f)

-- what a task that is met takes: the whole pattern, where the flag is declared so
abbrev pub released : Option FlagBlock → Option FlagBlock
released None = None
released (Some f) = Some (record f { pattern = if f.clears then 0 else f.pattern })

abbrev pub with_bits : ℕ → Option FlagBlock → Option FlagBlock
with_bits bits None = None
with_bits bits (Some f) = Some (record f { pattern = bit_or f.pattern bits })

abbrev pub only_bits : ℕ → Option FlagBlock → Option FlagBlock
only_bits bits None = None
only_bits bits (Some f) = Some (record f { pattern = bit_and f.pattern bits })

-- ---- declarations

abbrev pub flag_id : FlgDecl → ℕ
flag_id d = d.id

abbrev pub flag_declared : FlgDecl → FlagBlock
flag_declared d = record { by_priority = d.pri; many = d.many; clears = d.clr; pattern = d.init }
