-- Worked histories of the calls on event flags, checked by computation.
use Rattle.std.proofs.Common.{◌≡◌, ℕ, zero, suc, true, false, length, List, [], ◌∷◌, Option, Some, None, refl}
use Rattle.it_types.specs.declared.id.TaskId.{TaskId}
use Rattle.it_types.specs.declared.er.Er.{Er}
use Rattle.it_types.specs.declared.er.TheConstants.{E_OK, E_PAR, E_ID, E_ILUSE, E_NOEXS}
use Rattle.it_types.specs.declared.conf.FlgDecl.{FlgDecl}
use Rattle.it_types.specs.declared.timeout.Tmo.{Tmo}
use Rattle.it_types.specs.declared.timeout.Tmo.TheVariants.{Pol, Nblk, Fevr, Ms}
use Rattle.it_types.specs.declared.synced.Synced.{Synced}
use Rattle.it_types.specs.declared.synced.Synced.TheVariants.{Took, MustWait, Refused}
use Rattle.spec_kernel.specs.PlainFlags.{PlainFlags, opened, next_ready, freed, left, reprioritised}
use Rattle.spec_kernel.specs.FlagRows.{FlagsDone, took, set_flg, clr_flg, twai_flg}

-- ---- what happens

abbrev Step : Type 0
Step = PlainFlags → FlagsDone

abbrev the_task : ℕ → TaskId
the_task n = record { 0 = n }

abbrev sets : ℕ → ℕ → Step
sets f bits d = set_flg d (record { 0 = f }) bits

abbrev clears : ℕ → ℕ → Step
clears f bits d = clr_flg d (record { 0 = f }) bits

-- the task, of this priority, asks with this rank for all of the bits, or for one of them
abbrev asks_for_all : ℕ → ℕ → Tmo → ℕ → ℕ → ℕ → Step
asks_for_all f bits tmo task pri rank d = twai_flg d (record { 0 = f }) bits true tmo (the_task task) pri rank

abbrev asks_for_one : ℕ → ℕ → Tmo → ℕ → ℕ → ℕ → Step
asks_for_one f bits tmo task pri rank d = twai_flg d (record { 0 = f }) bits false tmo (the_task task) pri rank

abbrev is_given_priority : ℕ → ℕ → ℕ → Step
is_given_priority task pri rank d = took (reprioritised d (the_task task) pri rank) []

abbrev leaves : ℕ → Step
leaves task d = took (left d (the_task task)) []

-- ---- what is told of it

-- what the call comes to, and the ends of waits that follow, one after another: the task and the bytes that it gets
record Told : Type 0 where
  synced : Synced
  ended : List (ℕ × List ℕ)

abbrev one_end : (PlainFlags → PlainFlags × List (ℕ × List ℕ)) → PlainFlags → Option (TaskId × Er × List ℕ) → PlainFlags × List (ℕ × List ℕ)
one_end go_on d None = (d, [])
one_end go_on d (Some end) = let rest = go_on (freed d) in (rest.0, (end.0.0, end.2) ∷ rest.1)

-- while a task is met that waits, it is freed: at most as many times as tasks wait
abbrev ends : ℕ → PlainFlags → PlainFlags × List (ℕ × List ℕ)
ends zero d = (d, [])
ends (suc n) d = one_end (ends n) d (next_ready d)

abbrev history : PlainFlags → List Step → List Told
history d [] = []
history d (s ∷ ss) = let o = s d in let after = ends (length o.flags.waiters) o.flags in record { synced = o.synced; ended = after.1 } ∷ history after.0 ss

-- a pattern below 256 in bytes
abbrev pattern : ℕ → List ℕ
pattern n = 0 ∷ 0 ∷ 0 ∷ n ∷ []

abbrev ok : List (ℕ × List ℕ) → Told
ok waits = record { synced = Took E_OK []; ended = waits }

abbrev told : ℕ → Told
told n = record { synced = Took E_OK (pattern n); ended = [] }

abbrev waits : Told
waits = record { synced = MustWait; ended = [] }

abbrev refused : Er → Told
refused code = record { synced = Refused code; ended = [] }

-- ---- the flags

-- several tasks may wait, by arrival, and the pattern is kept
abbrev plain_flag : ℕ → ℕ → FlgDecl
plain_flag id init = record { id = id; pri = false; many = true; clr = false; init = init }

-- the end of a wait clears the pattern
abbrev clearing_flag : ℕ → ℕ → FlgDecl
clearing_flag id init = record { id = id; pri = false; many = true; clr = true; init = init }

abbrev flag_by_priority : ℕ → ℕ → FlgDecl
flag_by_priority id init = record { id = id; pri = true; many = true; clr = true; init = init }

-- one task alone may wait
abbrev flag_for_one : ℕ → ℕ → FlgDecl
flag_for_one id init = record { id = id; pri = false; many = false; clr = false; init = init }

abbrev flags : List FlgDecl → PlainFlags
flags fs = opened (record { sems = []; flags = fs; dtqs = [] })

-- ---- the histories

-- bits are added and taken away; a wait is for all bits or for one of them, and a poll that finds them not changes nothing
bits_asked : history (flags (plain_flag 1 1 ∷ []))
    (asks_for_one 1 3 Fevr 1 5 1 ∷ asks_for_all 1 3 Pol 1 5 1 ∷ sets 1 6 ∷ asks_for_all 1 3 Fevr 1 5 1 ∷ clears 1 5 ∷ asks_for_one 1 2 Pol 1 5 1 ∷ asks_for_all 1 5 Pol 1 5 1 ∷ [])
    ≡ told 1 ∷ waits ∷ ok [] ∷ told 7 ∷ ok [] ∷ waits ∷ told 5 ∷ []
bits_asked = refl

-- the pattern is told as it was before the end of the wait clears it
cleared_at_once : history (flags (clearing_flag 1 7 ∷ [])) (asks_for_one 1 2 Pol 1 5 1 ∷ asks_for_one 1 2 Pol 1 5 1 ∷ []) ≡ told 7 ∷ waits ∷ []
cleared_at_once = refl

-- one set ends both waits, in the order of their arrival
two_freed : history (flags (plain_flag 1 0 ∷ [])) (asks_for_one 1 1 Fevr 1 5 1 ∷ asks_for_all 1 3 Fevr 2 1 2 ∷ sets 1 3 ∷ []) ≡ waits ∷ waits ∷ ok ((1, pattern 3) ∷ (2, pattern 3) ∷ []) ∷ []
two_freed = refl

-- the first end clears the pattern before the next wait is looked at
cleared_before_the_next : history (flags (clearing_flag 1 0 ∷ [])) (asks_for_one 1 1 Fevr 1 5 1 ∷ asks_for_all 1 3 Fevr 2 1 2 ∷ sets 1 3 ∷ sets 1 3 ∷ [])
    ≡ waits ∷ waits ∷ ok ((1, pattern 3) ∷ []) ∷ ok ((2, pattern 3) ∷ []) ∷ []
cleared_before_the_next = refl

-- the first of the queue whose condition holds is freed, though others stand before it
first_ready : history (flags (clearing_flag 1 0 ∷ []))
    (asks_for_all 1 6 (Ms 5) 1 5 1 ∷ asks_for_one 1 1 Fevr 2 5 2 ∷ asks_for_one 1 3 Fevr 3 5 3 ∷ sets 1 1 ∷ sets 1 2 ∷ sets 1 4 ∷ sets 1 2 ∷ [])
    ≡ waits ∷ waits ∷ waits ∷ ok ((2, pattern 1) ∷ []) ∷ ok ((3, pattern 2) ∷ []) ∷ ok [] ∷ ok ((1, pattern 6) ∷ []) ∷ []
first_ready = refl

-- in a queue by priority the most urgent of those whose condition holds
most_urgent_ready : history (flags (flag_by_priority 1 0 ∷ []))
    (asks_for_one 1 1 Fevr 1 5 1 ∷ asks_for_one 1 2 Fevr 2 1 2 ∷ asks_for_one 1 1 Fevr 3 4 3 ∷ sets 1 1 ∷ sets 1 3 ∷ sets 1 3 ∷ [])
    ≡ waits ∷ waits ∷ waits ∷ ok ((3, pattern 1) ∷ []) ∷ ok ((2, pattern 3) ∷ []) ∷ ok ((1, pattern 3) ∷ []) ∷ []
most_urgent_ready = refl

-- a new priority is a new place there; and a task that waits no longer is told nothing
priority_changed : history (flags (flag_by_priority 1 0 ∷ []))
    (asks_for_one 1 1 Fevr 1 5 1 ∷ asks_for_one 1 1 Fevr 2 6 2 ∷ asks_for_one 1 1 Fevr 3 1 3 ∷ is_given_priority 2 4 4 ∷ leaves 3 ∷ sets 1 1 ∷ sets 1 1 ∷ sets 1 1 ∷ [])
    ≡ waits ∷ waits ∷ waits ∷ ok [] ∷ ok [] ∷ ok ((2, pattern 1) ∷ []) ∷ ok ((1, pattern 1) ∷ []) ∷ ok [] ∷ []
priority_changed = refl

-- and none where tasks wait by arrival
place_kept : history (flags (clearing_flag 1 0 ∷ [])) (asks_for_one 1 1 Fevr 1 5 1 ∷ asks_for_one 1 1 Fevr 2 6 2 ∷ is_given_priority 2 1 3 ∷ sets 1 1 ∷ []) ≡ waits ∷ waits ∷ ok [] ∷ ok ((1, pattern 1) ∷ []) ∷ []
place_kept = refl

-- each flag has a queue and a pattern of its own
apart : history (flags (plain_flag 1 0 ∷ plain_flag 2 0 ∷ [])) (asks_for_one 1 1 Fevr 1 5 1 ∷ asks_for_one 2 1 Fevr 2 5 2 ∷ sets 2 1 ∷ sets 1 1 ∷ []) ≡ waits ∷ waits ∷ ok ((2, pattern 1) ∷ []) ∷ ok ((1, pattern 1) ∷ []) ∷ []
apart = refl

-- all 32 bits of a pattern are told, the highest first
whole_pattern : history (flags (plain_flag 1 0 ∷ [])) (sets 1 4278190337 ∷ asks_for_all 1 2147483648 Pol 1 5 1 ∷ []) ≡ ok [] ∷ record { synced = Took E_OK (255 ∷ 0 ∷ 1 ∷ 1 ∷ []); ended = [] } ∷ []
whole_pattern = refl

-- ---- each refusal

set_refused : history (flags (plain_flag 1 0 ∷ [])) (sets 0 1 ∷ sets 17 1 ∷ sets 2 1 ∷ []) ≡ refused E_ID ∷ refused E_ID ∷ refused E_NOEXS ∷ []
set_refused = refl

clear_refused : history (flags (plain_flag 1 0 ∷ [])) (clears 0 1 ∷ clears 17 1 ∷ clears 2 1 ∷ []) ≡ refused E_ID ∷ refused E_ID ∷ refused E_NOEXS ∷ []
clear_refused = refl

wait_refused : history (flags (plain_flag 1 0 ∷ [])) (asks_for_all 0 0 Nblk 1 5 1 ∷ asks_for_all 17 0 Nblk 1 5 1 ∷ asks_for_all 2 0 Nblk 1 5 1 ∷ asks_for_all 1 1 Nblk 1 5 1 ∷ asks_for_all 1 0 Pol 1 5 1 ∷ [])
    ≡ refused E_ID ∷ refused E_ID ∷ refused E_NOEXS ∷ refused E_PAR ∷ refused E_PAR ∷ []
wait_refused = refl

-- where one task alone may wait a second is refused before its condition is looked at, also with a poll
second_refused : history (flags (flag_for_one 1 1 ∷ []))
    (asks_for_one 1 1 Fevr 1 5 1 ∷ asks_for_one 1 2 Fevr 1 5 1 ∷ asks_for_one 1 1 Pol 2 5 2 ∷ asks_for_one 1 1 Fevr 2 5 2 ∷ asks_for_one 1 0 Pol 2 5 2 ∷ sets 1 2 ∷ asks_for_one 1 1 Pol 2 5 2 ∷ [])
    ≡ told 1 ∷ waits ∷ refused E_ILUSE ∷ refused E_ILUSE ∷ refused E_PAR ∷ ok ((1, pattern 3) ∷ []) ∷ told 3 ∷ []
second_refused = refl
