-- The time of a kernel and its cyclic handlers (µITRON4.0 sections 4.7.1 and 4.7.2), and the calls on them, but for the test of the
-- context in which each is made.
use Rattle.std.specs.Prelude.{◌≡◌, ℕ, ◌+◌, Bool, true, false, ◌&&◌, ◌||◌, ◌==◌, List, [], ◌∷◌, Option, Some, None, is_none, map, nat_lt, nat_le, if◌then◌else◌}
use Rattle.std.specs.List.{list_all}
use Rattle.it_types.specs.declared.id.ObjId.{ObjId}
use Rattle.it_types.specs.declared.er.Er.{Er}
use Rattle.it_types.specs.declared.er.TheConstants.{E_OK, E_PAR, E_ID, E_NOEXS}
use Rattle.it_types.specs.declared.conf.CycDecl.{CycDecl}
use Rattle.spec_lists.specs.Tables.{get, change, empty_table, filled}
use Rattle.spec_lists.specs.Refusal.{first_refusal}
use Rattle.spec_kernel.specs.declared.cyclic_block.CyclicBlock.{CyclicBlock}
use Rattle.spec_kernel.specs.Ids.{are_new_up_to}

pub record PlainClock : Type 0 where
  pub now : ℕ  -- the ticks so far
  pub system : ℕ  -- the system time, in ticks
  pub cyclics : List (Option CyclicBlock)  -- by id

abbrev pub greatest_cyclic : ℕ
greatest_cyclic = 8

-- ---- the opening

abbrev pub cyclic_id : CycDecl → ℕ
cyclic_id c = c.id

-- one that is on is first due at the tick after its phase
abbrev pub cyclic_at_start : CycDecl → CyclicBlock
cyclic_at_start c = record { period = c.period; runs = c.on; due = c.phase + 1 }

abbrev pub opened_clock : List CycDecl → PlainClock
opened_clock cs = record { now = 0; system = 0; cyclics = filled cyclic_id cyclic_at_start cs (empty_table greatest_cyclic) }

-- each id is from 1 to 8 and was not declared before
abbrev pub are_new_cyclics : List (Option CyclicBlock) → List CycDecl → Bool
are_new_cyclics cyclics cs = are_new_up_to greatest_cyclic cyclic_id cyclic_at_start cyclics cs

-- the ranges of a declaration, in ticks
abbrev pub keeps_times : CycDecl → Bool
keeps_times c = nat_le 1 c.period && (nat_le c.period 1000000 && nat_le c.phase 1000000)

-- what can be declared: each id once and in its range, and all numbers in theirs
pub record AreDeclarable (cycs : List CycDecl) : Type 0 where
  pub ids : are_new_cyclics (empty_table greatest_cyclic) cycs ≡ true
  pub ranges : list_all keeps_times cycs ≡ true

-- ---- the system time (section 4.7.1)

-- it rises with the ticks from there on; neither the ticks nor what is due at one of them change
abbrev pub time_set : PlainClock → ℕ → PlainClock
time_set c ms = record c { system = ms }

-- ---- cyclic handlers (section 4.7.2)

abbrev pub changed : (CyclicBlock → CyclicBlock) → Option CyclicBlock → Option CyclicBlock
changed f None = None
changed f (Some x) = Some (f x)

abbrev pub refusals : PlainClock → ObjId → List (Bool × Er)
refusals c id = ((id.0 == 0) || nat_lt greatest_cyclic id.0, E_ID) ∷ (is_none (get c.cyclics id.0), E_NOEXS) ∷ []

-- it runs, and is due a tick after its period is over, also where it ran before
abbrev pub started : ℕ → CyclicBlock → CyclicBlock
started now x = record x { runs = true; due = now + x.period + 1 }

abbrev pub stopped : CyclicBlock → CyclicBlock
stopped x = record x { runs = false }

abbrev pub code_of : Option Er → Er
code_of None = E_OK
code_of (Some code) = code

abbrev pub unless_refused : Option Er → PlainClock → PlainClock → PlainClock
unless_refused None c done = done
unless_refused (Some code) c done = c

-- the code that a call on a handler is answered
abbrev pub answer_on : PlainClock → ObjId → Er
answer_on c id = code_of (first_refusal (refusals c id))

-- a time of 2^63 ticks or more isn't set, so that there is room for every tick to come
abbrev pub time_refusals : ℕ → List (Bool × Er)
time_refusals ms = (nat_le 9223372036854775808 ms, E_PAR) ∷ []

abbrev pub answer_to_time : ℕ → Er
answer_to_time ms = code_of (first_refusal (time_refusals ms))

abbrev pub set_tim : PlainClock → ℕ → PlainClock
set_tim c ms = unless_refused (first_refusal (time_refusals ms)) c (time_set c ms)

abbrev pub sta_cyc : PlainClock → ObjId → PlainClock
sta_cyc c id = unless_refused (first_refusal (refusals c id)) c (record c { cyclics = change c.cyclics id.0 (changed (started c.now)) })

abbrev pub stp_cyc : PlainClock → ObjId → PlainClock
stp_cyc c id = unless_refused (first_refusal (refusals c id)) c (record c { cyclics = change c.cyclics id.0 (changed stopped) })

-- ---- a tick

abbrev pub is_due : ℕ → Option CyclicBlock → Bool
is_due now None = false
is_due now (Some x) = x.runs && (x.due == now)

-- one that comes due is due again after its period
abbrev pub next_time : ℕ → Option CyclicBlock → Option CyclicBlock
next_time now None = None
next_time now (Some x) = Some (if x.runs && (x.due == now) then record x { due = x.due + x.period } else x)

-- the handlers that come due, by rising id, from one id on
abbrev pub due_from : ℕ → ℕ → List (Option CyclicBlock) → List ObjId
due_from now id [] = []
due_from now id (o ∷ os) = if is_due now o then record { 0 = id } ∷ due_from now (id + 1) os else due_from now (id + 1) os

abbrev pub ticked_clock : PlainClock → PlainClock
ticked_clock c = record { now = c.now + 1; system = c.system + 1; cyclics = map (next_time (c.now + 1)) c.cyclics }

abbrev pub due_at_tick : PlainClock → List ObjId
due_at_tick c = due_from (c.now + 1) 0 c.cyclics
