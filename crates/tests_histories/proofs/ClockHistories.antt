-- Worked histories of a clock, checked by computation.
use Rattle.std.proofs.Common.{◌≡◌, ℕ, zero, suc, true, false, List, [], ◌∷◌, refl}
use Rattle.it_types.specs.declared.id.ObjId.{ObjId}
use Rattle.it_types.specs.declared.er.Er.{Er}
use Rattle.it_types.specs.declared.er.TheConstants.{E_OK, E_ID, E_NOEXS}
use Rattle.it_types.specs.declared.conf.CycDecl.{CycDecl}
use Rattle.spec_kernel.specs.PlainClock.{PlainClock, opened_clock, time_set, answer_on, sta_cyc, stp_cyc, ticked_clock, due_at_tick}

abbrev handler : ℕ → ObjId
handler n = record { 0 = n }

abbrev cyclic : ℕ → ℕ → ℕ → CycDecl
cyclic id period phase = record { id = id; period = period; phase = phase; on = true }

abbrev standing : ℕ → ℕ → CycDecl
standing id period = record { id = id; period = period; phase = 0; on = false }

-- the handlers that come due at each of so many ticks
abbrev due_at_ticks : ℕ → PlainClock → List (List ObjId)
due_at_ticks zero c = []
due_at_ticks (suc n) c = due_at_tick c ∷ due_at_ticks n (ticked_clock c)

abbrev after_ticks : ℕ → PlainClock → PlainClock
after_ticks zero c = c
after_ticks (suc n) c = after_ticks n (ticked_clock c)

-- one that is on is due first at the tick after its phase, and then each period; those of one tick go by rising id
two_handlers : due_at_ticks 6 (opened_clock (cyclic 2 2 1 ∷ cyclic 1 3 1 ∷ [])) ≡ [] ∷ (handler 1 ∷ handler 2 ∷ []) ∷ [] ∷ (handler 2 ∷ []) ∷ (handler 1 ∷ []) ∷ (handler 2 ∷ []) ∷ []
two_handlers = refl

-- one that is started at tick 1 with a period of 2 is due at tick 4, and then each period
started : due_at_ticks 6 (sta_cyc (ticked_clock (opened_clock (standing 8 2 ∷ []))) (handler 8)) ≡ [] ∷ [] ∷ (handler 8 ∷ []) ∷ [] ∷ (handler 8 ∷ []) ∷ [] ∷ []
started = refl

-- one that runs is started anew
started_anew : due_at_ticks 4 (sta_cyc (ticked_clock (opened_clock (cyclic 1 2 1 ∷ []))) (handler 1)) ≡ [] ∷ [] ∷ (handler 1 ∷ []) ∷ [] ∷ []
started_anew = refl

-- one that was stopped isn't due
stopped : due_at_ticks 3 (stp_cyc (opened_clock (cyclic 1 1 0 ∷ [])) (handler 1)) ≡ [] ∷ [] ∷ [] ∷ []
stopped = refl

-- the system time rises with the ticks from where it was set; what is due stays
time_goes_on : (after_ticks 3 (time_set (opened_clock []) 100)).system ≡ 103
time_goes_on = refl

due_at_the_same_ticks : due_at_ticks 3 (time_set (opened_clock (cyclic 1 1 1 ∷ [])) 100) ≡ [] ∷ (handler 1 ∷ []) ∷ (handler 1 ∷ []) ∷ []
due_at_the_same_ticks = refl

abbrev answers : List Er
answers = let c = opened_clock (cyclic 1 1 1 ∷ []) in answer_on c (handler 0) ∷ answer_on c (handler 9) ∷ answer_on c (handler 2) ∷ answer_on c (handler 1) ∷ []

ids : answers ≡ E_ID ∷ E_ID ∷ E_NOEXS ∷ E_OK ∷ []
ids = refl
