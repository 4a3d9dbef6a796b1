-- A history under way: when it goes on, and what the play keeps of it.
use Rattle.std.proofs.Common.{◌≡◌, ℕ, zero, suc, ◌+◌, ◌-◌, ◌<◌, Bool, true, false, not, List, [], ◌∷◌, ◌++◌, length, refl, sym, ap, ◌∙◌, append_assoc, inl, inr, arith}
use Rattle.spec_world.specs.PlainWorld.{step}
use Rattle.it_types.specs.declared.event.Event.{Event}
use Rattle.std.specs.Prelude.{nat_le, sum_by}
use Rattle.std.proofs.lemmas.Bool.{cases_Bool, leb-true}
use Rattle.std.proofs.lemmas.List.Sums.{sum_by-append}
use Rattle.std.proofs.lemmas.List.{append-nil}
use Rattle.it_types.specs.declared.entry.Entry.{Entry}
use Rattle.spec_world.specs.Sizes.{entry_size, entry_limit, size_limit, is_full}
use Rattle.spec_world.specs.History.{is_stop}
use Rattle.spec_world.proofs.Room.{room_short}
use Rattle.spec_sim.specs.Schedule.{Plan, PlainPlay, next, after}
use Rattle.spec_sim.specs.Serial.{is_large, run}

-- ---- one event of the schedule

pub run_none : (plan : Plan) (p : PlainPlay) → run 0 plan p ≡ []
unfolding run
run_none plan p = refl

pub run_large : (n : ℕ) (plan : Plan) (p : PlainPlay) → is_large p ≡ true → run n plan p ≡ []
unfolding run
run_large zero plan p t = refl
run_large (suc n) plan p t = rw (t, run) refl

-- what comes after an event: nothing after the stop
abbrev pub rest : Bool → ℕ → Plan → PlainPlay → List Entry
rest going n plan p = elim going [ true ↦ run n plan p | false ↦ [] ]

stop_or_not : (stops : Bool) (es : List Entry) → ◌≡◌ {A = List Entry} (elim stops [ true ↦ [] | false ↦ es ]) (elim (not stops) [ true ↦ es | false ↦ [] ])
stop_or_not true es = refl
stop_or_not false es = refl

pub run_more : (n : ℕ) (plan : Plan) (p : PlainPlay)
    → is_large p ≡ false
    → run (suc n) plan p ≡ (after plan p (next plan p)).1 ∷ rest (not (is_stop (next plan p))) n plan (after plan p (next plan p)).0
unfolding run
run_more n plan p f = rw (f, run) (ap (λ (es : List Entry). (after plan p (next plan p)).1 ∷ es) (stop_or_not (is_stop (next plan p)) (run n plan (after plan p (next plan p)).0)))

pub after-entry : (plan : Plan) (p : PlainPlay) (event : Event) → (after plan p event).1 ≡ (step p.world event).1
unfolding after
after-entry plan p event = refl

-- ---- sizes

pub size_more : (log : List Entry) (e : Entry) → sum_by entry_size (log ++ e ∷ []) ≡ sum_by entry_size log + entry_size e
size_more log e = sum_by-append entry_size log (e ∷ []) ∙ omega arith

pub after-size : (plan : Plan) (p : PlainPlay) (log : List Entry)
    → p.size ≡ sum_by entry_size log
    → (after plan p (next plan p)).0.size ≡ sum_by entry_size (log ++ (after plan p (next plan p)).1 ∷ [])
unfolding after
after-size plan p log e = rw (size_more log (after plan p (next plan p)).1, e) refl

-- ---- a history with room

-- a play whose history has room isn't large
pub room_small : (log : List Entry) (p : PlainPlay) → p.size ≡ sum_by entry_size log → is_full log ≡ false → is_large p ≡ false
room_small log p e room = elim (cases_Bool (nat_le entry_limit (length log))) [
  | inl t ↦ absurd (let f : true ≡ false = sym (rw t refl) ∙ room in cc)
  | inr f ↦ rw e (rw f at room)
]

-- the history goes on with one entry
pub one_more : (whole log : List Entry) (plan : Plan) (p : PlainPlay)
    → is_full log ≡ false
    → p.size ≡ sum_by entry_size log
    → log ++ run (entry_limit - length log) plan p ≡ whole
    → (log ++ (after plan p (next plan p)).1 ∷ []) ++ rest (not (is_stop (next plan p))) (entry_limit - (length log + 1)) plan (after plan p (next plan p)).0 ≡ whole
one_more whole log plan p room size so_far =
    let lt : length log < entry_limit = room_short log room in
    let left : entry_limit - length log ≡ suc (entry_limit - (length log + 1)) = omega (arith, lt) in
    let e : Entry = (after plan p (next plan p)).1 in
    let es : List Entry = rest (not (is_stop (next plan p))) (entry_limit - (length log + 1)) plan (after plan p (next plan p)).0 in
    append_assoc log (e ∷ []) es ∙ ap (λ (xs : List Entry). log ++ xs) (sym (ap (λ (n : ℕ). run n plan p) left ∙ run_more (entry_limit - (length log + 1)) plan p (room_small log p size room))) ∙ so_far

-- nothing follows a full history
pub full_none : (log : List Entry) (plan : Plan) (p : PlainPlay) → is_full log ≡ true → p.size ≡ sum_by entry_size log → run (entry_limit - length log) plan p ≡ []
full_none log plan p full size = elim (cases_Bool (nat_le entry_limit (length log))) [
  | inl t ↦ let none : entry_limit - length log ≡ 0 = omega (arith, leb-true entry_limit (length log) t) in ap (λ (n : ℕ). run n plan p) none ∙ run_none plan p
  | inr f ↦ run_large (entry_limit - length log) plan p (ap (nat_le size_limit) size ∙ rw f at full)
]

-- a full history is whole
pub full_whole : (whole log : List Entry) (plan : Plan) (p : PlainPlay)
    → is_full log ≡ true
    → p.size ≡ sum_by entry_size log
    → log ++ run (entry_limit - length log) plan p ≡ whole
    → log ≡ whole
full_whole whole log plan p full size so_far = sym (append-nil log) ∙ ap (λ (xs : List Entry). log ++ xs) (sym (full_none log plan p full size)) ∙ so_far
