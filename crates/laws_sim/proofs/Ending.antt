-- A script's history is a run of the machine, and ends with the stop or is full.
use Rattle.std.proofs.Common.{◌≡◌, ℕ, zero, suc, ◌+◌, true, false, List, [], ◌∷◌, ◌++◌, length, refl, sym, ap, subst, ◌∙◌, append_assoc, inl, inr, arith}
use mathlib.Core.Logic.{◌⊎◌}
use Rattle.std.specs.Prelude.{nat_le, sum_by}
use Rattle.std.proofs.lemmas.Bool.{cases_Bool, le-leb, lt-leb}
use Rattle.std.proofs.lemmas.List.{append-nil, length-append}
use Rattle.it_types.specs.declared.event.Event.{Event}
use Rattle.it_types.specs.declared.entry.Entry.{Entry}
use Rattle.spec_script.specs.declared.script.Script.{Script}
use Rattle.spec_script.specs.Configuration.{conf_of}
use Rattle.spec_world.specs.PlainWorld.{PlainWorld, step}
use Rattle.spec_world.specs.Admitted.{is_admitted}
use Rattle.spec_world.specs.Sizes.{entry_size, entry_limit, size_limit, is_full}
use Rattle.spec_world.specs.History.{is_stop, ends_with_stop, Follows, RunsFrom, IsRun}
use Rattle.spec_world.proofs.Appending.{stops_more}
use Rattle.spec_sim.specs.Schedule.{Plan, PlainPlay, next, after, plan_of, opening}
use Rattle.spec_sim.specs.Serial.{is_large, run, serial}
use Rattle.spec_sim.proofs.Turns.{next_admitted}
use Rattle.spec_sim.proofs.Underway.{run_none, run_large, run_more, after-size, after-entry}
use Rattle.laws_sim.proofs.Following.{after-ev}
use Rattle.laws_sim.proofs.Linked.{IsLinked, after_linked, opening_linked}

-- the history before goes on, and the play knows its size and how many entries more it may have
record IsUnderWay (n : ℕ) (before : List Entry) (p : PlainPlay) : Type 0 where
  count : length before + n ≡ entry_limit
  data_size : p.size ≡ sum_by entry_size before
  going : ends_with_stop before ≡ false
  linked : IsLinked p

after-world : (plan : Plan) (p : PlainPlay) (event : Event) → (after plan p event).0.world ≡ (step p.world event).0
unfolding after
after-world plan p event = refl

-- the history with the entry of an event that isn't the stop goes on
goes_on : (n : ℕ) (plan : Plan) (before : List Entry) (p : PlainPlay)
    → IsUnderWay (suc n) before p
    → is_stop (next plan p) ≡ false
    → IsUnderWay n (before ++ (after plan p (next plan p)).1 ∷ []) (after plan p (next plan p)).0
goes_on n plan before p h f = record {
  count = omega (arith, h.count, length-append before ((after plan p (next plan p)).1 ∷ []));
  data_size = after-size plan p before h.data_size;
  going = stops_more before (after plan p (next plan p)).1 ∙ ap is_stop (after-ev plan p (next plan p)) ∙ f;
  linked = after_linked plan p (next plan p) h.linked;
}

-- ---- the run

has_room : (n : ℕ) (before : List Entry) (p : PlainPlay) → IsUnderWay (suc n) before p → is_large p ≡ false → is_full before ≡ false
has_room n before p h f = rw (lt-leb entry_limit (length before) (omega (arith, h.count))) (ap (nat_le size_limit) (sym h.data_size) ∙ f)

follows : (n : ℕ) (plan : Plan) (before : List Entry) (p : PlainPlay) → IsUnderWay (suc n) before p → is_large p ≡ false → Follows p.world before (after plan p (next plan p)).1
follows n plan before p h f = let same = after-ev plan p (next plan p) in record {
  going = h.going;
  room = has_room n before p h f;
  admitted = ap (is_admitted p.world) same ∙ next_admitted plan p h.linked.sent_before;
  given = ap (λ (v : Event). (step p.world v).1) same ∙ sym (after-entry plan p (next plan p));
}

run_runs : (n : ℕ) (plan : Plan) (before : List Entry) (p : PlainPlay) → IsUnderWay n before p → RunsFrom p.world before (run n plan p)
run_runs zero plan before p h = rw (run_none plan p) tt
run_runs (suc n) plan before p h = elim (cases_Bool (is_large p)) [
  | inl t ↦ rw (run_large (suc n) plan p t) tt
  | inr f ↦ let e : Entry = (after plan p (next plan p)).1 in
      let q : PlainPlay = (after plan p (next plan p)).0 in
      let to : q.world ≡ (step p.world e.ev).0 = after-world plan p (next plan p) ∙ ap (λ (v : Event). (step p.world v).0) (sym (after-ev plan p (next plan p))) in
      rw (run_more n plan p f) (
        follows n plan before p h f,
        elim (cases_Bool (is_stop (next plan p))) [
          | inl s ↦ rw s tt
          | inr g ↦ rw g (subst (λ (w : PlainWorld). RunsFrom w (before ++ e ∷ []) (run n plan q)) to (run_runs n plan (before ++ e ∷ []) q (goes_on n plan before p h g)))
        ],
      )
]

-- ---- the end

abbrev Ends : List Entry → Type 0
Ends log = (ends_with_stop log ≡ true) ⊎ (is_full log ≡ true)

full_by_count : (log : List Entry) → length log ≡ entry_limit → is_full log ≡ true
full_by_count log e = rw (le-leb entry_limit (length log) (omega (arith, e))) refl

full_by_size : (log : List Entry) (p : PlainPlay) → p.size ≡ sum_by entry_size log → is_large p ≡ true → is_full log ≡ true
full_by_size log p e t = elim (cases_Bool (nat_le entry_limit (length log))) [ inl u ↦ rw u refl | inr u ↦ rw u (ap (nat_le size_limit) (sym e) ∙ t) ]

run_ends : (n : ℕ) (plan : Plan) (before : List Entry) (p : PlainPlay) → IsUnderWay n before p → Ends (before ++ run n plan p)
run_ends zero plan before p h = rw (run_none plan p, append-nil before) (inr (full_by_count before (omega (arith, h.count))))
run_ends (suc n) plan before p h = elim (cases_Bool (is_large p)) [
  | inl t ↦ rw (run_large (suc n) plan p t, append-nil before) (inr (full_by_size before p h.data_size t))
  | inr f ↦ let e : Entry = (after plan p (next plan p)).1 in
      let q : PlainPlay = (after plan p (next plan p)).0 in
      rw (run_more n plan p f) (elim (cases_Bool (is_stop (next plan p))) [
        | inl s ↦ rw s (inl (stops_more before e ∙ ap is_stop (after-ev plan p (next plan p)) ∙ s))
        | inr g ↦ rw g (subst Ends (append_assoc before (e ∷ []) (run n plan q)) (run_ends n plan (before ++ e ∷ []) q (goes_on n plan before p h g)))
      ])
]

-- ---- the history of a script

at_opening : (s : Script) → IsUnderWay entry_limit [] (opening s)
at_opening s = record { count = refl; data_size = refl; going = refl; linked = opening_linked s }

pub serial_runs : (s : Script) → IsRun (conf_of s) (serial s)
serial_runs s = run_runs entry_limit (plan_of s) [] (opening s) (at_opening s)

pub serial_ending : (s : Script) → (ends_with_stop (serial s) ≡ true) ⊎ (is_full (serial s) ≡ true)
serial_ending s = run_ends entry_limit (plan_of s) [] (opening s) (at_opening s)
