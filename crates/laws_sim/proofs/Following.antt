-- A script's history follows the schedule.
use Rattle.std.proofs.Common.{◌≡◌, ℕ, zero, suc, Bool, true, false, List, [], sym, ap, subst, ◌∙◌, not, refl, inl, inr}
use Rattle.std.proofs.lemmas.Bool.{cases_Bool}
use Rattle.it_types.specs.declared.event.Event.{Event}
use Rattle.it_types.specs.declared.event.Event.TheVariants as events
use Rattle.it_types.specs.declared.entry.Entry.{Entry}
use Rattle.spec_script.specs.declared.script.Script.{Script}
use Rattle.spec_world.specs.Sizes.{entry_limit}
use Rattle.spec_world.specs.Admitted.{is_admitted}
use Rattle.spec_world.specs.History.{is_stop}
use Rattle.spec_world.proofs.Events.{step-ev}
use Rattle.spec_sim.specs.Schedule.{Plan, PlainPlay, next, after, plan_of, opening}
use Rattle.spec_sim.specs.Serial.{is_large, run, serial}
use Rattle.spec_sim.proofs.Underway.{run_none, run_large, run_more, rest}
use Rattle.spec_sim.proofs.Turns.{next_admitted}
use Rattle.laws_sim.specs.Scheduled.{IsScheduled, IsEntry, EndsAtStop, FollowsSchedule}
use Rattle.laws_sim.proofs.Linked.{IsLinked, after_linked, opening_linked}
use Rattle.laws_sim.proofs.Points.{next_scheduled}

-- the entry of an event has that event
pub after-ev : (plan : Plan) (p : PlainPlay) (event : Event) → (after plan p event).1.ev ≡ event
unfolding after
after-ev plan p event = step-ev p.world event

entry_due : (plan : Plan) (p : PlainPlay) → IsLinked p → IsEntry plan p (after plan p (next plan p)).1
entry_due plan p h = let same = after-ev plan p (next plan p) in record {
  admitted = ap (is_admitted p.world) same ∙ next_admitted plan p h.sent_before;
  scheduled = subst (IsScheduled plan p) (sym same) (next_scheduled plan p h.turns);
  given = ap (λ (v : Event). (after plan p v).1) same;
}

ends_at_stop : (event : Event) (es : List Entry) → EndsAtStop event (elim (not (is_stop event)) [ true ↦ es | false ↦ [] ])
ends_at_stop events.Stop es = refl
ends_at_stop _ es = tt

goes_on : (plan : Plan) (p : PlainPlay) (b : Bool) (es : List Entry) → FollowsSchedule plan p es → FollowsSchedule plan p (elim b [ true ↦ es | false ↦ [] ])
goes_on plan p true es h = h
goes_on plan p false es h = tt

run_follows : (n : ℕ) (plan : Plan) (p : PlainPlay) → IsLinked p → FollowsSchedule plan p (run n plan p)
run_follows zero plan p h = rw (run_none plan p) tt
run_follows (suc n) plan p h = elim (cases_Bool (is_large p)) [
  | inl t ↦ rw (run_large (suc n) plan p t) tt
  | inr f ↦
      let event : Event = next plan p in
      let e : Entry = (after plan p event).1 in
      let q : PlainPlay = (after plan p event).0 in
      let same : e.ev ≡ event = after-ev plan p event in
      let es : List Entry = rest (not (is_stop event)) n plan q in
      rw (run_more n plan p f) (
        entry_due plan p h,
        subst (λ (v : Event). EndsAtStop v es) (sym same) (ends_at_stop event (run n plan q)),
        subst (λ (v : Event). FollowsSchedule plan (after plan p v).0 es) (sym same) (goes_on plan q (not (is_stop event)) (run n plan q) (run_follows n plan q (after_linked plan p event h))),
      )
]

pub serial_follows : (s : Script) → FollowsSchedule (plan_of s) (opening s) (serial s)
serial_follows s = run_follows entry_limit (plan_of s) (opening s) (opening_linked s)
