use Rattle.std.proofs.Common.{◌≡◌, true, false, sym, ap, subst, ◌∙◌, Bool, inl, inr}
use Rattle.spec_world.specs.Admitted.{is_admitted}
use Rattle.spec_world.specs.Sizes.{is_full}
use Rattle.spec_world.specs.History.{History, world_of}
use Rattle.spec_sim.specs.Schedule.{plan_of}
use Rattle.w_sim.specs.Playing.{Playing, moved, stepped_play}
use Rattle.w_sim.proofs.Looping.{IsSoFar, admits, steps, comes_closer, ended}
use Rattle.w_sim.proofs.history.sim.Goals.{then-loop-going-test+else-not-full, else-loop-going-test}
use Rattle.w_sim.proofs.history.sim.Goals as goal

pub step-requires-clause-admitted : goal.step-requires-clause-admitted
step-requires-clause-admitted c =
    let so_far : IsSoFar c.args.script.now true c.loop-going.play = subst (λ (b : Bool). IsSoFar c.args.script.now b c.loop-going.play) c.loop-going-test.true c.loop-going.invariant in
    ap (λ (p : Playing). is_admitted (world_of p.history) c.in_ok-event.event) c.in_ok-event.ensures.place ∙ admits c.args.script.now c.loop-going.play c.in_ok-event.event so_far c.in_ok-event.ensures.event

pub loop-going-smaller : goal.loop-going-smaller
loop-going-smaller c =
    let room : is_full c.loop-going.play.history.log ≡ false = sym (c.full.ensures ∙ ap (λ (h : History). is_full h.log) c.world.ensures) ∙ c.if-not-full.true in
    let to : c.step.new.self ≡ moved (plan_of c.args.script.now) c.loop-going.play c.in_ok-event.event
    = c.in_ok-step.ensures ∙ ap (λ (p : Playing). stepped_play (plan_of c.args.script.now) p c.in_ok-event.event) c.in_ok-event.ensures.place in
    comes_closer (plan_of c.args.script.now) c.loop-going.play c.step.new.self c.in_ok-event.event room to

pub loop-going-preserved : goal.loop-going-preserved
loop-going-preserved c =
    let room : is_full c.loop-going.play.history.log ≡ false = sym (c.full.ensures ∙ ap (λ (h : History). is_full h.log) c.world.ensures) ∙ c.if-not-full.true in
    let so_far : IsSoFar c.args.script.now true c.loop-going.play = subst (λ (b : Bool). IsSoFar c.args.script.now b c.loop-going.play) c.loop-going-test.true c.loop-going.invariant in
    let to : c.step.new.self ≡ moved (plan_of c.args.script.now) c.loop-going.play c.in_ok-event.event
    = c.in_ok-step.ensures ∙ ap (λ (p : Playing). stepped_play (plan_of c.args.script.now) p c.in_ok-event.event) c.in_ok-event.ensures.place in
    rw c.is_stop-going.ensures (steps c.args.script.now c.loop-going.play c.step.new.self c.in_ok-event.event so_far room c.in_ok-event.ensures.event to)

pub returns-clause-log : goal.returns-clause-log
returns-clause-log c = ap (λ (h : History). h.log) c.into_world.ensures ∙ ended c.args.script.now c.loop-going.going c.loop-going.play c.loop-going.invariant (elim c.loop-going-test.branch [
  | then-loop-going-test+else-not-full w ↦ inr (sym (w.full.ensures ∙ ap (λ (h : History). is_full h.log) w.world.ensures) ∙ w.if-not-full.false)
  | else-loop-going-test w ↦ inl w.loop-going-test.false
])
