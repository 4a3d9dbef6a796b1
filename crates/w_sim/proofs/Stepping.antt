-- A step of the schedule's next event: nothing refuses it, and what the play shows after it is what the schedule keeps.
use Rattle.std.proofs.Common.{◌≡◌, suc, ◌+◌, ◌-◌, ◌<◌, true, false, List, [], ◌∷◌, ◌++◌, length, Some, None, refl, sym, ap, ◌∙◌, arith}
use Rattle.std.specs.Prelude.{slice_get}
use Rattle.std.proofs.lemmas.List.{length-append}
use Rattle.it_types.specs.declared.event.Event.{Event}
use Rattle.it_types.specs.declared.event.Event.TheVariants as events
use Rattle.it_types.specs.declared.entry.Entry.{Entry}
use Rattle.spec_link.specs.Link.{PlainLink}
use Rattle.spec_world.specs.PlainWorld.{PlainWorld, step, opened_world}
use Rattle.spec_world.specs.Admitted.{is_admitted}
use Rattle.spec_world.specs.History.{History, is_unsent, refusal, stepped, world_of}
use Rattle.spec_world.proofs.Events.{step-ev}
use Rattle.spec_world.proofs.Appending.{after_more}
use Rattle.spec_world.proofs.Room.{room_short}
use Rattle.laws_world.proofs.Counts.{within_length}
use Rattle.spec_sim.specs.Bodies.{Interpreters}
use Rattle.spec_sim.specs.Schedule.{Plan, node_0, node_1, all_sent, clock_of, node_after, after}
use Rattle.spec_sim.proofs.Sent.{step_sends}
use Rattle.spec_sim.proofs.Underway.{size_more}
use Rattle.w_sim.specs.Playing.{Playing, GoesOn, moved, play_of, stepped_play}

-- ---- what the play shows

pub stepped_world : (h : History) (event : Event) → world_of (stepped h event) ≡ (step (world_of h) event).0
stepped_world h event = after_more (opened_world h.conf) h.log (step (world_of h) event).1 ∙ ap (λ (v : Event). (step (world_of h) v).0) (step-ev (world_of h) event)

pub moved_play : (plan : Plan) (p : Playing) (event : Event) → play_of (moved plan p event) ≡ (after plan (play_of p) event).0
unfolding after
moved_play plan p event = rw (stepped_world p.history event, size_more p.history.log (step (world_of p.history) event).1) refl

-- ---- the entry of a step

last_more : (log : List Entry) (e : Entry) → slice_get (log ++ e ∷ []) (length (log ++ e ∷ []) - 1) ≡ Some e
last_more [] e = refl
last_more (x ∷ []) e = refl
last_more (x ∷ y ∷ ys) e =
    let at : length (x ∷ y ∷ (ys ++ e ∷ [])) - 1 ≡ suc (length (y ∷ (ys ++ e ∷ [])) - 1) = omega arith in
    ap (slice_get (x ∷ y ∷ (ys ++ e ∷ []))) at ∙ last_more (y ∷ ys) e

-- there is one
pub last_is_there : (h after : History) (event : Event) → after ≡ stepped h event → slice_get after.log (length after.log - 1) ≡ None → ⊥
last_is_there h after event is none =
    let some : slice_get after.log (length after.log - 1) ≡ Some (step (world_of h) event).1
    = ap (λ (x : History). slice_get x.log (length x.log - 1)) is ∙ last_more h.log (step (world_of h) event).1 in
    let no : None ≡ Some (step (world_of h) event).1 = sym none ∙ some in
    cc

pub last_is : (h after : History) (event : Event) (e : Entry) → after ≡ stepped h event → slice_get after.log (length after.log - 1) ≡ Some e → e ≡ (step (world_of h) event).1
last_is h after event e is last = some_is (sym last ∙ ap (λ (x : History). slice_get x.log (length x.log - 1)) is ∙ last_more h.log (step (world_of h) event).1)
  where
    some_is : {x y : Entry} → Some x ≡ Some y → x ≡ y
    some_is e = cc

-- by it the nodes and the link are told
pub stepped_by_last : (plan : Plan) (p q : Playing) (event : Event) (e : Entry)
    → q.history ≡ stepped p.history event
    → e ≡ (step (world_of p.history) event).1
    → q.first ≡ node_after node_0 plan.first e (world_of q.history).nodes.first.begun p.first
    → q.second ≡ node_after node_1 plan.second e (world_of q.history).nodes.second.begun p.second
    → q.link ≡ all_sent (length (world_of p.history).packets) e.packs (clock_of (world_of q.history)) p.link
    → q ≡ stepped_play plan p event
stepped_by_last plan p q event e history same first second link =
    let to : PlainWorld = (step (world_of p.history) event).0 in
    let world : world_of q.history ≡ to = ap world_of history ∙ stepped_world p.history event in
    let one : q.first ≡ (stepped_play plan p event).first
    = first ∙ ap (λ (w : PlainWorld). node_after node_0 plan.first e w.nodes.first.begun p.first) world ∙ ap (λ (x : Entry). node_after node_0 plan.first x to.nodes.first.begun p.first) same in
    let two : q.second ≡ (stepped_play plan p event).second
    = second ∙ ap (λ (w : PlainWorld). node_after node_1 plan.second e w.nodes.second.begun p.second) world ∙ ap (λ (x : Entry). node_after node_1 plan.second x to.nodes.second.begun p.second) same in
    let three : q.link ≡ (stepped_play plan p event).link
    = link ∙ ap (λ (w : PlainWorld). all_sent (length (world_of p.history).packets) e.packs (clock_of w) p.link) world ∙ ap (λ (x : Entry). all_sent (length (world_of p.history).packets) x.packs (clock_of to) p.link) same in
    ap (λ (x : History). record q { history = x }) history
    ∙ ap (λ (x : Interpreters). record q { history = stepped p.history event; first = x }) one
    ∙ ap (λ (x : Interpreters). record (stepped_play plan p event) { second = x; link = q.link }) two
    ∙ ap (λ (x : PlainLink). record (stepped_play plan p event) { link = x }) three

-- ---- no refusal

admitted_sent : (w : PlainWorld) (event : Event) → is_admitted w event ≡ true → is_unsent w event ≡ false
admitted_sent w (events.Deliver number) t = rw t refl
admitted_sent w _ t = refl

pub not_refused : (p : Playing) (event : Event) → GoesOn p → is_admitted (world_of p.history) event ≡ true → refusal p.history event ≡ None
not_refused p event on t = rw (on.lives, on.going, on.room, admitted_sent (world_of p.history) event t, t) refl

-- ---- how many ticks and packets

log_more : (h : History) (event : Event) → length (stepped h event).log ≡ length h.log + 1
log_more h event = length-append h.log ((step (world_of h) event).1 ∷ [])

-- the numbers of the packets that are sent
pub numbers_fit : (p : Playing) (event : Event) → GoesOn p → length (world_of p.history).packets + length (step (world_of p.history) event).1.packs < 4294967296
numbers_fit p event on =
    let within = ap (λ (w : PlainWorld). length w.packets) (stepped_world p.history event) in
    omega (arith, within, step_sends (world_of p.history) event, (within_length (stepped p.history event).conf (stepped p.history event).log).packets, log_more p.history event, room_short p.history.log on.room)

-- the tick at which they are sent
pub clock_fits : (p : Playing) (event : Event) → GoesOn p → clock_of (world_of (stepped p.history event)) < 4611686018427387904
clock_fits p event on =
    omega (arith, (within_length (stepped p.history event).conf (stepped p.history event).log).first.now, log_more p.history event, room_short p.history.log on.room)
