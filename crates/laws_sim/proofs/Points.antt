-- The schedule's next event is that of the first point that applies.
use Rattle.std.proofs.Common.{◌≡◌, ℕ, ◌≤◌, zero, suc, Bool, true, false, not, ◌&&◌, ◌||◌, List, [], ◌∷◌, Option, Some, None, refl, sym, ap, subst, ◌∙◌, inl, inr}
use mathlib.Core.Logic.{◌≢◌}
use Rattle.std.specs.Prelude.{◌==◌, nat_le, is_some}
use Rattle.std.specs.List.{list_any}
use Rattle.std.proofs.Math.Bool.{or-true}
use Rattle.std.proofs.lemmas.Bool.{and_parts, cases_Bool, eqb-true, eq-eqb, leb-true, leb-false, le-leb, not-true}
use Rattle.it_types.specs.declared.id.NodeId.{NodeId}
use Rattle.it_types.specs.declared.id.TaskId.{TaskId}
use Rattle.it_types.specs.declared.id.PackNo.{PackNo}
use Rattle.it_types.specs.declared.handler.Handler.{Handler}
use Rattle.spec_lists.specs.Tables.{get}
use Rattle.spec_lists.proofs.Firsts.{cases_of_first}
use Rattle.spec_kernel.specs.declared.task_block.TaskBlock.{TaskBlock}
use Rattle.spec_kernel.specs.TaskBlocks.{is_active}
use Rattle.spec_script.specs.declared.want.Want.{Want}
use Rattle.spec_script.specs.declared.want.Want.TheVariants as wants
use Rattle.spec_script.specs.Interpreter.{Interpreter}
use Rattle.spec_pend.specs.Ends.{first_due}
use Rattle.spec_link.specs.declared.delivery.Delivery.{Delivery}
use Rattle.spec_link.specs.Deliveries.{IsInTurn, packet_due}
use Rattle.spec_link.specs.Link.{is_idle, is_none_left}
use Rattle.spec_link.proofs.Sendings.{none_due}
use Rattle.spec_node.specs.PlainNode.{PlainNode, running_task, has_due}
use Rattle.spec_sim.specs.Bodies.{handler_wants, wanted_event, handler_event}
use Rattle.spec_sim.specs.Schedule.{Plan, PlainPlay, node_0, node_1, clock_of, due_packet, runs, task_event, is_any_active, is_over, idle_event, running_event, packet_event, due_event, next}
use Rattle.spec_sim.proofs.Turns.{next_of_first_begun, next_of_second_begun, next_of_none_begun, due_on_first, due_on_second, due_on_none, packet_delivered, packet_none, running_on_first, running_on_second, running_on_none}
use Rattle.laws_sim.specs.Scheduled.{IsDue, NoneHasBegun, HandlersAreOver, IsHandlerEvent, IsQuiet, Runs, IsIdle, IsDormant, IsTaskEvent, IsStill, IsOver, IsScheduled}
use Rattle.laws_sim.specs.Scheduled.{calls, finishes, returns, asks, dormant, ticked, handler_of_first, handler_of_second, begin_on_first, begin_on_second, delivery, task_of_first, task_of_second, stop, tick_of_first, tick_of_second}

-- ---- tests and facts

runs_true : (n : PlainNode) → runs n ≡ true → Runs n (running_task n)
runs_true n e = record { some = λ z. let t : ((running_task n).0 == 0) ≡ true = eq-eqb _ _ z in absurd (let f : not true ≡ true = ap not (sym t) ∙ e in cc); running = refl }

runs_false : (n : PlainNode) → runs n ≡ false → IsIdle n
runs_false n e = elim (cases_Bool ((running_task n).0 == 0)) [
  | inl t ↦ record { none = eqb-true _ _ t }
  | inr t ↦ absurd (let f : not false ≡ false = ap not (sym t) ∙ e in cc)
]

none_active : (tasks : List (Option TaskBlock)) → list_any is_active tasks ≡ false → (id : ℕ) → is_active (get tasks id) ≡ false
none_active [] e id = refl
none_active (t ∷ ts) e zero = elim (cases_Bool (is_active t)) [ inl a ↦ absurd (let f : true ≡ false = sym (rw a refl) ∙ e in cc) | inr a ↦ a ]
none_active (t ∷ ts) e (suc id) = elim (cases_Bool (is_active t)) [ inl a ↦ absurd (let f : true ≡ false = sym (rw a refl) ∙ e in cc) | inr a ↦ none_active ts (rw a at e) id ]

active_none : (tasks : List (Option TaskBlock)) → ((id : ℕ) → is_active (get tasks id) ≡ false) → list_any is_active tasks ≡ false
active_none [] h = refl
active_none (t ∷ ts) h = rw (h 0, active_none ts (λ id. h (suc id))) refl

all_dormant : (n : PlainNode) → is_any_active n ≡ false → IsDormant n
all_dormant n e = record { tasks = none_active n.kernel.tasks e }

not_active : (n : PlainNode) → IsDormant n → is_any_active n ≡ false
not_active n h = active_none n.kernel.tasks h.tasks

-- ---- handlers

is_some_first : (due : List Handler) → is_some (first_due due) ≡ true → due ≢ []
is_some_first [] e = cc
is_some_first (h ∷ hs) e = λ f. cc

is_none_first : (due : List Handler) → is_some (first_due due) ≡ false → due ≡ []
is_none_first [] e = refl
is_none_first (h ∷ hs) e = cc

due_true : (n : PlainNode) → has_due n ≡ true → IsDue n
due_true n t = record { some = is_some_first n.net.pend.due t }

due_false : (n : PlainNode) → has_due n ≡ false → n.net.pend.due ≡ []
due_false n f = is_none_first n.net.pend.due f

want_due : (id : NodeId) (i : Option Interpreter) (want : Want) → handler_wants i ≡ want → IsHandlerEvent id i (wanted_event id want)
want_due id i (wants.Call request) e = calls request e
want_due id i wants.Finish e = finishes e

handler_due : (id : NodeId) (i : Option Interpreter) → IsHandlerEvent id i (handler_event id i)
handler_due id i = want_due id i (handler_wants i) refl

-- ---- the task's turn

turn_due : (id : NodeId) (n : PlainNode) (tasks : List (Option Interpreter)) (task : TaskId) → IsTaskEvent id n tasks task (task_event id n tasks task)
turn_due id n tasks task = elim (cases_of_first (get n.held task.0)) [ inl e ↦ rw e (asks e) | inr w ↦ rw w.1 (returns w.0 w.1) ]

-- ---- the stop and the ticks

none_left : (ds : List Delivery) → is_none_left ds ≡ true → ds ≡ []
none_left [] t = refl
none_left (d ∷ ds) t = absurd cc

abbrev is_asleep : PlainPlay → Bool
is_asleep p = not (is_any_active p.world.nodes.first) && (not (is_any_active p.world.nodes.second) && is_idle p.link)

abbrev is_ticked : Plan → PlainPlay → Bool
is_ticked plan p = nat_le plan.ticks p.world.nodes.first.kernel.clock.now && nat_le plan.ticks p.world.nodes.second.kernel.clock.now

asleep : (plan : Plan) (p : PlainPlay) → is_asleep p ≡ true → IsOver plan p
asleep plan p t =
    let first = and_parts (not (is_any_active p.world.nodes.first)) (not (is_any_active p.world.nodes.second) && is_idle p.link) t in
    let second = and_parts (not (is_any_active p.world.nodes.second)) (is_idle p.link) first.1 in
    dormant (all_dormant p.world.nodes.first (not-true _ first.0)) (all_dormant p.world.nodes.second (not-true _ second.0)) (none_left p.link.waiting second.1)

all_ticked : (plan : Plan) (p : PlainPlay) → is_ticked plan p ≡ true → IsOver plan p
all_ticked plan p t =
    let both = and_parts (nat_le plan.ticks p.world.nodes.first.kernel.clock.now) (nat_le plan.ticks p.world.nodes.second.kernel.clock.now) t in
    ticked (leb-true _ _ both.0) (leb-true _ _ both.1)

over_true : (plan : Plan) (p : PlainPlay) → is_over plan p ≡ true → IsOver plan p
over_true plan p e = elim (cases_Bool (is_asleep p)) [ inl t ↦ asleep plan p t | inr f ↦ all_ticked plan p (ap (λ (b : Bool). b || is_ticked plan p) (sym f) ∙ e) ]

is_over_true : (plan : Plan) (p : PlainPlay) → IsOver plan p → is_over plan p ≡ true
is_over_true plan p (dormant a b none) = rw (not_active p.world.nodes.first a, not_active p.world.nodes.second b, none) refl
is_over_true plan p (ticked a b) = rw (le-leb _ _ a, le-leb _ _ b) (or-true (is_asleep p))

over_false : (plan : Plan) (p : PlainPlay) → is_over plan p ≡ false → IsOver plan p → ⊥
over_false plan p f over = let wrong : true ≡ false = sym (is_over_true plan p over) ∙ f in cc

idle_due : (plan : Plan) (p : PlainPlay) → IsStill p → IsScheduled plan p (idle_event plan p)
idle_due plan p still = elim (cases_Bool (is_over plan p)) [
  | inl t ↦ rw t (stop still (over_true plan p t))
  | inr f ↦ rw f (elim (cases_Bool (nat_le p.world.nodes.first.kernel.clock.now p.world.nodes.second.kernel.clock.now)) [
    | inl u ↦ rw u (tick_of_first still (over_false plan p f) (leb-true _ _ u))
    | inr u ↦ rw u (tick_of_second still (over_false plan p f) (leb-false _ _ u))
  ])
]

running_due : (plan : Plan) (p : PlainPlay) → IsQuiet p → IsScheduled plan p (running_event plan p)
running_due plan p quiet = elim (cases_Bool (runs p.world.nodes.first)) [
  | inl t ↦ rw (running_on_first plan p t) (task_of_first _ _ quiet (runs_true _ t) (turn_due node_0 p.world.nodes.first p.first.tasks (running_task p.world.nodes.first)))
  | inr f ↦ elim (cases_Bool (runs p.world.nodes.second)) [
    | inl t ↦ rw (running_on_second plan p f t) (task_of_second _ _ quiet (runs_false _ f) (runs_true _ t) (turn_due node_1 p.world.nodes.second p.second.tasks (running_task p.world.nodes.second)))
    | inr g ↦ rw (running_on_none plan p f g) (idle_due plan p (record { quiet = quiet; first = runs_false _ f; second = runs_false _ g }))
  ]
]

-- ---- the delivery

-- the first delivery, where its packet is due
pub record IsDueNow (now : ℕ) (ds : List Delivery) (packet : PackNo) : Type 0 where
  pub delivered : Delivery
  pub later : List Delivery
  pub first : ds ≡ delivered ∷ later
  pub due : delivered.due ≤ now
  pub same : delivered.packet ≡ packet

due_now : (now : ℕ) (ds : List Delivery) (packet : PackNo) → packet_due now ds ≡ Some packet → IsDueNow now ds packet
due_now now [] packet e = absurd cc
due_now now (d ∷ ds) packet e = elim (cases_Bool (nat_le d.due now)) [
  | inl t ↦ record { delivered = d; later = ds; first = refl; due = leb-true _ _ t; same = some_is (rw t at e) }
  | inr f ↦ absurd (let none : None ≡ Some packet = rw f at e in cc)
]
  where
    some_is : {x y : PackNo} → Some x ≡ Some y → x ≡ y
    some_is e = cc

packet_due_now : (plan : Plan) (p : PlainPlay)
    → IsInTurn p.link.waiting
    → HandlersAreOver p.world.nodes
    → IsScheduled plan p (packet_event plan p)
packet_due_now plan p turns over = elim (cases_of_first (due_packet p)) [
  | inr packet ↦
      let now = due_now (clock_of p.world) p.link.waiting packet.0 packet.1 in
      let kept : IsInTurn (now.delivered ∷ now.later) = subst IsInTurn now.first turns in
      rw (packet_delivered plan p packet.0 packet.1, ← now.same) (delivery now.delivered over (record { later = now.later; first = now.first; due = now.due; before = kept.0 }))
  | inl e ↦ rw (packet_none plan p e) (running_due plan p (record { handlers = over; later = (none_due (clock_of p.world) p.link.waiting turns).0 e }))
]

-- ---- all points

begin_due : (plan : Plan) (p : PlainPlay) → IsInTurn p.link.waiting → NoneHasBegun p.world.nodes → IsScheduled plan p (due_event plan p)
begin_due plan p turns none = elim (cases_Bool (has_due p.world.nodes.first)) [
  | inl t ↦ rw (due_on_first plan p t) (begin_on_first none (due_true p.world.nodes.first t))
  | inr f ↦ elim (cases_Bool (has_due p.world.nodes.second)) [
    | inl t ↦ rw (due_on_second plan p f t) (begin_on_second none (due_false p.world.nodes.first f) (due_true p.world.nodes.second t))
    | inr g ↦ rw (due_on_none plan p f g) (packet_due_now plan p turns (record { begun = none; first = due_false p.world.nodes.first f; second = due_false p.world.nodes.second g }))
  ]
]

pub next_scheduled : (plan : Plan) (p : PlainPlay) → IsInTurn p.link.waiting → IsScheduled plan p (next plan p)
next_scheduled plan p turns = elim (cases_of_first p.world.nodes.first.begun) [
  | inr h ↦ rw (next_of_first_begun plan p h.0 h.1) (handler_of_first h.0 _ h.1 (handler_due node_0 p.first.handler))
  | inl e ↦ elim (cases_of_first p.world.nodes.second.begun) [
    | inr h ↦ rw (next_of_second_begun plan p h.0 e h.1) (handler_of_second h.0 _ e h.1 (handler_due node_1 p.second.handler))
    | inl f ↦ rw (next_of_none_begun plan p e f) (begin_due plan p turns (record { first = e; second = f }))
  ]
]
