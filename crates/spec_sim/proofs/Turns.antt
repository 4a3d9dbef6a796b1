-- The schedule's next event is admitted.
use Rattle.std.proofs.Common.{◌≡◌, ◌<◌, true, false, List, length, Option, Some, None, refl, inl, inr}
use Rattle.std.specs.Prelude.{nat_le}
use Rattle.std.proofs.lemmas.Bool.{cases_Bool, eq-eqb, lt-ltb}
use Rattle.spec_lists.proofs.Firsts.{cases_of_first}
use Rattle.it_types.specs.declared.id.NodeId.{NodeId}
use Rattle.it_types.specs.declared.event.Event.TheVariants as events
use Rattle.it_types.specs.declared.handler.Handler.{Handler}
use Rattle.it_types.specs.declared.id.PackNo.{PackNo}
use Rattle.spec_script.specs.declared.want.Want.{Want}
use Rattle.spec_script.specs.declared.want.Want.TheVariants as wants
use Rattle.spec_script.specs.Interpreter.{Interpreter}
use Rattle.spec_node.specs.PlainNode.{PlainNode, running_task, holds_answer, has_due}
use Rattle.spec_node.specs.Admitted.{is_free}
use Rattle.spec_world.specs.PlainWorld.{PlainWorld, node_at}
use Rattle.spec_world.specs.Admitted.{is_admitted}
use Rattle.spec_sim.specs.Bodies.{handler_wants, wanted_event, handler_event}
use Rattle.spec_sim.proofs.Sent.{due_sent}
use Rattle.spec_sim.specs.Schedule.{Plan, PlainPlay, AreSent, node_0, node_1, clock_of, due_packet, runs, task_event, is_over, idle_event, running_event, packet_event, due_event, next}

-- ---- which event is next

pub next_of_first_begun : (plan : Plan) (p : PlainPlay) (h : Handler) → p.world.nodes.first.begun ≡ Some h → next plan p ≡ handler_event node_0 p.first.handler
unfolding next
next_of_first_begun plan p h e = rw e refl

pub next_of_second_begun : (plan : Plan) (p : PlainPlay) (h : Handler)
    → p.world.nodes.first.begun ≡ None
    → p.world.nodes.second.begun ≡ Some h
    → next plan p ≡ handler_event node_1 p.second.handler
unfolding next
next_of_second_begun plan p h f e = rw (f, e) refl

pub next_of_none_begun : (plan : Plan) (p : PlainPlay) → p.world.nodes.first.begun ≡ None → p.world.nodes.second.begun ≡ None → next plan p ≡ due_event plan p
unfolding next
next_of_none_begun plan p f g = rw (f, g) refl

pub due_on_first : (plan : Plan) (p : PlainPlay) → has_due p.world.nodes.first ≡ true → due_event plan p ≡ events.Begin node_0
due_on_first plan p t = rw t refl

pub due_on_second : (plan : Plan) (p : PlainPlay) → has_due p.world.nodes.first ≡ false → has_due p.world.nodes.second ≡ true → due_event plan p ≡ events.Begin node_1
due_on_second plan p f t = rw (f, t) refl

pub due_on_none : (plan : Plan) (p : PlainPlay) → has_due p.world.nodes.first ≡ false → has_due p.world.nodes.second ≡ false → due_event plan p ≡ packet_event plan p
due_on_none plan p f g = rw (f, g) refl

pub packet_delivered : (plan : Plan) (p : PlainPlay) (packet : PackNo) → due_packet p ≡ Some packet → packet_event plan p ≡ events.Deliver packet
packet_delivered plan p packet e = rw e refl

pub packet_none : (plan : Plan) (p : PlainPlay) → due_packet p ≡ None → packet_event plan p ≡ running_event plan p
packet_none plan p e = rw e refl

pub running_on_first : (plan : Plan) (p : PlainPlay)
    → runs p.world.nodes.first ≡ true
    → running_event plan p ≡ task_event node_0 p.world.nodes.first p.first.tasks (running_task p.world.nodes.first)
running_on_first plan p t = rw t refl

pub running_on_second : (plan : Plan) (p : PlainPlay)
    → runs p.world.nodes.first ≡ false
    → runs p.world.nodes.second ≡ true
    → running_event plan p ≡ task_event node_1 p.world.nodes.second p.second.tasks (running_task p.world.nodes.second)
running_on_second plan p f t = rw (f, t) refl

pub running_on_none : (plan : Plan) (p : PlainPlay) → runs p.world.nodes.first ≡ false → runs p.world.nodes.second ≡ false → running_event plan p ≡ idle_event plan p
running_on_none plan p f g = rw (f, g) refl

-- ---- what is admitted

-- no handler has begun at the node, and none is due
pub record IsFreeOfHandlers (n : PlainNode) : Type 0 where
  pub begun : n.begun ≡ None
  pub due : has_due n ≡ false

want_admitted : (w : PlainWorld) (id : NodeId) (h : Handler) (want : Want)
    → nat_le id.0 1 ≡ true
    → (node_at w.nodes id).begun ≡ Some h
    → is_admitted w (wanted_event id want) ≡ true
want_admitted w id h (wants.Call request) known e = rw (known, e) refl
want_admitted w id h wants.Finish known e = rw (known, e) refl

pub handler_admitted : (w : PlainWorld) (id : NodeId) (h : Handler) (i : Option Interpreter)
    → nat_le id.0 1 ≡ true
    → (node_at w.nodes id).begun ≡ Some h
    → is_admitted w (handler_event id i) ≡ true
handler_admitted w id h i known e = want_admitted w id h (handler_wants i) known e

pub begin_admitted : (w : PlainWorld) (id : NodeId)
    → nat_le id.0 1 ≡ true
    → (node_at w.nodes id).begun ≡ None
    → has_due (node_at w.nodes id) ≡ true
    → is_admitted w (events.Begin id) ≡ true
begin_admitted w id known none t = rw (known, none, t) refl

-- the task that runs is the running one
running_now : (n : PlainNode) → IsFreeOfHandlers n → runs n ≡ true → is_free n (running_task n) ≡ true
running_now n h t = rw (h.begun, h.due, t, eq-eqb (running_task n).0 (running_task n).0 refl) refl

pub turn_admitted : (w : PlainWorld) (id : NodeId) (tasks : List (Option Interpreter))
    → nat_le id.0 1 ≡ true
    → IsFreeOfHandlers (node_at w.nodes id)
    → runs (node_at w.nodes id) ≡ true
    → is_admitted w (task_event id (node_at w.nodes id) tasks (running_task (node_at w.nodes id))) ≡ true
turn_admitted w id tasks known free t = elim (cases_Bool (holds_answer (node_at w.nodes id) (running_task (node_at w.nodes id)))) [
  | inl h ↦ rw (h, known, running_now (node_at w.nodes id) free t, h) refl
  | inr h ↦ rw (h, known, running_now (node_at w.nodes id) free t, h) refl
]

pub idle_admitted : (plan : Plan) (p : PlainPlay) → is_admitted p.world (idle_event plan p) ≡ true
idle_admitted plan p = elim (cases_Bool (is_over plan p)) [
  | inl t ↦ rw t refl
  | inr f ↦ rw f (elim (cases_Bool (nat_le p.world.nodes.first.kernel.clock.now p.world.nodes.second.kernel.clock.now)) [ inl t ↦ rw t refl | inr g ↦ rw g refl ])
]

running_admitted : (plan : Plan) (p : PlainPlay)
    → IsFreeOfHandlers p.world.nodes.first
    → IsFreeOfHandlers p.world.nodes.second
    → is_admitted p.world (running_event plan p) ≡ true
running_admitted plan p first second = elim (cases_Bool (runs p.world.nodes.first)) [
  | inl t ↦ rw (running_on_first plan p t) (turn_admitted p.world node_0 p.first.tasks refl first t)
  | inr f ↦ elim (cases_Bool (runs p.world.nodes.second)) [
    | inl t ↦ rw (running_on_second plan p f t) (turn_admitted p.world node_1 p.second.tasks refl second t)
    | inr g ↦ rw (running_on_none plan p f g) (idle_admitted plan p)
  ]
]

-- a delivery is of a packet that was sent
delivery_admitted : (w : PlainWorld) (packet : PackNo) → packet.0 < length w.packets → is_admitted w (events.Deliver packet) ≡ true
delivery_admitted w packet lt = rw (lt-ltb packet.0 (length w.packets) lt) refl

packet_admitted : (plan : Plan) (p : PlainPlay)
    → AreSent (length p.world.packets) p.link
    → IsFreeOfHandlers p.world.nodes.first
    → IsFreeOfHandlers p.world.nodes.second
    → is_admitted p.world (packet_event plan p) ≡ true
packet_admitted plan p sent first second = elim (cases_of_first (due_packet p)) [
  | inr d ↦ rw (packet_delivered plan p d.0 d.1) (delivery_admitted p.world d.0 (due_sent (length p.world.packets) (clock_of p.world) p.link.waiting d.0 sent d.1))
  | inl e ↦ rw (packet_none plan p e) (running_admitted plan p first second)
]

due_admitted : (plan : Plan) (p : PlainPlay)
    → AreSent (length p.world.packets) p.link
    → p.world.nodes.first.begun ≡ None
    → p.world.nodes.second.begun ≡ None
    → is_admitted p.world (due_event plan p) ≡ true
due_admitted plan p sent none second_none = elim (cases_Bool (has_due p.world.nodes.first)) [
  | inl t ↦ rw (due_on_first plan p t) (begin_admitted p.world node_0 refl none t)
  | inr f ↦ elim (cases_Bool (has_due p.world.nodes.second)) [
    | inl t ↦ rw (due_on_second plan p f t) (begin_admitted p.world node_1 refl second_none t)
    | inr g ↦ rw (due_on_none plan p f g) (packet_admitted plan p sent (record { begun = none; due = f }) (record { begun = second_none; due = g }))
  ]
]

-- where only packets that were sent are left to be delivered
pub next_admitted : (plan : Plan) (p : PlainPlay) → AreSent (length p.world.packets) p.link → is_admitted p.world (next plan p) ≡ true
next_admitted plan p sent = elim (cases_of_first p.world.nodes.first.begun) [
  | inr h ↦ rw (next_of_first_begun plan p h.0 h.1) (handler_admitted p.world node_0 h.0 p.first.handler refl h.1)
  | inl e ↦ elim (cases_of_first p.world.nodes.second.begun) [
    | inr h ↦ rw (next_of_second_begun plan p h.0 e h.1) (handler_admitted p.world node_1 h.0 p.second.handler refl h.1)
    | inl f ↦ rw (next_of_none_begun plan p e f) (due_admitted plan p sent e f)
  ]
]
