-- What has come up to the next event: only the part of the play that makes it.
use Rattle.std.proofs.Common.{◌≡◌, ℕ, true, false, Bool, List, [], ◌∷◌, Option, Some, None, refl, ap, inl, inr}
use Rattle.std.specs.Prelude.{◌==◌, nat_le}
use Rattle.std.proofs.lemmas.Bool.{cases_Bool}
use Rattle.it_types.specs.declared.id.NodeId.{NodeId}
use Rattle.it_types.specs.declared.id.TaskId.{TaskId}
use Rattle.it_types.specs.declared.event.Event.{Event}
use Rattle.it_types.specs.declared.event.Event.TheVariants as events
use Rattle.spec_script.specs.declared.want.Want.{Want}
use Rattle.spec_script.specs.declared.want.Want.TheVariants as wants
use Rattle.spec_script.specs.Interpreter.{Interpreter}
use Rattle.spec_link.specs.declared.delivery.Delivery.{Delivery}
use Rattle.spec_link.specs.Deliveries.{packet_due, without_due}
use Rattle.spec_link.specs.Link.{PlainLink, first_due, taken}
use Rattle.spec_node.specs.PlainNode.{PlainNode, holds_answer}
use Rattle.spec_world.specs.History.{world_of}
use Rattle.spec_sim.specs.Bodies.{handler_event, handler_wants, wanted_event}
use Rattle.spec_sim.specs.Schedule.{Plan, node_0, node_1, clock_of, idle_event, is_at, is_over, link_asked, node_asked, task_event}
use Rattle.w_sim.specs.Playing.{Playing, asked_play, play_of}

-- ---- events of one node

-- the event is of one node, and no delivery
pub record IsOfOne (id other : NodeId) (event : Event) : Type 0 where
  pub elsewhere : is_at other event ≡ false
  pub link : (now : ℕ) (l : PlainLink) → link_asked event now l ≡ l

pub asked_on_first : (p : Playing) (event : Event) → IsOfOne node_0 node_1 event → asked_play p event ≡ record p { first = node_asked node_0 event p.first }
asked_on_first p event h = rw (h.elsewhere, h.link (clock_of (world_of p.history)) p.link) refl

pub asked_on_second : (p : Playing) (event : Event) → IsOfOne node_1 node_0 event → asked_play p event ≡ record p { second = node_asked node_1 event p.second }
asked_on_second p event h = rw (h.elsewhere, h.link (clock_of (world_of p.history)) p.link) refl

want_of_one : (id other : NodeId) (want : Want) → (id.0 == other.0) ≡ false → IsOfOne id other (wanted_event id want)
want_of_one id other (wants.Call request) f = record { elsewhere = f; link = λ now l. refl }
want_of_one id other wants.Finish f = record { elsewhere = f; link = λ now l. refl }

pub handler_of_one : (id other : NodeId) (i : Option Interpreter) → (id.0 == other.0) ≡ false → IsOfOne id other (handler_event id i)
handler_of_one id other i f = want_of_one id other (handler_wants i) f

pub task_of_one : (id other : NodeId) (n : PlainNode) (tasks : List (Option Interpreter)) (task : TaskId) → (id.0 == other.0) ≡ false → IsOfOne id other (task_event id n tasks task)
task_of_one id other n tasks task f = elim (cases_Bool (holds_answer n task)) [
  | inl t ↦ rw t (record { elsewhere = f; link = λ now l. refl })
  | inr g ↦ rw g (record { elsewhere = f; link = λ now l. refl })
]

-- ---- events of which nobody has to come up to

pub begins_asked : (p : Playing) (id : NodeId) → asked_play p (events.Begin id) ≡ p
begins_asked p id = elim (cases_Bool (id.0 == 0)) [
  | inl t ↦ elim (cases_Bool (id.0 == 1)) [ inl u ↦ rw (t, u) refl | inr g ↦ rw (t, g) refl ]
  | inr f ↦ elim (cases_Bool (id.0 == 1)) [ inl u ↦ rw (f, u) refl | inr g ↦ rw (f, g) refl ]
]

idle_asked_at : (plan : Plan) (p : Playing) (over : Bool) → is_over plan (play_of p) ≡ over → asked_play p (idle_event plan (play_of p)) ≡ p
idle_asked_at plan p true t = rw t refl
idle_asked_at plan p false f = rw f (elim (cases_Bool (nat_le (world_of p.history).nodes.first.kernel.clock.now (world_of p.history).nodes.second.kernel.clock.now)) [
  | inl t ↦ rw t refl
  | inr g ↦ rw g refl
])

pub idle_asked : (plan : Plan) (p : Playing) → asked_play p (idle_event plan (play_of p)) ≡ p
idle_asked plan p = idle_asked_at plan p (is_over plan (play_of p)) refl

-- ---- deliveries

none_without : (now : ℕ) (ds : List Delivery) → packet_due now ds ≡ None → without_due now ds ≡ ds
none_without now [] none = refl
none_without now (d ∷ ds) none = elim (cases_Bool (nat_le d.due now)) [
  | inl t ↦ absurd (let some : Some d.packet ≡ None = rw t at none in cc)
  | inr f ↦ rw f refl
]

-- where none is due, none is taken
pub none_taken : (now : ℕ) (l : PlainLink) → first_due now l ≡ None → taken now l ≡ l
none_taken now l none = ap (λ (ds : List Delivery). record l { waiting = ds }) (none_without now l.waiting none)
