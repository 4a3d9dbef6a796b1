-- Each delivery that is left is of a packet that was sent, whatever the events are.
use Rattle.std.proofs.Common.{◌≡◌, ℕ, ◌+◌, ◌<◌, ◌≤◌, List, [], ◌∷◌, length, map, Option, Some, None, inl, inr, arith}
use Rattle.std.specs.Prelude.{nat_le, slice_get}
use Rattle.std.specs.List.{AllByRecursion}
use Rattle.std.specs.Ordering.{is_lt}
use Rattle.std.proofs.lemmas.Bool.{cases_Bool}
use Rattle.std.proofs.lemmas.List.{length-append, length-map}
use Rattle.it_types.specs.declared.id.NodeId.{NodeId}
use Rattle.it_types.specs.declared.id.PackNo.{PackNo}
use Rattle.it_types.specs.declared.event.Event.{Event}
use Rattle.it_types.specs.declared.event.Event.TheVariants as events
use Rattle.spec_link.specs.declared.delivery.Delivery.{Delivery}
use Rattle.spec_link.specs.declared.fate.Fate.{Fate}
use Rattle.spec_link.specs.declared.fate.Fate.TheVariants.{Lost, Once, Twice}
use Rattle.spec_link.specs.Deliveries.{in_turn, with_delivery, with_deliveries, copies, packet_due, without_due}
use Rattle.spec_link.specs.Link.{PlainLink, next_fate, sent}
use Rattle.spec_node.specs.declared.event.NodeEv.{NodeEv}
use Rattle.spec_node.specs.declared.event.NodeEv.TheVariants.{Call, Return, Begin, Finish, Tick, Arrive}
use Rattle.spec_world.specs.PlainWorld.{Packet, PlainWorld, packet_from, peer_of, nodes_step, step_at, delivery, step}
use Rattle.spec_sim.specs.Schedule.{Plan, PlainPlay, AreSent, clock_of, link_asked, all_sent, after}

-- each is of one of the first so many packets
abbrev AreOf : ℕ → List Delivery → Type 0
AreOf packets ds = AllByRecursion (λ d. d.packet.0 < packets) ds

-- ---- one delivery

due_if : (packets now : ℕ) (d : Delivery) (ds : List Delivery) (packet : PackNo) → d.packet.0 < packets → packet_due now (d ∷ ds) ≡ Some packet → packet.0 < packets
due_if packets now d ds packet lt e = elim (cases_Bool (nat_le d.due now)) [
  | inl t ↦ let same : d.packet ≡ packet = some_is (rw t at e) in rw (← same) lt
  | inr f ↦ absurd (let none : None ≡ Some packet = rw f at e in cc)
]
  where
    some_is : {x y : PackNo} → Some x ≡ Some y → x ≡ y
    some_is e = cc

-- the first that is due
pub due_sent : (packets now : ℕ) (ds : List Delivery) (packet : PackNo) → AreOf packets ds → packet_due now ds ≡ Some packet → packet.0 < packets
due_sent packets now [] packet all e = absurd cc
due_sent packets now (d ∷ ds) packet all e = due_if packets now d ds packet all.0 e

-- the others
without_sent : (packets now : ℕ) (ds : List Delivery) → AreOf packets ds → AreOf packets (without_due now ds)
without_sent packets now [] all = tt
without_sent packets now (d ∷ ds) all = elim (cases_Bool (nat_le d.due now)) [ inl t ↦ rw t all.1 | inr f ↦ rw f all ]

with_sent : (packets : ℕ) (d : Delivery) (ds : List Delivery) → d.packet.0 < packets → AreOf packets ds → AreOf packets (with_delivery d ds)
with_sent packets d [] lt all = (lt, tt)
with_sent packets d (e ∷ es) lt all = elim (cases_Bool (is_lt (in_turn e d))) [ inl t ↦ rw t (all.0, with_sent packets d es lt all.1) | inr f ↦ rw f (lt, all) ]

-- of more packets
more_sent : (packets more : ℕ) (ds : List Delivery) → packets ≤ more → AreOf packets ds → AreOf more ds
more_sent packets more [] le all = tt
more_sent packets more (d ∷ ds) le all = (omega (arith, le, all.0), more_sent packets more ds le all.1)

-- ---- packets that are sent

copies_sent : (packets : ℕ) (packet : PackNo) (now : ℕ) (fate : Fate) (ds : List Delivery) → packet.0 < packets → AreOf packets ds → AreOf packets (with_deliveries (copies packet now fate) ds)
copies_sent packets packet now Lost ds lt all = all
copies_sent packets packet now (Once late) ds lt all = with_sent packets (record { due = now + late; packet = packet; copy = 1 }) ds lt all
copies_sent packets packet now (Twice first second) ds lt all =
    with_sent packets (record { due = now + second; packet = packet; copy = 2 }) (with_delivery (record { due = now + first; packet = packet; copy = 1 }) ds) lt
    (with_sent packets (record { due = now + first; packet = packet; copy = 1 }) ds lt all)

one_sent : (packets : ℕ) (packet : PackNo) (now : ℕ) (l : PlainLink) → packet.0 < packets → AreSent packets l → AreSent packets (sent packet now l)
unfolding sent
one_sent packets packet now l lt all = copies_sent packets packet now (next_fate l) l.waiting lt all

each_sent : (packets number : ℕ) (packs : List (List ℕ)) (now : ℕ) (l : PlainLink) → number + length packs ≤ packets → AreSent packets l → AreSent packets (all_sent number packs now l)
each_sent packets number [] now l le all = all
each_sent packets number (pack ∷ packs) now l le all =
    each_sent packets (number + 1) packs now (sent (record { 0 = number }) now l) (omega (arith, le)) (one_sent packets (record { 0 = number }) now l (omega (arith, le)) all)

-- ---- an event

-- the packets after an event are those before it and the entry's
step_at_sends : (w : PlainWorld) (id : NodeId) (node_event : NodeEv) (event : Event) → length (step_at w id node_event event).0.packets ≡ length w.packets + length (step_at w id node_event event).1.packs
step_at_sends w id node_event event =
    let packs = (nodes_step w.nodes id node_event).1.packs in
    omega (arith, length-append w.packets (map (packet_from id) packs), length-map packs (packet_from id))

delivery_sends : (w : PlainWorld) (number : PackNo) (found : Option Packet) → length (delivery w number found).0.packets ≡ length w.packets + length (delivery w number found).1.packs
delivery_sends w number None = omega arith
delivery_sends w number (Some packet) = step_at_sends w (peer_of packet.sender) (Arrive packet.bytes) (events.Deliver number)

pub step_sends : (w : PlainWorld) (event : Event) → length (step w event).0.packets ≡ length w.packets + length (step w event).1.packs
unfolding step
step_sends w (events.Call id ctx request) = step_at_sends w id (Call ctx request) (events.Call id ctx request)
step_sends w (events.Return id task) = step_at_sends w id (Return task) (events.Return id task)
step_sends w (events.Begin id) = step_at_sends w id Begin (events.Begin id)
step_sends w (events.Finish id) = step_at_sends w id Finish (events.Finish id)
step_sends w (events.Tick id) = step_at_sends w id Tick (events.Tick id)
step_sends w (events.Deliver number) = delivery_sends w number (slice_get w.packets number.0)
step_sends w events.Stop = omega arith

asked_sent : (packets : ℕ) (event : Event) (now : ℕ) (l : PlainLink) → AreSent packets l → AreSent packets (link_asked event now l)
asked_sent packets (events.Deliver number) now l all = without_sent packets now l.waiting all
asked_sent packets (events.Call id ctx request) now l all = all
asked_sent packets (events.Return id task) now l all = all
asked_sent packets (events.Begin id) now l all = all
asked_sent packets (events.Finish id) now l all = all
asked_sent packets (events.Tick id) now l all = all
asked_sent packets events.Stop now l all = all

-- after an event each delivery that is left is of a packet that was sent
pub after_sent : (plan : Plan) (p : PlainPlay) (event : Event) → AreSent (length p.world.packets) p.link → AreSent (length (after plan p event).0.world.packets) (after plan p event).0.link
unfolding after
after_sent plan p event all =
    let packets : ℕ = length (step p.world event).0.packets in
    let sends = step_sends p.world event in
    let l : PlainLink = link_asked event (clock_of p.world) p.link in
    let before : AreSent packets l = more_sent (length p.world.packets) packets l.waiting (omega (arith, sends)) (asked_sent (length p.world.packets) event (clock_of p.world) p.link all) in
    each_sent packets (length p.world.packets) (step p.world event).1.packs (clock_of (step p.world event).0) l (omega (arith, sends)) before
