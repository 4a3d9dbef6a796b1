-- What each event comes to at its node.
use Rattle.std.proofs.Common.{◌≡◌, List, ◌++◌, map, Some, None, Result, Ok, Err, refl, ap, sym, subst, ◌∙◌}
use Rattle.std.specs.Prelude.{IfOk, slice_get}
use Rattle.std.proofs.lemmas.List.{append-nil}
use Rattle.std.proofs.lemmas.Option.{slice_get-map}
use Rattle.std.specs.Option.{option_map}
use Rattle.it_types.specs.declared.id.NodeId.{NodeId}
use Rattle.it_types.specs.declared.id.TaskId.{TaskId}
use Rattle.it_types.specs.declared.id.PackNo.{PackNo}
use Rattle.it_types.specs.declared.context.Ctx.{Ctx}
use Rattle.it_types.specs.declared.request.Req.{Req}
use Rattle.it_types.specs.declared.no_memory.NoMemory.{NoMemory}
use Rattle.it_types.specs.declared.event.Event.{Event}
use Rattle.it_types.specs.declared.event.Event.TheVariants as events
use Rattle.it_types.specs.declared.entry.Entry.{Entry}
use Rattle.it_types.specs.declared.entry.Out.{Out}
use Rattle.spec_node.specs.declared.event.NodeEv.{NodeEv}
use Rattle.spec_node.specs.declared.event.NodeEv.TheVariants.{Call, Return, Begin, Finish, Tick, Arrive}
use Rattle.spec_world.specs.PlainWorld.{Nodes, Packet, PlainWorld, nodes_step, peer_of, packet_from, entry_of, plain_entry, step_at, delivery, step}
use Rattle.w_world.specs.declared.sent.Sent.{Sent}
use Rattle.w_world.specs.declared.taking.Taken.{Taken}
use Rattle.w_world.specs.Sending.{bytes_in, packet_in, world_in}
use Rattle.w_world.specs.Takes.{nothing, Takes}

-- ---- an event that is one of a node

pub call_at : (w : PlainWorld) (id : NodeId) (ctx : Ctx) (request : Req) → step w (events.Call id ctx request) ≡ step_at w id (Call ctx request) (events.Call id ctx request)
unfolding step
call_at w id ctx request = refl

pub return_at : (w : PlainWorld) (id : NodeId) (task : TaskId) → step w (events.Return id task) ≡ step_at w id (Return task) (events.Return id task)
unfolding step
return_at w id task = refl

pub begin_at : (w : PlainWorld) (id : NodeId) → step w (events.Begin id) ≡ step_at w id Begin (events.Begin id)
unfolding step
begin_at w id = refl

pub finish_at : (w : PlainWorld) (id : NodeId) → step w (events.Finish id) ≡ step_at w id Finish (events.Finish id)
unfolding step
finish_at w id = refl

pub tick_at : (w : PlainWorld) (id : NodeId) → step w (events.Tick id) ≡ step_at w id Tick (events.Tick id)
unfolding step
tick_at w id = refl

-- what the node gives, or want of memory
pub at_node_takes : (w : PlainWorld) (event : Event) (id : NodeId) (node_event : NodeEv) (nodes : Nodes) (r : Result Taken NoMemory)
    → step w event ≡ step_at w id node_event event
    → IfOk r (λ t. (t.by ≡ id) × (nodes_step w.nodes id node_event ≡ (nodes, t.out)))
    → IfOk r (λ t. Takes w event nodes t.by t.out)
at_node_takes w event id node_event nodes (Ok t) is given =
    subst (λ by. Takes w event nodes by t.out) (sym given.0)
    (record { is = is ∙ ap (λ (r : Nodes × Out). (record { nodes = r.0; packets = w.packets ++ map (packet_from id) r.1.packs }, entry_of event r.1)) given.1 })
at_node_takes w event id node_event nodes (Err e) is given = tt

-- ---- deliveries

arrival_at : (w : PlainWorld) (number : PackNo) (packet : Packet)
    → slice_get w.packets number.0 ≡ Some packet
    → step w (events.Deliver number) ≡ step_at w (peer_of packet.sender) (Arrive packet.bytes) (events.Deliver number)
unfolding step
arrival_at w number packet found = ap (delivery w number) found

-- the packet that stands at this place reaches the other node
pub delivered_at : (before : Nodes) (log : List Entry) (sent : List Sent) (number : PackNo) (s : Sent)
    → slice_get sent number.0 ≡ Some s
    → step (world_in before log sent) (events.Deliver number) ≡ step_at (world_in before log sent) (peer_of s.by) (Arrive (bytes_in log s)) (events.Deliver number)
delivered_at before log sent number s found = arrival_at (world_in before log sent) number (packet_in log s) (slice_get-map (packet_in log) sent number.0 ∙ ap (option_map (packet_in log)) found)

-- ---- an event at no node

plain_takes : (w : PlainWorld) (event : Event) (by : NodeId) → step w event ≡ (w, plain_entry event) → Takes w event w.nodes by nothing
plain_takes w event by e = record { is = e ∙ ap (λ (ps : List Packet). (record { nodes = w.nodes; packets = ps }, plain_entry event)) (sym (append-nil w.packets)) }

pub stop_takes : (w : PlainWorld) (by : NodeId) → Takes w events.Stop w.nodes by nothing
unfolding step
stop_takes w by = plain_takes w events.Stop by refl

none_takes : (w : PlainWorld) (number : PackNo) (by : NodeId) → slice_get w.packets number.0 ≡ None → Takes w (events.Deliver number) w.nodes by nothing
unfolding step
none_takes w number by e = plain_takes w (events.Deliver number) by (ap (delivery w number) e)

-- a packet that was not sent reaches nobody
pub unsent_takes : (nodes : Nodes) (log : List Entry) (sent : List Sent) (number : PackNo) (by : NodeId) → slice_get sent number.0 ≡ None → Takes (world_in nodes log sent) (events.Deliver number) nodes by nothing
unsent_takes nodes log sent number by e = none_takes (world_in nodes log sent) number by (slice_get-map (packet_in log) sent number.0 ∙ ap (option_map (packet_in log)) e)
