-- Two nodes and the packets between them, and the step of an event. It is this project's own.
use Rattle.std.specs.Prelude.{ℕ, List, [], ◌++◌, Option, Some, None, map, slice_get, ◌==◌, if◌then◌else◌}
use Rattle.it_types.specs.declared.id.NodeId.{NodeId}
use Rattle.it_types.specs.declared.id.PackNo.{PackNo}
use Rattle.it_types.specs.declared.event.Event.{Event}
use Rattle.it_types.specs.declared.event.Event.TheVariants as events
use Rattle.it_types.specs.declared.answer.Ans.TheVariants.{Quiet}
use Rattle.it_types.specs.declared.entry.Out.{Out}
use Rattle.it_types.specs.declared.entry.Entry.{Entry}
use Rattle.it_types.specs.declared.node_conf.NodeConf.{NodeConf}
use Rattle.it_types.specs.declared.node_conf.Conf.{Conf}
use Rattle.it_types.specs.Configuration.{kernel_conf, first_conf, second_conf}
use Rattle.spec_node.specs.declared.event.NodeEv.{NodeEv}
use Rattle.spec_node.specs.declared.event.NodeEv.TheVariants.{Call, Return, Begin, Finish, Tick, Arrive}
use Rattle.spec_node.specs.PlainNode.{PlainNode, opened_node}
use Rattle.spec_node.specs.NodeStep.{node_step}

pub record Nodes : Type 0 where
  pub first : PlainNode  -- node 0
  pub second : PlainNode  -- node 1

-- a packet that was sent
pub record Packet : Type 0 where
  pub sender : NodeId
  pub bytes : List ℕ

pub record PlainWorld : Type 0 where
  pub nodes : Nodes
  pub packets : List Packet  -- all that were sent, in the order of sending

-- ---- the nodes

abbrev pub node_at : Nodes → NodeId → PlainNode
node_at nodes id = if id.0 == 0 then nodes.first else nodes.second

abbrev pub with_node : Nodes → NodeId → PlainNode → Nodes
with_node nodes id node = record { first = if id.0 == 0 then node else nodes.first; second = if id.0 == 0 then nodes.second else node }

-- the node that the packets of this one reach
abbrev pub peer_of : NodeId → NodeId
peer_of id = record { 0 = if id.0 == 0 then 1 else 0 }

-- an event at one node: the nodes after it, and what it gives
abbrev pub nodes_step : Nodes → NodeId → NodeEv → Nodes × Out
nodes_step nodes id event = let stepped = node_step (node_at nodes id) event in (with_node nodes id stepped.0, stepped.1)

-- ---- the step

abbrev pub entry_of : Event → Out → Entry
entry_of event o = record { ev = event; ans = o.ans; ends = o.ends; marks = o.marks; packs = o.packs }

-- an entry on which nothing follows
abbrev pub plain_entry : Event → Entry
plain_entry event = record { ev = event; ans = Quiet; ends = []; marks = []; packs = [] }

abbrev pub packet_from : NodeId → List ℕ → Packet
packet_from id bytes = record { sender = id; bytes = bytes }

-- an event of the world that is this event at one of its nodes, whose packets are sent
abbrev pub step_at : PlainWorld → NodeId → NodeEv → Event → PlainWorld × Entry
step_at w id node_event event = let stepped = nodes_step w.nodes id node_event in (record { nodes = stepped.0; packets = w.packets ++ map (packet_from id) stepped.1.packs }, entry_of event stepped.1)

-- a packet reaches the node that did not send it
abbrev pub delivery : PlainWorld → PackNo → Option Packet → PlainWorld × Entry
delivery w number None = (w, plain_entry (events.Deliver number))
delivery w number (Some packet) = step_at w (peer_of packet.sender) (Arrive packet.bytes) (events.Deliver number)

-- the step of an event: the world after it and its entry
unfoldable pub step : PlainWorld → Event → PlainWorld × Entry
step w (events.Call id ctx request) = step_at w id (Call ctx request) (events.Call id ctx request)
step w (events.Return id task) = step_at w id (Return task) (events.Return id task)
step w (events.Begin id) = step_at w id Begin (events.Begin id)
step w (events.Finish id) = step_at w id Finish (events.Finish id)
step w (events.Tick id) = step_at w id Tick (events.Tick id)
step w (events.Deliver number) = delivery w number (slice_get w.packets number.0)
step w events.Stop = (w, plain_entry events.Stop)

-- ---- the opening

abbrev pub opened_of : NodeConf → PlainNode
opened_of conf = opened_node (kernel_conf conf) conf.addr conf.cbrs

abbrev pub opened_world : Conf → PlainWorld
opened_world conf = record { nodes = record { first = opened_of (first_conf conf); second = opened_of (second_conf conf) }; packets = [] }
