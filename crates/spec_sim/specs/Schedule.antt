-- The schedule: which event of a script is next. It is this project's own. Handlers come first, then the packets that are due,
-- then tasks. The link's clock is the number of ticks of node 0.
use Rattle.std.specs.Prelude.{ℕ, ◌+◌, ◌<◌, Bool, false, not, ◌&&◌, ◌||◌, List, [], ◌∷◌, length, Option, Some, None, nat_le, ◌==◌, if◌then◌else◌, slice_index}
use Rattle.std.specs.List.{list_any, AllByRecursion}
use Rattle.it_types.specs.declared.id.NodeId.{NodeId}
use Rattle.it_types.specs.declared.id.TaskId.{TaskId}
use Rattle.it_types.specs.declared.id.PackNo.{PackNo}
use Rattle.it_types.specs.declared.context.Ctx.TheVariants as contexts
use Rattle.it_types.specs.declared.event.Event.{Event}
use Rattle.it_types.specs.declared.event.Event.TheVariants as events
use Rattle.it_types.specs.declared.handler.Handler.{Handler}
use Rattle.it_types.specs.declared.entry.Entry.{Entry}
use Rattle.spec_lists.specs.Tables.{get}
use Rattle.spec_kernel.specs.Ids.{greatest_id}
use Rattle.spec_kernel.specs.TaskBlocks.{is_active}
use Rattle.spec_script.specs.declared.decl.Decl.{Decl}
use Rattle.spec_script.specs.declared.script.Script.{Script}
use Rattle.spec_script.specs.Lines.{first_node, second_node}
use Rattle.spec_script.specs.Interpreter.{Interpreter}
use Rattle.spec_script.specs.Configuration.{conf_of}
use Rattle.spec_link.specs.Link.{PlainLink, opened_link, sent, first_due, taken, is_idle}
use Rattle.spec_node.specs.PlainNode.{PlainNode, running_task, holds_answer, has_due}
use Rattle.spec_world.specs.PlainWorld.{Nodes, PlainWorld, step, opened_world}
use Rattle.spec_world.specs.Sizes.{entry_size}
use Rattle.spec_sim.specs.Bodies.{Interpreters, tasks_started, task_request, handler_event, tasks_asked, handler_asked, tasks_answered, handler_answered, after_marks}

-- what the nodes declare, and how many ticks each has at most
pub record Plan : Type 0 where
  pub first : List Decl
  pub second : List Decl
  pub ticks : ℕ

-- the world of a script under way
pub record PlainPlay : Type 0 where
  pub world : PlainWorld
  pub first : Interpreters  -- of node 0
  pub second : Interpreters  -- of node 1
  pub link : PlainLink
  pub size : ℕ  -- the bytes of data of the history so far

abbrev pub node_0 : NodeId
node_0 = record { 0 = 0 }

abbrev pub node_1 : NodeId
node_1 = record { 0 = 1 }

-- ---- the next event

-- the link's clock
abbrev pub clock_of : PlainWorld → ℕ
clock_of w = w.nodes.first.kernel.clock.now

-- the packet of the first delivery that is due
abbrev pub due_packet : PlainPlay → Option PackNo
due_packet p = first_due (clock_of p.world) p.link

abbrev pub runs : PlainNode → Bool
runs n = not ((running_task n).0 == 0)

-- what a task that runs does: it returns where it holds an answer, else it makes its next call
abbrev pub task_event : NodeId → PlainNode → List (Option Interpreter) → TaskId → Event
task_event id n tasks task = if holds_answer n task then events.Return id task else events.Call id (contexts.Task task) (task_request (get tasks task.0))

abbrev pub is_any_active : PlainNode → Bool
is_any_active n = list_any is_active n.kernel.tasks

-- every task of both nodes is dormant and no delivery is left, or both nodes had all their ticks
abbrev pub is_over : Plan → PlainPlay → Bool
is_over plan p =
    (not (is_any_active p.world.nodes.first) && (not (is_any_active p.world.nodes.second) && is_idle p.link))
    || (nat_le plan.ticks p.world.nodes.first.kernel.clock.now && nat_le plan.ticks p.world.nodes.second.kernel.clock.now)

-- the node with fewer ticks, node 0 where they are equal
abbrev pub slower : Nodes → NodeId
slower nodes = if nat_le nodes.first.kernel.clock.now nodes.second.kernel.clock.now then node_0 else node_1

-- the stop, or a tick
abbrev pub idle_event : Plan → PlainPlay → Event
idle_event plan p = if is_over plan p then events.Stop else events.Tick (slower p.world.nodes)

-- the running task of node 0, else that of node 1, else the stop or a tick
abbrev pub running_event : Plan → PlainPlay → Event
running_event plan p =
    if runs p.world.nodes.first then task_event node_0 p.world.nodes.first p.first.tasks (running_task p.world.nodes.first)
    else if runs p.world.nodes.second then task_event node_1 p.world.nodes.second p.second.tasks (running_task p.world.nodes.second)
    else idle_event plan p

-- the delivery of this packet, else what the running tasks do
abbrev pub packet_or_task : Plan → PlainPlay → Option PackNo → Event
packet_or_task plan p (Some packet) = events.Deliver packet
packet_or_task plan p None = running_event plan p

-- the first delivery that is due, else what the running tasks do
abbrev pub packet_event : Plan → PlainPlay → Event
packet_event plan p = packet_or_task plan p (due_packet p)

-- a handler that is due on node 0 begins, else one that is due on node 1, else what follows on handlers
abbrev pub due_event : Plan → PlainPlay → Event
due_event plan p = if has_due p.world.nodes.first then events.Begin node_0 else if has_due p.world.nodes.second then events.Begin node_1 else packet_event plan p

-- the handler that has begun on node 0 goes on, else that of node 1, else what follows on it
unfoldable pub next : Plan → PlainPlay → Event
next plan p = elim p.world.nodes.first.begun [
  | Some h ↦ handler_event node_0 p.first.handler
  | None ↦ elim p.world.nodes.second.begun [ Some h ↦ handler_event node_1 p.second.handler | None ↦ due_event plan p ]
]

-- ---- after an event

-- the event happens at this node; in a delivery no task begins, and none is told
abbrev pub is_at : NodeId → Event → Bool
is_at id (events.Call at ctx request) = at.0 == id.0
is_at id (events.Return at task) = at.0 == id.0
is_at id (events.Begin at) = at.0 == id.0
is_at id (events.Finish at) = at.0 == id.0
is_at id (events.Tick at) = at.0 == id.0
is_at id (events.Deliver number) = false
is_at id events.Stop = false

-- the interpreters of a node, of which the event's has come up to what it does
abbrev pub node_asked : NodeId → Event → Interpreters → Interpreters
node_asked id event i = record {
  tasks = if is_at id event then tasks_asked event i.tasks else i.tasks;
  handler = if is_at id event then handler_asked event i.handler else i.handler;
}

-- the link, without the delivery that the event is
abbrev pub link_asked : Event → ℕ → PlainLink → PlainLink
link_asked (events.Deliver number) now link = taken now link
link_asked _ now link = link

-- the play, of which one part has come up to the event
abbrev pub asked : PlainPlay → Event → PlainPlay
asked p event = record p {
  first = node_asked node_0 event p.first;
  second = node_asked node_1 event p.second;
  link = link_asked event (clock_of p.world) p.link;
}

-- the interpreters of a node after an entry, where this handler has begun then: the event's is told the answer, and each task that
-- began is before its first line
abbrev pub node_after : NodeId → List Decl → Entry → Option Handler → Interpreters → Interpreters
node_after id decls e begun i = record {
  tasks = if is_at id e.ev then after_marks id decls e.marks (tasks_answered e.ev e.ans i.tasks) else i.tasks;
  handler = if is_at id e.ev then handler_answered id decls e.ev e.ans begun i.handler else i.handler;
}

-- the link after packets were sent, which are numbered from this number on
abbrev pub all_sent : ℕ → List (List ℕ) → ℕ → PlainLink → PlainLink
all_sent number [] now link = link
all_sent number (packet ∷ packets) now link = all_sent (number + 1) packets now (sent (record { 0 = number }) now link)

-- the play in this world, which an entry led to from one with so many packets
abbrev pub play_after : Plan → PlainWorld → Entry → ℕ → PlainPlay → PlainPlay
play_after plan w e number p = record {
  world = w;
  first = node_after node_0 plan.first e w.nodes.first.begun p.first;
  second = node_after node_1 plan.second e w.nodes.second.begun p.second;
  link = all_sent number e.packs (clock_of w) p.link;
  size = p.size + entry_size e;
}

unfoldable pub after : Plan → PlainPlay → Event → PlainPlay × Entry
after plan p event = let stepped = step p.world event in (play_after plan stepped.0 stepped.1 (length p.world.packets) (asked p event), stepped.1)

-- each delivery that is left is of a packet that was sent
abbrev pub AreSent : ℕ → PlainLink → Type 0
AreSent packets link = AllByRecursion (λ d. d.packet.0 < packets) link.waiting

-- ---- the beginning

abbrev pub plan_of : Script → Plan
plan_of s = record { first = (first_node s).decls; second = (second_node s).decls; ticks = s.ticks }

-- each task is before the first line of its body
abbrev pub node_opened : NodeId → List Decl → Interpreters
node_opened id decls = record { tasks = tasks_started id decls (greatest_id + 1) 0; handler = None }

-- the link of a script, of which no packet is under way
abbrev pub link_opened : Script → PlainLink
link_opened s = opened_link (slice_index s.link 0) (slice_index s.link 1) (slice_index s.link 2) (slice_index s.link 3)

abbrev pub opening : Script → PlainPlay
opening s = record {
  world = opened_world (conf_of s);
  first = node_opened node_0 (first_node s).decls;
  second = node_opened node_1 (second_node s).decls;
  link = link_opened s;
  size = 0;
}
