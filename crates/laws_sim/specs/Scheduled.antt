-- The schedule, point by point: which event is next, and that a history has just these events. It is this project's own.
use Rattle.std.specs.Prelude.{◌≡◌, ◌≢◌, ℕ, ◌<◌, ◌≤◌, true, false, List, [], ◌∷◌, Option, Some, None}
use Rattle.std.specs.List.{AllByRecursion}
use Rattle.std.specs.Ordering.{is_lt}
use Rattle.it_types.specs.declared.id.TaskId.{TaskId}
use Rattle.it_types.specs.declared.id.NodeId.{NodeId}
use Rattle.it_types.specs.declared.context.Ctx.TheVariants as contexts
use Rattle.it_types.specs.declared.event.Event.{Event}
use Rattle.it_types.specs.declared.event.Event.TheVariants as events
use Rattle.it_types.specs.declared.handler.Handler.{Handler}
use Rattle.it_types.specs.declared.entry.Entry.{Entry}
use Rattle.it_types.specs.declared.request.Req.{Req}
use Rattle.spec_lists.specs.Tables.{get}
use Rattle.spec_kernel.specs.TaskBlocks.{is_active}
use Rattle.spec_script.specs.declared.want.Want.TheVariants as wants
use Rattle.spec_script.specs.Interpreter.{Interpreter}
use Rattle.spec_link.specs.declared.delivery.Delivery.{Delivery}
use Rattle.spec_link.specs.Deliveries.{in_turn}
use Rattle.spec_node.specs.declared.held.Held.{Held}
use Rattle.spec_node.specs.PlainNode.{PlainNode, running_task}
use Rattle.spec_world.specs.PlainWorld.{Nodes}
use Rattle.spec_world.specs.Admitted.{is_admitted}
use Rattle.spec_sim.specs.Bodies.{handler_wants, task_request}
use Rattle.spec_sim.specs.Schedule.{Plan, PlainPlay, after, clock_of, node_0, node_1}

-- ---- handlers

-- a handler is due at the node
pub record IsDue (n : PlainNode) : Type 0 where
  pub some : n.net.pend.due ≢ []

-- no handler has begun on either node
pub record NoneHasBegun (nodes : Nodes) : Type 0 where
  pub first : nodes.first.begun ≡ None
  pub second : nodes.second.begun ≡ None

-- and none is due
pub record HandlersAreOver (nodes : Nodes) : Type 0 where
  pub begun : NoneHasBegun nodes
  pub first : nodes.first.net.pend.due ≡ []
  pub second : nodes.second.net.pend.due ≡ []

-- what a handler that has begun does next: it makes the call that its interpreter wants on the answers so far, or finishes
pub data IsHandlerEvent (id : NodeId) (handler : Option Interpreter) : Event → Type 0 where
  calls : (request : Req) → handler_wants handler ≡ wants.Call request → IsHandlerEvent id handler (events.Call id contexts.Handler request)
  finishes : handler_wants handler ≡ wants.Finish → IsHandlerEvent id handler (events.Finish id)

-- ---- packets

-- the first of the deliveries that are left, which is due: none comes before it, by due tick, packet and copy
pub record IsNext (p : PlainPlay) (d : Delivery) : Type 0 where
  pub later : List Delivery
  pub first : p.link.waiting ≡ d ∷ later
  pub due : d.due ≤ clock_of p.world
  pub before : AllByRecursion (λ e. is_lt (in_turn e d) ≡ false) later

-- no handler goes first, and each delivery that is left is due later
pub record IsQuiet (p : PlainPlay) : Type 0 where
  pub handlers : HandlersAreOver p.world.nodes
  pub later : AllByRecursion (λ d. clock_of p.world < d.due) p.link.waiting

-- ---- tasks

-- the task runs on the node
pub record Runs (n : PlainNode) (task : TaskId) : Type 0 where
  pub some : task.0 ≢ 0
  pub running : running_task n ≡ task

-- no task runs on the node
pub record IsIdle (n : PlainNode) : Type 0 where
  pub none : (running_task n).0 ≡ 0

-- every task of the node is dormant
pub record IsDormant (n : PlainNode) : Type 0 where
  pub tasks : (id : ℕ) → is_active (get n.kernel.tasks id) ≡ false

-- what a running task does next: it returns where it holds an answer, and else makes the call that its interpreter wants
pub data IsTaskEvent (id : NodeId) (n : PlainNode) (tasks : List (Option Interpreter)) (task : TaskId) : Event → Type 0 where
  returns : (h : Held) → get n.held task.0 ≡ Some h → IsTaskEvent id n tasks task (events.Return id task)
  asks : get n.held task.0 ≡ None → IsTaskEvent id n tasks task (events.Call id (contexts.Task task) (task_request (get tasks task.0)))

-- ---- the points

-- no handler goes first, no delivery is due, and no task runs
pub record IsStill (p : PlainPlay) : Type 0 where
  pub quiet : IsQuiet p
  pub first : IsIdle p.world.nodes.first
  pub second : IsIdle p.world.nodes.second

-- every task of both nodes is dormant and no delivery is left, or both nodes had all their ticks
pub data IsOver (plan : Plan) (p : PlainPlay) : Type 0 where
  dormant : IsDormant p.world.nodes.first → IsDormant p.world.nodes.second → p.link.waiting ≡ [] → IsOver plan p
  ticked : plan.ticks ≤ p.world.nodes.first.kernel.clock.now → plan.ticks ≤ p.world.nodes.second.kernel.clock.now → IsOver plan p

-- The points of the schedule, each where no earlier one applies: the handler that has begun on node 0; that of node 1; a due
-- handler of node 0; one of node 1; the first delivery that is due by the ticks of node 0; the running task of node 0; that of
-- node 1; the stop; a tick of the node with fewer ticks, of node 0 where they are equal.
pub data IsScheduled (plan : Plan) (p : PlainPlay) : Event → Type 0 where
  handler_of_first : (handler : Handler) (event : Event)
      → p.world.nodes.first.begun ≡ Some handler
      → IsHandlerEvent node_0 p.first.handler event
      → IsScheduled plan p event
  handler_of_second : (handler : Handler) (event : Event)
      → p.world.nodes.first.begun ≡ None
      → p.world.nodes.second.begun ≡ Some handler
      → IsHandlerEvent node_1 p.second.handler event
      → IsScheduled plan p event
  begin_on_first : NoneHasBegun p.world.nodes → IsDue p.world.nodes.first → IsScheduled plan p (events.Begin node_0)
  begin_on_second : NoneHasBegun p.world.nodes
      → p.world.nodes.first.net.pend.due ≡ []
      → IsDue p.world.nodes.second
      → IsScheduled plan p (events.Begin node_1)
  delivery : (d : Delivery) → HandlersAreOver p.world.nodes → IsNext p d → IsScheduled plan p (events.Deliver d.packet)
  task_of_first : (task : TaskId) (event : Event)
      → IsQuiet p
      → Runs p.world.nodes.first task
      → IsTaskEvent node_0 p.world.nodes.first p.first.tasks task event
      → IsScheduled plan p event
  task_of_second : (task : TaskId) (event : Event)
      → IsQuiet p
      → IsIdle p.world.nodes.first
      → Runs p.world.nodes.second task
      → IsTaskEvent node_1 p.world.nodes.second p.second.tasks task event
      → IsScheduled plan p event
  stop : IsStill p → IsOver plan p → IsScheduled plan p events.Stop
  tick_of_first : IsStill p
      → (IsOver plan p → ⊥)
      → p.world.nodes.first.kernel.clock.now ≤ p.world.nodes.second.kernel.clock.now
      → IsScheduled plan p (events.Tick node_0)
  tick_of_second : IsStill p
      → (IsOver plan p → ⊥)
      → p.world.nodes.second.kernel.clock.now < p.world.nodes.first.kernel.clock.now
      → IsScheduled plan p (events.Tick node_1)

-- ---- histories

-- one entry of a history: its event is admitted and scheduled, and the entry is what the machine gives for it
pub record IsEntry (plan : Plan) (p : PlainPlay) (e : Entry) : Type 0 where
  pub admitted : is_admitted p.world e.ev ≡ true
  pub scheduled : IsScheduled plan p e.ev
  pub given : (after plan p e.ev).1 ≡ e

-- nothing follows the stop
abbrev pub EndsAtStop : Event → List Entry → Type 0
EndsAtStop (events.Call id ctx request) es = Unit {0}
EndsAtStop (events.Return id task) es = Unit {0}
EndsAtStop (events.Begin id) es = Unit {0}
EndsAtStop (events.Finish id) es = Unit {0}
EndsAtStop (events.Tick id) es = Unit {0}
EndsAtStop (events.Deliver number) es = Unit {0}
EndsAtStop events.Stop es = es ≡ []

abbrev pub FollowsSchedule : Plan → PlainPlay → List Entry → Type 0
FollowsSchedule plan p [] = Unit {0}
FollowsSchedule plan p (e ∷ es) = IsEntry plan p e × EndsAtStop e.ev es × FollowsSchedule plan (after plan p e.ev).0 es
