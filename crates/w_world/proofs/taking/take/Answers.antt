use Rattle.it_types.specs.declared.event.Event.TheVariants as events
use Rattle.spec_node.specs.declared.event.NodeEv.TheVariants.{Call, Return, Begin, Finish, Tick}
use Rattle.w_world.specs.Sending.{world_in}
use Rattle.w_world.proofs.Taken.{call_at, return_at, begin_at, finish_at, tick_at, at_node_takes, stop_takes}
use Rattle.w_world.proofs.taking.take.Goals as goal

pub returns-in_ok-request-in-Call : goal.returns-in_ok-request-in-Call
returns-in_ok-request-in-Call c =
    rw c.in-Call.is (at_node_takes (world_in c.args.nodes.now c.args.log.now c.args.sent.now) (events.Call c.in-Call.id c.in-Call.ctx c.in-Call.request) c.in-Call.id (Call c.in-Call.ctx c.in-Call.request) c.at_node.new.nodes c.at_node.result (call_at (world_in c.args.nodes.now c.args.log.now c.args.sent.now) c.in-Call.id c.in-Call.ctx c.in-Call.request) (rw c.in_ok-request-in-Call.ensures at c.at_node.ensures))

pub returns-in-Return : goal.returns-in-Return
returns-in-Return c =
    rw c.in-Return.is (at_node_takes (world_in c.args.nodes.now c.args.log.now c.args.sent.now) (events.Return c.in-Return.id c.in-Return.task) c.in-Return.id (Return c.in-Return.task) c.at_node-in-Return.new.nodes c.at_node-in-Return.result (return_at (world_in c.args.nodes.now c.args.log.now c.args.sent.now) c.in-Return.id c.in-Return.task) c.at_node-in-Return.ensures)

pub returns-in-Begin : goal.returns-in-Begin
returns-in-Begin c =
    rw c.in-Begin.is (at_node_takes (world_in c.args.nodes.now c.args.log.now c.args.sent.now) (events.Begin c.in-Begin.id) c.in-Begin.id Begin c.at_node-in-Begin.new.nodes c.at_node-in-Begin.result (begin_at (world_in c.args.nodes.now c.args.log.now c.args.sent.now) c.in-Begin.id) c.at_node-in-Begin.ensures)

pub returns-in-Finish : goal.returns-in-Finish
returns-in-Finish c =
    rw c.in-Finish.is (at_node_takes (world_in c.args.nodes.now c.args.log.now c.args.sent.now) (events.Finish c.in-Finish.id) c.in-Finish.id Finish c.at_node-in-Finish.new.nodes c.at_node-in-Finish.result (finish_at (world_in c.args.nodes.now c.args.log.now c.args.sent.now) c.in-Finish.id) c.at_node-in-Finish.ensures)

pub returns-in-Tick : goal.returns-in-Tick
returns-in-Tick c =
    rw c.in-Tick.is (at_node_takes (world_in c.args.nodes.now c.args.log.now c.args.sent.now) (events.Tick c.in-Tick.id) c.in-Tick.id Tick c.at_node-in-Tick.new.nodes c.at_node-in-Tick.result (tick_at (world_in c.args.nodes.now c.args.log.now c.args.sent.now) c.in-Tick.id) c.at_node-in-Tick.ensures)

pub returns-in-Stop : goal.returns-in-Stop
returns-in-Stop c = rw (c.in-Stop.is, c.nothing.ensures) (stop_takes (world_in c.args.nodes.now c.args.log.now c.args.sent.now) _)
