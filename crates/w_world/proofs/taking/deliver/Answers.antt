use Rattle.std.proofs.Common.{refl}
use Rattle.std.proofs.lemmas.Option.{slice_get_read, slice_get_past}
use Rattle.it_types.specs.declared.event.Event.TheVariants as events
use Rattle.spec_node.specs.declared.event.NodeEv.TheVariants.{Arrive}
use Rattle.spec_world.specs.PlainWorld.{peer_of}
use Rattle.w_world.specs.Sending.{bytes_in, world_in}
use Rattle.w_world.proofs.Taken.{at_node_takes, delivered_at, unsent_takes}
use Rattle.w_world.proofs.taking.deliver.Goals as goal

pub returns-in_ok-bytes-in-Some : goal.returns-in_ok-bytes-in-Some
returns-in_ok-bytes-in-Some c =
    at_node_takes (world_in c.args.nodes.now c.args.log.now c.args.sent.now) (events.Deliver c.args.number) (peer_of c.in-Some.packet.now.by) (Arrive (bytes_in c.args.log.now c.in-Some.packet.now)) c.at_node.new.nodes c.at_node.result
    (delivered_at c.args.nodes.now c.args.log.now c.args.sent.now c.args.number c.in-Some.packet.now (slice_get_read c.args.sent.now _ c.args.number.0 c.in-Some.packet.now refl c.in-Some.ensures.lookup.3.0 c.in-Some.ensures.lookup.1))
    (rw (c.peer_of.ensures, c.in_ok-bytes-in-Some.ensures, c.bytes_in.ensures) at c.at_node.ensures)

pub returns-in-None : goal.returns-in-None
returns-in-None c =
    rw c.nothing.ensures (unsent_takes c.args.nodes.now c.args.log.now c.args.sent.now c.args.number _ (slice_get_past c.args.sent.now c.args.number.0 c.in-None.ensures.lookup.3))
