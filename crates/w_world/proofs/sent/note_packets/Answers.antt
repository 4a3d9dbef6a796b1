use Rattle.w_world.proofs.Places.{place_more}
use Rattle.w_world.proofs.sent.note_packets.Goals as goal

pub loop-pack-preserved : goal.loop-pack-preserved
loop-pack-preserved c = rw c.in_ok-push.ensures.items (place_more c.args.by c.args.entry c.loop-pack.pack c.args.packs.now c.loop-pack.sent.items _ c.loop-pack-test.true c.loop-pack.invariant)
