use Rattle.k_sync.proofs.FlagLaws.{tells_next}
use Rattle.k_sync.proofs.flags.Flags.next_ready.Goals as goal

pub returns : goal.returns
returns c = tells_next c.args.self.now c.self.inside.flags c.self.inside.waiters.items c.as_slice.result.now c.next_ready.result c.self.view_is c.as_slice.ensures.value c.next_ready.ensures
