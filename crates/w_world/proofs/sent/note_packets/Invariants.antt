use Rattle.std.proofs.Common.{◌≡◌, ◌++◌, drop}
use Rattle.w_world.specs.Sending.{places_from}
use Rattle.w_world.proofs.sent.note_packets.Given as goal

abbrev pub invariant-loop-pack : goal.invariant-loop-pack
invariant-loop-pack l = l.sent.items ++ places_from l.by l.entry l.pack (drop l.pack l.packs) ≡ l.fn.sent.items ++ places_from l.by l.entry 0 l.packs
