use Rattle.std.proofs.Common.{◌≡◌, ◌++◌, take}
use Rattle.std.specs.List.{flat_map}
use Rattle.spec_trace.specs.Trace.{pack_text}
use Rattle.w_trace.proofs.print.put_packs.Given as goal

abbrev pub invariant-loop-pack : goal.invariant-loop-pack
invariant-loop-pack l = l.out.items ≡ l.fn.out.items ++ flat_map pack_text (take l.pack-index l.packs)
