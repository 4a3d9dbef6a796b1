use Rattle.std.proofs.Common.{◌∙◌, slice_index, refl}
use Rattle.std.proofs.lemmas.Grind.{and_numeral}
use Rattle.bitflags.proofs.OnLiterals.{bitflags_on_literals}
use Rattle.net_seg.proofs.reading.flags.Goals as goal

pub returns : goal.returns
unfolding bitflags_on_literals
returns c = c.from_bits_truncate.ensures tt ∙ and_numeral (slice_index c.args.bytes.now 13) 30 refl
