use Rattle.spec_wire.proofs.SegmentLaws.{reads_written}
use Rattle.net_seg.proofs.laws.what_is_written_is_read.Goals as goal

pub returns : goal.returns
returns c src dst s is_src is_dst good = reads_written src dst s is_src is_dst good
