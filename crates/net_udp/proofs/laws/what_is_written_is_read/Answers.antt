use Rattle.spec_wire.proofs.UdpLaws.{reads_written}
use Rattle.net_udp.proofs.laws.what_is_written_is_read.Goals as goal

pub returns : goal.returns
returns c src dst u after is_src is_dst good = reads_written src dst u after is_src is_dst good
