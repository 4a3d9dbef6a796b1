use Rattle.spec_wire.proofs.Ipv4Laws.{reads_written}
use Rattle.net_ip4.proofs.laws.what_is_written_is_read.Goals as goal

pub returns : goal.returns
returns c v after good = reads_written v after good
