use Rattle.laws_tcp.proofs.Reached.{reached_kept}
use Rattle.laws_tcp.proofs.receiving.received_bytes_are_counted.Goals as goal

pub returns : goal.returns
returns c d reached = (reached_kept d reached).rcv.counted
