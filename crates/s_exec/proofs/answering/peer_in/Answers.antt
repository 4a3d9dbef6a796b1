use Rattle.std.proofs.Common.{sym, arith}
use Rattle.s_exec.proofs.Peer.{six_bytes, fewer_bytes}
use Rattle.s_exec.proofs.answering.peer_in.Goals as goal

pub returns-in_default : goal.returns-in_default
returns-in_default c = sym (fewer_bytes c.args.bytes.now c.args.peer (omega arith))

pub returns-in-len6-up : goal.returns-in-len6-up
returns-in-len6-up c =
    sym (six_bytes c.args.bytes.now c.args.peer c.from_be_bytes.result c.from_be_bytes-in-len6-up.result (omega arith)
    (omega (arith, c.from_be_bytes.ensures)) (omega (arith, c.from_be_bytes-in-len6-up.ensures)))
