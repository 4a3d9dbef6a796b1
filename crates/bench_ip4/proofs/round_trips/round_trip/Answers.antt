use Rattle.std.proofs.Common.{◌+◌, ◌∙◌, length, Some, ap, arith}
use Rattle.net_ip4.specs.Shown.{shown}
use Rattle.spec_wire.specs.Ipv4.{Ipv4, IsWritable}
use Rattle.bench_ip4.proofs.Packet.{packet_reads}
use Rattle.bench_ip4.proofs.round_trips.round_trip.Goals as goal

pub returns-in-Ok : goal.returns-in-Ok
returns-in-Ok c =
    let d = shown c.args.datagram in
    let good : IsWritable d = record { src = omega arith; dst = omega arith; proto = omega arith; size = c.requires } in
    let reads = packet_reads _ _ d good c.clear.ensures.items (c.deref.ensures.value ∙ c.in_ok-encode_into.ensures.ok) in
    ap (λ (read : Ipv4). Some (20 + length read.load)) (c.in-Ok.ensures.only _ reads)

pub returns-in-Err : goal.returns-in-Err
returns-in-Err c =
    let d = shown c.args.datagram in
    let good : IsWritable d = record { src = omega arith; dst = omega arith; proto = omega arith; size = c.requires } in
    absurd (c.in-Err.ensures.only _ (packet_reads _ _ d good c.clear.ensures.items (c.deref.ensures.value ∙ c.in_ok-encode_into.ensures.ok)))
