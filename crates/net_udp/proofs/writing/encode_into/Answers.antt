use Rattle.std.proofs.Common.{append_assoc}
use Rattle.spec_wire.specs.Udp.{header, computed_checksum, sent_checksum, written}
use Rattle.net_udp.specs.Shown.{shown}
use Rattle.net_udp.proofs.writing.encode_into.Goals as goal

pub returns-clause-ok : goal.returns-clause-ok
unfolding written
returns-clause-ok c =
    let u = shown c.args.u.now in
    rw (c.in_ok-extend_from_slice-2.ensures.items, c.in_ok-extend_from_slice.ensures.items, c.in_ok-reserve.ensures.items, c.header-header.ensures)
    (append_assoc c.args.out.now.items (header u (sent_checksum (computed_checksum c.args.src c.args.dst u))) u.load)
