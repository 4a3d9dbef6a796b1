use Rattle.std.proofs.Common.{append_assoc}
use Rattle.spec_wire.specs.Ipv4.{header, checksum_of, written}
use Rattle.net_ip4.specs.Shown.{shown}
use Rattle.net_ip4.proofs.writing.encode_into.Goals as goal

pub returns-clause-ok : goal.returns-clause-ok
unfolding written
returns-clause-ok c =
    let d = shown c.args.d.now in
    rw (c.in_ok-extend_from_slice-2.ensures.items, c.in_ok-extend_from_slice.ensures.items, c.in_ok-reserve.ensures.items, c.header-header.ensures)
    (append_assoc c.args.out.now.items (header d (checksum_of d)) d.load)
