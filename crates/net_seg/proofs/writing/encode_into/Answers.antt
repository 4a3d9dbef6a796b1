use Rattle.std.proofs.Common.{append_assoc, ◌++◌}
use Rattle.spec_wire.specs.Octets.{u16_octets}
use Rattle.spec_wire.specs.Segment.{checksum_of, header_back, header_front, written}
use Rattle.net_seg.specs.Shown.{shown}
use Rattle.net_seg.proofs.HeaderRoom.{header_of_room}
use Rattle.net_seg.proofs.writing.encode_into.Goals as goal

pub returns-clause-ok : goal.returns-clause-ok
unfolding written
returns-clause-ok c =
    let s = shown c.args.s.now in
    let checksum = checksum_of c.args.src c.args.dst s in
    rw (c.in_ok-extend_from_slice-2.ensures.items, c.in_ok-extend_from_slice.ensures.items, c.in_ok-reserve.ensures.items, c.header_size.ensures, c.header-header.ensures, c.checksum.ensures, header_of_room s s.mss checksum)
    (append_assoc c.args.out.now.items (header_front s ++ (u16_octets checksum ++ header_back s)) s.load)
