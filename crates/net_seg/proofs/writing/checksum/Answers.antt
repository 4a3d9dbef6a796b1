use Rattle.std.proofs.Common.{refl}
use Rattle.net_seg.specs.Shown.{shown}
use Rattle.net_seg.proofs.HeaderRoom.{header_of_room}
use Rattle.net_seg.proofs.writing.checksum.Goals as goal

pub returns : goal.returns
returns c =
    rw (c.sum_behind.ensures, c.header_size.ensures, c.header-header.ensures, header_of_room (shown c.args.s.now) c.args.s.now.mss 0) refl
