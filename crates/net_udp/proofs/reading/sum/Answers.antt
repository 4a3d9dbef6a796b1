use Rattle.std.proofs.Common.{◌∙◌, ap}
use Rattle.spec_wire.specs.Udp.{length_of, sum_of}
use Rattle.net_udp.proofs.Parts.{header_and_data}
use Rattle.net_udp.proofs.reading.sum.Goals as goal

pub returns : goal.returns
returns c =
    let bytes = c.args.bytes.now in
    c.sum_behind.ensures ∙ ap (sum_of c.args.src c.args.dst) (rw c.length.ensures (header_and_data (length_of bytes) bytes c.requires.header))
