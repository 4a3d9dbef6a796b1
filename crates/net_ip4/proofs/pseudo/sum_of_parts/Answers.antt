use Rattle.std.proofs.Common.{◌/◌, ◌++◌, length, ◌∙◌, sym, arith}
use Rattle.spec_wire.specs.Octets.{AreOctets}
use Rattle.spec_wire.specs.Sum.{words, ones_sum}
use Rattle.spec_wire.proofs.SumLaws.{ones_sum-bound, ones_sum-split}
use Rattle.net_ip4.proofs.Pieces.{append_octets, with_piece}
use Rattle.net_ip4.proofs.pseudo.sum_of_parts.Goals as goal

pub returns : goal.returns
returns c =
    let pseudo = c.args.pseudo.now in
    let header = c.args.header.now in
    let load = c.args.load.now in
    let is_pseudo : AreOctets pseudo = λ i. omega (arith, c.type_inv.pseudo i) in
    let is_header : AreOctets header = λ i. omega (arith, c.type_inv.header i) in
    let is_load : AreOctets load = λ i. omega (arith, c.type_inv.load i) in
    rw (c.add-2.ensures, c.add.ensures, c.ones_sum.ensures, c.ones_sum-2.ensures, c.ones_sum-3.ensures)
    (with_piece (length header / 2) (ones_sum (words pseudo)) header load (ones_sum-bound pseudo is_pseudo) is_header is_load (omega (arith, c.requires.header))
    ∙ sym (ones_sum-split (length pseudo / 2) pseudo (header ++ load) is_pseudo (append_octets header load is_header is_load) (omega (arith, c.requires.pseudo))))
