use Rattle.std.proofs.Common.{◌≡◌, ◌+◌, take, drop, length, ◌∙◌, ap, sym, arith}
use Rattle.std.proofs.lemmas.List.{take-append-drop}
use Rattle.spec_wire.specs.Octets.{AreOctets}
use Rattle.spec_wire.specs.Sum.{words, ones_sum, end_around}
use Rattle.spec_wire.proofs.SumLaws.{ones_sum-bound, ones_sum-words}
use Rattle.net_ip4.proofs.Pieces.{drop_octets, take_octets, with_piece}
use Rattle.net_ip4.proofs.checksum.ones_sum.Goals as goal

pub loop-rest-init : goal.loop-rest-init
loop-rest-init c =
    let octets : AreOctets c.args.bytes.now = λ i. omega (arith, c.type_inv.bytes i) in
    record { so_far = omega (arith, ones_sum-bound c.args.bytes.now octets); small = omega arith; octets = octets }

pub loop-rest-preserved : goal.loop-rest-preserved
loop-rest-preserved c =
    let total = c.loop-rest.total in
    let rest = c.loop-rest.rest.now in
    let front = take_octets 65536 rest c.loop-rest.invariant.octets in
    let back = drop_octets 65536 rest c.loop-rest.invariant.octets in
    let size : length (take 65536 rest) ≡ 32768 + 32768 = ap length (sym c.split_at.ensures.front) ∙ c.split_at.ensures.front_len in
    record {
      so_far =
          rw (c.split_at.ensures.back, c.add-total.ensures, c.fold.ensures, c.word_sum.ensures, c.split_at.ensures.front, sym (ones_sum-words (take 65536 rest) front))
          (with_piece 32768 total (take 65536 rest) (drop 65536 rest) c.loop-rest.invariant.small front back size
          ∙ ap (λ xs. end_around total (ones_sum (words xs))) (take-append-drop 65536 rest)
          ∙ c.loop-rest.invariant.so_far);
      small = omega (arith, c.add-total.type_inv);
      octets = rw c.split_at.ensures.back back;
    }

pub returns : goal.returns
returns c =
    c.add.ensures
    ∙ ap (end_around c.loop-rest.total) (c.fold-2.ensures ∙ rw c.word_sum-2.ensures (sym (ones_sum-words c.loop-rest.rest.now c.loop-rest.invariant.octets)))
    ∙ c.loop-rest.invariant.so_far
