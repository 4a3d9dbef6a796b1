-- What is written is read again under the same addresses.
use Rattle.std.proofs.Common.{◌≡◌, ℕ, Bool, if◌then◌else◌, zero, suc, ◌+◌, ◌-◌, ◌<◌, ◌≤◌, List, ◌∷◌, ◌++◌, length, take, sum, inr, refl, sym, ap, ◌∙◌, arith, lit≤, length-append}
use Rattle.std.proofs.Math.Dec.{eqb-suc-zero}
use Rattle.std.proofs.Math.Seq.{take-append_seam}
use Rattle.spec_wire.specs.Pseudo.{pseudo_header}
use Rattle.spec_wire.specs.Sum.{words, ones_sum, ones_complement}
use Rattle.spec_wire.specs.Udp.{UserDatagram, Reads, IsWritable, header, sum_of, length_of, datagram_of, written, computed_checksum, sent_checksum}
use Rattle.spec_wire.proofs.SumLaws.{AreWords, words_fit, ones_sum-checksum, ones_sum-either_zero, u16_again}

-- the words of the pseudo header, and of the header before its checksum
abbrev words_before : ℕ → ℕ → UserDatagram → List ℕ
words_before src dst u = take 9 (words (pseudo_header 17 src dst (length (header u 0 ++ u.load)) ++ header u 0))

sent_plainly : (n : ℕ) → sent_checksum (suc n) ≡ suc n
sent_plainly n = ap (λ (b : Bool). if b then 65535 else suc n) (eqb-suc-zero n)

-- with the checksum that is sent the sum is all ones
sent_sums : (front back : List ℕ) (computed : ℕ)
    → AreWords front
    → AreWords back
    → 0 < sum front + sum back
    → computed ≡ ones_complement (ones_sum (front ++ 0 ∷ back))
    → ones_sum (front ++ sent_checksum computed ∷ back) ≡ 65535
sent_sums front back zero hf hb some is =
    ones_sum-either_zero front back hf hb some
    ∙ ap (λ w. ones_sum (front ++ w ∷ back)) is
    ∙ ones_sum-checksum front back hf hb some
sent_sums front back (suc n) hf hb some is =
    ap (λ w. ones_sum (front ++ w ∷ back)) (sent_plainly n ∙ is) ∙ ones_sum-checksum front back hf hb some

sent_bound : (n : ℕ) → n ≤ 65535 → sent_checksum n ≤ 65535
sent_bound zero h = lit≤ tt
sent_bound (suc n) h = omega (arith, sent_plainly n)

written_sum : (src dst : ℕ) (u : UserDatagram) → src < 4294967296 → dst < 4294967296 → IsWritable u → sum_of src dst (written src dst u) ≡ 65535
unfolding written
written_sum src dst u hs hd good =
    let before : AreWords (words_before src dst u) =
    (omega arith, (omega arith, (omega arith, (omega arith, (lit≤ tt, (omega arith, (omega arith, (omega arith, (omega arith, tt))))))))) in
    let after : AreWords (words u.load) = words_fit u.load good.octets in
    let some : 0 < sum (words_before src dst u) + sum (words u.load) = omega arith in
    let sent = sent_checksum (computed_checksum src dst u) in
    let is_word : sent ≤ 65535 = sent_bound (computed_checksum src dst u) (omega arith) in
    ap (λ w. ones_sum (words_before src dst u ++ w ∷ words u.load)) (u16_again sent is_word)
    ∙ sent_sums (words_before src dst u) (words u.load) (computed_checksum src dst u) before after some refl

pub reads_written : (src dst : ℕ) (u : UserDatagram) (rest : List ℕ)
    → src < 4294967296
    → dst < 4294967296
    → IsWritable u
    → Reads src dst (written src dst u ++ rest) u
unfolding written
reads_written src dst u rest hs hd good =
    let size : length_of (written src dst u ++ rest) ≡ length (written src dst u) = omega (arith, good.size) in
    let datagram : datagram_of (written src dst u ++ rest) ≡ written src dst u =
    ap (λ n. take n (written src dst u ++ rest)) size ∙ take-append_seam (written src dst u) rest in
    let data_size : length_of (written src dst u ++ rest) - 8 ≡ length u.load = omega (arith, good.size) in
    record {
      size = omega (arith, length-append u.load rest);
      header = omega (arith, good.size);
      whole = omega (arith, good.size, length-append u.load rest);
      checksum = inr (ap (sum_of src dst) datagram ∙ written_sum src dst u hs hd good);
      from_port = omega (arith, good.from_port);
      to_port = omega (arith, good.to_port);
      load = sym (ap (λ n. take n (u.load ++ rest)) data_size ∙ take-append_seam u.load rest);
    }
