-- What is written is read again, with the time to live that is written.
use Rattle.std.proofs.Common.{◌≡◌, ℕ, ◌+◌, ◌-◌, ◌<◌, ◌≤◌, List, ◌∷◌, ◌++◌, length, take, drop, sum, refl, sym, ap, ◌∙◌, arith, lit≤, length-append}
use Rattle.std.proofs.lemmas.List.Sums.{sum_by-cons}
use Rattle.std.proofs.Math.Seq.{take-append_seam}
use Rattle.spec_wire.specs.Octets.{u32_octets}
use Rattle.spec_wire.specs.Sum.{words, ones_sum}
use Rattle.spec_wire.specs.Ipv4.{Ipv4, Reads, IsWritable, header, header_sum_of, total_length_of, written, checksum_of}
use Rattle.spec_wire.proofs.SumLaws.{AreWords, ones_sum-checksum, u16_again}

-- the words of the header before its checksum, and after it
abbrev words_before : Ipv4 → List ℕ
words_before d = take 5 (words (header d 0))

abbrev words_after : Ipv4 → List ℕ
words_after d = words (u32_octets d.src ++ u32_octets d.dst)

header_sum : (d : Ipv4) (rest : List ℕ) → IsWritable d → header_sum_of (written d ++ rest) ≡ 65535
unfolding written
header_sum d rest good =
    let before : AreWords (words_before d) = (lit≤ tt, (omega arith, (lit≤ tt, (lit≤ tt, (omega (arith, good.proto), tt))))) in
    let after : AreWords (words_after d) = (omega arith, (omega arith, (omega arith, (omega arith, tt)))) in
    let some : 0 < sum (words_before d) + sum (words_after d) = omega (arith, sum_by-cons (λ x. x) 17664 (drop 1 (words_before d))) in
    let is_word : 65535 - ones_sum (words (header d 0)) ≤ 65535 = omega arith in
    ap (λ w. ones_sum (words_before d ++ w ∷ words_after d)) (u16_again (checksum_of d) is_word)
    ∙ ones_sum-checksum (words_before d) (words_after d) before after some

pub reads_written : (d : Ipv4) (rest : List ℕ) → IsWritable d → Reads (written d ++ rest) (record d { ttl = 64 })
unfolding written
reads_written d rest good =
    let size : total_length_of (written d ++ rest) - 20 ≡ length d.load = omega (arith, good.size) in
    record {
      size = omega (arith, length-append d.load rest);
      version = refl;
      header_length = lit≤ tt;
      total_length = omega (arith, good.size);
      whole = omega (arith, good.size, length-append d.load rest);
      checksum = header_sum d rest good;
      more_fragments = refl;
      fragment_offset = refl;
      ttl = refl;
      proto = refl;
      src = omega (arith, good.src);
      dst = omega (arith, good.dst);
      load = sym (ap (λ n. take n (d.load ++ rest)) size ∙ take-append_seam d.load rest);
    }
