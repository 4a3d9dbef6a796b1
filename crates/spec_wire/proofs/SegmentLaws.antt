-- What is written is read again under the same addresses.
use Rattle.std.proofs.Common.{◌≡◌, ℕ, ◌+◌, ◌-◌, ◌*◌, ◌/◌, ◌%◌, ◌<◌, ◌≤◌, List, ◌∷◌, ◌++◌, length, take, drop, sum, Option, Some, None, refl, sym, ap, ◌∙◌, arith, lit≤, length-append}
use Rattle.std.proofs.Math.Seq.{take-append_seam, drop-append_seam}
use Rattle.std.proofs.lemmas.List.{drop-drop}
use Rattle.spec_wire.specs.Octets.{AreOctets}
use Rattle.spec_wire.specs.Pseudo.{pseudo_header}
use Rattle.spec_wire.specs.Sum.{words, ones_sum, ones_complement}
use Rattle.spec_wire.proofs.SumLaws.{AreWords, words_fit, ones_sum-checksum, u16_again}
use Rattle.spec_wire.specs.Segment.{Segment, no_options, Reads, IsWritable, sum_of, header_length, option_octets, read_options, written, written_options, header_words, header_front, with_checksum, checksum_of}

words_few : (mss : Option ℕ) → header_words mss * 4 ≡ 20 + length (written_options mss)
words_few None = refl
words_few (Some m) = refl

words_bound : (mss : Option ℕ) → header_words mss ≤ 6
words_bound None = lit≤ tt
words_bound (Some m) = lit≤ tt

-- the words before the checksum: six of the pseudo header, and eight
abbrev words_before : ℕ → ℕ → Segment → List ℕ
words_before src dst s = take 14 (words (pseudo_header 6 src dst (length (with_checksum s 0)) ++ header_front s))

abbrev words_after : Option ℕ → List ℕ → List ℕ
words_after None load = 0 ∷ words load
words_after (Some m) load = 0 ∷ 516 ∷ (m / 256 % 256 * 256 + m % 256) ∷ words load

after_fits : (mss : Option ℕ) (load : List ℕ) → AreOctets load → AreWords (words_after mss load)
after_fits None load octets = (lit≤ tt, words_fit load octets)
after_fits (Some m) load octets = (lit≤ tt, (lit≤ tt, (omega arith, words_fit load octets)))

after_is : (mss : Option ℕ) (load : List ℕ) → words (0 ∷ 0 ∷ written_options mss ++ load) ≡ words_after mss load
after_is None load = refl
after_is (Some m) load = refl

pub written_sum : (src dst : ℕ) (s : Segment) → src < 4294967296 → dst < 4294967296 → IsWritable s → sum_of src dst (written src dst s) ≡ 65535
unfolding written
written_sum src dst s hs hd good =
    let size : length (with_checksum s 0) ≤ 1480 = omega (arith, good.size, length-append (written_options s.mss) s.load) in
    let first : header_words s.mss * 16 ≤ 96 = omega (arith, words_bound s.mss) in
    let before : AreWords (words_before src dst s) =
    (omega arith, (omega arith, (omega arith, (omega arith, (lit≤ tt, (omega (arith, size), (omega (arith, good.from_port), (omega (arith, good.to_port), (omega (arith, good.seq), (omega (arith, good.seq), (omega (arith, good.ack), (omega (arith, good.ack), (omega (arith, first, good.flags), (omega (arith, good.wnd), tt)))))))))))))) in
    let after : AreWords (words_after s.mss s.load) = after_fits s.mss s.load good.octets in
    let some : 0 < sum (words_before src dst s) + sum (words_after s.mss s.load) = omega arith in
    let same : ones_sum (words_before src dst s ++ 0 ∷ words (0 ∷ 0 ∷ written_options s.mss ++ s.load)) ≡ ones_sum (words_before src dst s ++ 0 ∷ words_after s.mss s.load) =
    ap (λ ws. ones_sum (words_before src dst s ++ 0 ∷ ws)) (after_is s.mss s.load) in
    let checksum : checksum_of src dst s ≡ ones_complement (ones_sum (words_before src dst s ++ 0 ∷ words_after s.mss s.load)) = ap ones_complement same in
    let is_word : checksum_of src dst s ≤ 65535 = omega arith in
    ap (λ w. ones_sum (words_before src dst s ++ w ∷ words (0 ∷ 0 ∷ written_options s.mss ++ s.load))) (u16_again (checksum_of src dst s) is_word)
    ∙ ap (λ ws. ones_sum (words_before src dst s ++ checksum_of src dst s ∷ ws)) (after_is s.mss s.load)
    ∙ ap (λ w. ones_sum (words_before src dst s ++ w ∷ words_after s.mss s.load)) checksum
    ∙ ones_sum-checksum (words_before src dst s) (words_after s.mss s.load) before after some

-- the options are read again
options_again : (mss : Option ℕ) → ((m : ℕ) → mss ≡ Some m → m < 65536) → read_options (length (written_options mss)) (written_options mss) no_options ≡ Some (record { mss = mss })
unfolding read_options
options_again None small = refl
options_again (Some m) small =
    let again : m / 256 % 256 * 256 + m % 256 ≡ m = omega (arith, small m refl) in
    rw again refl

pub reads_written : (src dst : ℕ) (s : Segment) → src < 4294967296 → dst < 4294967296 → IsWritable s → Reads src dst (written src dst s) s
unfolding written
reads_written src dst s hs hd good =
    let header : header_length (written src dst s) ≡ 20 + length (written_options s.mss) = omega (arith, words_few s.mss, words_bound s.mss) in
    let size : length (written src dst s) ≡ 20 + length (written_options s.mss) + length s.load = omega (arith, length-append (written_options s.mss) s.load) in
    let rest : header_length (written src dst s) - 20 ≡ length (written_options s.mss) = omega (arith, header) in
    let octets : option_octets (written src dst s) ≡ written_options s.mss =
    ap (λ n. take n (written_options s.mss ++ s.load)) rest ∙ take-append_seam (written_options s.mss) s.load in
    record {
      size = omega (arith, size);
      header = omega (arith, header);
      whole = omega (arith, header, size);
      checksum = written_sum src dst s hs hd good;
      from_port = omega (arith, good.from_port);
      to_port = omega (arith, good.to_port);
      seq = omega (arith, good.seq);
      ack = omega (arith, good.ack);
      flags = omega (arith, good.flags);
      wnd = omega (arith, good.wnd);
      options = ap (λ bs. read_options (length bs) bs no_options) octets ∙ options_again s.mss good.mss;
      load = sym (ap (λ n. drop n (written src dst s)) header ∙ sym (drop-drop (length (written_options s.mss)) 20 (written src dst s)) ∙ drop-append_seam (written_options s.mss) s.load);
    }
