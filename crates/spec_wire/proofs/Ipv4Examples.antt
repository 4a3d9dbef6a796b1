-- Datagrams from outside, read and written by computation.
use Rattle.std.proofs.Common.{◌≡◌, ℕ, List, [], ◌∷◌, ◌++◌, take, Some, None, refl, lit≤}
use Rattle.std.specs.Prelude.{replicate}
use Rattle.spec_wire.specs.declared.ipv4.Bad.TheVariants.{Short, Length, Checksum}
use Rattle.spec_wire.specs.Sum.{ones_sum}
use Rattle.spec_wire.specs.Ipv4.{Ipv4, Reads, refusal, written}

-- 192.168.0.1 to 192.168.0.199, protocol 17, a total length of 115, with the last octet given
abbrev header_to : ℕ → List ℕ
header_to last = 0x45 ∷ 0x00 ∷ 0x00 ∷ 0x73 ∷ 0x00 ∷ 0x00 ∷ 0x40 ∷ 0x00 ∷ 0x40 ∷ 0x11 ∷ 0xb8 ∷ 0x61 ∷ 0xc0 ∷ 0xa8 ∷ 0x00 ∷ 0x01 ∷ 0xc0 ∷ 0xa8 ∷ 0x00 ∷ last ∷ []

abbrev plain : Ipv4
plain = record { src = 0xc0a80001; dst = 0xc0a800c7; proto = 17; ttl = 64; load = replicate 95 0 }

pub reads_whole : Reads (header_to 0xc7 ++ replicate 95 0) plain
unfolding ones_sum
reads_whole = record {
  size = lit≤ tt;
  version = refl;
  header_length = lit≤ tt;
  total_length = lit≤ tt;
  whole = lit≤ tt;
  checksum = refl;
  more_fragments = refl;
  fragment_offset = refl;
  ttl = refl;
  proto = refl;
  src = refl;
  dst = refl;
  load = refl;
}

pub whole_is_not_refused : refusal (header_to 0xc7 ++ replicate 95 0) ≡ None
unfolding refusal ones_sum
whole_is_not_refused = refl

pub other_last_octet : refusal (header_to 0xc6 ++ replicate 95 0) ≡ Some Checksum
unfolding refusal ones_sum
other_last_octet = refl

pub header_alone : refusal (header_to 0xc7) ≡ Some Length
unfolding refusal ones_sum
header_alone = refl

pub nineteen_bytes : refusal (take 19 (header_to 0xc7)) ≡ Some Short
unfolding refusal ones_sum
nineteen_bytes = refl

-- 10.0.0.1 to 10.0.0.2, protocol 17, ten bytes of data
pub written_with_ten : written (record { src = 0x0a000001; dst = 0x0a000002; proto = 17; ttl = 255; load = replicate 10 7 }) ≡ 0x45 ∷ 0x00 ∷ 0x00 ∷ 0x1e ∷ 0x00 ∷ 0x00 ∷ 0x40 ∷ 0x00 ∷ 0x40 ∷ 0x11 ∷ 0x26 ∷ 0xcd ∷ 0x0a ∷ 0x00 ∷ 0x00 ∷ 0x01 ∷ 0x0a ∷ 0x00 ∷ 0x00 ∷ 0x02 ∷ replicate 10 7
unfolding written ones_sum
written_with_ten = refl
