-- User datagrams worked out by hand, read and written by computation.
use Rattle.std.proofs.Common.{◌≡◌, ℕ, List, [], ◌∷◌, ◌++◌, take, Some, None, inl, inr, refl, lit≤}
use Rattle.spec_wire.specs.declared.udp.Bad.TheVariants.{Short, Length, Checksum}
use Rattle.spec_wire.specs.Sum.{ones_sum}
use Rattle.spec_wire.specs.Udp.{UserDatagram, Reads, refusal, written}
use Rattle.spec_wire.specs.Ipv4

-- 10.0.0.1, 10.0.0.2 and 10.0.0.3
abbrev first_host : ℕ
first_host = 0x0a000001

abbrev second_host : ℕ
second_host = 0x0a000002

abbrev third_host : ℕ
third_host = 0x0a000003

-- port 1000 to port 2000
abbrev with_data : List ℕ → UserDatagram
with_data load = record { from_port = 1000; to_port = 2000; load = load }

-- The words of the sum but the data: 0a00, 0001, 0a00, 0002, 0011, 000a, 03e8, 07d0, 000a. They add up to 1fe0; with 6869,
-- the data `hi`, to 8849, whose complement is 77b6.
abbrev hi : List ℕ
hi = 0x03 ∷ 0xe8 ∷ 0x07 ∷ 0xd0 ∷ 0x00 ∷ 0x0a ∷ 0x77 ∷ 0xb6 ∷ 0x68 ∷ 0x69 ∷ []

pub written_hi : written first_host second_host (with_data (0x68 ∷ 0x69 ∷ [])) ≡ hi
unfolding written ones_sum
written_hi = refl

pub packet_of_hi : Ipv4.written (record { src = first_host; dst = second_host; proto = 17; ttl = 64; load = hi })
    ≡ 0x45 ∷ 0x00 ∷ 0x00 ∷ 0x1e ∷ 0x00 ∷ 0x00 ∷ 0x40 ∷ 0x00 ∷ 0x40 ∷ 0x11 ∷ 0x26 ∷ 0xcd ∷ 0x0a ∷ 0x00 ∷ 0x00 ∷ 0x01 ∷ 0x0a ∷ 0x00 ∷ 0x00 ∷ 0x02 ∷ hi
unfolding Ipv4.written ones_sum
packet_of_hi = refl

pub reads_hi : Reads first_host second_host hi (with_data (0x68 ∷ 0x69 ∷ []))
unfolding ones_sum
reads_hi = record {
  size = lit≤ tt;
  header = lit≤ tt;
  whole = lit≤ tt;
  checksum = inr refl;
  from_port = refl;
  to_port = refl;
  load = refl;
}

pub hi_is_not_refused : refusal first_host second_host hi ≡ None
unfolding refusal ones_sum
hi_is_not_refused = refl

-- the destination is a part of the sum
pub hi_to_another : refusal first_host third_host hi ≡ Some Checksum
unfolding refusal ones_sum
hi_to_another = refl

pub one_byte_missing : refusal first_host second_host (take 9 hi) ≡ Some Length
unfolding refusal ones_sum
one_byte_missing = refl

pub seven_bytes : refusal first_host second_host (take 7 hi) ≡ Some Short
unfolding refusal ones_sum
seven_bytes = refl

pub length_of_seven : refusal first_host second_host (0x03 ∷ 0xe8 ∷ 0x07 ∷ 0xd0 ∷ 0x00 ∷ 0x07 ∷ 0x00 ∷ 0x00 ∷ []) ≡ Some Length
unfolding refusal ones_sum
length_of_seven = refl

pub other_last_octet : refusal first_host second_host (take 9 hi ++ 0x6a ∷ []) ≡ Some Checksum
unfolding refusal ones_sum
other_last_octet = refl

pub no_checksum : Reads first_host third_host (0x03 ∷ 0xe8 ∷ 0x07 ∷ 0xd0 ∷ 0x00 ∷ 0x08 ∷ 0x00 ∷ 0x00 ∷ []) (with_data [])
unfolding ones_sum
no_checksum = record {
  size = lit≤ tt;
  header = lit≤ tt;
  whole = lit≤ tt;
  checksum = inl refl;
  from_port = refl;
  to_port = refl;
  load = refl;
}

-- One byte: its word is 6800 in the sum, and the length 9 stands twice in place of 10. 1fde and 6800 are 87de.
pub written_odd : written first_host second_host (with_data (0x68 ∷ [])) ≡ 0x03 ∷ 0xe8 ∷ 0x07 ∷ 0xd0 ∷ 0x00 ∷ 0x09 ∷ 0x78 ∷ 0x21 ∷ 0x68 ∷ []
unfolding written ones_sum
written_odd = refl

-- 1fe0 and e01f are ffff, so the computed checksum is 0, and ffff is sent.
pub written_zero : written first_host second_host (with_data (0xe0 ∷ 0x1f ∷ [])) ≡ 0x03 ∷ 0xe8 ∷ 0x07 ∷ 0xd0 ∷ 0x00 ∷ 0x0a ∷ 0xff ∷ 0xff ∷ 0xe0 ∷ 0x1f ∷ []
unfolding written ones_sum
written_zero = refl
