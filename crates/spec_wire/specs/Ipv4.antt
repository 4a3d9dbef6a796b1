-- The IPv4 datagram (RFC 791, section 3.1): what bytes are read as, why they are refused, and the one spelling that is
-- written. Fragments are refused, and options are skipped: that is this project's own.
use Rattle.std.specs.Prelude.{◌≡◌, ℕ, Bool, not, ◌||◌, ◌+◌, ◌*◌, ◌/◌, ◌%◌, ◌<◌, ◌≤◌, nat_lt, ◌==◌, List, [], ◌∷◌, ◌++◌, length, take, slice_index, slice_range, Option}
use Rattle.spec_lists.specs.Refusal.{first_refusal}
use Rattle.spec_wire.specs.declared.ipv4.Bad.{Bad}
use Rattle.spec_wire.specs.declared.ipv4.Bad.TheVariants.{Short, Version, Length, Checksum, Fragment}
use Rattle.spec_wire.specs.Octets.{u16_at, u32_at, u16_octets, u32_octets}
use Rattle.spec_wire.specs.Sum.{words, ones_sum, ones_complement}

-- a datagram without its spelling: two addresses, a protocol, a time to live, and data
pub record Ipv4 : Type 0 where
  pub src : ℕ
  pub dst : ℕ
  pub proto : ℕ
  pub ttl : ℕ
  pub load : List ℕ

-- The fields of the header. Its first octet has the version and the header's length in words of four octets.
abbrev pub version_of : List ℕ → ℕ
version_of bytes = slice_index bytes 0 / 16

abbrev pub header_length_of : List ℕ → ℕ
header_length_of bytes = slice_index bytes 0 % 16 * 4

abbrev pub total_length_of : List ℕ → ℕ
total_length_of bytes = u16_at bytes 2

-- three flags, of which the lowest says that more fragments follow, and thirteen bits of fragment offset
abbrev pub more_fragments_of : List ℕ → ℕ
more_fragments_of bytes = u16_at bytes 6 / 8192 % 2

abbrev pub fragment_offset_of : List ℕ → ℕ
fragment_offset_of bytes = u16_at bytes 6 % 8192

abbrev pub header_sum_of : List ℕ → ℕ
header_sum_of bytes = ones_sum (words (take (header_length_of bytes) bytes))

-- what stands in the fields
abbrev pub fields_of : List ℕ → Ipv4
fields_of bytes = record {
  src = u32_at bytes 12;
  dst = u32_at bytes 16;
  proto = slice_index bytes 9;
  ttl = slice_index bytes 8;
  load = slice_range bytes (header_length_of bytes) (total_length_of bytes);
}

-- The bytes are read as the datagram. Nothing is said of the type of service, the identification, the other flags, the
-- options, and the bytes past the total length.
pub record Reads (bytes : List ℕ) (d : Ipv4) : Type 0 where
  pub size : 20 ≤ length bytes
  pub version : version_of bytes ≡ 4
  pub header_length : 20 ≤ header_length_of bytes
  pub total_length : header_length_of bytes ≤ total_length_of bytes
  pub whole : total_length_of bytes ≤ length bytes
  pub checksum : header_sum_of bytes ≡ 65535
  pub more_fragments : more_fragments_of bytes ≡ 0
  pub fragment_offset : fragment_offset_of bytes ≡ 0
  pub ttl : d.ttl ≡ slice_index bytes 8
  pub proto : d.proto ≡ slice_index bytes 9
  pub src : d.src ≡ u32_at bytes 12
  pub dst : d.dst ≡ u32_at bytes 16
  pub load : d.load ≡ slice_range bytes (header_length_of bytes) (total_length_of bytes)

-- The tests of what is refused.
abbrev pub is_short : List ℕ → Bool
is_short bytes = nat_lt (length bytes) 20

abbrev pub is_other_version : List ℕ → Bool
is_other_version bytes = not (version_of bytes == 4)

abbrev pub is_wrong_length : List ℕ → Bool
is_wrong_length bytes = nat_lt (header_length_of bytes) 20 || (nat_lt (total_length_of bytes) (header_length_of bytes) || nat_lt (length bytes) (total_length_of bytes))

abbrev pub is_wrong_sum : List ℕ → Bool
is_wrong_sum bytes = not (header_sum_of bytes == 65535)

abbrev pub is_fragment : List ℕ → Bool
is_fragment bytes = not (fragment_offset_of bytes == 0) || not (more_fragments_of bytes == 0)

-- the tests in their order, and why each refuses
abbrev pub refusals : List ℕ → List (Bool × Bad)
refusals bytes = (is_short bytes, Short) ∷ (is_other_version bytes, Version) ∷ (is_wrong_length bytes, Length) ∷ (is_wrong_sum bytes, Checksum) ∷ (is_fragment bytes, Fragment) ∷ []

-- why the bytes are refused: the first test that holds
unfoldable pub refusal : List ℕ → Option Bad
refusal bytes = first_refusal (refusals bytes)

-- A datagram that can be written: its addresses and its protocol are numbers of their fields, and its data fits a packet
-- of 1,500 bytes. Its own time to live is not written.
pub record IsWritable (d : Ipv4) : Type 0 where
  pub src : d.src < 4294967296
  pub dst : d.dst < 4294967296
  pub proto : d.proto < 256
  pub size : length d.load ≤ 1480

-- the header of 20 bytes with a checksum: version 4, five words, service 0, the total length, identification 0, "don't
-- fragment", a time to live of 64
abbrev pub header : Ipv4 → ℕ → List ℕ
header d checksum =
    0x45 ∷ 0 ∷ []
    ++ u16_octets (20 + length d.load)
    ++ (0 ∷ 0 ∷ 0x40 ∷ 0 ∷ 64 ∷ d.proto ∷ [])
    ++ u16_octets checksum
    ++ u32_octets d.src
    ++ u32_octets d.dst

-- "the 16 bit one's complement of the one's complement sum of all 16 bit words in the header. For purposes of computing
-- the checksum, the value of the checksum field is zero."
abbrev pub checksum_of : Ipv4 → ℕ
checksum_of d = ones_complement (ones_sum (words (header d 0)))

-- the one spelling, which has a time to live of its own
unfoldable pub written : Ipv4 → List ℕ
written d = header d (checksum_of d) ++ d.load
