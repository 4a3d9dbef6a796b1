-- The user datagram (RFC 768) on IPv4: what bytes are read as under two addresses, why they are refused, and the one
-- spelling that is written. That bytes past the length are ignored, and the order of the tests, are this project's own.
use Rattle.std.specs.Prelude.{◌≡◌, ℕ, Bool, not, ◌&&◌, ◌||◌, ◌+◌, ◌<◌, ◌≤◌, nat_lt, ◌==◌, if◌then◌else◌, List, [], ◌∷◌, ◌++◌, length, take, slice_range, Option, ◌⊎◌}
use Rattle.spec_lists.specs.Refusal.{first_refusal}
use Rattle.spec_wire.specs.declared.udp.Bad.{Bad}
use Rattle.spec_wire.specs.declared.udp.Bad.TheVariants.{Short, Length, Checksum}
use Rattle.spec_wire.specs.Octets.{AreOctets, u16_at, u16_octets}
use Rattle.spec_wire.specs.Pseudo.{sum_behind}
use Rattle.spec_wire.specs.Sum.{ones_complement}

-- a user datagram without its spelling: two ports, and data
pub record UserDatagram : Type 0 where
  pub from_port : ℕ
  pub to_port : ℕ
  pub load : List ℕ

-- "Length is the length in octets of this user datagram including this header and the data."
abbrev pub length_of : List ℕ → ℕ
length_of bytes = u16_at bytes 4

abbrev pub checksum_field_of : List ℕ → ℕ
checksum_field_of bytes = u16_at bytes 6

-- the datagram alone, without the bytes that follow it
abbrev pub datagram_of : List ℕ → List ℕ
datagram_of bytes = take (length_of bytes) bytes

-- the sum behind the pseudo header; 17 is the protocol UDP
abbrev pub sum_of : ℕ → ℕ → List ℕ → ℕ
sum_of src dst datagram = sum_behind 17 src dst datagram

-- what stands in the fields
abbrev pub fields_of : List ℕ → UserDatagram
fields_of bytes = record {
  from_port = u16_at bytes 0;
  to_port = u16_at bytes 2;
  load = slice_range bytes 8 (length_of bytes);
}

-- The bytes are read as the datagram, sent from the one address to the other. A checksum field of 0 means that the sender
-- made no checksum. Nothing is said of the bytes past the length.
pub record Reads (src : ℕ) (dst : ℕ) (bytes : List ℕ) (u : UserDatagram) : Type 0 where
  pub size : 8 ≤ length bytes
  pub header : 8 ≤ length_of bytes
  pub whole : length_of bytes ≤ length bytes
  pub checksum : (checksum_field_of bytes ≡ 0) ⊎ (sum_of src dst (datagram_of bytes) ≡ 65535)
  pub from_port : u.from_port ≡ u16_at bytes 0
  pub to_port : u.to_port ≡ u16_at bytes 2
  pub load : u.load ≡ slice_range bytes 8 (length_of bytes)

-- The tests of what is refused.
abbrev pub is_short : List ℕ → Bool
is_short bytes = nat_lt (length bytes) 8

abbrev pub is_wrong_length : List ℕ → Bool
is_wrong_length bytes = nat_lt (length_of bytes) 8 || nat_lt (length bytes) (length_of bytes)

abbrev pub is_wrong_sum : ℕ → ℕ → List ℕ → Bool
is_wrong_sum src dst bytes = not (checksum_field_of bytes == 0) && not (sum_of src dst (datagram_of bytes) == 65535)

-- the tests in their order, and why each refuses
abbrev pub refusals : ℕ → ℕ → List ℕ → List (Bool × Bad)
refusals src dst bytes = (is_short bytes, Short) ∷ (is_wrong_length bytes, Length) ∷ (is_wrong_sum src dst bytes, Checksum) ∷ []

-- why the bytes are refused: the first test that holds
unfoldable pub refusal : ℕ → ℕ → List ℕ → Option Bad
refusal src dst bytes = first_refusal (refusals src dst bytes)

-- A datagram that can be written: its ports are numbers of their fields, and its data are octets that fit a packet of
-- 1,500 bytes.
pub record IsWritable (u : UserDatagram) : Type 0 where
  pub from_port : u.from_port < 65536
  pub to_port : u.to_port < 65536
  pub size : length u.load ≤ 1472
  pub octets : AreOctets u.load

-- the header of 8 bytes with a checksum
abbrev pub header : UserDatagram → ℕ → List ℕ
header u checksum =
    u16_octets u.from_port
    ++ u16_octets u.to_port
    ++ u16_octets (8 + length u.load)
    ++ u16_octets checksum

-- "the 16-bit one's complement of the one's complement sum", with 0 in the checksum's place
abbrev pub computed_checksum : ℕ → ℕ → UserDatagram → ℕ
computed_checksum src dst u = ones_complement (sum_of src dst (header u 0 ++ u.load))

-- "If the computed checksum is zero, it is transmitted as all ones."
abbrev pub sent_checksum : ℕ → ℕ
sent_checksum computed = if computed == 0 then 65535 else computed

-- the one spelling
unfoldable pub written : ℕ → ℕ → UserDatagram → List ℕ
written src dst u = header u (sent_checksum (computed_checksum src dst u)) ++ u.load
