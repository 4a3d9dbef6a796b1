-- Segments worked out by hand, read and written by computation.
use Rattle.std.proofs.Common.{◌≡◌, ℕ, List, [], ◌∷◌, ◌++◌, take, Option, Some, None, refl, lit≤, pos, negsuc}
use Rattle.spec_wire.specs.declared.segment.Bad.TheVariants as bad
use Rattle.spec_wire.specs.Sum.{ones_sum}
use Rattle.spec_wire.specs.Segment.{Segment, Reads, refusal, written, read_options, no_options}
use Rattle.spec_wire.specs.Positions.{offset_of, nearest}

-- 10.0.0.1, 10.0.0.2 and 10.0.0.3
abbrev first_host : ℕ
first_host = 0x0a000001

abbrev second_host : ℕ
second_host = 0x0a000002

abbrev third_host : ℕ
third_host = 0x0a000003

-- The first segment of a handshake: port 49152 to port 7, sequence number 65536, SYN, a window of 1,024 and an MSS of 1,460.
-- The words of the sum but the checksum: 0a00, 0001, 0a00, 0002, 0006, 0018; c000, 0007, 0001, 0000, 0000, 0000, 6002, 0400,
-- 0000, 0204, 05b4. They add up to 13fe3, with the carry to 3fe4, whose complement is c01b.
abbrev syn_front : List ℕ
syn_front = 0xc0 ∷ 0x00 ∷ 0x00 ∷ 0x07 ∷ 0x00 ∷ 0x01 ∷ 0x00 ∷ 0x00 ∷ 0x00 ∷ 0x00 ∷ 0x00 ∷ 0x00 ∷ 0x60 ∷ 0x02 ∷ 0x04 ∷ 0x00 ∷ 0xc0 ∷ 0x1b ∷ 0x00 ∷ 0x00 ∷ 0x02 ∷ 0x04 ∷ 0x05 ∷ []

abbrev syn_octets : ℕ → List ℕ
syn_octets last = syn_front ++ last ∷ []

abbrev syn : Segment
syn = record { from_port = 49152; to_port = 7; seq = 65536; ack = 0; flags = 2; wnd = 1024; mss = Some 1460; load = [] }

pub reads_syn : Reads first_host second_host (syn_octets 0xb4) syn
unfolding ones_sum read_options
reads_syn = record {
  size = lit≤ tt;
  header = lit≤ tt;
  whole = lit≤ tt;
  checksum = refl;
  from_port = refl;
  to_port = refl;
  seq = refl;
  ack = refl;
  flags = refl;
  wnd = refl;
  options = refl;
  load = refl;
}

pub syn_is_not_refused : refusal first_host second_host (syn_octets 0xb4) ≡ None
unfolding refusal ones_sum read_options
syn_is_not_refused = refl

pub written_syn : written first_host second_host syn ≡ syn_octets 0xb4
unfolding written ones_sum
written_syn = refl

pub nineteen_bytes : refusal first_host second_host (take 19 syn_front) ≡ Some bad.Short
unfolding refusal ones_sum read_options
nineteen_bytes = refl

-- the header has six words
pub without_its_last_octet : refusal first_host second_host syn_front ≡ Some bad.Offset
unfolding refusal ones_sum read_options
without_its_last_octet = refl

pub another_last_octet : refusal first_host second_host (syn_octets 0xb5) ≡ Some bad.Checksum
unfolding refusal ones_sum read_options
another_last_octet = refl

-- the destination is a part of the sum
pub syn_to_another : refusal first_host third_host (syn_octets 0xb4) ≡ Some bad.Checksum
unfolding refusal ones_sum read_options
syn_to_another = refl

-- The two other segments of the handshake.
abbrev syn_ack : Segment
syn_ack = record { from_port = 7; to_port = 49152; seq = 65536; ack = 65537; flags = 18; wnd = 1024; mss = Some 1460; load = [] }

pub written_syn_ack : written second_host first_host syn_ack
    ≡ 0x00 ∷ 0x07 ∷ 0xc0 ∷ 0x00 ∷ 0x00 ∷ 0x01 ∷ 0x00 ∷ 0x00 ∷ 0x00 ∷ 0x01 ∷ 0x00 ∷ 0x01 ∷ 0x60 ∷ 0x12 ∷ 0x04 ∷ 0x00 ∷ 0xc0 ∷ 0x09 ∷ 0x00 ∷ 0x00 ∷ 0x02 ∷ 0x04 ∷ 0x05 ∷ 0xb4 ∷ []
unfolding written ones_sum
written_syn_ack = refl

abbrev last_ack : Segment
last_ack = record { from_port = 49152; to_port = 7; seq = 65537; ack = 65537; flags = 16; wnd = 1024; mss = None; load = [] }

pub written_last_ack : written first_host second_host last_ack
    ≡ 0xc0 ∷ 0x00 ∷ 0x00 ∷ 0x07 ∷ 0x00 ∷ 0x01 ∷ 0x00 ∷ 0x01 ∷ 0x00 ∷ 0x01 ∷ 0x00 ∷ 0x01 ∷ 0x50 ∷ 0x10 ∷ 0x04 ∷ 0x00 ∷ 0xd7 ∷ 0xc6 ∷ 0x00 ∷ 0x00 ∷ []
unfolding written ones_sum
written_last_ack = refl

-- ---- options: the end, one octet of padding, what is skipped by its length, and the maximum segment size

abbrev told : List ℕ → Option (Option ℕ)
told bytes = elim (read_options 8 bytes no_options) [ None ↦ None | Some options ↦ Some options.mss ]

pub no_option : told [] ≡ Some None
unfolding read_options
no_option = refl

pub padding_first : told (1 ∷ 1 ∷ 2 ∷ 4 ∷ 5 ∷ 0xb4 ∷ 0 ∷ []) ≡ Some (Some 1460)
unfolding read_options
padding_first = refl

pub rubbish_after_the_end : told (0 ∷ 2 ∷ 0 ∷ 3 ∷ []) ≡ Some None
unfolding read_options
rubbish_after_the_end = refl

pub the_last_of_two : told (2 ∷ 4 ∷ 1 ∷ 0 ∷ 2 ∷ 4 ∷ 2 ∷ 0 ∷ []) ≡ Some (Some 512)
unfolding read_options
the_last_of_two = refl

pub skipped_by_its_length : told (3 ∷ 3 ∷ 7 ∷ 1 ∷ 2 ∷ 4 ∷ 1 ∷ 0 ∷ []) ≡ Some (Some 256)
unfolding read_options
skipped_by_its_length = refl

pub no_length : told (1 ∷ 1 ∷ 1 ∷ 3 ∷ []) ≡ None
unfolding read_options
no_length = refl

pub length_of_0 : told (3 ∷ 0 ∷ 0 ∷ 0 ∷ []) ≡ None
unfolding read_options
length_of_0 = refl

pub length_of_1 : told (3 ∷ 1 ∷ 0 ∷ 0 ∷ []) ≡ None
unfolding read_options
length_of_1 = refl

pub up_to_the_end_of_the_header : told (3 ∷ 4 ∷ 0 ∷ 0 ∷ []) ≡ Some None
unfolding read_options
up_to_the_end_of_the_header = refl

pub past_the_header : told (3 ∷ 5 ∷ 0 ∷ 0 ∷ []) ≡ None
unfolding read_options
past_the_header = refl

pub segment_size_of_three_octets : told (2 ∷ 3 ∷ 5 ∷ 0 ∷ []) ≡ None
unfolding read_options
segment_size_of_three_octets = refl

pub segment_size_of_five_octets : told (2 ∷ 5 ∷ 5 ∷ 0xb4 ∷ 0 ∷ 0 ∷ 0 ∷ 0 ∷ []) ≡ None
unfolding read_options
segment_size_of_five_octets = refl

-- ---- sequence numbers go round at 2^32

pub over_the_turn : offset_of 5 4294967290 ≡ pos 11
over_the_turn = refl

pub back_over_the_turn : offset_of 4294967290 5 ≡ negsuc 10
back_over_the_turn = refl

pub furthest_ahead : offset_of 2147483647 0 ≡ pos 2147483647
furthest_ahead = refl

pub furthest_behind : offset_of 2147483648 0 ≡ negsuc 2147483647
furthest_behind = refl

pub nearest_over_the_turn : nearest 8589934586 5 ≡ 8589934597
nearest_over_the_turn = refl

-- of two positions as near as each other the lower one
pub nearest_on_a_tie : nearest 4294967296 2147483648 ≡ 2147483648
nearest_on_a_tie = refl
