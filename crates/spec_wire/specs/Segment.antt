-- The TCP segment (RFC 9293, section 3.1) on IPv4: what bytes are read as under two addresses, why they are refused, and the
-- one spelling that is written. The order of the tests, and that the urgent pointer is ignored, are this project's own.
use Rattle.std.specs.Prelude.{◌≡◌, ℕ, zero, suc, Bool, not, ◌||◌, ◌+◌, ◌-◌, ◌*◌, ◌/◌, ◌%◌, ◌<◌, ◌≤◌, nat_lt, ◌==◌, if◌then◌else◌, List, [], ◌∷◌, ◌++◌, length, take, drop, slice_index, slice_range, Option, Some, None, is_none, bit_and}
use Rattle.spec_lists.specs.Refusal.{first_refusal}
use Rattle.spec_wire.specs.declared.segment.Bad.{Bad}
use Rattle.spec_wire.specs.declared.segment.Bad.TheVariants as bad
use Rattle.spec_wire.specs.Octets.{AreOctets, u16_at, u32_at, u16_octets, u32_octets}
use Rattle.spec_wire.specs.Pseudo.{sum_behind}
use Rattle.spec_wire.specs.Sum.{ones_complement}

-- a segment without its spelling
pub record Segment : Type 0 where
  pub from_port : ℕ
  pub to_port : ℕ
  pub seq : ℕ
  pub ack : ℕ
  pub flags : ℕ
  pub wnd : ℕ
  pub mss : Option ℕ
  pub load : List ℕ

-- ---- the flags: five of the eight bits

abbrev pub fin_flag : ℕ
fin_flag = 1

abbrev pub syn_flag : ℕ
syn_flag = 2

abbrev pub rst_flag : ℕ
rst_flag = 4

abbrev pub psh_flag : ℕ
psh_flag = 8

abbrev pub ack_flag : ℕ
ack_flag = 16

abbrev pub has : ℕ → Segment → Bool
has flag s = bit_and s.flags flag == flag

-- SEG.LEN: "the number of octets occupied by the data in the segment (counting SYN and FIN)"
abbrev pub one_if : Bool → ℕ
one_if b = if b then 1 else 0

abbrev pub seg_len : Segment → ℕ
seg_len s = length s.load + (one_if (has syn_flag s) + one_if (has fin_flag s))

-- ---- the options

-- what the options tell
pub record Options : Type 0 where
  pub mss : Option ℕ

abbrev pub no_options : Options
no_options = record { mss = None }

-- an option at the front of a list of octets: the end of all, one octet, one of a kind with its data, or none that can be
-- read; and what follows
pub data NextOption : Type 0 where
  Ends : NextOption
  Padding : (rest : List ℕ) → NextOption
  OfKind : (kind : ℕ) (body rest : List ℕ) → NextOption
  Wrong : NextOption

abbrev pub sized_option : ℕ → List ℕ → NextOption
sized_option kind [] = Wrong
sized_option kind (size ∷ rest) =
    if nat_lt size 2 || nat_lt (length rest + 2) size then Wrong
    else OfKind kind (take (size - 2) rest) (drop (size - 2) rest)

abbrev pub next_option : List ℕ → NextOption
next_option [] = Ends
next_option (kind ∷ rest) = if kind == 0 then Ends else (if kind == 1 then Padding rest else sized_option kind rest)

-- what an option adds: the maximum segment size (kind 2) has a length of 4, so 2 octets of data, and others tell nothing
abbrev pub with_option : ℕ → List ℕ → Options → Option Options
with_option kind body options =
    if kind == 2 then (if length body == 2 then Some (record options { mss = Some (u16_at body 0) }) else None) else Some options

-- what the options of a header tell, of several of a kind the last; None where one is wrong. The number is how many octets
-- are left at most.
unfoldable pub read_options : ℕ → List ℕ → Options → Option Options
read_options zero bytes options = Some options
read_options (suc n) bytes options = elim (next_option bytes) [
  | Ends ↦ Some options
  | Padding rest ↦ read_options n rest options
  | OfKind kind body rest ↦ elim (with_option kind body options) [ None ↦ None | Some more ↦ read_options n rest more ]
  | Wrong ↦ None
]

-- ---- the fields

-- "Data Offset: the number of 32-bit words in the TCP header"
abbrev pub header_length : List ℕ → ℕ
header_length bytes = slice_index bytes 12 / 16 * 4

abbrev pub flags_of : List ℕ → ℕ
flags_of bytes = slice_index bytes 13 % 32

abbrev pub option_octets : List ℕ → List ℕ
option_octets bytes = slice_range bytes 20 (header_length bytes)

abbrev pub options_of : List ℕ → Option Options
options_of bytes = read_options (length (option_octets bytes)) (option_octets bytes) no_options

-- the sum behind the pseudo header; 6 is the protocol TCP
abbrev pub sum_of : ℕ → ℕ → List ℕ → ℕ
sum_of src dst bytes = sum_behind 6 src dst bytes

-- what stands in the fields, with what the options tell
abbrev pub fields_of : List ℕ → Options → Segment
fields_of bytes options = record {
  from_port = u16_at bytes 0;
  to_port = u16_at bytes 2;
  seq = u32_at bytes 4;
  ack = u32_at bytes 8;
  flags = flags_of bytes;
  wnd = u16_at bytes 14;
  mss = options.mss;
  load = drop (header_length bytes) bytes;
}

-- The bytes are read as the segment, sent from the one address to the other. Nothing is said of the urgent pointer and of the
-- other flags.
pub record Reads (src : ℕ) (dst : ℕ) (bytes : List ℕ) (s : Segment) : Type 0 where
  pub size : 20 ≤ length bytes
  pub header : 20 ≤ header_length bytes
  pub whole : header_length bytes ≤ length bytes
  pub checksum : sum_of src dst bytes ≡ 65535
  pub from_port : s.from_port ≡ u16_at bytes 0
  pub to_port : s.to_port ≡ u16_at bytes 2
  pub seq : s.seq ≡ u32_at bytes 4
  pub ack : s.ack ≡ u32_at bytes 8
  pub flags : s.flags ≡ flags_of bytes
  pub wnd : s.wnd ≡ u16_at bytes 14
  pub options : options_of bytes ≡ Some (record { mss = s.mss })
  pub load : s.load ≡ drop (header_length bytes) bytes

-- The tests of what is refused.
abbrev pub is_short : List ℕ → Bool
is_short bytes = nat_lt (length bytes) 20

abbrev pub is_wrong_offset : List ℕ → Bool
is_wrong_offset bytes = nat_lt (header_length bytes) 20 || nat_lt (length bytes) (header_length bytes)

abbrev pub is_wrong_sum : ℕ → ℕ → List ℕ → Bool
is_wrong_sum src dst bytes = not (sum_of src dst bytes == 65535)

abbrev pub is_wrong_option : List ℕ → Bool
is_wrong_option bytes = is_none (options_of bytes)

-- the tests in their order, and why each refuses
abbrev pub refusals : ℕ → ℕ → List ℕ → List (Bool × Bad)
refusals src dst bytes = (is_short bytes, bad.Short) ∷ (is_wrong_offset bytes, bad.Offset) ∷ (is_wrong_sum src dst bytes, bad.Checksum) ∷ (is_wrong_option bytes, bad.Option) ∷ []

-- why the bytes are refused: the first test that holds
unfoldable pub refusal : ℕ → ℕ → List ℕ → Option Bad
refusal src dst bytes = first_refusal (refusals src dst bytes)

-- ---- the one spelling

abbrev pub written_options : Option ℕ → List ℕ
written_options None = []
written_options (Some mss) = 2 ∷ 4 ∷ u16_octets mss

abbrev pub header_words : Option ℕ → ℕ
header_words None = 5
header_words (Some mss) = 6

-- the header before its checksum, and after it
abbrev pub header_front : Segment → List ℕ
header_front s =
    u16_octets s.from_port
    ++ u16_octets s.to_port
    ++ u32_octets s.seq
    ++ u32_octets s.ack
    ++ ((header_words s.mss * 16) ∷ s.flags ∷ [])
    ++ u16_octets s.wnd

abbrev pub header_back : Segment → List ℕ
header_back s = 0 ∷ 0 ∷ written_options s.mss

abbrev pub with_checksum : Segment → ℕ → List ℕ
with_checksum s checksum = header_front s ++ (u16_octets checksum ++ (header_back s ++ s.load))

abbrev pub checksum_of : ℕ → ℕ → Segment → ℕ
checksum_of src dst s = ones_complement (sum_of src dst (with_checksum s 0))

unfoldable pub written : ℕ → ℕ → Segment → List ℕ
written src dst s = with_checksum s (checksum_of src dst s)

-- A segment that can be written.
pub record IsWritable (s : Segment) : Type 0 where
  pub from_port : s.from_port < 65536
  pub to_port : s.to_port < 65536
  pub seq : s.seq < 4294967296
  pub ack : s.ack < 4294967296
  pub flags : s.flags < 32
  pub wnd : s.wnd < 65536
  pub mss : (m : ℕ) → s.mss ≡ Some m → m < 65536
  pub size : length (written_options s.mss) + length s.load ≤ 1460
  pub octets : AreOctets s.load
