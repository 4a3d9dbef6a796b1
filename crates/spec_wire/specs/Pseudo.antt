-- The pseudo header of UDP and TCP (RFC 768, "Checksum"; RFC 9293, section 3.1, figure 2).
use Rattle.std.specs.Prelude.{ℕ, List, [], ◌∷◌, ◌++◌, length}
use Rattle.spec_wire.specs.Octets.{u16_octets, u32_octets}
use Rattle.spec_wire.specs.Sum.{words, ones_sum}

-- what stands before the datagram or segment in the sum alone: source address, destination address, a zero octet, the
-- protocol, and how many octets follow
abbrev pub pseudo_header : ℕ → ℕ → ℕ → ℕ → List ℕ
pseudo_header protocol src dst size = u32_octets src ++ u32_octets dst ++ (0 ∷ protocol ∷ []) ++ u16_octets size

-- "the one's complement sum of a pseudo header of information from the IP header, the UDP header, and the data, padded with
-- zero octets at the end (if necessary) to make a multiple of two octets"; over a TCP segment it is made likewise
abbrev pub sum_behind : ℕ → ℕ → ℕ → List ℕ → ℕ
sum_behind protocol src dst bytes = ones_sum (words (pseudo_header protocol src dst (length bytes) ++ bytes))
