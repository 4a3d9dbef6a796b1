-- Numbers in the octets of an internet header, the most significant octet first (RFC 791, appendix B).
use Rattle.std.specs.Prelude.{ℕ, ◌+◌, ◌*◌, ◌/◌, ◌%◌, ◌<◌, List, [], ◌∷◌, slice_index}

-- each number is an octet
abbrev pub AreOctets : List ℕ → Type 0
AreOctets bytes = (i : ℕ) → slice_index bytes i < 256

-- the number in the two octets from a place on
abbrev pub u16_at : List ℕ → ℕ → ℕ
u16_at bytes i = slice_index bytes i * 256 + slice_index bytes (i + 1)

-- the number in the four octets from a place on
abbrev pub u32_at : List ℕ → ℕ → ℕ
u32_at bytes i = u16_at bytes i * 65536 + u16_at bytes (i + 2)

-- the two octets of a number below 2^16
abbrev pub u16_octets : ℕ → List ℕ
u16_octets n = (n / 256 % 256) ∷ (n % 256) ∷ []

-- the four octets of a number below 2^32
abbrev pub u32_octets : ℕ → List ℕ
u32_octets n = (n / 16777216 % 256) ∷ (n / 65536 % 256) ∷ (n / 256 % 256) ∷ (n % 256) ∷ []
