-- The internet checksum (RFC 1071, section 1; RFC 791, section 3.1, "Header Checksum").
use Rattle.std.specs.Prelude.{ℕ, zero, suc, ◌+◌, ◌-◌, ◌*◌, ◌/◌, ◌%◌, List, [], ◌∷◌}

-- "Adjacent octets to be checksummed are paired to form 16-bit integers"; an odd octet at the end has a zero octet after it
abbrev pub words : List ℕ → List ℕ
words [] = []
words (high ∷ []) = (high * 256) ∷ []
words (high ∷ low ∷ bytes) = (high * 256 + low) ∷ words bytes

-- one's complement addition of two words: the carry out of the high bit is added in at the low end
abbrev pub end_around : ℕ → ℕ → ℕ
end_around a b = (a + b) % 65536 + (a + b) / 65536

-- the one's complement sum of words
unfoldable pub ones_sum : List ℕ → ℕ
ones_sum [] = 0
ones_sum (w ∷ ws) = end_around w (ones_sum ws)

-- the one's complement of a word
abbrev pub ones_complement : ℕ → ℕ
ones_complement w = 65535 - w

-- a sum in a wide register, brought down to a word: it is 0 only for 0, and else from 1 to 65535, modulo 65535
unfoldable pub folded : ℕ → ℕ
folded zero = 0
folded (suc n) = n % 65535 + 1
