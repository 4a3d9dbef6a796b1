-- The bytes of an answer, which are this project's own.
use Rattle.std.specs.Prelude.{ℕ, ◌/◌, ◌%◌, List, [], ◌∷◌}

-- a number in four bytes, the highest first
abbrev pub four_bytes : ℕ → List ℕ
four_bytes n = n / 16777216 ∷ n / 65536 % 256 ∷ n / 256 % 256 ∷ n % 256 ∷ []

-- and in eight
abbrev pub eight_bytes : ℕ → List ℕ
eight_bytes n =
    n / 72057594037927936 ∷ n / 281474976710656 % 256 ∷ n / 1099511627776 % 256 ∷ n / 4294967296 % 256 ∷ n / 16777216 % 256 ∷ n / 65536 % 256 ∷ n / 256 % 256 ∷ n % 256 ∷ []
