-- Sums of sizes as far as 64 bits count.
use Rattle.std.specs.Prelude.{ℕ, min}

abbrev pub greatest_size : ℕ
greatest_size = 18446744073709551615

abbrev pub capped : ℕ → ℕ
capped n = min n greatest_size
