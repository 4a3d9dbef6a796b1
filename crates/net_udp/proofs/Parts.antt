-- The header and the data make up the datagram.
use Rattle.std.proofs.Common.{◌≡◌, ℕ, ◌-◌, ◌+◌, ◌≤◌, List, ◌++◌, take, drop, sym, ap, ◌∙◌, arith}
use Rattle.std.proofs.Math.Seq.{take-add}

pub header_and_data : (n : ℕ) (bytes : List ℕ) → 8 ≤ n → take 8 bytes ++ take (n - 8) (drop 8 bytes) ≡ take n bytes
header_and_data n bytes h =
    let whole : 8 + (n - 8) ≡ n = omega arith in
    sym (take-add 8 (n - 8) bytes) ∙ ap (λ m. take m bytes) whole
