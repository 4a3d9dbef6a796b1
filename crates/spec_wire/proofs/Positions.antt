-- Positions and sequence numbers.
use Rattle.std.proofs.Common.{◌≡◌, ℕ, ◌+◌, ◌<◌, ◌≤◌, arith}
use Rattle.spec_wire.specs.Positions.{number_of, nearest}

-- a position less than 2^31 from the base is the one that its number stands for
pub nearest_again : (base p : ℕ) → 2147483648 ≤ base → base ≤ p + 2147483648 → p < base + 2147483648 → nearest base (number_of p) ≡ p
nearest_again base p low below above = omega arith

-- two ends count the same positions from different numbers: the distance is the same
pub nearest_moved : (base p line isn : ℕ)
    → 2147483648 ≤ base
    → number_of base ≡ number_of (isn + line)
    → line ≤ p + 2147483648
    → p < line + 2147483648
    → nearest base (number_of (isn + p)) + line ≡ base + p
nearest_moved base p line isn low same below above = omega arith

-- the nearest position is no further away
pub nearest_bound : (base number : ℕ) → 2147483648 ≤ base → number < 4294967296 → (base ≤ nearest base number + 2147483648) × (nearest base number < base + 2147483648)
nearest_bound base number low small = (omega arith, omega arith)
