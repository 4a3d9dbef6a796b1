-- The bytes of the pattern, one after the other.
use Rattle.std.proofs.Common.{◌≡◌, refl, ℕ, suc, ◌+◌, ◌%◌, List, [], ◌∷◌, ◌++◌, append_assoc, append-nil}
use Rattle.spec_script.specs.Interpreter.{pattern_bytes}

pub one_more : (made : List ℕ) (left more byte : ℕ) → left ≡ suc more → (made ++ (byte ∷ [])) ++ pattern_bytes more ((byte + 1) % 256) ≡ made ++ pattern_bytes left byte
unfolding pattern_bytes
one_more made left more byte e = rw (append_assoc, e) refl

pub no_more : (made : List ℕ) (left byte : ℕ) → left ≡ 0 → made ≡ made ++ pattern_bytes left byte
unfolding pattern_bytes
no_more made left byte e = rw (e, append-nil) refl
