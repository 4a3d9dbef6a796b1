-- The end point in six bytes.
use Rattle.std.proofs.Common.{◌≡◌, refl, ℕ, ◌+◌, ◌*◌, ◌<◌, ◌≤◌, length, List, [], ◌∷◌, arith, slice_index_or}
use Rattle.it_types.specs.declared.id.EndPt.{EndPt}
use Rattle.spec_script.specs.Interpreter.{peer_in}

pub six_bytes : (bytes : List ℕ) (peer : EndPt) (addr port : ℕ) → 6 ≤ length bytes
    → addr ≡ ((slice_index_or bytes 0 0 * 256 + slice_index_or bytes 1 0) * 256 + slice_index_or bytes 2 0) * 256 + slice_index_or bytes 3 0
    → port ≡ slice_index_or bytes 4 0 * 256 + slice_index_or bytes 5 0
    → peer_in bytes peer ≡ record { addr = addr; port = port }
unfolding peer_in
six_bytes [] peer addr port h a p = absurd (omega arith)
six_bytes (b0 ∷ []) peer addr port h a p = absurd (omega arith)
six_bytes (b0 ∷ b1 ∷ []) peer addr port h a p = absurd (omega arith)
six_bytes (b0 ∷ b1 ∷ b2 ∷ []) peer addr port h a p = absurd (omega arith)
six_bytes (b0 ∷ b1 ∷ b2 ∷ b3 ∷ []) peer addr port h a p = absurd (omega arith)
six_bytes (b0 ∷ b1 ∷ b2 ∷ b3 ∷ b4 ∷ []) peer addr port h a p = absurd (omega arith)
six_bytes (b0 ∷ b1 ∷ b2 ∷ b3 ∷ b4 ∷ b5 ∷ bytes) peer addr port h a p = rw (a, p) refl

pub fewer_bytes : (bytes : List ℕ) (peer : EndPt) → length bytes < 6 → peer_in bytes peer ≡ peer
unfolding peer_in
fewer_bytes [] peer h = refl
fewer_bytes (b0 ∷ []) peer h = refl
fewer_bytes (b0 ∷ b1 ∷ []) peer h = refl
fewer_bytes (b0 ∷ b1 ∷ b2 ∷ []) peer h = refl
fewer_bytes (b0 ∷ b1 ∷ b2 ∷ b3 ∷ []) peer h = refl
fewer_bytes (b0 ∷ b1 ∷ b2 ∷ b3 ∷ b4 ∷ []) peer h = refl
fewer_bytes (b0 ∷ b1 ∷ b2 ∷ b3 ∷ b4 ∷ b5 ∷ bytes) peer h = absurd (omega arith)
