-- What was written in two pieces, one after the other.
use Rattle.std.proofs.Common.{◌≡◌, ℕ, ◌+◌, ◌-◌, List, ◌++◌, Option, length, take, drop, subst, sym, ap, ◌∙◌, take-add}
use Rattle.std.specs.Io.KnownBytes.{Appends}
use Rattle.std.proofs.KnownBytes.{Appends-trans}
use Rattle.it_io.proofs.Pieces.{slice_from}

-- the first k bytes, and then the next n
pub put_more : (a b c : Option (List ℕ)) (bytes : List ℕ) (k n : ℕ) → Appends a b (take k bytes) → Appends b c (take n (take (length bytes - k) (drop k bytes))) → Appends a c (take (k + n) bytes)
put_more a b c bytes k n p q =
    let e : take k bytes ++ take n (take (length bytes - k) (drop k bytes)) ≡ take (k + n) bytes =
    ap (λ l. take k bytes ++ take n l) (slice_from bytes k) ∙ sym (take-add k n bytes) in
    subst (Appends a c) e (Appends-trans a b c _ _ p q)
