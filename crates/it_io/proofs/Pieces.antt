-- Pieces of lists of bytes.
use Rattle.std.proofs.Common.{◌≡◌, ℕ, ◌+◌, ◌-◌, ◌<◌, ◌≤◌, min, List, [], ◌++◌, length, take, drop, sym, ap, ◌∙◌, take_all, take_at, take-append-drop, drop-drop, length-take, length-drop, length-append, arith}
use Rattle.std.proofs.lemmas.List.{drop_all}

-- the bytes from k on
pub slice_from : (bytes : List ℕ) (k : ℕ) → take (length bytes - k) (drop k bytes) ≡ drop k bytes
slice_from bytes k = take_all (length bytes - k) (drop k bytes) (omega (arith, length-drop k bytes))

-- n bytes were copied from those that begin at k to the front of a buffer
pub record Copied (bytes buf to : List ℕ) (k piece n : ℕ) : Type 0 where
  pub count : n ≡ min (length (drop k bytes)) (min piece (length buf))
  pub after : to ≡ take n (drop k bytes) ++ drop n buf

-- the bytes from k on are those that were copied, and the bytes behind them
pub copied_left : (bytes buf to : List ℕ) (k piece n : ℕ) → Copied bytes buf to k piece n → drop k bytes ≡ take n to ++ drop (k + n) bytes
copied_left bytes buf to k piece n c =
    let rest = drop k bytes in
    let whole : length (take n rest) ≡ n = omega (arith, length-take n rest, c.count) in
    let front : take n to ≡ take n rest = ap (take n) c.after ∙ take_at (take n rest) (drop n buf) n whole in
    rw front (rw (← drop-drop n k bytes) (sym (take-append-drop n rest)))

-- none is copied to a buffer that has a place only where there is none
pub copied_none : (bytes buf to : List ℕ) (k piece n : ℕ) → Copied bytes buf to k piece n → 1 ≤ piece → n ≡ 0 → 0 < length to → drop (k + n) bytes ≡ []
copied_none bytes buf to k piece n c some none place =
    let rest = drop k bytes in
    let long : length to ≡ length (take n rest) + length (drop n buf) = rw c.after (length-append (take n rest) (drop n buf)) in
    drop_all (k + n) bytes (omega (arith, c.count, long, length-take n rest, length-drop n buf, length-drop k bytes))
