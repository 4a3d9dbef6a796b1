-- A sum that is taken piece by piece.
use Rattle.std.proofs.Common.{◌≡◌, ℕ, zero, suc, ◌+◌, ◌≤◌, List, [], ◌∷◌, ◌++◌, length, take, drop, ap, sym, ◌∙◌, lit≤}
use Rattle.spec_wire.specs.Octets.{AreOctets}
use Rattle.spec_wire.specs.Sum.{words, ones_sum, end_around}
use Rattle.spec_wire.proofs.SumLaws.{end_around-assoc, ones_sum-bound, ones_sum-split}

pub take_octets : (n : ℕ) (bytes : List ℕ) → AreOctets bytes → AreOctets (take n bytes)
take_octets zero bytes octets i = lit≤ tt
take_octets (suc n) [] octets i = lit≤ tt
take_octets (suc n) (b ∷ bs) octets zero = octets 0
take_octets (suc n) (b ∷ bs) octets (suc i) = take_octets n bs (λ j. octets (suc j)) i

pub drop_octets : (n : ℕ) (bytes : List ℕ) → AreOctets bytes → AreOctets (drop n bytes)
drop_octets zero bytes octets = octets
drop_octets (suc n) [] octets = octets
drop_octets (suc n) (b ∷ bs) octets = drop_octets n bs (λ j. octets (suc j))

pub append_octets : (xs ys : List ℕ) → AreOctets xs → AreOctets ys → AreOctets (xs ++ ys)
append_octets [] ys hx hy i = hy i
append_octets (x ∷ xs) ys hx hy zero = hx 0
append_octets (x ∷ xs) ys hx hy (suc i) = append_octets xs ys (λ j. hx (suc j)) hy i

-- a piece of an even number of bytes is added to what stood before it
pub with_piece : (half total : ℕ) (piece after : List ℕ)
    → total ≤ 65535
    → AreOctets piece
    → AreOctets after
    → length piece ≡ half + half
    → end_around (end_around total (ones_sum (words piece))) (ones_sum (words after)) ≡ end_around total (ones_sum (words (piece ++ after)))
with_piece half total piece after small hp ha even =
    end_around-assoc total (ones_sum (words piece)) (ones_sum (words after)) small (ones_sum-bound piece hp) (ones_sum-bound after ha)
    ∙ ap (end_around total) (sym (ones_sum-split half piece after hp ha even))
