-- The laws of the one's complement sum: it is the whole sum, folded, so neither the order of the words nor the moment of
-- folding matters.
use Rattle.std.proofs.Common.{◌≡◌, ℕ, zero, suc, ◌+◌, ◌-◌, ◌*◌, ◌/◌, ◌%◌, ◌<◌, ◌≤◌, List, [], ◌∷◌, ◌++◌, length, sum, refl, sym, ap, ◌∙◌, arith, lit≤}
use Rattle.std.proofs.lemmas.List.Sums.{sum_by-cons, sum_by-append}
use Rattle.spec_wire.specs.Octets.{AreOctets}
use Rattle.spec_wire.specs.Sum.{words, end_around, ones_sum, ones_complement, folded}

-- each number is a word
abbrev pub AreWords : List ℕ → Type 0
AreWords [] = Unit {0}
AreWords (w ∷ ws) = (w ≤ 65535) × AreWords ws

folded_lem : (n : ℕ) → folded n ≡ n - (n - 1) / 65535 * 65535
unfolding folded
folded_lem zero = refl
folded_lem (suc n) = omega arith

-- adding a word end around, and folding after adding it
pub end_around-folded : (w n : ℕ) → w ≤ 65535 → end_around w (folded n) ≡ folded (w + n)
end_around-folded w n h = omega (arith, folded_lem n, folded_lem (w + n))

pub folded_small : (n : ℕ) → n ≤ 65535 → folded n ≡ n
folded_small n h = omega (arith, folded_lem n)

-- one step of folding in a wide register
pub folded_step : (n : ℕ) → folded (n % 65536 + n / 65536) ≡ folded n
folded_step n = omega (arith, folded_lem n, folded_lem (n % 65536 + n / 65536))

pub folded_bound : (n : ℕ) → folded n ≤ 65535
folded_bound n = omega (arith, folded_lem n)

-- the complement of a sum that isn't 0 makes it all ones
pub folded_complemented : (n : ℕ) → 0 < n → folded (n + ones_complement (folded n)) ≡ 65535
folded_complemented n h = omega (arith, folded_lem n, folded_lem (n + (65535 - folded n)))

-- the end around sum of two words is their sum, folded
pub end_around-two : (a b : ℕ) → a ≤ 65535 → b ≤ 65535 → folded (a + b) ≡ end_around a b
end_around-two a b ha hb = omega (arith, folded_lem (a + b))

pub end_around-assoc : (a b c : ℕ) → a ≤ 65535 → b ≤ 65535 → c ≤ 65535 → end_around (end_around a b) c ≡ end_around a (end_around b c)
end_around-assoc a b c ha hb hc = omega arith

-- the one's complement sum is the whole sum, folded
pub ones_sum-folded : (ws : List ℕ) → AreWords ws → ones_sum ws ≡ folded (sum ws)
unfolding ones_sum folded
ones_sum-folded [] h = refl
ones_sum-folded (w ∷ ws) h =
    ap (end_around w) (ones_sum-folded ws h.1) ∙ end_around-folded w (sum ws) h.0 ∙ ap folded (sym (sum_by-cons (λ x. x) w ws))

-- where a list of words is cut does not matter
pub ones_sum-append : (xs ys : List ℕ) → AreWords xs → AreWords ys → ones_sum (xs ++ ys) ≡ end_around (ones_sum xs) (ones_sum ys)
unfolding ones_sum
ones_sum-append [] ys hx hy = let below = folded_bound (sum ys) in let same = ones_sum-folded ys hy in omega arith
ones_sum-append (x ∷ xs) ys hx hy =
    let rest = ones_sum-append xs ys hx.1 hy in
    let a = ones_sum-folded xs hx.1 in
    let b = ones_sum-folded ys hy in
    omega (arith, folded_bound (sum xs), folded_bound (sum ys), rest)

-- the two octets of a word make it again
pub u16_again : (n : ℕ) → n ≤ 65535 → n / 256 % 256 * 256 + n % 256 ≡ n
u16_again n h = omega arith

-- octets make words
pub words_fit : (bytes : List ℕ) → AreOctets bytes → AreWords (words bytes)
words_fit [] octets = tt
words_fit (high ∷ []) octets = (omega (arith, octets 0), tt)
words_fit (high ∷ low ∷ bytes) octets = (omega (arith, octets 0, octets 1), words_fit bytes (λ i. octets (suc (suc i))))

-- the sum of the bytes as words, by the sum in a wide register
pub ones_sum-words : (bytes : List ℕ) → AreOctets bytes → ones_sum (words bytes) ≡ folded (sum (words bytes))
ones_sum-words bytes octets = ones_sum-folded (words bytes) (words_fit bytes octets)

-- and that is a word
pub ones_sum-bound : (bytes : List ℕ) → AreOctets bytes → ones_sum (words bytes) ≤ 65535
ones_sum-bound bytes octets = omega (arith, ones_sum-folded (words bytes) (words_fit bytes octets), folded_bound (sum (words bytes)))

pub words-append_fit : (xs ys : List ℕ) → AreWords xs → AreWords ys → AreWords (xs ++ ys)
words-append_fit [] ys hx hy = hy
words-append_fit (x ∷ xs) ys hx hy = (hx.0, words-append_fit xs ys hx.1 hy)

-- with the complement of the sum in a word that was 0, the sum is all ones
pub ones_sum-checksum : (front back : List ℕ)
    → AreWords front
    → AreWords back
    → 0 < sum front + sum back
    → ones_sum (front ++ ones_complement (ones_sum (front ++ 0 ∷ back)) ∷ back) ≡ 65535
ones_sum-checksum front back hf hb some =
    let n : ℕ = sum front + sum back in
    let s : ℕ = ones_sum (front ++ 0 ∷ back) in
    let with_word : (w : ℕ) → w ≤ 65535 → ones_sum (front ++ w ∷ back) ≡ folded (n + w) = λ w h.
    ones_sum-folded (front ++ w ∷ back) (words-append_fit front (w ∷ back) hf (h, hb))
    ∙ ap folded (omega (arith, sum_by-append (λ x. x) front (w ∷ back), sum_by-cons (λ x. x) w back)) in
    let plain : s ≡ folded n = with_word 0 (omega arith) ∙ ap folded (omega arith) in
    let word : 65535 - s ≤ 65535 = omega arith in
    with_word (ones_complement s) word ∙ ap (λ (t : ℕ). folded (n + ones_complement t)) plain ∙ folded_complemented n some

-- the words of an even number of octets, and of more behind them
pub words-append : (n : ℕ) (xs ys : List ℕ) → length xs ≡ n + n → words (xs ++ ys) ≡ words xs ++ words ys
words-append n [] ys even = refl
words-append n (x ∷ []) ys even = absurd (omega arith)
words-append zero (x ∷ y ∷ xs) ys even = absurd (omega arith)
words-append (suc n) (x ∷ y ∷ xs) ys even = ap (λ ws. (x * 256 + y) ∷ ws) (words-append n xs ys (omega arith))

-- the sum over bytes in two parts, of which the first has an even number of octets
pub ones_sum-split : (n : ℕ) (xs ys : List ℕ) → AreOctets xs → AreOctets ys → length xs ≡ n + n → ones_sum (words (xs ++ ys)) ≡ end_around (ones_sum (words xs)) (ones_sum (words ys))
ones_sum-split n xs ys hx hy even = ap ones_sum (words-append n xs ys even) ∙ ones_sum-append (words xs) (words ys) (words_fit xs hx) (words_fit ys hy)

-- the sum of words, with one more between them
ones_sum-between : (front back : List ℕ) (w : ℕ)
    → AreWords front
    → AreWords back
    → w ≤ 65535
    → ones_sum (front ++ w ∷ back) ≡ folded (sum front + sum back + w)
ones_sum-between front back w hf hb h =
    ones_sum-folded (front ++ w ∷ back) (words-append_fit front (w ∷ back) hf (h, hb))
    ∙ ap folded (omega (arith, sum_by-append (λ x. x) front (w ∷ back), sum_by-cons (λ x. x) w back))

-- all ones stand for 0 in a sum that isn't 0
pub ones_sum-either_zero : (front back : List ℕ)
    → AreWords front
    → AreWords back
    → 0 < sum front + sum back
    → ones_sum (front ++ 65535 ∷ back) ≡ ones_sum (front ++ 0 ∷ back)
ones_sum-either_zero front back hf hb some =
    let n : ℕ = sum front + sum back in
    let same : folded (n + 65535) ≡ folded (n + 0) = omega (arith, folded_lem (n + 65535), folded_lem (n + 0)) in
    ones_sum-between front back 65535 hf hb (lit≤ tt) ∙ same ∙ sym (ones_sum-between front back 0 hf hb (omega arith))
