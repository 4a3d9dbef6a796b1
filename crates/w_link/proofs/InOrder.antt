-- What a heap holds is one list in order, however the heap keeps it, and the top of the heap is its first.
use Rattle.std.proofs.Common.{◌≡◌, ℕ, ◌+◌, ◌<◌, ◌≤◌, true, false, List, [], ◌∷◌, length, get_or, refl, sym, ap, ◌∙◌, subst, arith, Option, Some, None}
use Rattle.std.proofs.lemmas.Bool.{le-leb, lt-leb, ne_eqb}
use Rattle.std.specs.Prelude.{if◌then◌else◌, ◌==◌, ◌↔◌}
use Rattle.std.specs.List.{AllByRecursion, sum_by}
use Rattle.std.specs.List.Sorted.{IsPermutation}
use Rattle.std.specs.BinaryHeap.{IsUpperBound}
use Rattle.std.specs.Ordering.{is_lt, ordering_reverse}
use Rattle.std.specs.declared.cmp.Ordering.{Ordering}
use Rattle.std.specs.declared.cmp.Ordering.TheVariants.{Less, Equal, Greater}
use Rattle.std.specs.Cmp.{tied_itself}
use Rattle.std.specs.declared.cmp.Reverse.{Reverse}
use Rattle.std.proofs.lemmas.List.Sums.{sum_by-cons}
use Rattle.std.proofs.lemmas.List.Sorted.{sum_by-IsPermutation}
use Rattle.it_types.specs.declared.id.PackNo.{PackNo}
use Rattle.spec_link.specs.declared.delivery.Delivery.{Delivery}
use Rattle.spec_link.specs.Deliveries.{IsInTurn, in_turn, packet_due, with_delivery, without_due}
use Rattle.spec_link.specs.Link.{is_none_left}
use Rattle.spec_link.proofs.Sendings.{none_due, not_due_before}
use Rattle.spec_link.proofs.Turns.{all_of, all_with, by_test, in_turn_total, same_turn, with_in_turn}
use Rattle.w_link.specs.InOrder.{in_order, reversed}

pub in_order-in_turn : (rs : List (Reverse Delivery)) → IsInTurn (in_order rs)
in_order-in_turn [] = tt
in_order-in_turn (r ∷ rs) = with_in_turn r.0 (in_order rs) (in_order-in_turn rs)

pub all_in_order : (P : Delivery → Type 0) (rs : List (Reverse Delivery)) → AllByRecursion (λ r. P r.0) rs → AllByRecursion P (in_order rs)
all_in_order P [] h = tt
all_in_order P (r ∷ rs) h = all_with P r.0 (in_order rs) h.0 (all_in_order P rs h.1)

-- ---- weights

weighs_with : (f : Delivery → ℕ) (d : Delivery) (es : List Delivery) → sum_by f (with_delivery d es) ≡ f d + sum_by f es
weighs_with f d [] = sum_by-cons f d []
weighs_with f d (e ∷ es) =
    by_test (λ xs. sum_by f xs ≡ f d + sum_by f (e ∷ es)) (is_lt (in_turn e d)) (e ∷ with_delivery d es) (d ∷ e ∷ es)
    (λ _. omega (arith, sum_by-cons f e (with_delivery d es), weighs_with f d es, sum_by-cons f e es))
    (λ _. sum_by-cons f d (e ∷ es))

weighs_in_order : (f : Delivery → ℕ) (rs : List (Reverse Delivery)) → sum_by f (in_order rs) ≡ sum_by (λ r. f r.0) rs
weighs_in_order f [] = refl
weighs_in_order f (r ∷ rs) = weighs_with f r.0 (in_order rs) ∙ ap (λ n. f r.0 + n) (weighs_in_order f rs) ∙ sym (sum_by-cons (λ (x : Reverse Delivery). f x.0) r rs)

-- ---- two lists in order with the same weights are one

-- 1 for what comes before d
before : Delivery → Delivery → ℕ
before d e = if is_lt (in_turn e d) then 1 else 0

none_before : (d : Delivery) (es : List Delivery) → AllByRecursion (λ e. is_lt (in_turn e d) ≡ false) es → sum_by (before d) es ≡ 0
unfolding before
none_before d [] h = refl
none_before d (e ∷ es) h = sum_by-cons (before d) e es ∙ (rw (h.0, none_before d es h.1) refl)

one_before : (d e : Delivery) (es : List Delivery) → is_lt (in_turn e d) ≡ true → 1 ≤ sum_by (before d) (e ∷ es)
unfolding before
one_before d e es h = let weight : before d e ≡ 1 = rw h refl in omega (arith, sum_by-cons (before d) e es, weight)

not_before_itself : (d : Delivery) → is_lt (in_turn d d) ≡ false
not_before_itself d = ap is_lt (tied_itself in_turn_total d)

-- a list in order whose first comes after x doesn't weigh what one with x weighs
heavier : (x y : Delivery) (xs ys : List Delivery) → is_lt (in_turn x y) ≡ true → IsInTurn (y ∷ ys)
    → ((f : Delivery → ℕ) → sum_by f (x ∷ xs) ≡ sum_by f (y ∷ ys)) → ⊥
heavier x y xs ys less h same =
    let none : sum_by (before y) (y ∷ ys) ≡ 0 = none_before y (y ∷ ys) (not_before_itself y, h.0) in
    omega (arith, one_before y x xs less, same (before y), none)

by_heads : (x y : Delivery) (xs ys : List Delivery) → IsInTurn (x ∷ xs) → IsInTurn (y ∷ ys)
    → ((f : Delivery → ℕ) → sum_by f (x ∷ xs) ≡ sum_by f (y ∷ ys))
    → (((f : Delivery → ℕ) → sum_by f xs ≡ sum_by f ys) → xs ≡ ys)
    → (r : Ordering) → in_turn x y ≡ r → x ∷ xs ≡ y ∷ ys
by_heads x y xs ys h k same tails Less e = absurd (heavier x y xs ys (ap is_lt e) k same)
by_heads x y xs ys h k same tails Equal e =
    let heads : x ≡ y = same_turn x y e in
    let rest : xs ≡ ys = tails (λ f. omega (arith, same f, sum_by-cons f x xs, sum_by-cons f y ys, ap f heads)) in cc
by_heads x y xs ys h k same tails Greater e = absurd (heavier y x ys xs (ap is_lt (in_turn_total.antisymm y x ∙ ap ordering_reverse e)) h (λ f. sym (same f)))

one_list : (xs ys : List Delivery) → IsInTurn xs → IsInTurn ys → ((f : Delivery → ℕ) → sum_by f xs ≡ sum_by f ys) → xs ≡ ys
one_list [] [] h k same = refl
one_list [] (y ∷ ys) h k same = absurd (omega (arith, same (λ _. 1), sum_by-cons (λ (d : Delivery). 1) y ys))
one_list (x ∷ xs) [] h k same = absurd (omega (arith, same (λ _. 1), sum_by-cons (λ (d : Delivery). 1) x xs))
one_list (x ∷ xs) (y ∷ ys) h k same = by_heads x y xs ys h k same (one_list xs ys h.1 k.1) (in_turn x y) refl

-- ---- the heap

pub permuted : (rs ss : List (Reverse Delivery)) → IsPermutation rs ss → in_order ss ≡ in_order rs
permuted rs ss p =
    one_list (in_order ss) (in_order rs) (in_order-in_turn ss) (in_order-in_turn rs)
    (λ f. weighs_in_order f ss ∙ sum_by-IsPermutation (λ (r : Reverse Delivery). f r.0) rs ss p ∙ sym (weighs_in_order f rs))

behind_first : (d : Delivery) (es : List Delivery) → AllByRecursion (λ e. is_lt (in_turn e d) ≡ false) es → with_delivery d es ≡ d ∷ es
behind_first d [] h = refl
behind_first d (e ∷ es) h = rw h.0 refl

-- the top of a heap is the first, and without it the others are left
pub popped : (r : Reverse Delivery) (rs ss : List (Reverse Delivery)) → IsPermutation rs (r ∷ ss) → IsUpperBound reversed r ss → in_order rs ≡ r.0 ∷ in_order ss
popped r rs ss p h = sym (permuted rs (r ∷ ss) p) ∙ behind_first r.0 (in_order ss) (all_in_order (λ d. is_lt (in_turn d r.0) ≡ false) ss h)

-- two that are read at the top are one
pub one_top : (rs : List (Reverse Delivery)) (r s : Reverse Delivery) → 0 < length rs → r ≡ get_or rs 0 r → s ≡ get_or rs 0 s → r ≡ s
one_top [] r s some h k = absurd (omega arith)
one_top (x ∷ rs) r s some h k = h ∙ sym k

-- ---- what is due

-- where the first is due it is taken
pub taken_packet : (now : ℕ) (d : Delivery) (ds : List Delivery) → d.due ≤ now → packet_due now (d ∷ ds) ≡ Some d.packet
taken_packet now d ds h = rw (le-leb d.due now h) refl

pub taken_rest : (now : ℕ) (d : Delivery) (ds : List Delivery) → d.due ≤ now → without_due now (d ∷ ds) ≡ ds
taken_rest now d ds h = rw (le-leb d.due now h) refl

late_packet : (now : ℕ) (ds : List Delivery) → AllByRecursion (λ d. now < d.due) ds → packet_due now ds ≡ None
late_packet now [] h = refl
late_packet now (d ∷ ds) h = rw (lt-leb d.due now h.0) refl

late_rest : (now : ℕ) (ds : List Delivery) → AllByRecursion (λ d. now < d.due) ds → without_due now ds ≡ ds
late_rest now [] h = refl
late_rest now (d ∷ ds) h = rw (lt-leb d.due now h.0) refl

-- where the top of a heap isn't due, none is
all_late : (now : ℕ) (r : Reverse Delivery) (rs : List (Reverse Delivery)) → IsUpperBound reversed r rs → now < r.0.due → AllByRecursion (λ d. now < d.due) (in_order rs)
all_late now r rs h early = all_in_order (λ d. now < d.due) rs (all_of (λ s. is_lt (in_turn s.0 r.0) ≡ false) (λ s. now < s.0.due) (λ s n. omega (arith, not_due_before r.0 s.0 n)) rs h)

pub none_due_packet : (now : ℕ) (r : Reverse Delivery) (rs : List (Reverse Delivery)) → IsUpperBound reversed r rs → now < r.0.due → packet_due now (in_order rs) ≡ None
none_due_packet now r rs h early = late_packet now (in_order rs) (all_late now r rs h early)

pub none_due_rest : (now : ℕ) (r : Reverse Delivery) (rs : List (Reverse Delivery)) → IsUpperBound reversed r rs → now < r.0.due → without_due now (in_order rs) ≡ in_order rs
none_due_rest now r rs h early = late_rest now (in_order rs) (all_late now r rs h early)

-- ---- whether any is left

some_left : (d : Delivery) (ds : List Delivery) → is_none_left (with_delivery d ds) ≡ false
some_left d [] = refl
some_left d (e ∷ es) = by_test (λ xs. is_none_left xs ≡ false) (is_lt (in_turn e d)) (e ∷ with_delivery d es) (d ∷ e ∷ es) (λ _. refl) (λ _. refl)

pub none_left : (rs : List (Reverse Delivery)) → is_none_left (in_order rs) ≡ (length rs == 0)
none_left [] = refl
none_left (r ∷ rs) = some_left r.0 (in_order rs) ∙ sym (ne_eqb (length (r ∷ rs)) 0 (omega arith))

-- ---- nothing is taken exactly where nothing is due

pub none_exactly : (now : ℕ) (rs : List (Reverse Delivery)) (ds : List Delivery) (first : Option PackNo)
    → in_order rs ≡ ds → first ≡ packet_due now ds
    → (first ≡ None) ↔ AllByRecursion (λ d. now < d.due) ds
none_exactly now rs ds first e f = rw f (none_due now ds (subst IsInTurn e (in_order-in_turn rs)))
