-- Deliveries stay in their order.
use Rattle.std.proofs.Common.{◌≡◌, ℕ, Bool, true, false, List, [], ◌∷◌, refl, ap, ◌∙◌, rules}
use Rattle.std.proofs.lemmas.Bool.{eqb-true}
use Rattle.std.specs.Prelude.{cond, nat_lt, ◌==◌, if◌then◌else◌}
use Rattle.std.specs.List.{AllByRecursion}
use Rattle.std.specs.Ordering.{is_lt, is_gt, nat_cmp, ordering_reverse, ordering_then}
use Rattle.std.specs.declared.cmp.Ordering.{Ordering}
use Rattle.std.specs.declared.cmp.Ordering.TheVariants.{Less, Equal, Greater}
use Rattle.std.specs.Cmp.{IsTotalOrder, upto}
use Rattle.std.specs.Cmp.Rules.{comparing}
use Rattle.spec_link.specs.declared.delivery.Delivery.{Delivery}
use Rattle.spec_link.specs.Deliveries.{IsInTurn, in_turn, with_delivery, with_deliveries}

pub in_turn_total : IsTotalOrder in_turn
in_turn_total = search (comparing, rules)

-- ---- lists

pub by_test : {X : Type 0} (P : X → Type 0) (b : Bool) (x y : X) → (b ≡ true → P x) → (b ≡ false → P y) → P (if b then x else y)
by_test P true x y f g = f refl
by_test P false x y f g = g refl

pub all_of : {X : Type 0} (P Q : X → Type 0) → ((x : X) → P x → Q x) → (xs : List X) → AllByRecursion P xs → AllByRecursion Q xs
all_of P Q f [] h = tt
all_of P Q f (x ∷ xs) h = (f x h.0, all_of P Q f xs h.1)

pub all_with : (P : Delivery → Type 0) (d : Delivery) (es : List Delivery) → P d → AllByRecursion P es → AllByRecursion P (with_delivery d es)
all_with P d [] p h = (p, tt)
all_with P d (e ∷ es) p h = by_test (AllByRecursion P) (is_lt (in_turn e d)) (e ∷ with_delivery d es) (d ∷ e ∷ es) (λ _. (h.0, all_with P d es p h.1)) (λ _. (p, h))

pub all_with_all : (P : Delivery → Type 0) (ns ds : List Delivery) → AllByRecursion P ns → AllByRecursion P ds → AllByRecursion P (with_deliveries ns ds)
all_with_all P [] ds p h = h
all_with_all P (n ∷ ns) ds p h = all_with_all P ns (with_delivery n ds) p.1 (all_with P n ds p.0 h)

-- ---- the order

turned : (r : Ordering) → is_gt (ordering_reverse r) ≡ is_lt r
turned Less = refl
turned Equal = refl
turned Greater = refl

turned_back : (r : Ordering) → is_lt (ordering_reverse r) ≡ is_gt r
turned_back Less = refl
turned_back Equal = refl
turned_back Greater = refl

after_is_not_before : (r : Ordering) → is_lt r ≡ true → is_lt (ordering_reverse r) ≡ false
after_is_not_before Less h = refl
after_is_not_before Equal h = refl
after_is_not_before Greater h = absurd cc

both_equal : (r s : Ordering) → ordering_then r s ≡ Equal → (r ≡ Equal) × (s ≡ Equal)
both_equal Less s h = absurd cc
both_equal Equal s h = (refl, h)
both_equal Greater s h = absurd cc

second_holds : (a b : Bool) → cond a Less (cond b Equal Greater) ≡ Equal → b ≡ true
second_holds true b h = absurd cc
second_holds false true h = refl
second_holds false false h = absurd cc

equal_numbers : (m n : ℕ) → nat_cmp m n ≡ Equal → m ≡ n
equal_numbers m n h = eqb-true m n (second_holds (nat_lt m n) (m == n) h)

-- two of which neither comes first are one
pub same_turn : (d e : Delivery) → in_turn d e ≡ Equal → d ≡ e
same_turn d e h =
    let by_due = both_equal (nat_cmp d.due e.due) (ordering_then (nat_cmp d.packet.0 e.packet.0) (nat_cmp d.copy e.copy)) h in
    let by_packet = both_equal (nat_cmp d.packet.0 e.packet.0) (nat_cmp d.copy e.copy) by_due.1 in
    let due : d.due ≡ e.due = equal_numbers d.due e.due by_due.0 in
    let number : d.packet.0 ≡ e.packet.0 = equal_numbers d.packet.0 e.packet.0 by_packet.0 in
    let copy : d.copy ≡ e.copy = equal_numbers d.copy e.copy by_packet.1 in
    λ i. record { due = due i; packet = record { 0 = number i }; copy = copy i }

-- one that comes before another doesn't come after it
pub not_both : (d e : Delivery) → is_lt (in_turn e d) ≡ true → is_lt (in_turn d e) ≡ false
not_both d e h = ap is_lt (in_turn_total.antisymm d e) ∙ after_is_not_before (in_turn e d) h

-- where e doesn't come before d, nor x before e, x doesn't come before d
pub not_before_either : (d e x : Delivery) → is_lt (in_turn e d) ≡ false → is_lt (in_turn x e) ≡ false → is_lt (in_turn x d) ≡ false
not_before_either d e x first second =
    let along : (y z : Delivery) → is_lt (in_turn z y) ≡ false → is_gt (in_turn y z) ≡ false = λ y z h. ap is_gt (in_turn_total.antisymm y z) ∙ turned (in_turn z y) ∙ h in
    ap is_lt (in_turn_total.antisymm x d) ∙ turned_back (in_turn d x) ∙ upto in_turn_total d e x (along d e first) (along e x second)

pub with_in_turn : (d : Delivery) (es : List Delivery) → IsInTurn es → IsInTurn (with_delivery d es)
with_in_turn d [] h = (tt, tt)
with_in_turn d (e ∷ es) h =
    by_test IsInTurn (is_lt (in_turn e d)) (e ∷ with_delivery d es) (d ∷ e ∷ es)
    (λ before. (all_with (λ x. is_lt (in_turn x e) ≡ false) d es (not_both d e before) h.0, with_in_turn d es h.1))
    (λ behind. ((behind, all_of (λ x. is_lt (in_turn x e) ≡ false) (λ x. is_lt (in_turn x d) ≡ false) (λ x. not_before_either d e x behind) es h.0), h))

pub with_all_in_turn : (ns ds : List Delivery) → IsInTurn ds → IsInTurn (with_deliveries ns ds)
with_all_in_turn [] ds h = h
with_all_in_turn (n ∷ ns) ds h = with_all_in_turn ns (with_delivery n ds) (with_in_turn n ds h)
