-- After any operations, what a link delivers was sent, and comes in its order.
use Rattle.std.proofs.Common.{◌≡◌, ℕ, suc, ◌<◌, ◌≤◌, Bool, true, false, List, [], ◌∷◌, Some, None, refl, subst, arith}
use Rattle.std.proofs.lemmas.Bool.{ltb-false, leb-true, leb-false}
use Rattle.std.specs.Prelude.{◌↔◌, ◌==◌, cond, nat_le, nat_lt}
use Rattle.std.specs.List.{AllByRecursion, Contains}
use Rattle.std.specs.Ordering.{is_lt, nat_cmp, ordering_then}
use Rattle.std.specs.declared.cmp.Ordering.{Ordering}
use Rattle.std.specs.declared.cmp.Ordering.TheVariants.{Less, Equal, Greater}
use Rattle.it_types.specs.declared.id.PackNo.{PackNo}
use Rattle.spec_link.specs.declared.delivery.Delivery.{Delivery}
use Rattle.spec_link.specs.declared.fate.Fate.{Fate}
use Rattle.spec_link.specs.declared.fate.Fate.TheVariants.{Lost, Once, Twice}
use Rattle.spec_link.specs.Deliveries.{IsInTurn, copies, in_turn, packet_due, without_due}
use Rattle.spec_link.specs.Link.{PlainLink, opened_link, sent, taken, next_fate}
use Rattle.spec_link.specs.Operations.{Delivers, Operation, after, sent_packets}
use Rattle.spec_link.specs.Operations.Operation.{Send, Take}
use Rattle.spec_link.proofs.Turns.{all_of, all_with_all, by_test, with_all_in_turn}

-- ---- the packets of deliveries

all_copies : (P : PackNo → Type 0) (packet : PackNo) (now : ℕ) (fate : Fate) → P packet → AllByRecursion (λ d. P d.packet) (copies packet now fate)
all_copies P packet now Lost p = tt
all_copies P packet now (Once late) p = (p, tt)
all_copies P packet now (Twice first second) p = (p, (p, tt))

all_without : (P : Delivery → Type 0) (now : ℕ) (ds : List Delivery) → AllByRecursion P ds → AllByRecursion P (without_due now ds)
all_without P now [] h = tt
all_without P now (d ∷ ds) h = by_test (AllByRecursion P) (nat_le d.due now) ds (d ∷ ds) (λ _. h.1) (λ _. h)

packet_due-among : (P : PackNo → Type 0) (now : ℕ) (ds : List Delivery) → AllByRecursion (λ d. P d.packet) ds → (packet : PackNo) → packet_due now ds ≡ Some packet → P packet
packet_due-among P now [] h = λ packet e. absurd cc
packet_due-among P now (d ∷ ds) h = by_test (λ r. (packet : PackNo) → r ≡ Some packet → P packet) (nat_le d.due now) (Some d.packet) None
    (λ _ packet e. let same : d.packet ≡ packet = cc in subst P same h.0)
    (λ _ packet e. absurd cc)

keeps_packets : (P : PackNo → Type 0) (l : PlainLink) (os : List Operation)
    → AllByRecursion (λ d. P d.packet) l.waiting
    → AllByRecursion P (sent_packets os)
    → AllByRecursion (λ d. P d.packet) (after l os).waiting
unfolding sent
keeps_packets P l [] h p = h
keeps_packets P l (Send packet now ∷ os) h p =
    keeps_packets P (sent packet now l) os (all_with_all (λ d. P d.packet) (copies packet now (next_fate l)) l.waiting (all_copies P packet now (next_fate l) p.0) h) p.1
keeps_packets P l (Take now ∷ os) h p = keeps_packets P (taken now l) os (all_without (λ d. P d.packet) now l.waiting h) p

-- each element of a list is in it
in_longer : {X : Type 0} (x : X) (xs : List X) (y : X) → Contains xs y → Contains (x ∷ xs) y
in_longer x xs y found = (suc found.0, omega arith, found.2)

themselves : {X : Type 0} (xs : List X) → AllByRecursion (Contains xs) xs
themselves [] = tt
themselves (x ∷ xs) = ((0, omega arith, refl), all_of (Contains xs) (Contains (x ∷ xs)) (in_longer x xs) xs (themselves xs))

-- ---- the order

pub in_turn_without : (now : ℕ) (ds : List Delivery) → IsInTurn ds → IsInTurn (without_due now ds)
in_turn_without now [] h = tt
in_turn_without now (d ∷ ds) h = by_test IsInTurn (nat_le d.due now) ds (d ∷ ds) (λ _. h.1) (λ _. h)

keeps_turns : (l : PlainLink) (os : List Operation) → IsInTurn l.waiting → IsInTurn (after l os).waiting
unfolding sent
keeps_turns l [] h = h
keeps_turns l (Send packet now ∷ os) h = keeps_turns (sent packet now l) os (with_all_in_turn (copies packet now (next_fate l)) l.waiting h)
keeps_turns l (Take now ∷ os) h = keeps_turns (taken now l) os (in_turn_without now l.waiting h)

-- ---- what is due

first_not_less : (a : Bool) (r s : Ordering) → is_lt (ordering_then (cond a Less r) s) ≡ false → a ≡ false
first_not_less true r s h = absurd cc
first_not_less false r s h = refl

-- one that doesn't come before another isn't due before it
pub not_due_before : (d e : Delivery) → is_lt (in_turn e d) ≡ false → d.due ≤ e.due
not_due_before d e h =
    ltb-false e.due d.due (first_not_less (nat_lt e.due d.due) (cond (e.due == d.due) Equal Greater) (ordering_then (nat_cmp e.packet.0 d.packet.0) (nat_cmp e.copy d.copy)) h)

pub none_due : (now : ℕ) (ds : List Delivery) → IsInTurn ds → (packet_due now ds ≡ None) ↔ AllByRecursion (λ d. now < d.due) ds
none_due now [] h = (λ _. tt, λ _. refl)
none_due now (d ∷ ds) h =
    by_test (λ r. (r ≡ None) ↔ AllByRecursion (λ e. now < e.due) (d ∷ ds)) (nat_le d.due now) (Some d.packet) None
    (λ due. (λ e. absurd cc, λ later. absurd (let le : d.due ≤ now = leb-true d.due now due in omega (arith, later.0))))
    (λ early. let lt : now < d.due = leb-false d.due now early in
    (λ _. (lt, all_of (λ e. is_lt (in_turn e d) ≡ false) (λ e. now < e.due) (λ e n. omega (arith, not_due_before d e n)) ds h.0), λ _. refl))

pub delivers : (key lose twice delay : ℕ) (os : List Operation) → Delivers os (after (opened_link key lose twice delay) os)
delivers key lose twice delay os =
    let start : PlainLink = opened_link key lose twice delay in
    let given : PackNo → Type 0 = Contains (sent_packets os) in
    record {
      sent_before = λ now packet e. packet_due-among given now (after start os).waiting (keeps_packets given start os tt (themselves (sent_packets os))) packet e;
      none_due = λ now. none_due now (after start os).waiting (keeps_turns start os tt);
      in_order = keeps_turns start os tt;
    }
