-- The receives that wait, looked up at each end point: they are all calls that wait, so they tell who is told of the end that a
-- packet brings.
use Rattle.std.proofs.Common.{◌≡◌, ◌≢◌, ℕ, zero, suc, ◌<◌, ◌≤◌, Bool, true, false, List, [], ◌∷◌, ◌++◌, Option, Some, None, refl, sym, ap, ◌∙◌, subst, inl, inr, arith}
use mathlib.Core.Logic.{◌⊎◌}
use Rattle.std.specs.Prelude.{◌==◌}
use Rattle.std.specs.Bool.{beq}
use Rattle.std.specs.List.{AllByRecursion, find}
use Rattle.std.proofs.lemmas.Bool.{cases_Bool, cases_eq, eq-eqb, eqb-true, ne_eqb, and_from, and_left, and_right}
use Rattle.it_types.specs.declared.id.CepId.{CepId}
use Rattle.it_types.specs.declared.handler.FnCode.TheVariants.{UdpRcv}
use Rattle.spec_lists.specs.First.{take_first, put_back}
use Rattle.spec_lists.specs.Counting.{one_if}
use Rattle.spec_lists.proofs.Firsts.{cases_of_first}
use Rattle.spec_pend.specs.declared.slot.Slot.{Slot}
use Rattle.spec_pend.specs.declared.call.NetCall.{NetCall}
use Rattle.spec_pend.specs.PlainPend.{PlainPend}
use Rattle.spec_pend.specs.Kept.{EachBefore, IsCep}
use Rattle.spec_pend.specs.Slots.{at_slot, has_number, has_slot, is_at, part_number}
use Rattle.spec_pend.proofs.Found.{all_more, all_found}
use Rattle.spec_udp.specs.Rows.{slot_of}
use Rattle.spec_udp.specs.Arrival.{arrive}
use Rattle.spec_node.specs.PlainNode.{PlainNode}
use Rattle.laws_node.specs.Agreement.{times}
use Rattle.laws_node.specs.EndPoints.{IsReceive}
use Rattle.laws_node.proofs.Alike.{all_none}
use Rattle.laws_node.proofs.Agreeing.{Good}
use Rattle.laws_node.proofs.KeepingRows.{only_receives, at_most_one}
use Rattle.laws_node.proofs.NetMoves.{call_number}
use Rattle.laws_node.proofs.Rising.{AllAbove, Rises}
use Rattle.n_node.specs.Callers.{call_found, listed, receive_at, receives_below, all_receives, task_told, task_of, task_by, TellWho}
use Rattle.n_node.proofs.Ending.{arrival_told}

-- ---- each call is the first that passes its own test

abbrev IsFirst : (NetCall → NetCall → Bool) → List NetCall → NetCall → Type 0
IsFirst f cs c = call_found (take_first (f c) cs) ≡ Some c

past : (a : NetCall) (o : Option (NetCall × List NetCall)) → call_found (put_back a o) ≡ call_found o
past a None = refl
past a (Some z) = refl

first_past : (f : NetCall → NetCall → Bool) (a c : NetCall) (cs : List NetCall) → (f c a ≡ false) × IsFirst f cs c → IsFirst f (a ∷ cs) c
first_past f a c cs h = rw h.0 (past a (take_first (f c) cs) ∙ h.1)

both_all : (P Q : NetCall → Type 0) (cs : List NetCall) → AllByRecursion P cs → AllByRecursion Q cs → AllByRecursion (λ c. P c × Q c) cs
both_all P Q [] p q = tt
both_all P Q (c ∷ cs) p q = ((p.0, q.0), both_all P Q cs p.1 q.1)

firsts : (f : NetCall → NetCall → Bool) (cs : List NetCall)
    → AllByRecursion (λ c. f c c ≡ true) cs
    → EachBefore (λ a c. f c a ≡ false) cs
    → AllByRecursion (IsFirst f cs) cs
firsts f [] own before = tt
firsts f (a ∷ cs) own before =
    (rw own.0 refl, all_more (λ c. (f c a ≡ false) × IsFirst f cs c) (IsFirst f (a ∷ cs)) cs (λ c h. first_past f a c cs h) (both_all (λ c. f c a ≡ false) (IsFirst f cs) cs before.0 (firsts f cs own.1 before.1)))

every : (P : NetCall → Type 0) (cs : List NetCall) → ((c : NetCall) → P c) → AllByRecursion P cs
every P [] h = tt
every P (c ∷ cs) h = (h c, every P cs h)

-- ---- by their numbers

abbrev by_number : NetCall → NetCall → Bool
by_number c = has_number c.call

later_numbers : (a : NetCall) (cs : List NetCall) → AllAbove call_number a.call.0 cs → AllByRecursion (λ c. by_number c a ≡ false) cs
later_numbers a [] h = tt
later_numbers a (c ∷ cs) h = (ne_eqb a.call.0 c.call.0 (λ e. absurd (omega (arith, e, h.0))), later_numbers a cs h.1)

apart_by_number : (cs : List NetCall) → Rises call_number cs → EachBefore (λ a c. by_number c a ≡ false) cs
apart_by_number [] h = tt
apart_by_number (a ∷ cs) h = (later_numbers a cs h.0, apart_by_number cs h.1)

numbers_first : (cs : List NetCall) → Rises call_number cs → AllByRecursion (IsFirst by_number cs) cs
numbers_first cs h = firsts by_number cs (every (λ c. by_number c c ≡ true) cs own) (apart_by_number cs h)
  where
    own : (c : NetCall) → by_number c c ≡ true
    own c = eq-eqb c.call.0 c.call.0 refl

-- ---- by their end points

abbrev by_point : NetCall → NetCall → Bool
by_point c = has_slot (slot_of (record { 0 = c.slot.cep.0 }) UdpRcv)

at_its_point : (c : NetCall) → IsReceive c → is_at true c.slot.cep c ≡ true
at_its_point c e = and_from (beq c.slot.udp true) (c.slot.cep.0 == c.slot.cep.0) (ap (λ (slot : Slot). beq slot.udp true) e) (eq-eqb c.slot.cep.0 c.slot.cep.0 refl)

own_point : (c : NetCall) → IsReceive c → by_point c c ≡ true
own_point c e = and_from (is_at true c.slot.cep c) (part_number c.slot.part == 2) (at_its_point c e) (ap (λ (slot : Slot). part_number slot.part == 2) e)

apart_by_point : (cs : List NetCall) → AllByRecursion IsReceive cs → ((cep : CepId) → times (is_at true cep) cs ≤ 1) → EachBefore (λ a c. by_point c a ≡ false) cs
apart_by_point [] h one = tt
apart_by_point (a ∷ cs) h one = (
  all_more (λ c. IsReceive c × (is_at true a.slot.cep c ≡ false)) (λ c. by_point c a ≡ false) cs other (all_none IsReceive (is_at true a.slot.cep) cs none h.1),
  apart_by_point cs h.1 (λ cep. omega (arith, one cep)),
)
  where
    none : times (is_at true a.slot.cep) cs ≡ 0
    none = omega (arith, one a.slot.cep, ap one_if (at_its_point a h.0))

    elsewhere : (c : NetCall) → IsReceive c → is_at true a.slot.cep c ≡ false → a.slot.cep.0 ≢ c.slot.cep.0
    elsewhere c receive e same = absurd (
        let f : true ≡ false = sym (and_from (beq c.slot.udp true) (c.slot.cep.0 == a.slot.cep.0) (ap (λ (slot : Slot). beq slot.udp true) receive) (eq-eqb c.slot.cep.0 a.slot.cep.0 (sym same))) ∙ e in
        cc
        )

    other : (c : NetCall) → IsReceive c × (is_at true a.slot.cep c ≡ false) → by_point c a ≡ false
    other c g = and_left (is_at true c.slot.cep a) (part_number a.slot.part == 2)
        (and_right (beq a.slot.udp true) (a.slot.cep.0 == c.slot.cep.0) (ne_eqb a.slot.cep.0 c.slot.cep.0 (elsewhere c g.0 g.1)))

points_first : (cs : List NetCall) → AllByRecursion IsReceive cs → ((cep : CepId) → times (is_at true cep) cs ≤ 1) → AllByRecursion (IsFirst by_point cs) cs
points_first cs receives one = firsts by_point cs (all_more IsReceive (λ c. by_point c c ≡ true) cs own_point receives) (apart_by_point cs receives one)

-- ---- the list of all receives

find_front : (f : NetCall → Bool) (xs ys : List NetCall) (c : NetCall) → find f xs ≡ Some c → find f (xs ++ ys) ≡ Some c
find_front f [] ys c e = absurd cc
find_front f (x ∷ xs) ys c e = elim (cases_Bool (f x)) [
  | inl t ↦ rw t (rw t at e)
  | inr t ↦ rw t (find_front f xs ys c (rw t at e))
]

find_back : (f : NetCall → Bool) (xs ys : List NetCall) → find f xs ≡ None → find f (xs ++ ys) ≡ find f ys
find_back f [] ys e = refl
find_back f (x ∷ xs) ys e = elim (cases_Bool (f x)) [
  | inl t ↦ absurd (let g : Some x ≡ None = rw t at e in cc)
  | inr t ↦ rw t (find_back f xs ys (rw t at e))
]

-- what passes and is of the list is found only as it is
find_all : (f : NetCall → Bool) (P : NetCall → Type 0) (xs : List NetCall) (c : NetCall) → AllByRecursion P xs → find f xs ≡ Some c → P c × (f c ≡ true)
find_all f P [] c all e = absurd cc
find_all f P (x ∷ xs) c all e = elim (cases_Bool (f x)) [
  | inl t ↦ (let same : x ≡ c = is_that x c (rw t at e) in subst (λ d. P d × (f d ≡ true)) same (all.0, t))
  | inr t ↦ find_all f P xs c all.1 (rw t at e)
]
  where
    is_that : (x c : NetCall) → Some x ≡ Some c → x ≡ c
    is_that x c e = cc

module _ (p : PlainPend) (rises : Rises call_number p.calls) (receives : AllByRecursion IsReceive p.calls) (one : (cep : CepId) → times (is_at true cep) p.calls ≤ 1) (ceps : AllByRecursion (λ c. IsCep c.slot.cep) p.calls) where
  abbrev Numbered : NetCall → Type 0
  Numbered c = IsFirst by_number p.calls c

  listed_numbered : (o : Option (NetCall × List NetCall)) (f : NetCall → Bool) → take_first f p.calls ≡ o → AllByRecursion Numbered (listed (call_found o))
  listed_numbered None f e = tt
  listed_numbered (Some z) f e = ((all_found Numbered f p.calls z e (numbers_first p.calls rises)).0, tt)

  all_append : (xs ys : List NetCall) → AllByRecursion Numbered xs → AllByRecursion Numbered ys → AllByRecursion Numbered (xs ++ ys)
  all_append [] ys a b = b
  all_append (x ∷ xs) ys a b = (a.0, all_append xs ys a.1 b)

  below_numbered : (n : ℕ) → AllByRecursion Numbered (receives_below p n)
  below_numbered zero = tt
  below_numbered (suc n) =
      all_append (receives_below p n) (listed (receive_at p n)) (below_numbered n) (listed_numbered (at_slot p (slot_of (record { 0 = n }) UdpRcv)) (has_slot (slot_of (record { 0 = n }) UdpRcv)) refl)

  -- of two calls with one number one is the other
  same_number : (c d : NetCall) → Numbered c → Numbered d → by_number c d ≡ true → d ≡ c
  same_number c d first other e =
      is_that (sym other ∙ ap (λ n. call_found (take_first (λ (x : NetCall). x.call.0 == n) p.calls)) (eqb-true d.call.0 c.call.0 e) ∙ first)
    where
      is_that : Some d ≡ Some c → d ≡ c
      is_that e = cc

  found_below : (c : NetCall) (n : ℕ) → Numbered c → IsFirst by_point p.calls c → c.slot.cep.0 < n → find (by_number c) (receives_below p n) ≡ Some c
  found_below c zero first point le = absurd (omega (arith, le))
  found_below c (suc n) first point le = elim (cases_eq c.slot.cep.0 n) [
    | inr other ↦ find_front (by_number c) (receives_below p n) (listed (receive_at p n)) c (found_below c n first point (omega (arith, le, other)))
    | inl same ↦ at_last (subst (λ m. receive_at p m ≡ Some c) same point) (cases_of_first (find (by_number c) (receives_below p n)))
  ]
    where
      own : find (by_number c) (c ∷ []) ≡ Some c
      own = rw (eq-eqb c.call.0 c.call.0 refl) refl

      at_last : receive_at p n ≡ Some c → (find (by_number c) (receives_below p n) ≡ None) ⊎ ((d : NetCall) × (find (by_number c) (receives_below p n) ≡ Some d)) → find (by_number c) (receives_below p n ++ listed (receive_at p n)) ≡ Some c
      at_last here (inl none) = find_back (by_number c) (receives_below p n) (listed (receive_at p n)) none ∙ ap (λ o. find (by_number c) (listed o)) here ∙ own
      at_last here (inr d) =
          let passes = find_all (by_number c) Numbered (receives_below p n) d.0 (below_numbered n) d.1 in
          find_front (by_number c) (receives_below p n) (listed (receive_at p n)) c (d.1 ∙ ap Some (same_number c d.0 first passes.0 passes.1))

  told_below : (c : NetCall) → (Numbered c × IsFirst by_point p.calls c) × IsCep c.slot.cep → task_by (all_receives p) c.call ≡ task_told c.who
  unfolding all_receives
  told_below c h = ap task_of (found_below c 17 h.0.0 h.0.1 (omega (arith, h.1.high)))

  -- they tell who is told of each call that waits
  pub receives_tell : AllByRecursion (λ c. task_by (all_receives p) c.call ≡ task_told c.who) p.calls
  receives_tell =
      all_more (λ c. (Numbered c × IsFirst by_point p.calls c) × IsCep c.slot.cep) (λ c. task_by (all_receives p) c.call ≡ task_told c.who) p.calls told_below
      (both_all (λ c. Numbered c × IsFirst by_point p.calls c) (λ c. IsCep c.slot.cep) p.calls (both_all Numbered (IsFirst by_point p.calls) p.calls (numbers_first p.calls rises) (points_first p.calls receives one)) ceps)

-- so who is told of the end that a packet brings is found among them
pub packet_told : (n : PlainNode) (bytes : List ℕ) → Good n → TellWho (all_receives n.net.pend) (arrive n.net bytes).endings.ends
packet_told n bytes g =
    arrival_told (all_receives n.net.pend) n.net bytes (receives_tell n.net.pend g.holds.sound.rises (only_receives n.net g.rests.net) (at_most_one n.net g.rests.net) g.rests.net.kept.ceps)
