-- Calls at parts that differ, of end points from 1 to 16 and two protocols, are at most 96: there is room for one at a part that is free.
use Rattle.std.proofs.Common.{◌≡◌, ℕ, ◌+◌, ◌*◌, ◌-◌, ◌<◌, ◌≤◌, Bool, true, false, List, [], ◌∷◌, length, refl, sym, subst, inl, inr, arith}
use Rattle.std.specs.Prelude.{◌==◌}
use Rattle.std.specs.Bool.{beq}
use Rattle.std.specs.List.{AllByRecursion}
use Rattle.std.proofs.lemmas.Bool.{cases_eq, eq-eqb}
use Rattle.spec_lists.specs.Counting.{one_if, times}
use Rattle.spec_lists.proofs.Counting.{one_if-at_most, one_if-other, room}
use Rattle.spec_pend.specs.declared.slot.Slot.{Slot}
use Rattle.spec_pend.specs.declared.slot.Part.{Part}
use Rattle.spec_pend.specs.declared.slot.Part.TheVariants.{Conn, Send, Recv}
use Rattle.spec_pend.specs.declared.call.NetCall.{NetCall}
use Rattle.spec_pend.specs.PlainPend.{PlainPend}
use Rattle.spec_pend.specs.Slots.{has_slot, is_taken, part_number}
use Rattle.spec_pend.specs.Kept.{AreApart, EachBefore, IsCep, PendKept}
use Rattle.spec_pend.proofs.Found.{all_fail}

-- the place of a part, from 1 to 96
place_of : Slot → ℕ
place_of slot = (2 * (3 * slot.cep.0 + part_number slot.part) + one_if slot.udp) - 5

call_place : NetCall → ℕ
call_place c = place_of c.slot

part_at_most : (part : Part) → part_number part ≤ 2
part_at_most Conn = omega arith
part_at_most Send = omega arith
part_at_most Recv = omega arith

same_bool : (a b : Bool) → one_if a ≡ one_if b → beq a b ≡ true
same_bool true true e = refl
same_bool true false e = absurd (omega (arith, e))
same_bool false true e = absurd (omega (arith, e))
same_bool false false e = refl

-- the parts at one place are one
one_place : (slot : Slot) (c : NetCall) → 1 ≤ slot.cep.0 → 1 ≤ c.slot.cep.0 → call_place c ≡ place_of slot → has_slot slot c ≡ true
unfolding place_of call_place
one_place slot c low also same =
    let parts : (one_if c.slot.udp ≡ one_if slot.udp) × (c.slot.cep.0 ≡ slot.cep.0) × (part_number c.slot.part ≡ part_number slot.part) = (
      omega (arith, low, also, same, part_at_most slot.part, part_at_most c.slot.part, one_if-at_most slot.udp, one_if-at_most c.slot.udp),
      omega (arith, low, also, same, part_at_most slot.part, part_at_most c.slot.part, one_if-at_most slot.udp, one_if-at_most c.slot.udp),
      omega (arith, low, also, same, part_at_most slot.part, part_at_most c.slot.part, one_if-at_most slot.udp, one_if-at_most c.slot.udp),
    ) in
    rw (same_bool c.slot.udp slot.udp parts.0, eq-eqb c.slot.cep.0 slot.cep.0 parts.1, eq-eqb (part_number c.slot.part) (part_number slot.part) parts.2) refl

-- none of the calls is at the place of a part at which none waits
no_place : (slot : Slot) (cs : List NetCall) → 1 ≤ slot.cep.0 → AllByRecursion (λ c. IsCep c.slot.cep) cs → AllByRecursion (λ c. has_slot slot c ≡ false) cs → times call_place (place_of slot) cs ≡ 0
no_place slot [] low ceps free = refl
no_place slot (c ∷ cs) low ceps free = elim (cases_eq (call_place c) (place_of slot)) [
  | inl same ↦ absurd (let taken = one_place slot c low ceps.0.low same in let not_taken = free.0 in cc)
  | inr other ↦ omega (arith, one_if-other (call_place c) (place_of slot) other, no_place slot cs low ceps.1 free.1)
]

-- nor at the place of a call at whose part none of them waits
none_there : (c : NetCall) (cs : List NetCall) → IsCep c.slot.cep → AllByRecursion (λ d. IsCep d.slot.cep) cs → AllByRecursion (λ d. AreApart c d) cs → times call_place (call_place c) cs ≡ 0
unfolding call_place
none_there c [] cep ceps apart = refl
none_there c (d ∷ ds) cep ceps apart = elim (cases_eq (call_place d) (call_place c)) [
  | inl same ↦ absurd (let taken = one_place d.slot c ceps.0.low cep.low (sym same) in let not_taken = apart.0 in cc)
  | inr other ↦ omega (arith, one_if-other (call_place d) (call_place c) other, none_there c ds cep ceps.1 apart.1)
]

one_at_most : (cs : List NetCall) → AllByRecursion (λ c. IsCep c.slot.cep) cs → EachBefore AreApart cs → (n : ℕ) → times call_place n cs ≤ 1
one_at_most [] ceps apart n = omega arith
one_at_most (c ∷ cs) ceps apart n = elim (cases_eq (call_place c) n) [
  | inl same ↦ omega (arith, one_if-at_most (call_place c == n), subst (λ m. times call_place m cs ≡ 0) same (none_there c cs ceps.0 ceps.1 apart.0))
  | inr other ↦ omega (arith, one_if-other (call_place c) n other, one_at_most cs ceps.1 apart.1 n)
]

place_within : (slot : Slot) → IsCep slot.cep → (1 ≤ place_of slot) × (place_of slot ≤ 96)
unfolding place_of
place_within slot cep = (omega (arith, cep.low), omega (arith, cep.high, part_at_most slot.part, one_if-at_most slot.udp))

all_within : (cs : List NetCall) → AllByRecursion (λ c. IsCep c.slot.cep) cs → (n : ℕ) → 1 ≤ times call_place n cs → (1 ≤ n) × (n ≤ 96)
unfolding call_place
all_within [] ceps n le = absurd (omega (arith, le))
all_within (c ∷ cs) ceps n le = elim (cases_eq (call_place c) n) [
  | inl same ↦ subst (λ m. (1 ≤ m) × (m ≤ 96)) same (place_within c.slot ceps.0)
  | inr other ↦ all_within cs ceps.1 n (omega (arith, le, one_if-other (call_place c) n other))
]

-- there is room for a call at a part that is free
pub room_for : (p : PlainPend) (slot : Slot) → PendKept p → IsCep slot.cep → is_taken p slot ≡ false → length p.calls < 96
room_for p slot kept cep free =
    let within : (1 ≤ place_of slot) × (place_of slot ≤ 96) = place_within slot cep in
    omega (arith, room call_place p.calls 96 (place_of slot) (one_at_most p.calls kept.ceps kept.apart) (all_within p.calls kept.ceps) (no_place slot p.calls cep.low kept.ceps (all_fail (has_slot slot) p.calls free)) within.0 within.1)
