-- A number is accepted once, and its call ends once.
use Rattle.std.proofs.Common.{◌≡◌, ℕ, ◌+◌, ◌<◌, ◌≤◌, Bool, true, false, not, ◌&&◌, List, [], ◌∷◌, Option, Some, None, is_some, refl, sym, ap, inl, inr, arith}
use Rattle.std.specs.Prelude.{◌==◌, if◌then◌else◌}
use Rattle.std.proofs.lemmas.Bool.{cases_Bool, eqb-true}
use Rattle.it_types.specs.declared.id.CallNo.{CallNo}
use Rattle.it_types.specs.declared.er.Er.{Er}
use Rattle.it_types.specs.declared.er.TheConstants.{E_OBJ, E_OK}
use Rattle.spec_lists.specs.Counting.{one_if, times}
use Rattle.spec_lists.specs.First.{take_first}
use Rattle.spec_lists.proofs.Counting.{one_if-other, times-end, times-found}
use Rattle.spec_lists.proofs.Firsts.{cases_of_first, none_parts}
use Rattle.spec_pend.specs.declared.slot.Slot.{Slot}
use Rattle.spec_pend.specs.declared.call.Who.{Who}
use Rattle.spec_pend.specs.declared.call.NetCall.{NetCall}
use Rattle.spec_pend.specs.PlainPend.{PlainPend, opened_pend}
use Rattle.spec_pend.specs.Slots.{has_number, is_taken, numbered, with_call}
use Rattle.spec_pend.specs.Ends.{ended, ended_found}
use Rattle.spec_pend.specs.Once.{EndsOnce, MayAllBeDone, MayBeDone, Operation, accepts, after, done, ends, times_accepted, times_ended}
use Rattle.spec_pend.specs.Once.Operation.{Accept, End, NextHandler, AddHandler}
use Rattle.spec_pend.proofs.Found.{found_passes}

number_of : NetCall → ℕ
number_of c = c.call.0

-- how many calls of this number wait
waiting : CallNo → PlainPend → ℕ
waiting number p = times number_of number.0 p.calls

-- ---- calls that wait were accepted and haven't ended

-- what an acceptance leaves where another call waits at the part, and where none does
after_acceptance : Bool → PlainPend → Who → Slot → CallNo → PlainPend
after_acceptance taken p who slot n = let left : PlainPend × Er = if taken then (p, E_OBJ) else (with_call p who slot n, E_OK) in left.0

accept_counts : (taken : Bool) (number : CallNo) (p : PlainPend) (who : Who) (slot : Slot) (n : CallNo) → waiting number p + one_if (not taken && (n.0 == number.0)) ≡ waiting number (after_acceptance taken p who slot n)
unfolding waiting number_of after_acceptance
accept_counts true number p who slot n = omega arith
accept_counts false number p who slot n = sym (times-end number_of number.0 p.calls (record { call = n; who = who; slot = slot }))

end_counts : (number : CallNo) (p : PlainPend) (n : CallNo) (code : Er) (bytes : List ℕ) (found : Option (NetCall × List NetCall))
    → numbered p n ≡ found
    → waiting number p ≡ one_if (is_some (ended_found p found code bytes).1 && (n.0 == number.0)) + waiting number (ended_found p found code bytes).0
unfolding waiting number_of
end_counts number p n code bytes None e = omega arith
end_counts number p n code bytes (Some z) e =
    let same : z.0.call.0 ≡ n.0 = eqb-true z.0.call.0 n.0 (found_passes (has_number n) p.calls z e) in
    omega (arith, times-found number_of number.0 (has_number n) p.calls z e, ap (λ m. one_if (m == number.0)) same)

one_counts : (number : CallNo) (p : PlainPend) (o : Operation) → waiting number p + one_if (accepts number p o) ≡ one_if (ends number p o) + waiting number (done p o)
unfolding waiting after_acceptance
one_counts number p (Accept who slot n) = omega (arith, accept_counts (is_taken p slot) number p who slot n)
one_counts number p (End n code bytes) = omega (arith, end_counts number p n code bytes (numbered p n) refl)
one_counts number p NextHandler = omega arith
one_counts number p (AddHandler h) = omega arith

all_count : (number : CallNo) (p : PlainPend) (os : List Operation) → waiting number p + times_accepted number p os ≡ times_ended number p os + waiting number (after p os)
all_count number p [] = omega arith
all_count number p (o ∷ os) = omega (arith, one_counts number p o, all_count number (done p o) os)

-- ---- a number is accepted once

last_accepted : (taken : Bool) (p : PlainPend) (who : Who) (slot : Slot) (n : CallNo) (m : ℕ) → p.last < n.0 → m ≤ p.last → m ≤ (after_acceptance taken p who slot n).last
unfolding after_acceptance
last_accepted true p who slot n m above le = le
last_accepted false p who slot n m above le = omega (arith, above, le)

last_after : (p : PlainPend) (o : Operation) (m : ℕ) → MayBeDone p o → m ≤ p.last → m ≤ (done p o).last
unfolding after_acceptance
last_after p (Accept who slot n) m above le = last_accepted (is_taken p slot) p who slot n m above le
last_after p (End n code bytes) m may le = last_found (numbered p n)
  where
    last_found : (found : Option (NetCall × List NetCall)) → m ≤ (ended_found p found code bytes).0.last
    last_found None = le
    last_found (Some z) = le
last_after p NextHandler m may le = le
last_after p (AddHandler h) m may le = le

-- a number that isn't above the last one is accepted no more
accepts_none : (number : CallNo) (p : PlainPend) (o : Operation) → MayBeDone p o → number.0 ≤ p.last → one_if (accepts number p o) ≡ 0
accepts_none number p (Accept who slot n) above le = elim (cases_Bool (is_taken p slot)) [
  | inl taken ↦ rw taken refl
  | inr free ↦ rw free (one_if-other n.0 number.0 (λ same. omega (arith, above, le, same)))
]
accepts_none number p (End n code bytes) may le = refl
accepts_none number p NextHandler may le = refl
accepts_none number p (AddHandler h) may le = refl

never : (number : CallNo) (p : PlainPend) (os : List Operation) → MayAllBeDone p os → number.0 ≤ p.last → times_accepted number p os ≡ 0
never number p [] may le = refl
never number p (o ∷ os) may le = omega (arith, accepts_none number p o may.0 le, never number (done p o) os may.1 (last_after p o number.0 may.0 le))

-- once it was accepted it isn't above the last one
last_was_accepted : (taken : Bool) (number : CallNo) (p : PlainPend) (who : Who) (slot : Slot) (n : CallNo) → (not taken && (n.0 == number.0)) ≡ true → number.0 ≤ (after_acceptance taken p who slot n).last
unfolding after_acceptance
last_was_accepted true number p who slot n e = absurd cc
last_was_accepted false number p who slot n e = omega (arith, eqb-true n.0 number.0 e)

last_is : (number : CallNo) (p : PlainPend) (o : Operation) → accepts number p o ≡ true → number.0 ≤ (done p o).last
unfolding after_acceptance
last_is number p (Accept who slot n) e = last_was_accepted (is_taken p slot) number p who slot n e
last_is number p (End n code bytes) e = absurd cc
last_is number p NextHandler e = absurd cc
last_is number p (AddHandler h) e = absurd cc

accepted_once : (number : CallNo) (p : PlainPend) (os : List Operation) → MayAllBeDone p os → times_accepted number p os ≤ 1
accepted_once number p [] may = omega arith
accepted_once number p (o ∷ os) may = elim (cases_Bool (accepts number p o)) [
  | inl now ↦ omega (arith, ap one_if now, never number (done p o) os may.1 (last_is number p o now))
  | inr later ↦ omega (arith, ap one_if later, accepted_once number (done p o) os may.1)
]

-- ---- an end is told of exactly where a call waits

none_waits : (number : CallNo) (cs : List NetCall) → take_first (has_number number) cs ≡ None → times number_of number.0 cs ≡ 0
unfolding number_of
none_waits number [] e = refl
none_waits number (c ∷ cs) e = let parts = none_parts (has_number number) c cs e in omega (arith, ap one_if parts.0, none_waits number cs parts.1)

one_waits : (number : CallNo) (cs : List NetCall) (z : NetCall × List NetCall) → take_first (has_number number) cs ≡ Some z → 1 ≤ times number_of number.0 cs
unfolding number_of
one_waits number cs z e = omega (arith, times-found number_of number.0 (has_number number) cs z e, ap one_if (found_passes (has_number number) cs z e))

told : (number : CallNo) (p : PlainPend) (code : Er) (bytes : List ℕ) → waiting number p ≤ 1 → waiting number p ≡ one_if (is_some (ended p number code bytes).1)
unfolding waiting
told number p code bytes le = elim (cases_of_first (numbered p number)) [
  | inl none ↦ rw none (none_waits number p.calls none)
  | inr z ↦ rw z.1 (omega (arith, le, one_waits number p.calls z.0 z.1))
]

nobody : (o : Option Who) → one_if (is_some o) ≡ 0 → o ≡ None
nobody None e = refl
nobody (Some who) e = absurd (omega (arith, e))

-- from the opening, at which no call waits
pub ends_once : (operations : List Operation) (number : CallNo) → MayAllBeDone opened_pend operations → EndsOnce number operations
unfolding waiting
ends_once operations number may =
    let p : PlainPend = after opened_pend operations in
    let accepted : times_accepted number opened_pend operations ≤ 1 = accepted_once number opened_pend operations may in
    let counts : times_accepted number opened_pend operations ≡ times_ended number opened_pend operations + waiting number p = from_opening in
    record {
      once = accepted;
      later = omega (arith, counts);
      exact = λ code bytes. omega (arith, counts, told number p code bytes (omega (arith, counts, accepted)));
      told_once = λ once code bytes. nobody (ended p number code bytes).1 (omega (arith, counts, accepted, once, told number p code bytes (omega (arith, counts, accepted))));
    }
  where
    from_opening : times_accepted number opened_pend operations ≡ times_ended number opened_pend operations + waiting number (after opened_pend operations)
    from_opening = omega (arith, all_count number opened_pend operations)
