-- What the number that a search among the calls that wait has found says of the search.
use Rattle.std.proofs.Common.{◌≡◌, ℕ, Bool, true, false, List, [], Option, None, Some, refl, ap, subst, ◌∙◌, inl, inr}
use Rattle.std.specs.Prelude.{is_none, is_some}
use Rattle.std.specs.Bool.{beq}
use Rattle.std.specs.List.{list_any}
use Rattle.std.proofs.lemmas.Bool.{eq-eqb}
use Rattle.std.proofs.lemmas.List.{append-nil}
use Rattle.it_types.specs.declared.answer.Ans.{Ans}
use Rattle.it_types.specs.declared.entry.Out.{Out}
use Rattle.it_types.specs.declared.er.Er.{Er}
use Rattle.it_types.specs.declared.id.CallNo.{CallNo}
use Rattle.spec_lists.specs.First.{take_first}
use Rattle.spec_lists.proofs.Firsts.{cases_of_first, found_past, none_any}
use Rattle.spec_pend.specs.declared.call.NetCall.{NetCall}
use Rattle.spec_pend.specs.declared.call.Who.{Who}
use Rattle.spec_pend.specs.declared.slot.Slot.{Slot}
use Rattle.spec_pend.specs.PlainPend.{PlainPend, Endings, no_endings}
use Rattle.spec_pend.specs.Slots.{accepted, at_slot, has_slot, is_taken, number_found, part_number, with_call}
use Rattle.spec_pend.specs.Ends.{ended_where}
use Rattle.spec_udp.proofs.ArrivalCases.{some_any}
use Rattle.e_udp.specs.Shows.{Shows, begun_and_ended, ended_with}

-- there is a number exactly where a call was found
pub no_number_none : (x : Option (NetCall × List NetCall)) → number_found x ≡ None → x ≡ None
no_number_none None e = refl
no_number_none (Some found) e = absurd cc

pub is_none-number : (x : Option (NetCall × List NetCall)) → is_none (number_found x) ≡ is_none x
is_none-number None = refl
is_none-number (Some found) = refl

is_some-number : (x : Option (NetCall × List NetCall)) → is_some (number_found x) ≡ is_some x
is_some-number None = refl
is_some-number (Some found) = refl

any_found : (f : NetCall → Bool) (calls : List NetCall) → is_some (take_first f calls) ≡ list_any f calls
any_found f calls = elim (cases_of_first (take_first f calls)) [
  | inl none ↦ rw (none, none_any f calls none) refl
  | inr some ↦ rw (some.1, some_any f calls some.0 some.1) refl
]

pub is_some-any : (f : NetCall → Bool) (calls : List NetCall) → is_some (number_found (take_first f calls)) ≡ list_any f calls
is_some-any f calls = is_some-number (take_first f calls) ∙ any_found f calls

-- where none passes nothing is found, and where one passes something is
pub none_found : (f : NetCall → Bool) (calls : List NetCall) → list_any f calls ≡ false → take_first f calls ≡ None
none_found f calls e = elim (cases_of_first (take_first f calls)) [
  | inl none ↦ none
  | inr some ↦ absurd (let passes = some_any f calls some.0 some.1 in cc)
]

pub some_found : (f : NetCall → Bool) (calls : List NetCall) → list_any f calls ≡ true → (x : NetCall × List NetCall) × (take_first f calls ≡ Some x)
some_found f calls e = elim (cases_of_first (take_first f calls)) [
  | inl none ↦ absurd (let fails = none_any f calls none in cc)
  | inr some ↦ some
]

-- an end without bytes
pub without_bytes : (e : Endings) (x : Option (NetCall × List NetCall)) (code : Er) → ended_with e x code [] ≡ ended_where e x code
without_bytes e None code = refl
without_bytes e (Some found) code = refl

-- ---- a call that is accepted

-- where the part is free, it waits
pub accepted_there : (lent left : PlainPend) (who : Who) (slot : Slot) (number : CallNo) (code : Er)
    → is_taken lent slot ≡ false
    → (left, code) ≡ accepted lent who slot number
    → left ≡ with_call lent who slot number
accepted_there lent left who slot number code free e = ap (λ (r : PlainPend × Er). r.0) (rw free at e)

same_bool : (b : Bool) → beq b b ≡ true
same_bool true = refl
same_bool false = refl

has_own : (call : NetCall) → has_slot call.slot call ≡ true
has_own call = rw (same_bool call.slot.udp, eq-eqb call.slot.cep.0 call.slot.cep.0 refl, eq-eqb (part_number call.slot.part) (part_number call.slot.part) refl) refl

-- and it is found there
found_there : (lent : PlainPend) (who : Who) (slot : Slot) (number : CallNo)
    → is_taken lent slot ≡ false
    → at_slot (with_call lent who slot number) slot ≡ Some (record { call = number; who = who; slot = slot }, lent.calls)
found_there lent who slot number free =
    found_past (has_slot slot) lent.calls (record { call = number; who = who; slot = slot }) [] (none_found (has_slot slot) lent.calls free) (has_own (record { call = number; who = who; slot = slot }))
    ∙ ap (λ (calls : List NetCall). Some (record { call = number; who = who; slot = slot }, calls)) (append-nil lent.calls)

-- so its end is the end of the call there
pub begun_shows : {left : PlainPend} {out : Out} {answer : Ans} (lent between : PlainPend) (who : Who) (slot : Slot) (number : CallNo) (accepted_code code : Er) (bytes : List ℕ)
    → is_taken lent slot ≡ false
    → (between, accepted_code) ≡ accepted lent who slot number
    → Shows left out answer (ended_with (no_endings between) (at_slot between slot) code bytes)
    → Shows left out answer (begun_and_ended lent who slot number code bytes)
begun_shows {left} {out} {answer} lent between who slot number accepted_code code bytes free e shows =
    subst (Shows left out answer)
    (ap (λ p. ended_with (no_endings p) (at_slot p slot) code bytes) (accepted_there lent between who slot number accepted_code free e)
    ∙ ap (λ z. ended_with (no_endings (with_call lent who slot number)) z code bytes) (found_there lent who slot number free)) shows
