-- What is kept of the calls that wait is kept by all that is done to them.
use Rattle.std.proofs.Common.{◌≡◌, ℕ, ◌<◌, ◌≤◌, Bool, false, List, Option, Some, None, refl, inl, inr, arith}
use Rattle.std.proofs.lemmas.Bool.{cases_Bool}
use Rattle.it_types.specs.declared.id.CallNo.{CallNo}
use Rattle.it_types.specs.declared.er.Er.{Er}
use Rattle.it_types.specs.declared.handler.Handler.{Handler}
use Rattle.spec_lists.specs.First.{take_first}
use Rattle.spec_pend.specs.declared.slot.Slot.{Slot}
use Rattle.spec_pend.specs.declared.call.Who.{Who}
use Rattle.spec_pend.specs.declared.call.NetCall.{NetCall}
use Rattle.spec_pend.specs.PlainPend.{PlainPend, opened_pend}
use Rattle.spec_pend.specs.Slots.{accepted, has_number, has_slot, is_taken, numbered, with_call}
use Rattle.spec_pend.specs.Ends.{ended, ended_found, with_due, without_first_due}
use Rattle.spec_pend.specs.Kept.{AreApart, CallsKept, IsBelow, IsCep, PendKept}
use Rattle.spec_pend.proofs.Found.{all_end, all_fail, all_found, all_more, before_end, before_found}

pub opened_kept : PendKept opened_pend
opened_kept = record { rise = tt; highest = tt; apart = tt; ceps = tt }

-- a call more, under a number above the last one
pub call_kept : (p : PlainPend) (who : Who) (slot : Slot) (number : CallNo) → IsCep slot.cep → p.last < number.0 → is_taken p slot ≡ false → PendKept p → PendKept (with_call p who slot number)
call_kept p who slot number cep above free kept =
    let c : NetCall = record { call = number; who = who; slot = slot } in
    record {
      rise = before_end IsBelow p.calls c kept.rise (all_more (λ b. b.call.0 ≤ p.last) (λ b. b.call.0 < number.0) p.calls (λ b le. omega (arith, le, above)) kept.highest);
      highest = all_end (λ b. b.call.0 ≤ number.0) p.calls c (all_more (λ b. b.call.0 ≤ p.last) (λ b. b.call.0 ≤ number.0) p.calls (λ b le. omega (arith, le, above)) kept.highest) (omega arith);
      apart = before_end AreApart p.calls c kept.apart (all_fail (has_slot slot) p.calls free);
      ceps = all_end (λ b. IsCep b.slot.cep) p.calls c kept.ceps cep;
    }

pub accepted_kept : (p : PlainPend) (who : Who) (slot : Slot) (number : CallNo) → IsCep slot.cep → p.last < number.0 → PendKept p → PendKept (accepted p who slot number).0
accepted_kept p who slot number cep above kept = elim (cases_Bool (is_taken p slot)) [
  | inl taken ↦ rw taken kept
  | inr free ↦ rw free (call_kept p who slot number cep above free kept)
]

-- without a call that was found
pub found_kept : (last : ℕ) (f : NetCall → Bool) (cs : List NetCall) (z : NetCall × List NetCall) → take_first f cs ≡ Some z → CallsKept last cs → CallsKept last z.1
found_kept last f cs z e kept = record {
  rise = before_found IsBelow f cs z e kept.rise;
  highest = (all_found (λ c. c.call.0 ≤ last) f cs z e kept.highest).1;
  apart = before_found AreApart f cs z e kept.apart;
  ceps = (all_found (λ c. IsCep c.slot.cep) f cs z e kept.ceps).1;
}

ended_found_kept : (p : PlainPend) (number : CallNo) (found : Option (NetCall × List NetCall)) (code : Er) (bytes : List ℕ) → numbered p number ≡ found → PendKept p → PendKept (ended_found p found code bytes).0
ended_found_kept p number None code bytes e kept = kept
ended_found_kept p number (Some z) code bytes e kept = found_kept p.last (has_number number) p.calls z e kept

pub ended_kept : (p : PlainPend) (number : CallNo) (code : Er) (bytes : List ℕ) → PendKept p → PendKept (ended p number code bytes).0
ended_kept p number code bytes kept = ended_found_kept p number (numbered p number) code bytes refl kept

pub with_due_kept : (p : PlainPend) (h : Handler) → PendKept p → PendKept (with_due p h)
with_due_kept p h kept = kept

pub without_first_due_kept : (p : PlainPend) → PendKept p → PendKept (without_first_due p)
without_first_due_kept p kept = kept
