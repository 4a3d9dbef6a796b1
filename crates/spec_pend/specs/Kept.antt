-- What holds of the calls that wait at any time: their numbers rise, none is above the last number with which a call was accepted,
-- no two wait at one part of an end point (ITRON TCP/IP API, the calls that may wait), and their end points have ids from 1 to 16.
use Rattle.std.specs.Prelude.{◌≡◌, ℕ, ◌<◌, ◌≤◌, false, List, [], ◌∷◌}
use Rattle.std.specs.List.{AllByRecursion}
use Rattle.it_types.specs.declared.id.CepId.{CepId}
use Rattle.spec_pend.specs.declared.call.NetCall.{NetCall}
use Rattle.spec_pend.specs.PlainPend.{PlainPend}
use Rattle.spec_pend.specs.Slots.{has_slot}

-- the id is one of an end point
pub record IsCep (cep : CepId) : Type 0 where
  pub low : 1 ≤ cep.0
  pub high : cep.0 ≤ 16

-- each call stands so to all that come after it
abbrev pub EachBefore : (NetCall → NetCall → Type 0) → List NetCall → Type 0
EachBefore R [] = Unit {0}
EachBefore R (c ∷ cs) = AllByRecursion (λ d. R c d) cs × EachBefore R cs

-- the number of the first is below that of the second
abbrev pub IsBelow : NetCall → NetCall → Type 0
IsBelow b c = b.call.0 < c.call.0

-- they wait at two parts
abbrev pub AreApart : NetCall → NetCall → Type 0
AreApart b c = has_slot c.slot b ≡ false

abbrev pub Rise : List NetCall → Type 0
Rise calls = EachBefore IsBelow calls

pub record CallsKept (last : ℕ) (calls : List NetCall) : Type 0 where
  pub rise : Rise calls
  pub highest : AllByRecursion (λ c. c.call.0 ≤ last) calls
  pub apart : EachBefore AreApart calls
  pub ceps : AllByRecursion (λ c. IsCep c.slot.cep) calls

abbrev pub PendKept : PlainPend → Type 0
PendKept p = CallsKept p.last p.calls
