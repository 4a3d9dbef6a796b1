-- What the code makes of a search is what its definition says: `p` are the calls and handlers of the code, and `named` those that the
-- contract names.
use Rattle.std.proofs.Common.{◌≡◌, ℕ, Bool, List, ◌++◌, Option, Some, None, get_or, sym, ap, ◌∙◌, subst}
use Rattle.std.specs.Prelude.{IfSome}
use Rattle.std.specs.List.{position, remove}
use Rattle.it_types.specs.declared.id.CallNo.{CallNo}
use Rattle.it_types.specs.declared.er.Er.{Er}
use Rattle.it_types.specs.declared.handler.Handler.{Handler}
use Rattle.spec_lists.specs.First.{take_first}
use Rattle.spec_lists.proofs.Places.{searched}
use Rattle.spec_pend.specs.declared.call.NetCall.{NetCall}
use Rattle.spec_pend.specs.PlainPend.{PlainPend}
use Rattle.spec_pend.specs.Slots.{has_number, number_found, numbered}
use Rattle.spec_pend.specs.Ends.{ended, ended_found, handlers_for}
use Rattle.spec_pend.specs.Kept.{PendKept}
use Rattle.spec_pend.proofs.ByNumber.{told_by_number}

-- the call at the place that a search has found, and the others
pub taken : (f : NetCall → Bool) (slice other calls : List NetCall) (place : Option ℕ) (i : ℕ) (c : NetCall) (rest : List NetCall)
    → slice ≡ calls
    → other ≡ calls
    → place ≡ position f slice
    → place ≡ Some i
    → c ≡ get_or other i c
    → rest ≡ remove calls i
    → take_first f calls ≡ Some (c, rest)
taken f slice other calls place i c rest same also found some is left =
    (searched f slice calls place i same found some).first c (subst (λ cs. c ≡ get_or cs i c) also is) ∙ ap (λ cs. Some (c, cs)) (sym left)

module _ (p named : PlainPend) (same : p ≡ named) (number : CallNo) (code : Er) (bytes : List ℕ) where
  -- where a call was taken out, and who is told of it was told
  pub one_ended : (c : NetCall) (rest : List NetCall) (due : List Handler)
      → take_first (has_number number) p.calls ≡ Some (c, rest)
      → due ≡ p.due ++ handlers_for c.who c.slot code bytes
      → (record p { calls = rest; due = due }, Some c.who) ≡ ended named number code bytes
  one_ended c rest due first told =
      subst (λ (q : PlainPend). (record p { calls = rest; due = due }, Some c.who) ≡ ended q number code bytes) same
      (ap (λ (d : List Handler). (record p { calls = rest; due = d }, Some c.who)) told ∙ sym (ap (λ (found : Option (NetCall × List NetCall)). ended_found p found code bytes) first))

  -- where none was found nothing changes
  pub none_ended : take_first (has_number number) p.calls ≡ None → (named, None) ≡ ended named number code bytes
  none_ended none =
      subst (λ (q : PlainPend). (q, None) ≡ ended q number code bytes) same
      (sym (ap (λ (found : Option (NetCall × List NetCall)). ended_found p found code bytes) none))

-- the number at the place that a search has found; by it the same call is found
pub record IsTold (search : List NetCall → NetCall → Bool) (named : PlainPend) (told : Option CallNo) : Type 0 where
  pub number : told ≡ number_found (take_first (search named.calls) named.calls)
  pub same : IfSome told (λ no. numbered named no ≡ take_first (search named.calls) named.calls)

pub number_told : (search : List NetCall → NetCall → Bool) (p named : PlainPend) (slice other : List NetCall) (place : Option ℕ) (told : Option CallNo)
    → p ≡ named
    → PendKept p
    → slice ≡ p.calls
    → other ≡ p.calls
    → place ≡ position (search slice) slice
    → ((f : NetCall → Bool) → place ≡ position f other → told ≡ number_found (take_first f other))
    → IsTold search named told
number_told search p named slice other place told same kept is also found tells =
    let at : place ≡ position (search p.calls) p.calls = subst (λ cs. place ≡ position (search cs) cs) is found in
    let number : told ≡ number_found (take_first (search p.calls) p.calls) =
    subst (λ cs. place ≡ position (search p.calls) cs → told ≡ number_found (take_first (search p.calls) cs)) also (tells (search p.calls)) at
    in
    subst (λ (q : PlainPend). IsTold search q told) same (record { number = number; same = told_by_number (search p.calls) p.calls told kept.rise number })
