-- A call that was found in whatever way is the one that is found by its number, since the numbers rise.
use Rattle.std.proofs.Common.{◌≡◌, ◌<◌, Bool, false, List, [], ◌∷◌, Option, Some, None, refl, sym, ap, ◌∙◌, subst, inl, inr, arith}
use Rattle.std.specs.Prelude.{IfSome}
use Rattle.std.specs.List.{AllByRecursion}
use Rattle.std.proofs.lemmas.Bool.{eq-eqb, eqb-true, ne_eqb}
use Rattle.it_types.specs.declared.id.CallNo.{CallNo}
use Rattle.spec_lists.specs.First.{take_first, put_back}
use Rattle.spec_lists.proofs.Firsts.{at_first, cases_of_first, none_from_parts, past_first, some_parts}
use Rattle.spec_pend.specs.declared.call.NetCall.{NetCall}
use Rattle.spec_pend.specs.Slots.{has_number, number_found}
use Rattle.spec_pend.specs.Kept.{Rise}
use Rattle.spec_pend.proofs.Found.{all_found}

pub by_number : (f : NetCall → Bool) (cs : List NetCall) (z : NetCall × List NetCall) → Rise cs → take_first f cs ≡ Some z → take_first (has_number z.0.call) cs ≡ Some z
by_number f [] z rise e = absurd cc
by_number f (c ∷ cs) z rise e = elim (some_parts f c cs z e) [
  | inl s ↦ subst (λ (q : NetCall × List NetCall). take_first (has_number q.0.call) (c ∷ cs) ≡ Some q) (sym s.1) (at_first (has_number c.call) c cs (eq-eqb c.call.0 c.call.0 refl))
  | inr s ↦ (
      let above : c.call.0 < s.0.0.call.0 = (all_found (λ d. c.call.0 < d.call.0) f cs s.0 s.2 rise.0).0 in
      let other : has_number s.0.0.call c ≡ false = ne_eqb c.call.0 s.0.0.call.0 (λ same. omega (arith, above, same)) in
      let rest : take_first (has_number s.0.0.call) (c ∷ cs) ≡ Some (s.0.0, c ∷ s.0.1) = past_first (has_number s.0.0.call) c cs other ∙ ap (put_back c) (by_number f cs s.0 rise.1 s.2) in
      subst (λ (q : NetCall × List NetCall). take_first (has_number q.0.call) (c ∷ cs) ≡ Some q) (sym s.3) rest
      )
]

-- calls with numbers above this one haven't got it
none_above : (number : CallNo) (cs : List NetCall) → AllByRecursion (λ c. number.0 < c.call.0) cs → take_first (has_number number) cs ≡ None
none_above number [] above = refl
none_above number (c ∷ cs) above = none_from_parts (has_number number) c cs (ne_eqb c.call.0 number.0 (λ same. omega (arith, above.0, same))) (none_above number cs above.1)

-- without the call of a number there is none
pub none_left : (number : CallNo) (cs : List NetCall) (z : NetCall × List NetCall) → Rise cs → take_first (has_number number) cs ≡ Some z → take_first (has_number number) z.1 ≡ None
none_left number [] z rise e = absurd cc
none_left number (c ∷ cs) z rise e = elim (some_parts (has_number number) c cs z e) [
  | inl s ↦ (
      let above : AllByRecursion (λ d. number.0 < d.call.0) cs = subst (λ n. AllByRecursion (λ d. n < d.call.0) cs) (eqb-true c.call.0 number.0 s.0) rise.0 in
      subst (λ (q : NetCall × List NetCall). take_first (has_number number) q.1 ≡ None) (sym s.1) (none_above number cs above)
      )
  | inr s ↦ subst (λ (q : NetCall × List NetCall). take_first (has_number number) q.1 ≡ None) (sym s.3) (none_from_parts (has_number number) c s.0.1 s.1 (none_left number cs s.0 rise.1 s.2))
]

-- so it is with the number that a search has told
pub told_by_number : (f : NetCall → Bool) (cs : List NetCall) (told : Option CallNo) → Rise cs → told ≡ number_found (take_first f cs) → IfSome told (λ number. take_first (has_number number) cs ≡ take_first f cs)
told_by_number f cs None rise e = tt
told_by_number f cs (Some number) rise e = elim (cases_of_first (take_first f cs)) [
  | inl none ↦ absurd (let no : Some number ≡ number_found None = e ∙ ap number_found none in cc)
  | inr z ↦ (
      let same : number ≡ z.0.0.call = one_number (e ∙ ap number_found z.1) in
      subst (λ n. take_first (has_number n) cs ≡ take_first f cs) (sym same) (by_number f cs z.0 rise z.1 ∙ sym z.1)
      )
]
  where
    one_number : {m n : CallNo} → Some m ≡ Some n → m ≡ n
    one_number e = cc
