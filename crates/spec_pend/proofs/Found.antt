-- What holds of all calls of a list, or of each before another, holds with one more at the end and without one that was found.
use Rattle.std.proofs.Common.{◌≡◌, Bool, true, false, List, [], ◌∷◌, ◌++◌, Some, sym, subst, inl, inr}
use Rattle.std.specs.List.{AllByRecursion, list_any}
use Rattle.std.proofs.lemmas.Bool.{cases_Bool}
use Rattle.spec_lists.specs.First.{take_first}
use Rattle.spec_lists.proofs.Firsts.{some_parts}
use Rattle.spec_pend.specs.declared.call.NetCall.{NetCall}
use Rattle.spec_pend.specs.Kept.{EachBefore}

pub all_end : (P : NetCall → Type 0) (cs : List NetCall) (c : NetCall) → AllByRecursion P cs → P c → AllByRecursion P (cs ++ c ∷ [])
all_end P [] c all it = (it, tt)
all_end P (b ∷ bs) c all it = (all.0, all_end P bs c all.1 it)

pub all_found : (P : NetCall → Type 0) (f : NetCall → Bool) (cs : List NetCall) (z : NetCall × List NetCall) → take_first f cs ≡ Some z → AllByRecursion P cs → P z.0 × AllByRecursion P z.1
all_found P f [] z e all = absurd cc
all_found P f (c ∷ cs) z e all = elim (some_parts f c cs z e) [
  | inl s ↦ subst (λ (q : NetCall × List NetCall). P q.0 × AllByRecursion P q.1) (sym s.1) all
  | inr s ↦ (let rest = all_found P f cs s.0 s.2 all.1 in subst (λ (q : NetCall × List NetCall). P q.0 × AllByRecursion P q.1) (sym s.3) (rest.0, (all.0, rest.1)))
]

-- what follows for each call
pub all_more : (P Q : NetCall → Type 0) (cs : List NetCall) → ((c : NetCall) → P c → Q c) → AllByRecursion P cs → AllByRecursion Q cs
all_more P Q [] more all = tt
all_more P Q (c ∷ cs) more all = (more c all.0, all_more P Q cs more all.1)

pub all_fail : (f : NetCall → Bool) (cs : List NetCall) → list_any f cs ≡ false → AllByRecursion (λ c. f c ≡ false) cs
all_fail f [] e = tt
all_fail f (c ∷ cs) e = elim (cases_Bool (f c)) [
  | inl t ↦ absurd (let passes : true ≡ false = rw t at e in cc)
  | inr t ↦ (t, all_fail f cs (rw t at e))
]

pub before_end : (R : NetCall → NetCall → Type 0) (cs : List NetCall) (c : NetCall) → EachBefore R cs → AllByRecursion (λ b. R b c) cs → EachBefore R (cs ++ c ∷ [])
before_end R [] c each all = (tt, tt)
before_end R (b ∷ bs) c each all = (all_end (λ d. R b d) bs c each.0 all.0, before_end R bs c each.1 all.1)

pub before_found : (R : NetCall → NetCall → Type 0) (f : NetCall → Bool) (cs : List NetCall) (z : NetCall × List NetCall) → take_first f cs ≡ Some z → EachBefore R cs → EachBefore R z.1
before_found R f [] z e each = absurd cc
before_found R f (c ∷ cs) z e each = elim (some_parts f c cs z e) [
  | inl s ↦ subst (λ (q : NetCall × List NetCall). EachBefore R q.1) (sym s.1) each.1
  | inr s ↦ subst (λ (q : NetCall × List NetCall). EachBefore R q.1) (sym s.3) ((all_found (λ d. R c d) f cs s.0 s.2 each.0).1, before_found R f cs s.0 s.2 each.1)
]

-- what is found passes
pub found_passes : (f : NetCall → Bool) (cs : List NetCall) (z : NetCall × List NetCall) → take_first f cs ≡ Some z → f z.0 ≡ true
found_passes f [] z e = absurd cc
found_passes f (c ∷ cs) z e = elim (some_parts f c cs z e) [
  | inl s ↦ rw s.1 s.0
  | inr s ↦ rw s.3 (found_passes f cs s.0 s.2)
]
