-- How many elements of a list pass a test, and of the calls of both parts.
use Rattle.std.proofs.Common.{◌≡◌, ℕ, ◌+◌, ◌≤◌, Bool, true, false, List, [], ◌∷◌, ◌++◌, Some, None, refl, sym, ◌∙◌, inl, inr, arith}
use Rattle.std.specs.Prelude.{◌==◌}
use Rattle.std.proofs.lemmas.Bool.{cases_Bool, and_parts}
use Rattle.spec_lists.specs.First.{take_first}
use Rattle.spec_lists.proofs.Firsts.{some_parts, none_parts}
use Rattle.spec_lists.specs.Counting.{one_if}
use Rattle.spec_kernel.specs.declared.reason.WaitingCall.{WaitingCall}
use Rattle.spec_kernel.specs.Settle.{is_outside}
use Rattle.laws_node.specs.Agreement.{times, times_waiting, is_outside_call}

pub times_end : {X : Type 0} (p : X → Bool) (xs : List X) (x : X) → times p (xs ++ x ∷ []) ≡ times p xs + one_if (p x)
times_end p [] x = omega arith
times_end p (y ∷ ys) x = rw (times_end p ys x) (omega arith)

-- one fewer where the one that was taken out passes
pub times_found : {X : Type 0} (p f : X → Bool) (xs : List X) (z : X × List X) → take_first f xs ≡ Some z → times p xs ≡ times p z.1 + one_if (p z.0)
times_found p f [] z e = cc
times_found p f (x ∷ xs) z e = elim (some_parts f x xs z e) [
  | inl s ↦ rw s.1 (omega arith)
  | inr s ↦ rw s.3 (omega (arith, times_found p f xs s.0 s.2))
]

pub is_one : (b : Bool) → 1 ≤ one_if b → b ≡ true
is_one true le = refl
is_one false le = absurd (omega (arith, le))

-- where none passes a test, none passes a harder one
pub times_none : {X : Type 0} (p f : X → Bool) (xs : List X) → ((x : X) → p x ≡ true → f x ≡ true) → take_first f xs ≡ None → times p xs ≡ 0
times_none p f [] harder e = refl
times_none p f (x ∷ xs) harder e = elim (cases_Bool (p x)) [
  | inl t ↦ absurd (let s : true ≡ false = sym (harder x t) ∙ (none_parts f x xs e).0 in cc)
  | inr t ↦ rw t (omega (arith, times_none p f xs harder (none_parts f x xs e).1))
]

outside_le_one : (number id : ℕ) (w : WaitingCall) → one_if (is_outside_call number id w) ≤ one_if (w.task.0 == id)
outside_le_one number id w = elim (cases_Bool (is_outside_call number id w)) [
  | inl t ↦ (let parts = and_parts (w.call.0 == number) (w.task.0 == id) (and_parts (is_outside w.reason) _ t).1 in rw (t, parts.1) (omega arith))
  | inr t ↦ rw t (omega arith)
]

-- a task that waits outside waits
pub outside_le_waiting : (number id : ℕ) (ws : List WaitingCall) → times (is_outside_call number id) ws ≤ times_waiting id ws
outside_le_waiting number id [] = omega arith
outside_le_waiting number id (w ∷ ws) = omega (arith, outside_le_one number id w, outside_le_waiting number id ws)
