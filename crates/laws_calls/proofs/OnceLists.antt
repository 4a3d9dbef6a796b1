-- How many elements of a list pass a test, and what holds of each of them.
use Rattle.std.proofs.Common.{◌≡◌, ◌≢◌, ℕ, ◌+◌, Bool, List, [], ◌∷◌, ◌++◌, Some, refl, inl, inr, arith}
use Rattle.std.specs.List.{AllByRecursion}
use Rattle.spec_lists.specs.First.{take_first}
use Rattle.spec_lists.proofs.Firsts.{some_parts}
use Rattle.spec_lists.proofs.Counting.{one_if-same, one_if-other}
use Rattle.spec_kernel.specs.declared.reason.WaitingCall.{WaitingCall}
use Rattle.laws_node.specs.Agreement.{times, times_waiting}

pub times_append : {X : Type 0} (p : X → Bool) (xs ys : List X) → times p (xs ++ ys) ≡ times p xs + times p ys
times_append p [] ys = omega arith
times_append p (x ∷ xs) ys = omega (arith, times_append p xs ys)

-- ---- all of a list

pub all_append : {X : Type 0} (P : X → Type 0) (xs ys : List X) → AllByRecursion P xs → AllByRecursion P ys → AllByRecursion P (xs ++ ys)
all_append P [] ys h g = g
all_append P (x ∷ xs) ys h g = (h.0, all_append P xs ys h.1 g)

pub all_end : {X : Type 0} (P : X → Type 0) (xs : List X) (x : X) → AllByRecursion P xs → P x → AllByRecursion P (xs ++ x ∷ [])
all_end P xs x h it = all_append P xs (x ∷ []) h (it, tt)

-- the one that was found, and the others
pub all_found : {X : Type 0} (P : X → Type 0) (f : X → Bool) (xs : List X) (z : X × List X) → take_first f xs ≡ Some z → AllByRecursion P xs → P z.0 × AllByRecursion P z.1
all_found P f [] z e h = absurd cc
all_found P f (x ∷ xs) z e h = elim (some_parts f x xs z e) [
  | inl s ↦ rw s.1 h
  | inr s ↦ (let rest = all_found P f xs s.0 s.2 h.1 in rw s.3 (rest.0, (h.0, rest.1)))
]

pub all_more : {X : Type 0} (P Q : X → Type 0) (xs : List X) → ((x : X) → P x → Q x) → AllByRecursion P xs → AllByRecursion Q xs
all_more P Q [] more h = tt
all_more P Q (x ∷ xs) more h = (more x h.0, all_more P Q xs more h.1)

pub all_both : {X : Type 0} (P Q R : X → Type 0) (xs : List X) → ((x : X) → P x → Q x → R x) → AllByRecursion P xs → AllByRecursion Q xs → AllByRecursion R xs
all_both P Q R [] more h g = tt
all_both P Q R (x ∷ xs) more h g = (more x h.0 g.0, all_both P Q R xs more h.1 g.1)

-- ---- the calls of a task that wait

abbrev pub IsOfAnother : ℕ → WaitingCall → Type 0
IsOfAnother task w = w.task.0 ≢ task

pub all_of_others : (task : ℕ) (ws : List WaitingCall) → times_waiting task ws ≡ 0 → AllByRecursion (IsOfAnother task) ws
all_of_others task [] none = tt
all_of_others task (w ∷ ws) none = (λ same. omega (arith, none, one_if-same w.task.0 task same), all_of_others task ws (omega (arith, none)))

pub none_waits : (task : ℕ) (ws : List WaitingCall) → AllByRecursion (IsOfAnother task) ws → times_waiting task ws ≡ 0
none_waits task [] h = refl
none_waits task (w ∷ ws) h = omega (arith, one_if-other w.task.0 task h.0, none_waits task ws h.1)
