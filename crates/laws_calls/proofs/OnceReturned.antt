-- Where each number is accepted once at most, no two returns are from one call: the call of each number is open for one task at most, once,
-- and a return closes it.
use Rattle.std.proofs.Common.{◌≡◌, ℕ, ◌+◌, ◌≤◌, Bool, true, false, List, [], ◌∷◌, ◌++◌, Option, Some, None, refl, sym, ap, ◌∙◌, inl, inr, arith}
use mathlib.Core.Logic.{◌⊎◌}
use Rattle.std.specs.Prelude.{◌==◌, if◌then◌else◌}
use Rattle.std.proofs.lemmas.Bool.{cases_Bool, eqb-true, eq-eqb}
use Rattle.std.proofs.lemmas.List.{append_assoc}
use Rattle.it_types.specs.declared.answer.Ans.{Ans}
use Rattle.it_types.specs.declared.answer.Ans.TheVariants as answers
use Rattle.it_types.specs.declared.context.Ctx.TheVariants as contexts
use Rattle.spec_lists.specs.Counting.{one_if}
use Rattle.spec_node.specs.declared.event.NodeEv.{NodeEv}
use Rattle.spec_node.specs.declared.event.NodeEv.TheVariants.{Call, Return, Begin, Finish, Tick, Arrive}
use Rattle.laws_calls.specs.Once.{NodeEntry, accepts, times_accepted, asked_in, closes, or_before, open_after, open_call, is_call, returns_from, times_returned}
use Rattle.laws_calls.proofs.OnceBooks.{accepted_end, open_end}

-- the call of this number is open for the task
abbrev open_for : ℕ → ℕ → List NodeEntry → Bool
open_for number task log = is_call number (open_call task None log)

-- Returns so far, and a call that is open, are among those that were accepted; and no call is open for two tasks.
record Closing (log : List NodeEntry) (returned : ℕ → ℕ) : Type 0 where
  among : (number task : ℕ) → returned number + one_if (open_for number task log) ≤ times_accepted number log
  alone : (number t u : ℕ) → open_for number t log ≡ true → open_for number u log ≡ true → t ≡ u

-- ---- what an entry opens and closes

-- a call that is asked for is accepted, and by one task
asked_accepted : (number task : ℕ) (event : NodeEv) (a : Ans) → is_call number (asked_in task event a) ≡ true → accepts number a ≡ true
asked_accepted number task (Call (contexts.Task t) request) (answers.Pends c) e = elim (cases_Bool (t.0 == task)) [
  | inl s ↦ rw s at e
  | inr s ↦ absurd (let f : false ≡ true = rw s at e in cc)
]
asked_accepted number task (Call (contexts.Task t) request) (answers.Now code bytes) e = absurd cc
asked_accepted number task (Call (contexts.Task t) request) (answers.Later c) e = absurd cc
asked_accepted number task (Call (contexts.Task t) request) answers.Quiet e = absurd cc
asked_accepted number task (Call contexts.Handler request) a e = absurd cc
asked_accepted number task (Return t) a e = absurd cc
asked_accepted number task Begin a e = absurd cc
asked_accepted number task Finish a e = absurd cc
asked_accepted number task Tick a e = absurd cc
asked_accepted number task (Arrive bytes) a e = absurd cc

asked_alone : (number t u : ℕ) (event : NodeEv) (a : Ans) → is_call number (asked_in t event a) ≡ true → is_call number (asked_in u event a) ≡ true → t ≡ u
asked_alone number t u (Call (contexts.Task v) request) (answers.Pends c) e f = sym (by t e) ∙ by u f
  where
    by : (task : ℕ) → is_call number (if v.0 == task then Some c.0 else None) ≡ true → v.0 ≡ task
    by task e = elim (cases_Bool (v.0 == task)) [
      | inl s ↦ eqb-true v.0 task s
      | inr s ↦ absurd (let f : false ≡ true = rw s at e in cc)
    ]
asked_alone number t u (Call (contexts.Task v) request) (answers.Now code bytes) e f = absurd cc
asked_alone number t u (Call (contexts.Task v) request) (answers.Later c) e f = absurd cc
asked_alone number t u (Call (contexts.Task v) request) answers.Quiet e f = absurd cc
asked_alone number t u (Call contexts.Handler request) a e f = absurd cc
asked_alone number t u (Return v) a e f = absurd cc
asked_alone number t u Begin a e f = absurd cc
asked_alone number t u Finish a e f = absurd cc
asked_alone number t u Tick a e f = absurd cc
asked_alone number t u (Arrive bytes) a e f = absurd cc

-- what is open after an entry was asked for in it, or was open before and isn't closed
data Opens (number task : ℕ) (before : Option ℕ) (e : NodeEntry) : Type 0 where
  anew : is_call number (asked_in task e.event e.out.ans) ≡ true → Opens number task before e
  still : is_call number before ≡ true → closes task e ≡ false → Opens number task before e

opens : (number task : ℕ) (before : Option ℕ) (e : NodeEntry) → is_call number (open_after task before e) ≡ true → Opens number task before e
opens number task before e is = elim (cases_Bool (closes task e)) [
  | inl c ↦ absurd (let f : false ≡ true = rw c at is in cc)
  | inr c ↦ of (asked_in task e.event e.out.ans) refl c (rw c at is)
]
  where
    of : (x : Option ℕ) → asked_in task e.event e.out.ans ≡ x → closes task e ≡ false → is_call number (or_before x before) ≡ true → Opens number task before e
    of None is_none c is = Opens.still is c
    of (Some call) is_some c is = Opens.anew (ap (is_call number) is_some ∙ is)

-- ---- one more entry

-- the number is not accepted before an entry that accepts it
module _ (log : List NodeEntry) (returned : ℕ → ℕ) (e : NodeEntry) (h : Closing log returned) (once : (number : ℕ) → times_accepted number (log ++ e ∷ []) ≤ 1) where
  counts : (number : ℕ) → times_accepted number log + one_if (accepts number e.out.ans) ≤ 1
  counts number = omega (arith, once number, accepted_end number log e)

  opens_end : (number task : ℕ) → open_for number task (log ++ e ∷ []) ≡ true → Opens number task (open_call task None log) e
  opens_end number task is = opens number task (open_call task None log) e (sym (ap (is_call number) (open_end task None log e)) ∙ is)

  -- a number that is accepted now was open for none
  new_alone : (number task : ℕ) → accepts number e.out.ans ≡ true → open_for number task log ≡ true → ⊥
  new_alone number task new was = omega (arith, counts number, h.among number task, ap one_if new, ap one_if was)

  -- where the entry is a return from the call, its task's call is closed
  returns_task : (number : ℕ) → returns_from number log e.event ≡ true → (t : ℕ) × (open_for number t log ≡ true) × (closes t e ≡ true)
  returns_task number is = of e.event refl is
    where
      of : (event : NodeEv) → e.event ≡ event → returns_from number log event ≡ true → (t : ℕ) × (open_for number t log ≡ true) × (closes t e ≡ true)
      of (Return t) same is = (t.0, is, rw (same, eq-eqb t.0 t.0 refl) refl)
      of (Call ctx request) same is = absurd cc
      of Begin same is = absurd cc
      of Finish same is = absurd cc
      of Tick same is = absurd cc
      of (Arrive bytes) same is = absurd cc

  among_end : (number task : ℕ) → (returned number + one_if (returns_from number log e.event)) + one_if (open_for number task (log ++ e ∷ [])) ≤ times_accepted number (log ++ e ∷ [])
  among_end number task = of (cases_Bool (returns_from number log e.event)) (cases_Bool (open_for number task (log ++ e ∷ [])))
    where
      Goal : Type 0
      Goal = (returned number + one_if (returns_from number log e.event)) + one_if (open_for number task (log ++ e ∷ [])) ≤ times_accepted number (log ++ e ∷ [])

      opened : returns_from number log e.event ≡ false → Opens number task (open_call task None log) e → open_for number task (log ++ e ∷ []) ≡ true → Goal
      opened none (Opens.anew asked) is = omega (arith, accepted_end number log e, h.among number task, ap one_if none, ap one_if is, ap one_if (asked_accepted number task e.event e.out.ans asked))
      opened none (Opens.still was c) is = omega (arith, accepted_end number log e, h.among number task, ap one_if none, ap one_if is, ap one_if was)

      both : (t : ℕ) × (open_for number t log ≡ true) × (closes t e ≡ true) → Opens number task (open_call task None log) e → ⊥
      both r (Opens.anew asked) = new_alone number r.0 (asked_accepted number task e.event e.out.ans asked) r.1
      both r (Opens.still was c) = (let f : true ≡ false = sym r.2 ∙ ap (λ t. closes t e) (h.alone number r.0 task r.1 was) ∙ c in absurd cc)

      of : (returns_from number log e.event ≡ true) ⊎ (returns_from number log e.event ≡ false) → (open_for number task (log ++ e ∷ []) ≡ true) ⊎ (open_for number task (log ++ e ∷ []) ≡ false) → Goal
      of (inl r) (inl is) = absurd (both (returns_task number r) (opens_end number task is))
      of (inl r) (inr isnt) = (let from = returns_task number r in omega (arith, accepted_end number log e, h.among number from.0, ap one_if r, ap one_if isnt, ap one_if from.1))
      of (inr none) (inl is) = opened none (opens_end number task is) is
      of (inr none) (inr isnt) = omega (arith, accepted_end number log e, h.among number task, ap one_if none, ap one_if isnt)

  closing_end : Closing (log ++ e ∷ []) (λ number. returned number + one_if (returns_from number log e.event))
  closing_end = record {
    among = among_end;
    alone = λ number t u is_t is_u. of number t u (opens_end number t is_t) (opens_end number u is_u);
  }
    where
      of : (number t u : ℕ) → Opens number t (open_call t None log) e → Opens number u (open_call u None log) e → t ≡ u
      of number t u (Opens.anew a) (Opens.anew b) = asked_alone number t u e.event e.out.ans a b
      of number t u (Opens.anew a) (Opens.still b c) = absurd (new_alone number u (asked_accepted number t e.event e.out.ans a) b)
      of number t u (Opens.still a c) (Opens.anew b) = absurd (new_alone number t (asked_accepted number u e.event e.out.ans b) a)
      of number t u (Opens.still a c) (Opens.still b d) = h.alone number t u a b

-- ---- all entries

-- an entry of the past is accepted no more often than all
accepted_append : (number : ℕ) (log more : List NodeEntry) → times_accepted number log ≤ times_accepted number (log ++ more)
accepted_append number [] more = omega arith
accepted_append number (e ∷ log) more = omega (arith, accepted_append number log more)

closing_all : (log more : List NodeEntry) (returned : ℕ → ℕ) → Closing log returned → ((number : ℕ) → times_accepted number (log ++ more) ≤ 1) → (number : ℕ) → returned number + times_returned number log more ≤ 1
closing_all log [] returned h once number = omega (arith, h.among number 0, once number, accepted_append number log [])
closing_all log (e ∷ more) returned h once number =
    let fits : (log ++ e ∷ []) ++ more ≡ log ++ e ∷ more = append_assoc log (e ∷ []) more in
    let next = closing_end log returned e h (λ m. omega (arith, once m, accepted_append m (log ++ e ∷ []) more, ap (times_accepted m) fits)) in
    omega (arith, closing_all (log ++ e ∷ []) more (λ m. returned m + one_if (returns_from m log e.event)) next (λ m. omega (arith, once m, ap (times_accepted m) fits)) number)

-- where each number is accepted once at most
pub returned_once : (log : List NodeEntry) → ((number : ℕ) → times_accepted number log ≤ 1) → (number : ℕ) → times_returned number [] log ≤ 1
returned_once log once number = omega (arith, closing_all [] log (λ m. 0) (record { among = λ m task. omega arith; alone = λ m t u e f. absurd cc }) once number)
