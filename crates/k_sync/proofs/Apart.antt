-- Tasks that wait at most once, with ids from 1 to 16: they stay so, and there is room for another.
use Rattle.std.proofs.Common.{◌≡◌, ℕ, ◌<◌, ◌≤◌, Bool, true, false, List, [], ◌∷◌, ◌++◌, length, Some, refl, ap, subst, inl, inr, arith}
use Rattle.std.specs.Prelude.{◌==◌}
use Rattle.std.specs.List.{list_any}
use Rattle.std.proofs.lemmas.Bool.{cases_Bool, cases_eq}
use Rattle.it_types.specs.declared.id.TaskId.{TaskId}
use Rattle.spec_lists.specs.Counting.{one_if, times}
use Rattle.spec_lists.specs.First.{take_first}
use Rattle.spec_lists.proofs.Counting.{one_if-at_most, one_if-other, times-end, times-found, room}
use Rattle.spec_kernel.specs.declared.waiter.Waiter.{Waiter}
use Rattle.spec_kernel.specs.Waiters.{is_task}
use Rattle.k_sync.specs.Waiting.{number, AreApart, MayWait}

one_if-fails : (task : TaskId) (w : Waiter) → (w.task.0 == task.0) ≡ false → one_if (number w == task.0) ≡ 0
one_if-fails task w e = ap one_if e

-- a task that isn't among them has a number that none of them has
pub absent : (task : TaskId) (ws : List Waiter) → list_any (is_task task) ws ≡ false → times number task.0 ws ≡ 0
absent task [] e = refl
absent task (w ∷ ws) e = elim (cases_Bool (w.task.0 == task.0)) [
  | inl t ↦ absurd (let f : true ≡ false = rw t at e in cc)
  | inr t ↦ omega (arith, one_if-fails task w t, absent task ws (rw t at e))
]

-- there is room for a task that waits nowhere
pub room_for : (task : TaskId) (ws : List Waiter) → AreApart ws → MayWait task ws → length ws < 16
room_for task ws apart may = omega (arith, room number ws 16 task.0 apart.once apart.within (absent task ws may.waits_nowhere) may.low may.high)

-- a task that waits nowhere joins
pub apart_joined : (w : Waiter) (ws : List Waiter) → AreApart ws → MayWait w.task ws → AreApart (ws ++ w ∷ [])
apart_joined w ws apart may = record { once = once; within = within }
  where
    none : times number w.task.0 ws ≡ 0
    none = absent w.task ws may.waits_nowhere

    once : (n : ℕ) → times number n (ws ++ w ∷ []) ≤ 1
    once n = elim (cases_eq (number w) n) [
      | inl e ↦ omega (arith, times-end number n ws w, one_if-at_most (number w == n), subst (λ m. times number m ws ≡ 0) e none)
      | inr e ↦ omega (arith, times-end number n ws w, one_if-other (number w) n e, apart.once n)
    ]

    within : (n : ℕ) → 1 ≤ times number n (ws ++ w ∷ []) → (1 ≤ n) × (n ≤ 16)
    within n le = elim (cases_eq (number w) n) [
      | inl e ↦ (omega (arith, e, may.low), omega (arith, e, may.high))
      | inr e ↦ apart.within n (omega (arith, le, times-end number n ws w, one_if-other (number w) n e))
    ]

-- one that was found is out
pub apart_found : (f : Waiter → Bool) (ws : List Waiter) (z : Waiter × List Waiter) → take_first f ws ≡ Some z → AreApart ws → AreApart z.1
apart_found f ws z e apart = record {
  once = λ n. omega (arith, times-found number n f ws z e, apart.once n);
  within = λ n le. apart.within n (omega (arith, times-found number n f ws z e, le));
}

-- one that was found is at the end
pub apart_moved : (f : Waiter → Bool) (ws : List Waiter) (z : Waiter × List Waiter) (w : Waiter)
    → take_first f ws ≡ Some z
    → w.task ≡ z.0.task
    → AreApart ws
    → AreApart (z.1 ++ w ∷ [])
apart_moved f ws z w e same apart = record {
  once = λ n. omega (arith, times-end number n z.1 w, is n, times-found number n f ws z e, apart.once n);
  within = λ n le. apart.within n (omega (arith, times-end number n z.1 w, is n, times-found number n f ws z e, le));
}
  where
    is : (n : ℕ) → one_if (number w == n) ≡ one_if (number z.0 == n)
    is n = ap (λ (t : TaskId). one_if (t.0 == n)) same
