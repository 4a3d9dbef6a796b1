-- Where each new rank is above all that are kept, the tasks that wait stand in the order of their ranks.
use Rattle.std.proofs.Common.{◌≡◌, ℕ, ◌<◌, Bool, List, [], ◌∷◌, ◌++◌, Option, Some, None, refl, inl, inr}
use Rattle.std.proofs.lemmas.Bool.{cases_Bool}
use Rattle.it_types.specs.declared.id.TaskId.{TaskId}
use Rattle.it_types.specs.declared.timeout.Tmo.{Tmo}
use Rattle.it_types.specs.Callers.{is_poll}
use Rattle.spec_lists.specs.First.{take_first}
use Rattle.spec_lists.proofs.Firsts.{some_parts}
use Rattle.spec_kernel.specs.declared.reason.WaitReason.{WaitReason}
use Rattle.spec_kernel.specs.declared.waiter.Waiter.{Waiter}
use Rattle.spec_kernel.specs.Waiters.{is_task, the_others, left_by, joined_by, next_waiter, comes_next, moved, reprioritised}

-- each rank is below a new one
abbrev pub AllBelow : ℕ → List Waiter → Type 0
AllBelow rank [] = Unit {0}
AllBelow rank (w ∷ ws) = (w.rank < rank) × AllBelow rank ws

abbrev pub AllAbove : ℕ → List Waiter → Type 0
AllAbove rank [] = Unit {0}
AllAbove rank (w ∷ ws) = (rank < w.rank) × AllAbove rank ws

-- the ranks rise along the list
abbrev pub AreRising : List Waiter → Type 0
AreRising [] = Unit {0}
AreRising (w ∷ ws) = AllAbove w.rank ws × AreRising ws

-- ---- one more at the end

above_end : (rank : ℕ) (ws : List Waiter) (w : Waiter) → AllAbove rank ws → rank < w.rank → AllAbove rank (ws ++ w ∷ [])
above_end rank [] w above more = (more, tt)
above_end rank (v ∷ ws) w above more = (above.0, above_end rank ws w above.1 more)

rising_end : (ws : List Waiter) (w : Waiter) → AreRising ws → AllBelow w.rank ws → AreRising (ws ++ w ∷ [])
rising_end [] w rising below = (tt, tt)
rising_end (v ∷ ws) w rising below = (above_end v.rank ws w rising.0 below.0, rising_end ws w rising.1 below.1)

-- a task joins the queues
pub rising_joined : (w : Waiter) (tmo : Tmo) (ws : List Waiter) → AreRising ws → AllBelow w.rank ws → AreRising (joined_by w tmo ws)
rising_joined w tmo ws rising below = elim (cases_Bool (is_poll tmo)) [
  | inl e ↦ rw e rising
  | inr e ↦ rw e (rising_end ws w rising below)
]

-- ---- one fewer

above_found : (rank : ℕ) (f : Waiter → Bool) (ws : List Waiter) (z : Waiter × List Waiter) → take_first f ws ≡ Some z → AllAbove rank ws → AllAbove rank z.1
above_found rank f [] z e above = cc
above_found rank f (w ∷ ws) z e above = elim (some_parts f w ws z e) [
  | inl s ↦ rw s.1 above.1
  | inr s ↦ rw s.3 (above.0, above_found rank f ws s.0 s.2 above.1)
]

below_found : (rank : ℕ) (f : Waiter → Bool) (ws : List Waiter) (z : Waiter × List Waiter) → take_first f ws ≡ Some z → AllBelow rank ws → AllBelow rank z.1
below_found rank f [] z e below = cc
below_found rank f (w ∷ ws) z e below = elim (some_parts f w ws z e) [
  | inl s ↦ rw s.1 below.1
  | inr s ↦ rw s.3 (below.0, below_found rank f ws s.0 s.2 below.1)
]

-- one that was found is out
pub rising_found : (f : Waiter → Bool) (ws : List Waiter) (z : Waiter × List Waiter) → take_first f ws ≡ Some z → AreRising ws → AreRising z.1
rising_found f [] z e rising = cc
rising_found f (w ∷ ws) z e rising = elim (some_parts f w ws z e) [
  | inl s ↦ rw s.1 rising.1
  | inr s ↦ rw s.3 (above_found w.rank f ws s.0 s.2 rising.0, rising_found f ws s.0 s.2 rising.1)
]

-- who is freed next is out
pub rising_freed : (is_met : WaitReason → Bool) (ws : List Waiter) (z : Waiter × List Waiter) → next_waiter is_met ws ≡ Some z → AreRising ws → AreRising z.1
rising_freed is_met ws z e rising = rising_found (comes_next is_met ws) ws z e rising

rising_others : (f : Waiter → Bool) (ws : List Waiter) (o : Option (Waiter × List Waiter)) → take_first f ws ≡ o → AreRising ws → AreRising (the_others ws o)
rising_others f ws None e rising = rising
rising_others f ws (Some z) e rising = rising_found f ws z e rising

-- a task leaves
pub rising_left : (task : TaskId) (ws : List Waiter) → AreRising ws → AreRising (left_by task ws)
rising_left task ws rising = rising_others (is_task task) ws (take_first (is_task task) ws) refl rising

-- ---- a new priority

rising_moved : (f : Waiter → Bool) (by_priority : WaitReason → Bool) (pri rank : ℕ) (ws : List Waiter) (o : Option (Waiter × List Waiter))
    → take_first f ws ≡ o
    → AreRising ws
    → AllBelow rank ws
    → AreRising (moved by_priority ws pri rank o)
rising_moved f by_priority pri rank ws None e rising below = rising
rising_moved f by_priority pri rank ws (Some z) e rising below = elim (cases_Bool (by_priority z.0.reason)) [
  | inl t ↦ rw t (rising_end z.1 (record z.0 { urgency = pri; rank = rank }) (rising_found f ws z e rising) (below_found rank f ws z e below))
  | inr t ↦ rw t rising
]

pub rising_reprioritised : (by_priority : WaitReason → Bool) (task : TaskId) (pri rank : ℕ) (ws : List Waiter) → AreRising ws → AllBelow rank ws → AreRising (reprioritised by_priority task pri rank ws)
rising_reprioritised by_priority task pri rank ws rising below = rising_moved (is_task task) by_priority pri rank ws (take_first (is_task task) ws) refl rising below
