-- Where the numbers of runnable tasks rise, the running task is the one of the least priority and, among equals, of the least number.
use Rattle.std.proofs.Common.{◌≡◌, ℕ, ◌<◌, ◌≤◌, Bool, true, false, List, [], ◌∷◌, Option, refl, inl, inr, arith}
use Rattle.std.specs.Prelude.{nat_lt, if◌then◌else◌}
use Rattle.std.proofs.lemmas.Bool.{cases_lt, ltb-true, ltb-false}
use Rattle.it_types.specs.declared.id.TaskId.{TaskId}
use Rattle.spec_lists.specs.Tables.{get}
use Rattle.spec_kernel.specs.declared.task_block.TaskBlock.{TaskBlock}
use Rattle.spec_kernel.specs.TaskBlocks.{priority_of}
use Rattle.spec_kernel.specs.PlainTasks.{PlainTasks, most_urgent, first_of, running}
use Rattle.laws_kernel.specs.Rising.{AllAbove, Rises}
use Rattle.laws_kernel.specs.Ranks.{Ranks, task_rank, ComesFirst, ComesFirstOf}

module _ (tasks : List (Option TaskBlock)) (r : Ranks) where
  priority : TaskId → ℕ
  priority t = priority_of (get tasks t.0)

  more_urgent : (t u v : TaskId) → ComesFirst tasks r t u → priority u < priority v → ComesFirst tasks r t v
  unfolding priority
  more_urgent t u v (inl lt) more = inl (omega (arith, lt, more))
  more_urgent t u v (inr same) more = inl (omega (arith, same.0, more))

  no_later : (t u v : TaskId) → ComesFirst tasks r t u → priority u ≤ priority v → task_rank r u ≤ task_rank r v → ComesFirst tasks r t v
  unfolding priority
  no_later t u v (inl lt) le rank = inl (omega (arith, lt, le))
  no_later t u v (inr same) le rank = elim (cases_lt (priority u) (priority v)) [
    | inl lt ↦ inl (omega (arith, same.0, lt))
    | inr ge ↦ inr (omega (arith, same.0, le, ge), omega (arith, same.1, rank))
  ]

  -- before this one, and before all of these
  abbrev Foremost : TaskId → List TaskId → TaskId → Type 0
  Foremost best ts t = ComesFirst tasks r t best × ComesFirstOf tasks r t ts

  -- the next task is the best so far, where it is more urgent
  one_more : (best t : TaskId) (ts : List TaskId) (b : Bool)
      → nat_lt (priority t) (priority best) ≡ b
      → task_rank r best < task_rank r t
      → Foremost (if b then t else best) ts (most_urgent tasks (if b then t else best) ts)
      → Foremost best (t ∷ ts) (most_urgent tasks (if b then t else best) ts)
  one_more best t ts true e above h = (more_urgent (most_urgent tasks t ts) t best h.0 (ltb-true (priority t) (priority best) e), h)
  one_more best t ts false e above h = (h.0, (no_later (most_urgent tasks best ts) best t h.0 (ltb-false (priority t) (priority best) e) (omega (arith, above)), h.1))

  -- the most urgent comes before the best so far, and before all others
  most_urgent_first : (best : TaskId) (ts : List TaskId) → AllAbove (task_rank r) (task_rank r best) ts → Rises (task_rank r) ts → Foremost best ts (most_urgent tasks best ts)
  unfolding priority
  most_urgent_first best [] above rise = (inr (refl, omega arith), tt)
  most_urgent_first best (t ∷ ts) above rise = one_more best t ts (nat_lt (priority t) (priority best)) refl above.0 (either (nat_lt (priority t) (priority best)) (most_urgent_first t ts rise.0 rise.1) (most_urgent_first best ts above.1 rise.1))
    where
      either : (b : Bool) → Foremost t ts (most_urgent tasks t ts) → Foremost best ts (most_urgent tasks best ts) → Foremost (if b then t else best) ts (most_urgent tasks (if b then t else best) ts)
      either true f g = f
      either false f g = g

-- the running task comes before all that are runnable
pub running_first : (d : PlainTasks) (r : Ranks) → Rises (task_rank r) d.runnable → ComesFirstOf d.tasks r (running d) d.runnable
running_first d r rise = of d.runnable rise
  where
    of : (ts : List TaskId) → Rises (task_rank r) ts → ComesFirstOf d.tasks r (first_of d.tasks ts) ts
    of [] h = tt
    of (t ∷ ts) h = most_urgent_first d.tasks r t ts h.0 h.1
