-- Worked histories of the calls on semaphores, checked by computation.
use Rattle.std.proofs.Common.{◌≡◌, ℕ, zero, suc, true, false, length, List, [], ◌∷◌, Option, Some, None, refl}
use Rattle.it_types.specs.declared.id.TaskId.{TaskId}
use Rattle.it_types.specs.declared.er.Er.{Er}
use Rattle.it_types.specs.declared.er.TheConstants.{E_OK, E_PAR, E_ID, E_NOEXS, E_QOVR}
use Rattle.it_types.specs.declared.conf.SemDecl.{SemDecl}
use Rattle.it_types.specs.declared.timeout.Tmo.{Tmo}
use Rattle.it_types.specs.declared.timeout.Tmo.TheVariants.{Pol, Nblk, Fevr, Ms}
use Rattle.it_types.specs.declared.synced.Synced.{Synced}
use Rattle.it_types.specs.declared.synced.Synced.TheVariants.{Took, MustWait, Refused}
use Rattle.spec_kernel.specs.PlainSemaphores.{PlainSemaphores, opened, next_ready, freed, left, reprioritised}
use Rattle.spec_kernel.specs.SemaphoreRows.{SemaphoresDone, took, sig_sem, twai_sem}

-- ---- what happens

abbrev Step : Type 0
Step = PlainSemaphores → SemaphoresDone

abbrev the_task : ℕ → TaskId
the_task n = record { 0 = n }

abbrev signals : ℕ → Step
signals s d = sig_sem d (record { 0 = s })

-- the task, of this priority, asks with this rank
abbrev asks : ℕ → Tmo → ℕ → ℕ → ℕ → Step
asks s tmo task pri rank d = twai_sem d (record { 0 = s }) tmo (the_task task) pri rank

abbrev is_given_priority : ℕ → ℕ → ℕ → Step
is_given_priority task pri rank d = took (reprioritised d (the_task task) pri rank) []

abbrev leaves : ℕ → Step
leaves task d = took (left d (the_task task)) []

-- ---- what is told of it

-- what the call comes to, and the tasks whose waits end by it, one after another
record Told : Type 0 where
  synced : Synced
  freed_tasks : List ℕ

abbrev one_end : (PlainSemaphores → PlainSemaphores × List ℕ) → PlainSemaphores → Option (TaskId × Er × List ℕ) → PlainSemaphores × List ℕ
one_end go_on d None = (d, [])
one_end go_on d (Some end) = let rest = go_on (freed d) in (rest.0, end.0.0 ∷ rest.1)

-- while a task is met that waits, it is freed: at most as many times as tasks wait
abbrev ends : ℕ → PlainSemaphores → PlainSemaphores × List ℕ
ends zero d = (d, [])
ends (suc n) d = one_end (ends n) d (next_ready d)

abbrev history : PlainSemaphores → List Step → List Told
history d [] = []
history d (s ∷ ss) = let o = s d in let after = ends (length o.sems.waiters) o.sems in record { synced = o.synced; freed_tasks = after.1 } ∷ history after.0 ss

abbrev ok : List ℕ → Told
ok tasks = record { synced = Took E_OK []; freed_tasks = tasks }

abbrev waits : Told
waits = record { synced = MustWait; freed_tasks = [] }

abbrev refused : Er → Told
refused code = record { synced = Refused code; freed_tasks = [] }

-- ---- the semaphores

abbrev by_arrival : ℕ → ℕ → ℕ → SemDecl
by_arrival id init max = record { id = id; pri = false; init = init; max = max }

abbrev by_priority : ℕ → ℕ → ℕ → SemDecl
by_priority id init max = record { id = id; pri = true; init = init; max = max }

abbrev semaphores : List SemDecl → PlainSemaphores
semaphores sems = opened (record { sems = sems; flags = []; dtqs = [] })

-- ---- the histories

-- counts are kept up to the maximum and taken one by one; a poll that finds none changes nothing
counts_kept : history (semaphores (by_arrival 1 1 2 ∷ [])) (signals 1 ∷ signals 1 ∷ asks 1 Fevr 1 5 1 ∷ asks 1 Pol 1 5 1 ∷ asks 1 Pol 1 5 1 ∷ signals 1 ∷ [])
    ≡ ok [] ∷ refused E_QOVR ∷ ok [] ∷ ok [] ∷ waits ∷ ok [] ∷ []
counts_kept = refl

-- tasks that wait by arrival have the counts in this order, whatever their priorities
first_come : history (semaphores (by_arrival 1 0 1 ∷ [])) (asks 1 Fevr 1 5 1 ∷ asks 1 (Ms 10) 2 3 2 ∷ signals 1 ∷ signals 1 ∷ signals 1 ∷ signals 1 ∷ [])
    ≡ waits ∷ waits ∷ ok (1 ∷ []) ∷ ok (2 ∷ []) ∷ ok [] ∷ refused E_QOVR ∷ []
first_come = refl

-- tasks that wait by priority have them in that order, and those of one priority by arrival
most_urgent_first : history (semaphores (by_priority 1 0 1 ∷ [])) (asks 1 Fevr 1 5 1 ∷ asks 1 Fevr 2 3 2 ∷ asks 1 Fevr 3 3 3 ∷ signals 1 ∷ signals 1 ∷ signals 1 ∷ [])
    ≡ waits ∷ waits ∷ waits ∷ ok (2 ∷ []) ∷ ok (3 ∷ []) ∷ ok (1 ∷ []) ∷ []
most_urgent_first = refl

-- a new priority is a new place in a queue by priority: behind those of that priority, also where it stays the same
priority_changed : history (semaphores (by_priority 1 0 1 ∷ []))
    (asks 1 Fevr 1 5 1 ∷ asks 1 Fevr 2 5 2 ∷ asks 1 Fevr 3 6 3 ∷ is_given_priority 3 4 4 ∷ is_given_priority 1 5 5 ∷ signals 1 ∷ signals 1 ∷ signals 1 ∷ [])
    ≡ waits ∷ waits ∷ waits ∷ ok [] ∷ ok [] ∷ ok (3 ∷ []) ∷ ok (2 ∷ []) ∷ ok (1 ∷ []) ∷ []
priority_changed = refl

-- and it changes nothing where tasks wait by arrival
place_kept : history (semaphores (by_arrival 1 0 1 ∷ [])) (asks 1 Fevr 1 5 1 ∷ asks 1 Fevr 2 6 2 ∷ is_given_priority 2 1 3 ∷ signals 1 ∷ signals 1 ∷ []) ≡ waits ∷ waits ∷ ok [] ∷ ok (1 ∷ []) ∷ ok (2 ∷ []) ∷ []
place_kept = refl

-- a task that waits no longer has no count, and each semaphore has a queue of its own
another_is_first : history (semaphores (by_arrival 1 0 1 ∷ by_arrival 2 0 1 ∷ [])) (asks 1 Fevr 1 5 1 ∷ asks 2 Fevr 2 5 2 ∷ asks 1 Fevr 3 5 3 ∷ leaves 1 ∷ signals 1 ∷ signals 1 ∷ signals 2 ∷ [])
    ≡ waits ∷ waits ∷ waits ∷ ok [] ∷ ok (3 ∷ []) ∷ ok [] ∷ ok (2 ∷ []) ∷ []
another_is_first = refl

-- ---- each refusal

signal_refused : history (semaphores (by_arrival 1 1 1 ∷ [])) (signals 0 ∷ signals 17 ∷ signals 2 ∷ signals 1 ∷ []) ≡ refused E_ID ∷ refused E_ID ∷ refused E_NOEXS ∷ refused E_QOVR ∷ []
signal_refused = refl

wait_refused : history (semaphores (by_arrival 1 1 1 ∷ [])) (asks 0 Nblk 1 5 1 ∷ asks 17 Pol 1 5 1 ∷ asks 16 Nblk 1 5 1 ∷ asks 1 Nblk 1 5 1 ∷ [])
    ≡ refused E_ID ∷ refused E_ID ∷ refused E_NOEXS ∷ refused E_PAR ∷ []
wait_refused = refl
