-- The calls on semaphores (µITRON4.0 section 4.4.1), but for the test of the context in which each is made: the first refusal
-- that holds, or what is taken at once, or that the task must wait.
use Rattle.std.specs.Prelude.{ℕ, Bool, not, ◌&&◌, List, [], ◌∷◌, Option, Some, None, if◌then◌else◌}
use Rattle.std.specs.List.{list_any}
use Rattle.it_types.specs.declared.id.TaskId.{TaskId}
use Rattle.it_types.specs.declared.id.ObjId.{ObjId}
use Rattle.it_types.specs.declared.er.Er.{Er}
use Rattle.it_types.specs.declared.er.TheConstants.{E_OK, E_PAR, E_QOVR}
use Rattle.it_types.specs.declared.timeout.Tmo.{Tmo}
use Rattle.it_types.specs.declared.synced.Synced.{Synced}
use Rattle.it_types.specs.declared.synced.Synced.TheVariants.{Took, MustWait, Refused}
use Rattle.it_types.specs.Callers.{is_nblk}
use Rattle.spec_lists.specs.Tables.{get, change}
use Rattle.spec_lists.specs.Refusal.{first_refusal}
use Rattle.spec_kernel.specs.declared.reason.WaitReason.{WaitReason}
use Rattle.spec_kernel.specs.declared.reason.WaitReason.TheVariants as reasons
use Rattle.spec_kernel.specs.declared.waiter.Waiter.{Waiter}
use Rattle.spec_kernel.specs.Waiters.{is_in, joined_by}
use Rattle.spec_kernel.specs.Waiting.{semaphores_after}
use Rattle.spec_kernel.specs.ObjectRows.{at_object, urgency_in}
use Rattle.spec_kernel.specs.SemaphoreBlocks.{is_full, one_more}
use Rattle.spec_kernel.specs.PlainSemaphores.{PlainSemaphores, is_met, is_by_priority, bytes_of}

-- what a call comes to, and the semaphores after it
pub record SemaphoresDone : Type 0 where
  pub sems : PlainSemaphores
  pub synced : Synced

abbrev pub took : PlainSemaphores → List ℕ → SemaphoresDone
took d bytes = record { sems = d; synced = Took E_OK bytes }

abbrev pub unless_refused : Option Er → PlainSemaphores → SemaphoresDone → SemaphoresDone
unless_refused (Some code) d done = record { sems = d; synced = Refused code }
unless_refused None d done = done

-- a call with these refusals, which comes to this where none holds
abbrev pub refused_or : List (Bool × Er) → PlainSemaphores → SemaphoresDone → SemaphoresDone
refused_or tests d done = unless_refused (first_refusal tests) d done

-- ---- one more count: the first task that waits gets it, by its own end

abbrev pub sig_sem_refusals : PlainSemaphores → ObjId → List (Bool × Er)
sig_sem_refusals d s = at_object d.semaphores s ((not (list_any (is_in (reasons.Semaphore s)) d.waiters) && is_full (get d.semaphores s.0), E_QOVR) ∷ [])

abbrev pub signalled : PlainSemaphores → ObjId → SemaphoresDone
signalled d s = took (record d { semaphores = change d.semaphores s.0 one_more }) []

abbrev pub sig_sem : PlainSemaphores → ObjId → SemaphoresDone
sig_sem d s = refused_or (sig_sem_refusals d s) d (signalled d s)

-- ---- a count is taken where there is one

abbrev pub twai_sem_refusals : PlainSemaphores → ObjId → Tmo → List (Bool × Er)
twai_sem_refusals d s tmo = at_object d.semaphores s ((is_nblk tmo, E_PAR) ∷ [])

abbrev pub met : PlainSemaphores → WaitReason → SemaphoresDone
met d reason = took (record d { semaphores = semaphores_after reason d.semaphores }) (bytes_of reason)

abbrev pub waiter_for : PlainSemaphores → WaitReason → TaskId → ℕ → ℕ → Waiter
waiter_for d reason task pri rank = record { task = task; reason = reason; urgency = urgency_in (is_by_priority d.semaphores reason) pri; rank = rank }

-- the task joins the queue, but for a poll
abbrev pub waiting : PlainSemaphores → Waiter → Tmo → SemaphoresDone
waiting d w tmo = record { sems = record d { waiters = joined_by w tmo d.waiters }; synced = MustWait }

abbrev pub asked : PlainSemaphores → WaitReason → Tmo → TaskId → ℕ → ℕ → SemaphoresDone
asked d reason tmo task pri rank = if is_met d.semaphores reason then met d reason else waiting d (waiter_for d reason task pri rank) tmo

abbrev pub twai_sem : PlainSemaphores → ObjId → Tmo → TaskId → ℕ → ℕ → SemaphoresDone
twai_sem d s tmo task pri rank = refused_or (twai_sem_refusals d s tmo) d (asked d (reasons.Semaphore s) tmo task pri rank)
