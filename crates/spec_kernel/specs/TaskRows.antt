-- The calls on tasks (µITRON4.0 sections 4.1 and 4.2), but for the test of the context in which each is made: for each the tests
-- that refuse it, in order, and what it changes where none holds. The order of the tests is this project's own.
use Rattle.std.specs.Prelude.{ℕ, ◌-◌, Bool, true, false, not, ◌&&◌, ◌||◌, ◌==◌, List, [], ◌∷◌, Option, Some, None, is_none, nat_lt, if◌then◌else◌, pos, slice_set}
use Rattle.it_types.specs.declared.id.TaskId.{TaskId}
use Rattle.it_types.specs.declared.er.Er.{Er}
use Rattle.it_types.specs.declared.er.TheConstants.{E_OK, E_PAR, E_ID, E_ILUSE, E_OBJ, E_NOEXS, E_QOVR}
use Rattle.it_types.specs.declared.timeout.Tmo.{Tmo}
use Rattle.it_types.specs.declared.context.Ctx.{Ctx}
use Rattle.it_types.specs.Callers.{is_handler, caller, is_nblk, is_poll}
use Rattle.spec_lists.specs.Refusal.{first_refusal}
use Rattle.spec_kernel.specs.declared.did.Did.{Did}
use Rattle.spec_kernel.specs.declared.task_block.TaskBlock.{TaskBlock}
use Rattle.spec_kernel.specs.declared.task_wait.TaskWait.TheVariants.{Sleep, Other}
use Rattle.spec_kernel.specs.Ids.{greatest_id}
use Rattle.spec_kernel.specs.TaskBlocks.{priority_of, activations_of, wakeups_of, suspensions_of, is_active, is_suspended, is_greatest, dormant, begun, with_priority, one_activation_more, one_activation_less, without_activations, one_wakeup_more, one_wakeup_less, without_wakeups, one_suspension_more, with_suspensions}
use Rattle.spec_kernel.specs.PlainTasks.{PlainTasks, block_of, is_waiting, is_asleep, with_task, running, is_same, leaving, joining, joining_unless, has_priority, last_in_order, waiting, released}

-- what a call comes to, and the tasks after it
pub record TaskDone : Type 0 where
  pub tasks : PlainTasks
  pub did : Did

-- the call has this code, and nothing else is told
abbrev pub with_code : Er → Did
with_code code = record { code = code; value = None; wait = false; freed = None; gone = None; begun = None }

abbrev pub with_value : ℕ → Did
with_value n = record (with_code E_OK) { value = Some n }

-- the caller waits, but for a poll
abbrev pub with_wait : Did
with_wait = record (with_code E_OK) { wait = true }

-- the call of a task ends by it, if there is one
abbrev pub with_freed : Option TaskId → Did
with_freed freed = record (with_code E_OK) { freed = freed }

abbrev pub with_begun : TaskId → Did
with_begun t = record (with_code E_OK) { begun = Some t }

abbrev pub answered : PlainTasks → Er → TaskDone
answered d code = record { tasks = d; did = with_code code }

abbrev pub unless_refused : Option Er → PlainTasks → TaskDone → TaskDone
unless_refused (Some code) d done = answered d code
unless_refused None d done = done

-- a call with these refusals, which changes so much where none holds
abbrev pub refused_or : List (Bool × Er) → PlainTasks → TaskDone → TaskDone
refused_or tests d done = unless_refused (first_refusal tests) d done

-- ---- the task that a request names

-- 0 is the caller
abbrev pub named : Ctx → TaskId → TaskId
named ctx t = if t.0 == 0 then caller ctx else t

abbrev pub is_wrong_task : Ctx → TaskId → Bool
is_wrong_task ctx t = ((t.0 == 0) && is_handler ctx) || nat_lt greatest_id t.0

abbrev pub at_task : PlainTasks → Ctx → TaskId → (Option TaskBlock → List (Bool × Er)) → List (Bool × Er)
at_task d ctx t tests = (is_wrong_task ctx t, E_ID) ∷ (is_none (block_of d (named ctx t)), E_NOEXS) ∷ tests (block_of d (named ctx t))

-- ---- beginning and ending (section 4.1)

abbrev pub begun_anew : PlainTasks → TaskId → PlainTasks
begun_anew d t = joining (with_task d t begun) t

abbrev pub beginning : PlainTasks → TaskId → TaskDone
beginning d t = record { tasks = begun_anew d t; did = with_begun t }

-- the task is dormant, and waits no longer
abbrev pub laid_down : PlainTasks → TaskId → PlainTasks
laid_down d t = leaving (record (with_task d t dormant) { waits = slice_set d.waits t.0 None }) t

abbrev pub has_activation : PlainTasks → TaskId → Bool
has_activation d t = nat_lt 0 (activations_of (block_of d t))

abbrev pub only_if : Bool → TaskId → Option TaskId
only_if true t = Some t
only_if false t = None

-- the task ends; with an activation kept it begins anew
abbrev pub after_end : PlainTasks → TaskId → PlainTasks
after_end d t = if has_activation d t then begun_anew (with_task (laid_down d t) t one_activation_less) t else laid_down d t

abbrev pub ending : PlainTasks → TaskId → TaskDone
ending d t = record {
  tasks = after_end d t;
  did = record (with_code E_OK) { freed = only_if (is_waiting d t) t; gone = Some t; begun = only_if (has_activation d t) t };
}

-- a dormant task begins; of an active one the activation is kept
abbrev pub act_tsk_refusals : PlainTasks → Ctx → TaskId → List (Bool × Er)
act_tsk_refusals d ctx t = at_task d ctx t (λ o. (is_active o && is_greatest (activations_of o), E_QOVR) ∷ [])

abbrev pub activated : PlainTasks → TaskId → TaskDone
activated d t = if is_active (block_of d t) then answered (with_task d t one_activation_more) E_OK else beginning d t

abbrev pub act_tsk : PlainTasks → Ctx → TaskId → TaskDone
act_tsk d ctx t = refused_or (act_tsk_refusals d ctx t) d (activated d (named ctx t))

-- the activations that are kept are told as the code, and none is left
abbrev pub can_act_refusals : PlainTasks → Ctx → TaskId → List (Bool × Er)
can_act_refusals d ctx t = at_task d ctx t (λ o. [])

abbrev pub activations_cancelled : PlainTasks → TaskId → TaskDone
activations_cancelled d t = answered (with_task d t without_activations) (record { 0 = pos (activations_of (block_of d t)) })

abbrev pub can_act : PlainTasks → Ctx → TaskId → TaskDone
can_act d ctx t = refused_or (can_act_refusals d ctx t) d (activations_cancelled d (named ctx t))

abbrev pub ext_tsk : PlainTasks → Ctx → TaskDone
ext_tsk d ctx = ending d (caller ctx)

abbrev pub ter_tsk_refusals : PlainTasks → Ctx → TaskId → List (Bool × Er)
ter_tsk_refusals d ctx t = at_task d ctx t (λ o. ((named ctx t).0 == (caller ctx).0, E_ILUSE) ∷ (not (is_active o), E_OBJ) ∷ [])

abbrev pub ter_tsk : PlainTasks → Ctx → TaskId → TaskDone
ter_tsk d ctx t = refused_or (ter_tsk_refusals d ctx t) d (ending d (named ctx t))

-- ---- priorities and order (section 4.1), and who runs

abbrev pub greatest_priority : ℕ
greatest_priority = 16

-- 0 is the initial priority; a runnable task is the last in order, also where its priority stays
abbrev pub chg_pri_refusals : PlainTasks → Ctx → TaskId → ℕ → List (Bool × Er)
chg_pri_refusals d ctx t p = at_task d ctx t (λ o. (nat_lt greatest_priority p, E_PAR) ∷ (not (is_active o), E_OBJ) ∷ [])

abbrev pub reprioritised : PlainTasks → TaskId → ℕ → TaskDone
reprioritised d t p = answered (last_in_order (is_same t) (with_task d t (with_priority p))) E_OK

abbrev pub chg_pri : PlainTasks → Ctx → TaskId → ℕ → TaskDone
chg_pri d ctx t p = refused_or (chg_pri_refusals d ctx t p) d (reprioritised d (named ctx t) p)

abbrev pub get_pri_refusals : PlainTasks → Ctx → TaskId → List (Bool × Er)
get_pri_refusals d ctx t = at_task d ctx t (λ o. (not (is_active o), E_OBJ) ∷ [])

abbrev pub get_pri : PlainTasks → Ctx → TaskId → TaskDone
get_pri d ctx t = refused_or (get_pri_refusals d ctx t) d (record { tasks = d; did = with_value (priority_of (block_of d (named ctx t))) })

-- of the tasks of one priority, 0 being the caller's, the first in order is the last from now on
abbrev pub rot_rdq_refusals : Ctx → ℕ → List (Bool × Er)
rot_rdq_refusals ctx p = (nat_lt greatest_priority p || ((p == 0) && is_handler ctx), E_PAR) ∷ []

abbrev pub rotated_priority : PlainTasks → Ctx → ℕ → ℕ
rotated_priority d ctx p = if p == 0 then priority_of (block_of d (caller ctx)) else p

abbrev pub rot_rdq : PlainTasks → Ctx → ℕ → TaskDone
rot_rdq d ctx p = refused_or (rot_rdq_refusals ctx p) d (answered (last_in_order (has_priority d.tasks (rotated_priority d ctx p)) d) E_OK)

abbrev pub get_tid : PlainTasks → TaskDone
get_tid d = record { tasks = d; did = with_value (running d).0 }

-- ---- sleeping and waiting (section 4.2)

-- a wake-up that is kept is taken; without one the caller waits
abbrev pub tslp_tsk_refusals : Tmo → List (Bool × Er)
tslp_tsk_refusals tmo = (is_nblk tmo, E_PAR) ∷ []

abbrev pub sleeping : PlainTasks → TaskId → Tmo → TaskDone
sleeping d t tmo =
    if nat_lt 0 (wakeups_of (block_of d t)) then answered (with_task d t one_wakeup_less) E_OK else record { tasks = if is_poll tmo then d else waiting d t Sleep; did = with_wait }

abbrev pub tslp_tsk : PlainTasks → Ctx → Tmo → TaskDone
tslp_tsk d ctx tmo = refused_or (tslp_tsk_refusals tmo) d (sleeping d (caller ctx) tmo)

-- one more wake-up, with which the call of a sleeper is met
abbrev pub wup_tsk_refusals : PlainTasks → Ctx → TaskId → List (Bool × Er)
wup_tsk_refusals d ctx t = at_task d ctx t (λ o. (not (is_active o), E_OBJ) ∷ (not (is_asleep d (named ctx t)) && is_greatest (wakeups_of o), E_QOVR) ∷ [])

abbrev pub waking : PlainTasks → TaskId → TaskDone
waking d t = record { tasks = with_task d t one_wakeup_more; did = with_freed (only_if (is_asleep d t) t) }

abbrev pub wup_tsk : PlainTasks → Ctx → TaskId → TaskDone
wup_tsk d ctx t = refused_or (wup_tsk_refusals d ctx t) d (waking d (named ctx t))

-- the wake-ups that are kept are told as the code, and none is left
abbrev pub can_wup_refusals : PlainTasks → Ctx → TaskId → List (Bool × Er)
can_wup_refusals d ctx t = at_task d ctx t (λ o. (not (is_active o), E_OBJ) ∷ [])

abbrev pub wakeups_cancelled : PlainTasks → TaskId → TaskDone
wakeups_cancelled d t = answered (with_task d t without_wakeups) (record { 0 = pos (wakeups_of (block_of d t)) })

abbrev pub can_wup : PlainTasks → Ctx → TaskId → TaskDone
can_wup d ctx t = refused_or (can_wup_refusals d ctx t) d (wakeups_cancelled d (named ctx t))

-- the task waits no longer, whatever it waits for
abbrev pub rel_wai_refusals : PlainTasks → Ctx → TaskId → List (Bool × Er)
rel_wai_refusals d ctx t = at_task d ctx t (λ o. (not (is_waiting d (named ctx t)), E_OBJ) ∷ [])

abbrev pub rel_wai : PlainTasks → Ctx → TaskId → TaskDone
rel_wai d ctx t = refused_or (rel_wai_refusals d ctx t) d (record { tasks = released d (named ctx t); did = with_freed (Some (named ctx t)) })

abbrev pub dly_tsk : PlainTasks → Ctx → TaskDone
dly_tsk d ctx = record { tasks = waiting d (caller ctx) Other; did = with_wait }

-- ---- suspension (section 4.2)

abbrev pub sus_tsk_refusals : PlainTasks → Ctx → TaskId → List (Bool × Er)
sus_tsk_refusals d ctx t = at_task d ctx t (λ o. (not (is_active o), E_OBJ) ∷ (is_greatest (suspensions_of o), E_QOVR) ∷ [])

abbrev pub sus_tsk : PlainTasks → Ctx → TaskId → TaskDone
sus_tsk d ctx t = refused_or (sus_tsk_refusals d ctx t) d (answered (leaving (with_task d (named ctx t) one_suspension_more) (named ctx t)) E_OK)

abbrev pub rsm_tsk_refusals : PlainTasks → Ctx → TaskId → List (Bool × Er)
rsm_tsk_refusals d ctx t = at_task d ctx t (λ o. (not (is_active o && is_suspended o), E_OBJ) ∷ [])

-- so many suspensions are left: with none, and nothing that it waits for, the task is runnable, the last in order
abbrev pub resumed : PlainTasks → TaskId → ℕ → PlainTasks
resumed d t left = joining_unless (nat_lt 0 left || is_waiting d t) (with_task d t (with_suspensions left)) t

abbrev pub rsm_tsk : PlainTasks → Ctx → TaskId → TaskDone
rsm_tsk d ctx t = refused_or (rsm_tsk_refusals d ctx t) d (answered (resumed d (named ctx t) (suspensions_of (block_of d (named ctx t)) - 1)) E_OK)

abbrev pub frsm_tsk : PlainTasks → Ctx → TaskId → TaskDone
frsm_tsk d ctx t = refused_or (rsm_tsk_refusals d ctx t) d (answered (resumed d (named ctx t) 0) E_OK)
