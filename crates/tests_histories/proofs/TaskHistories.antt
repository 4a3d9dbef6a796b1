-- Worked histories of the calls on tasks, checked by computation.
use Rattle.std.proofs.Common.{◌≡◌, ℕ, Bool, true, false, List, [], ◌∷◌, Option, Some, None, refl}
use Rattle.std.specs.Prelude.{pos}
use Rattle.it_types.specs.declared.id.TaskId.{TaskId}
use Rattle.it_types.specs.declared.er.Er.{Er}
use Rattle.it_types.specs.declared.er.TheConstants.{E_OK, E_PAR, E_ID, E_ILUSE, E_OBJ, E_NOEXS, E_QOVR}
use Rattle.it_types.specs.declared.conf.TaskDecl.{TaskDecl}
use Rattle.it_types.specs.declared.context.Ctx.{Ctx}
use Rattle.it_types.specs.declared.context.Ctx.TheVariants.{Handler}
use Rattle.it_types.specs.declared.context.Ctx.TheVariants as contexts
use Rattle.it_types.specs.declared.timeout.Tmo.{Tmo}
use Rattle.it_types.specs.declared.timeout.Tmo.TheVariants.{Pol, Nblk, Fevr}
use Rattle.spec_kernel.specs.declared.task_block.TaskBlock.{TaskBlock}
use Rattle.spec_kernel.specs.PlainTasks.{PlainTasks, running, with_task, woken}
use Rattle.spec_kernel.specs.TaskRows.{TaskDone, answered, act_tsk, can_act, ext_tsk, ter_tsk, chg_pri, get_pri, rot_rdq, get_tid, tslp_tsk, wup_tsk, can_wup, rel_wai, dly_tsk, sus_tsk, rsm_tsk, frsm_tsk}
use Rattle.spec_kernel.specs.TaskOpening.{opened_tasks}

-- ---- what happens

abbrev Step : Type 0
Step = PlainTasks → TaskDone

abbrev the_task : ℕ → TaskId
the_task n = record { 0 = n }

-- a call of the running task
abbrev calls : (PlainTasks → Ctx → TaskDone) → Step
calls call d = call d (contexts.Task (running d))

abbrev calls_on : (PlainTasks → Ctx → TaskId → TaskDone) → ℕ → Step
calls_on call n d = call d (contexts.Task (running d)) (the_task n)

abbrev tells_who_runs : Step
tells_who_runs d = get_tid d

abbrev delays : Step
delays d = dly_tsk d (contexts.Task (running d))

abbrev sleeps : Tmo → Step
sleeps tmo d = tslp_tsk d (contexts.Task (running d)) tmo

abbrev rotates : ℕ → Step
rotates p d = rot_rdq d (contexts.Task (running d)) p

abbrev gives_priority : ℕ → ℕ → Step
gives_priority n p d = chg_pri d (contexts.Task (running d)) (the_task n) p

-- the wait of a task is over
abbrev is_woken : ℕ → Step
is_woken n d = answered (woken d (the_task n)) E_OK

-- ---- what is told of it

-- the code, the number, whether the caller waits, the tasks whose call ended, that ended and that began, and which task runs then
record Told : Type 0 where
  code : Er
  value : Option ℕ
  wait : Bool
  freed : Option ℕ
  gone : Option ℕ
  begun : Option ℕ
  runs : ℕ

abbrev number_of : Option TaskId → Option ℕ
number_of None = None
number_of (Some t) = Some t.0

abbrev tell : TaskDone → Told
tell o = record {
  code = o.did.code;
  value = o.did.value;
  wait = o.did.wait;
  freed = number_of o.did.freed;
  gone = number_of o.did.gone;
  begun = number_of o.did.begun;
  runs = (running o.tasks).0;
}

abbrev history : PlainTasks → List Step → List Told
history d [] = []
history d (s ∷ ss) = let o = s d in tell o ∷ history o.tasks ss

abbrev coded : Er → ℕ → Told
coded code r = record { code = code; value = None; wait = false; freed = None; gone = None; begun = None; runs = r }

abbrev ok : ℕ → Told
ok r = coded E_OK r

abbrev count : ℕ → ℕ → Told
count n r = coded (record { 0 = pos n }) r

abbrev value : ℕ → ℕ → Told
value n r = record (ok r) { value = Some n }

abbrev waits : ℕ → Told
waits r = record (ok r) { wait = true }

abbrev frees : ℕ → ℕ → Told
frees t r = record (ok r) { freed = Some t }

abbrev ends : ℕ → ℕ → Told
ends t r = record (ok r) { gone = Some t }

abbrev begins : ℕ → ℕ → Told
begins t r = record (ok r) { begun = Some t }

-- ---- the tasks

abbrev active : ℕ → ℕ → TaskDecl
active id p = record { id = id; pri = p; act = true }

abbrev dormant : ℕ → ℕ → TaskDecl
dormant id p = record { id = id; pri = p; act = false }

abbrev three_equals : PlainTasks
three_equals = opened_tasks (active 1 5 ∷ active 2 5 ∷ active 3 5 ∷ [])

abbrev two_by_priority : PlainTasks
two_by_priority = opened_tasks (active 1 1 ∷ active 2 2 ∷ [])

-- ---- beginning and ending

-- two activations are kept over the end of a task: it begins anew, and one of them is left
activation_kept : history (opened_tasks (active 1 5 ∷ [])) (calls_on act_tsk 0 ∷ calls_on act_tsk 1 ∷ calls ext_tsk ∷ calls_on can_act 0 ∷ calls ext_tsk ∷ tells_who_runs ∷ [])
    ≡ ok 1 ∷ ok 1 ∷ record (ends 1 1) { begun = Some 1 } ∷ count 1 1 ∷ ends 1 0 ∷ value 0 0 ∷ []
activation_kept = refl

-- a task that begins anew has its initial priority, and no wake-up
begins_afresh : history (opened_tasks (active 1 5 ∷ active 2 5 ∷ [])) (gives_priority 1 3 ∷ calls_on wup_tsk 0 ∷ calls_on act_tsk 0 ∷ calls_on get_pri 0 ∷ calls ext_tsk ∷ calls_on get_pri 1 ∷ calls_on can_wup 1 ∷ [])
    ≡ ok 1 ∷ ok 1 ∷ ok 1 ∷ value 3 1 ∷ record (ends 1 2) { begun = Some 1 } ∷ value 5 2 ∷ count 0 2 ∷ []
begins_afresh = refl

-- a preempted task keeps its place before its equals
preempted : history (opened_tasks (active 1 5 ∷ active 2 5 ∷ dormant 3 1 ∷ [])) (calls_on act_tsk 3 ∷ calls ext_tsk ∷ [])
    ≡ begins 3 3 ∷ ends 3 1 ∷ []
preempted = refl

-- a sleeping task with an activation left is terminated: its call ends, and it begins anew
terminated_sleeper : history two_by_priority (calls_on act_tsk 0 ∷ sleeps Fevr ∷ calls_on ter_tsk 1 ∷ calls_on can_act 0 ∷ [])
    ≡ ok 1 ∷ waits 2 ∷ record (ok 1) { freed = Some 1; gone = Some 1; begun = Some 1 } ∷ count 0 1 ∷ []
terminated_sleeper = refl

-- ---- order

-- the running task is given the priority that it has: it is the last of its equals
own_priority : history three_equals (gives_priority 0 5 ∷ gives_priority 1 0 ∷ calls ext_tsk ∷ calls ext_tsk ∷ [])
    ≡ ok 2 ∷ ok 2 ∷ ends 2 3 ∷ ends 3 1 ∷ []
own_priority = refl

-- a task that is suspended when its priority changes has no new place before it is resumed
priority_of_a_suspended : history two_by_priority (calls_on sus_tsk 2 ∷ gives_priority 2 1 ∷ calls_on rsm_tsk 2 ∷ gives_priority 0 1 ∷ [])
    ≡ ok 1 ∷ ok 1 ∷ ok 1 ∷ ok 2 ∷ []
priority_of_a_suspended = refl

-- the caller's equals take turns
rotated : history three_equals (rotates 0 ∷ rotates 0 ∷ rotates 5 ∷ rotates 4 ∷ []) ≡ ok 2 ∷ ok 3 ∷ ok 1 ∷ ok 1 ∷ []
rotated = refl

-- ---- sleeping and waiting

-- a wake-up is kept, and taken by the next sleep; a poll that isn't met changes nothing
wakeup_kept : history (opened_tasks (active 1 5 ∷ [])) (calls_on wup_tsk 0 ∷ sleeps Pol ∷ sleeps Pol ∷ calls_on wup_tsk 1 ∷ calls_on wup_tsk 1 ∷ calls_on can_wup 0 ∷ calls_on can_wup 0 ∷ [])
    ≡ ok 1 ∷ ok 1 ∷ waits 1 ∷ ok 1 ∷ ok 1 ∷ count 2 1 ∷ count 0 1 ∷ []
wakeup_kept = refl

-- the wake-up of a sleeper is used up with the end of its wait
sleeper_woken : history two_by_priority (sleeps Fevr ∷ calls_on wup_tsk 1 ∷ is_woken 1 ∷ calls_on can_wup 0 ∷ [])
    ≡ waits 2 ∷ frees 1 2 ∷ ok 1 ∷ count 0 1 ∷ []
sleeper_woken = refl

-- a released task is the last of its equals
released : history three_equals (delays ∷ calls_on rel_wai 1 ∷ calls ext_tsk ∷ calls ext_tsk ∷ [])
    ≡ waits 2 ∷ frees 1 2 ∷ ends 2 3 ∷ ends 3 1 ∷ []
released = refl

-- ---- suspension

-- a wait that ends under a suspension: the task runs only after it was resumed
suspended_sleeper : history two_by_priority (sleeps Fevr ∷ calls_on sus_tsk 1 ∷ calls_on wup_tsk 1 ∷ is_woken 1 ∷ calls_on rsm_tsk 1 ∷ [])
    ≡ waits 2 ∷ ok 2 ∷ frees 1 2 ∷ ok 2 ∷ ok 1 ∷ []
suspended_sleeper = refl

-- and one that is resumed while it waits runs only after its wait
resumed_sleeper : history two_by_priority (sleeps Fevr ∷ calls_on sus_tsk 1 ∷ calls_on rsm_tsk 1 ∷ calls_on wup_tsk 1 ∷ is_woken 1 ∷ [])
    ≡ waits 2 ∷ ok 2 ∷ ok 2 ∷ frees 1 2 ∷ ok 1 ∷ []
resumed_sleeper = refl

-- a resumed task is the last in order
resumed_last : history three_equals (calls_on sus_tsk 2 ∷ calls_on rsm_tsk 2 ∷ calls ext_tsk ∷ calls ext_tsk ∷ [])
    ≡ ok 1 ∷ ok 1 ∷ ends 1 3 ∷ ends 3 2 ∷ []
resumed_last = refl

-- suspensions are counted; a forced resume leaves none
suspended_twice : history two_by_priority (calls_on sus_tsk 0 ∷ calls_on sus_tsk 1 ∷ calls_on rsm_tsk 1 ∷ calls_on sus_tsk 1 ∷ calls_on frsm_tsk 1 ∷ [])
    ≡ ok 2 ∷ ok 2 ∷ ok 2 ∷ ok 2 ∷ ok 1 ∷ []
suspended_twice = refl

-- ---- refusals

abbrev codes : List TaskDone → List Er
codes [] = []
codes (o ∷ os) = o.did.code ∷ codes os

abbrev one : Ctx
one = contexts.Task (the_task 1)

-- tasks 1 and 2 are active, and 3 isn't
abbrev some_tasks : PlainTasks
some_tasks = opened_tasks (active 1 5 ∷ active 2 5 ∷ dormant 3 5 ∷ [])

-- all counts of task 2 are at their end
abbrev full : TaskBlock → TaskBlock
full t = record t { activations = 255; wakeups = 255; suspensions = 255 }

abbrev full_tasks : PlainTasks
full_tasks = with_task some_tasks (the_task 2) full

-- ids: 0 in a handler, one above the greatest, and one that isn't declared
wrong_ids : codes (act_tsk some_tasks Handler (the_task 0) ∷ can_act some_tasks one (the_task 17) ∷ rsm_tsk some_tasks one (the_task 4) ∷ []) ≡ E_ID ∷ E_ID ∷ E_NOEXS ∷ []
wrong_ids = refl

ids_before_all : codes
    (act_tsk some_tasks one (the_task 17) ∷ can_act some_tasks one (the_task 4) ∷ ter_tsk some_tasks one (the_task 17) ∷ chg_pri some_tasks one (the_task 17) 17 ∷ get_pri some_tasks one (the_task 4) ∷ wup_tsk some_tasks one (the_task 17)
    ∷ can_wup some_tasks one (the_task 4) ∷ rel_wai some_tasks one (the_task 17) ∷ sus_tsk some_tasks one (the_task 4) ∷ rsm_tsk some_tasks one (the_task 17) ∷ frsm_tsk some_tasks one (the_task 4) ∷ [])
    ≡ E_ID ∷ E_NOEXS ∷ E_ID ∷ E_ID ∷ E_NOEXS ∷ E_ID ∷ E_NOEXS ∷ E_ID ∷ E_NOEXS ∷ E_ID ∷ E_NOEXS ∷ []
ids_before_all = refl

overflows : codes (act_tsk full_tasks one (the_task 2) ∷ wup_tsk full_tasks one (the_task 2) ∷ sus_tsk full_tasks one (the_task 2) ∷ []) ≡ E_QOVR ∷ E_QOVR ∷ E_QOVR ∷ []
overflows = refl

terminations_refused : codes (ter_tsk some_tasks one (the_task 0) ∷ ter_tsk some_tasks one (the_task 1) ∷ ter_tsk some_tasks one (the_task 3) ∷ []) ≡ E_ILUSE ∷ E_ILUSE ∷ E_OBJ ∷ []
terminations_refused = refl

-- a wrong priority is told before a dormant task
parameters_refused : codes (chg_pri some_tasks one (the_task 3) 17 ∷ chg_pri some_tasks one (the_task 3) 16 ∷ rot_rdq some_tasks one 17 ∷ rot_rdq some_tasks Handler 0 ∷ tslp_tsk some_tasks one Nblk ∷ [])
    ≡ E_PAR ∷ E_OBJ ∷ E_PAR ∷ E_PAR ∷ E_PAR ∷ []
parameters_refused = refl

dormant_refused : codes (get_pri some_tasks one (the_task 3) ∷ wup_tsk some_tasks one (the_task 3) ∷ can_wup some_tasks one (the_task 3) ∷ rel_wai some_tasks one (the_task 3) ∷ sus_tsk some_tasks one (the_task 3) ∷ rsm_tsk some_tasks one (the_task 3) ∷ frsm_tsk some_tasks one (the_task 3) ∷ [])
    ≡ E_OBJ ∷ E_OBJ ∷ E_OBJ ∷ E_OBJ ∷ E_OBJ ∷ E_OBJ ∷ E_OBJ ∷ []
dormant_refused = refl

-- nobody waits, and nobody is suspended
nothing_to_end : codes (rel_wai some_tasks one (the_task 2) ∷ rel_wai some_tasks one (the_task 0) ∷ rsm_tsk some_tasks one (the_task 2) ∷ frsm_tsk some_tasks one (the_task 0) ∷ []) ≡ E_OBJ ∷ E_OBJ ∷ E_OBJ ∷ E_OBJ ∷ []
nothing_to_end = refl
