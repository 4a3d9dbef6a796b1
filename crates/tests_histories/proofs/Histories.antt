-- Worked histories of the whole kernel, checked by computation.
use Rattle.std.proofs.Common.{◌≡◌, ℕ, zero, suc, ◌+◌, true, false, List, [], ◌∷◌, Option, Some, None, refl}
use Rattle.std.specs.Prelude.{ℤ, pos, negsuc}
use Rattle.it_types.specs.declared.id.TaskId.{TaskId}
use Rattle.it_types.specs.declared.id.ObjId.{ObjId}
use Rattle.it_types.specs.declared.conf.TaskDecl.{TaskDecl}
use Rattle.it_types.specs.declared.conf.SemDecl.{SemDecl}
use Rattle.it_types.specs.declared.conf.FlgDecl.{FlgDecl}
use Rattle.it_types.specs.declared.conf.DtqDecl.{DtqDecl}
use Rattle.it_types.specs.declared.context.Ctx.TheVariants as contexts
use Rattle.it_types.specs.declared.timeout.Tmo.TheVariants.{Pol, Fevr, Ms}
use Rattle.it_types.specs.declared.kernel_request.KReq.{KReq}
use Rattle.it_types.specs.declared.kernel_request.KReq.TheVariants.{ActTsk, ExtTsk, TerTsk, ChgPri, TslpTsk, WupTsk, CanWup, RelWai, SusTsk, RsmTsk, DlyTsk, GetTid, SigSem, TwaiSem, SetFlg, TwaiFlg, TsndDtq, FsndDtq, TrcvDtq, GetTim}
use Rattle.spec_kernel.specs.declared.outcome.KAns.{KAns}
use Rattle.spec_kernel.specs.declared.outcome.KAns.TheVariants.{Now, Pends, Quiet}
use Rattle.spec_kernel.specs.declared.outcome.KEnd.{KEnd}
use Rattle.spec_kernel.specs.PlainKernel.{PlainKernel, tasks_of}
use Rattle.spec_kernel.specs.PlainTasks.{running}
use Rattle.spec_kernel.specs.Settle.{Outcome, settle, settled}
use Rattle.spec_kernel.specs.Opening.{opened}
use Rattle.spec_kernel.specs.Rows.{call, tick}
use Rattle.spec_kernel.specs.Time.{due, blocked}

-- what is told of an event: the answer, the ends, the tasks that ended and began, and which task runs then
record Told : Type 0 where
  answer : KAns
  ends : List (ℕ × ℤ × List ℕ)
  gone : ℕ
  begun : ℕ
  runs : ℕ

abbrev told_end : KEnd → ℕ × ℤ × List ℕ
told_end e = (e.call.0, e.code.0, e.bytes)

abbrev told_ends : List KEnd → List (ℕ × ℤ × List ℕ)
told_ends [] = []
told_ends (e ∷ es) = told_end e ∷ told_ends es

-- a call of the task that runs
abbrev step : PlainKernel → KReq → Outcome
step k request = call k (contexts.Task (running (tasks_of k))) request (record { 0 = k.last_call + 1 })

abbrev tell : Outcome → Told
tell o = record { answer = o.answer; ends = told_ends o.ends; gone = o.gone.0; begun = o.begun.0; runs = (running (tasks_of o.kernel)).0 }

abbrev history : PlainKernel → List KReq → List Told
history k [] = []
history k (r ∷ rs) = let o = step k r in tell o ∷ history o.kernel rs

-- the answers
abbrev ok : KAns
ok = Now (record { 0 = pos 0 }) []

abbrev code : ℕ → KAns
code n = Now (record { 0 = negsuc n }) []

abbrev bytes : List ℕ → KAns
bytes b = Now (record { 0 = pos 0 }) b

abbrev plain : KAns → List (ℕ × ℤ × List ℕ) → ℕ → Told
plain a es r = record { answer = a; ends = es; gone = 0; begun = 0; runs = r }

abbrev exit_of : ℕ → ℕ → Told
exit_of t r = record { answer = Quiet; ends = []; gone = t; begun = 0; runs = r }

abbrev object : ℕ → ObjId
object n = record { 0 = n }

abbrev the_task : ℕ → TaskId
the_task n = record { 0 = n }

abbrev task : ℕ → ℕ → TaskDecl
task id p = record { id = id; pri = p; act = true }

abbrev dormant_task : ℕ → ℕ → TaskDecl
dormant_task id p = record { id = id; pri = p; act = false }

abbrev kernel : List TaskDecl → List SemDecl → List FlgDecl → List DtqDecl → PlainKernel
kernel ts ss fs qs = opened (record { tasks = record { tasks = ts }; sync = record { sems = ss; flags = fs; dtqs = qs }; cycs = record { cycs = [] } })

-- a waiting task of higher priority goes first in a queue by priority, also where it got that priority while it waited
by_priority : history (kernel (task 1 5 ∷ task 2 6 ∷ task 3 7 ∷ []) (record { id = 1; pri = true; init = 0; max = 1 } ∷ []) [] [])
    (TwaiSem (object 1) Fevr ∷ TwaiSem (object 1) Fevr ∷ ChgPri (the_task 2) 4 ∷ SigSem (object 1) ∷ [])
    ≡ plain Pends [] 2 ∷ plain Pends [] 3 ∷ plain ok [] 3 ∷ plain ok ((2, pos 0, []) ∷ []) 2 ∷ []
unfolding call settled settle
by_priority = refl

-- two tasks wait at a flag for different patterns
two_at_a_flag : history (kernel (task 1 1 ∷ task 2 2 ∷ task 3 3 ∷ []) [] (record { id = 1; pri = false; many = true; clr = false; init = 0 } ∷ []) [])
    (TwaiFlg (object 1) 1 false Fevr ∷ TwaiFlg (object 1) 3 true Fevr ∷ SetFlg (object 1) 1 ∷ ExtTsk ∷ SetFlg (object 1) 3 ∷ [])
    ≡ plain Pends [] 2 ∷ plain Pends [] 3 ∷ plain ok ((1, pos 0, 0 ∷ 0 ∷ 0 ∷ 1 ∷ []) ∷ []) 1 ∷ exit_of 1 3 ∷ plain ok ((2, pos 0, 0 ∷ 0 ∷ 0 ∷ 3 ∷ []) ∷ []) 2 ∷ []
unfolding call settled settle
two_at_a_flag = refl

-- one set ends both waits
both_at_once : history (kernel (task 1 1 ∷ task 2 2 ∷ task 3 3 ∷ []) [] (record { id = 1; pri = false; many = true; clr = false; init = 0 } ∷ []) [])
    (TwaiFlg (object 1) 1 false Fevr ∷ TwaiFlg (object 1) 3 true Fevr ∷ SetFlg (object 1) 3 ∷ [])
    ≡ plain Pends [] 2 ∷ plain Pends [] 3 ∷ plain ok ((1, pos 0, 0 ∷ 0 ∷ 0 ∷ 3 ∷ []) ∷ (2, pos 0, 0 ∷ 0 ∷ 0 ∷ 3 ∷ []) ∷ []) 1 ∷ []
unfolding call settled settle
both_at_once = refl

-- with clr the first end clears the pattern before the next is looked at
first_clears : history (kernel (task 1 1 ∷ task 2 2 ∷ task 3 3 ∷ []) [] (record { id = 1; pri = false; many = true; clr = true; init = 0 } ∷ []) [])
    (TwaiFlg (object 1) 1 false Fevr ∷ TwaiFlg (object 1) 3 true Fevr ∷ SetFlg (object 1) 3 ∷ [])
    ≡ plain Pends [] 2 ∷ plain Pends [] 3 ∷ plain ok ((1, pos 0, 0 ∷ 0 ∷ 0 ∷ 3 ∷ []) ∷ []) 1 ∷ []
unfolding call settled settle
first_clears = refl

-- a queue without capacity hands an item over
handed_over : history (kernel (task 1 1 ∷ task 2 2 ∷ []) [] [] (record { id = 1; pri = false; cap = 0 } ∷ []))
    (TrcvDtq (object 1) Fevr ∷ TsndDtq (object 1) 7 Fevr ∷ ExtTsk ∷ FsndDtq (object 1) 9 ∷ TsndDtq (object 1) 5 Pol ∷ [])
    ≡ plain Pends [] 2 ∷ plain ok ((1, pos 0, 0 ∷ 0 ∷ 0 ∷ 7 ∷ []) ∷ []) 1 ∷ exit_of 1 2 ∷ plain (code 27) [] 2 ∷ plain (code 49) [] 2 ∷ []
unfolding call settled settle
handed_over = refl

-- and the other way round: the sender waits, and the receiver gets its item
taken_over : history (kernel (task 1 1 ∷ task 2 2 ∷ []) [] [] (record { id = 1; pri = false; cap = 0 } ∷ []))
    (TsndDtq (object 1) 7 Fevr ∷ TrcvDtq (object 1) Fevr ∷ [])
    ≡ plain Pends [] 2 ∷ plain (bytes (0 ∷ 0 ∷ 0 ∷ 7 ∷ [])) ((1, pos 0, []) ∷ []) 1 ∷ []
unfolding call settled settle
taken_over = refl

-- a forced item drops the oldest of a full queue
oldest_dropped : history (kernel (task 1 1 ∷ []) [] [] (record { id = 1; pri = false; cap = 2 } ∷ []))
    (FsndDtq (object 1) 1 ∷ FsndDtq (object 1) 2 ∷ FsndDtq (object 1) 3 ∷ TrcvDtq (object 1) Pol ∷ [])
    ≡ plain ok [] 1 ∷ plain ok [] 1 ∷ plain ok [] 1 ∷ plain (bytes (0 ∷ 0 ∷ 0 ∷ 2 ∷ [])) [] 1 ∷ []
unfolding call settled settle
oldest_dropped = refl

-- a sender that waits joins the queue when an item leaves it
sender_joins : history (kernel (task 1 1 ∷ task 2 2 ∷ []) [] [] (record { id = 1; pri = true; cap = 1 } ∷ []))
    (TsndDtq (object 1) 1 Fevr ∷ TsndDtq (object 1) 2 Fevr ∷ TrcvDtq (object 1) Fevr ∷ TrcvDtq (object 1) Fevr ∷ [])
    ≡ plain ok [] 1 ∷ plain Pends [] 2 ∷ plain (bytes (0 ∷ 0 ∷ 0 ∷ 1 ∷ [])) ((1, pos 0, []) ∷ []) 1 ∷ plain (bytes (0 ∷ 0 ∷ 0 ∷ 2 ∷ [])) [] 1 ∷ []
unfolding call settled settle
sender_joins = refl

-- a wait that ends while its task is suspended: the task runs only after it was resumed
suspended_waiter : history (kernel (task 1 1 ∷ task 2 2 ∷ []) (record { id = 1; pri = false; init = 0; max = 1 } ∷ []) [] [])
    (TwaiSem (object 1) Fevr ∷ SusTsk (the_task 1) ∷ SigSem (object 1) ∷ RsmTsk (the_task 1) ∷ [])
    ≡ plain Pends [] 2 ∷ plain ok [] 2 ∷ plain ok ((1, pos 0, []) ∷ []) 2 ∷ plain ok [] 1 ∷ []
unfolding call settled settle
suspended_waiter = refl

-- a task that is terminated while it waits, with an activation kept: its call ends, and it begins anew
terminated_waiter : history (kernel (task 1 1 ∷ task 2 2 ∷ []) (record { id = 1; pri = false; init = 0; max = 1 } ∷ []) [] [])
    (TwaiSem (object 1) Fevr ∷ ActTsk (the_task 1) ∷ TerTsk (the_task 1) ∷ TerTsk (the_task 2) ∷ [])
    ≡ plain Pends [] 2 ∷ plain ok [] 2 ∷ record { answer = ok; ends = (1, negsuc 48, []) ∷ []; gone = 1; begun = 1; runs = 1 } ∷ record { answer = ok; ends = []; gone = 2; begun = 0; runs = 1 } ∷ []
unfolding call settled settle
terminated_waiter = refl

-- ---- what the parts have in common

-- a sleeper is woken in the event of the wake-up, which is used up
sleeper_woken : history (kernel (task 1 1 ∷ task 2 2 ∷ []) [] [] []) (TslpTsk Fevr ∷ WupTsk (the_task 1) ∷ CanWup (the_task 0) ∷ []) ≡ plain Pends [] 2 ∷ plain ok ((1, pos 0, []) ∷ []) 1 ∷ plain ok [] 1 ∷ []
unfolding call settled settle
sleeper_woken = refl

-- a delay that is released ends with E_RLWAI, and its task is the last of its equals
released_delay : history (kernel (task 1 1 ∷ task 2 1 ∷ []) [] [] []) (DlyTsk 5 ∷ RelWai (the_task 1) ∷ ExtTsk ∷ []) ≡ plain Pends [] 2 ∷ plain ok ((1, negsuc 48, []) ∷ []) 2 ∷ exit_of 2 1 ∷ []
unfolding call settled settle
released_delay = refl

-- a poll for a wake-up that isn't there is over at once, and draws no number
poll_is_over : history (kernel (task 1 1 ∷ []) [] [] []) (TslpTsk Pol ∷ TslpTsk Fevr ∷ []) ≡ plain (code 49) [] 1 ∷ plain Pends [] 0 ∷ []
unfolding call settled settle
poll_is_over = refl

-- a handler may signal, and may not wait, also where the semaphore isn't there
abbrev handler : PlainKernel → List KReq → List KAns
handler k [] = []
handler k (r ∷ rs) = let o = call k contexts.Handler r (record { 0 = k.last_call + 1 }) in o.answer ∷ handler o.kernel rs

in_a_handler : handler (kernel (task 1 1 ∷ []) (record { id = 1; pri = false; init = 0; max = 1 } ∷ []) [] (record { id = 1; pri = false; cap = 1 } ∷ []))
    (SigSem (object 1) ∷ TwaiSem (object 9) Pol ∷ TsndDtq (object 1) 5 Pol ∷ TsndDtq (object 1) 5 Fevr ∷ TrcvDtq (object 1) Pol ∷ ActTsk (the_task 0) ∷ GetTid ∷ GetTim ∷ [])
    ≡ ok ∷ code 24 ∷ ok ∷ code 24 ∷ code 24 ∷ code 17 ∷ bytes (0 ∷ 0 ∷ 0 ∷ 1 ∷ []) ∷ code 24 ∷ []
unfolding call settled settle
in_a_handler = refl

-- a tick at which a delay is over, and then one that has timed out; the later call has the lower rank, and goes by its number
abbrev after_ticks : ℕ → PlainKernel → PlainKernel
after_ticks zero k = k
after_ticks (suc n) k = after_ticks n (tick k).kernel

abbrev due_ends : Option Outcome → List (ℕ × ℤ × List ℕ)
due_ends None = []
due_ends (Some o) = told_ends o.ends

abbrev both_wait : PlainKernel
both_wait = (step (step (kernel (task 1 1 ∷ task 2 2 ∷ task 3 3 ∷ []) (record { id = 1; pri = false; init = 0; max = 1 } ∷ []) [] []) (DlyTsk 1)).kernel (TwaiSem (object 1) (Ms 1))).kernel

nothing_due_yet : due_ends (due (after_ticks 1 both_wait)) ≡ []
unfolding call settled settle tick due
nothing_due_yet = refl

first_due : due_ends (due (after_ticks 2 both_wait)) ≡ (1, pos 0, []) ∷ []
unfolding call settled settle tick due
first_due = refl

abbrev after_due : Option Outcome → PlainKernel → PlainKernel
after_due None k = k
after_due (Some o) k = o.kernel

then_due : due_ends (due (after_due (due (after_ticks 2 both_wait)) both_wait)) ≡ (2, negsuc 49, []) ∷ []
unfolding call settled settle tick due
then_due = refl

-- a task that waits outside is released as any other, and its end says so
released_outside : let k = blocked (kernel (task 1 1 ∷ task 2 2 ∷ []) [] [] []) (the_task 1) Fevr (record { 0 = 1 }) in told_ends (step k (RelWai (the_task 1))).ends ≡ (1, negsuc 48, []) ∷ []
unfolding call settled settle
released_outside = refl
