-- Ranks as numbers, beside the places in the lists of the plain kernel; they are this project's own. The kernel draws a number for each call
-- that waits, and another where the call is put last. Here a task draws one when it becomes runnable, and when it is put last in order.
use Rattle.std.specs.Prelude.{◌≡◌, ◌≢◌, ℕ, ◌<◌, ◌≤◌, zero, suc, ◌+◌, Bool, ◌||◌, ◌==◌, nat_lt, List, [], ◌∷◌, Option, Some, None, if◌then◌else◌}
use mathlib.Core.Logic.{◌⊎◌}
use Rattle.it_types.specs.declared.id.TaskId.{TaskId}
use Rattle.it_types.specs.declared.id.CallNo.{CallNo}
use Rattle.it_types.specs.declared.conf.KConf.{KConf}
use Rattle.it_types.specs.declared.timeout.Tmo.{Tmo}
use Rattle.it_types.specs.declared.context.Ctx.{Ctx}
use Rattle.it_types.specs.declared.kernel_request.KReq.{KReq}
use Rattle.spec_lists.specs.Tables.{get}
use Rattle.spec_lists.specs.First.{take_first}
use Rattle.spec_kernel.specs.declared.reason.WaitingCall.{WaitingCall}
use Rattle.spec_kernel.specs.declared.task_block.TaskBlock.{TaskBlock}
use Rattle.spec_kernel.specs.TaskBlocks.{priority_of, is_suspended}
use Rattle.spec_kernel.specs.PlainTasks.{is_waiting, running}
use Rattle.spec_kernel.specs.PlainKernel.{PlainKernel, tasks_of}
use Rattle.spec_kernel.specs.Settle.{Outcome}
use Rattle.spec_kernel.specs.Rows.{call, ticked, tick}
use Rattle.spec_kernel.specs.Time.{due, blocked, unblocked}
use Rattle.spec_kernel.specs.Opening.{opened}
use Rattle.laws_kernel.specs.Calling.{Calls}
use Rattle.laws_kernel.specs.Acting.{Act, Blocks}
use Rattle.laws_kernel.specs.Acting.Act.{stays, wakes, lies_down, begins, suspends, resumes, goes_last, waits_last}
use Rattle.laws_kernel.specs.Rising.{Rises}

pub record Ranks : Type 0 where
  pub task : ℕ → ℕ  -- by id
  pub next : ℕ  -- the next that a task draws

-- ---- who draws

abbrev pub drawn : TaskId → Ranks → Ranks
drawn t r = record { task = λ id. if id == t.0 then r.next else r.task id; next = r.next + 1 }

abbrev pub drawn_unless : Bool → TaskId → Ranks → Ranks
drawn_unless stays_out t r = if stays_out then r else drawn t r

abbrev pub drawn_by : Option (TaskId × List TaskId) → Ranks → Ranks
drawn_by None r = r
drawn_by (Some found) r = drawn found.0 r

-- the task that an act makes runnable, or the last in order
abbrev pub draws : (k l : PlainKernel) → Act k l → Ranks → Ranks
draws k l (stays same runnable waits next last now) r = r
draws k l (wakes test found e is) r = drawn_unless (is_suspended (get k.tasks found.0.task.0)) found.0.task r
draws k l (lies_down t is) r = r
draws k l (begins t x e inactive is) r = drawn t r
draws k l (suspends t is) r = r
draws k l (resumes t left active suspended is) r = drawn_unless (nat_lt 0 left || is_waiting (tasks_of k) t) t r
draws k l (goes_last test is) r = drawn_by (take_first test k.runnable) r
draws k l (waits_last test is) r = r

abbrev pub all_drawn : List TaskId → Ranks → Ranks
all_drawn [] r = r
all_drawn (t ∷ ts) r = all_drawn ts (drawn t r)

-- at the opening the tasks draw that are active from the start, in the order of their declarations
abbrev pub opened_ranks : KConf → Ranks
opened_ranks conf = all_drawn (opened conf).runnable (record { task = λ id. 0; next = 0 })

-- ---- acts, one after another

pub data OneAct (k : PlainKernel) (r : Ranks) (l : PlainKernel) (s : Ranks) : Type 0 where
  acts : (a : Act k l) → s ≡ draws k l a r → OneAct k r l s
  blocks : (number : CallNo) → Blocks number k l → s ≡ r → OneAct k r l s
  ticks : l ≡ ticked k → s ≡ r → OneAct k r l s

-- so many acts lead from a kernel with its ranks to another
abbrev pub InActs : ℕ → PlainKernel → Ranks → PlainKernel → Ranks → Type 0
InActs zero k r l s = (l ≡ k) × (s ≡ r)
InActs (suc n) k r l s = (m : PlainKernel) × ((q : Ranks) × (InActs n k r m q × OneAct m q l s))

pub record LeadsTo (k : PlainKernel) (r : Ranks) (l : PlainKernel) : Type 0 where
  pub acts : ℕ
  pub ranks : Ranks
  pub happen : InActs acts k r l ranks

-- ---- the operations of the kernel

pub data Operation : Type 0 where
  Call : Ctx → KReq → CallNo → Operation
  Tick : Operation
  Due : Operation
  Block : TaskId → Tmo → CallNo → Operation
  Unblock : TaskId → Operation

abbrev pub kernel_after : PlainKernel → Option Outcome → PlainKernel
kernel_after k None = k
kernel_after k (Some o) = o.kernel

abbrev pub after : PlainKernel → Operation → PlainKernel
after k (Call ctx request number) = (call k ctx request number).kernel
after k Tick = (tick k).kernel
after k Due = kernel_after k (due k)
after k (Block task tmo number) = blocked k task tmo number
after k (Unblock task) = (unblocked k task).0

-- who calls is a handler or the running task, and who is blocked is the running task
abbrev pub IsAllowed : PlainKernel → Operation → Type 0
IsAllowed k (Call ctx request number) = Calls k ctx
IsAllowed k Tick = Unit {0}
IsAllowed k Due = Unit {0}
IsAllowed k (Block task tmo number) = (task.0 ≢ 0) × (running (tasks_of k) ≡ task)
IsAllowed k (Unblock task) = Unit {0}

-- ---- places are ranks

abbrev pub task_rank : Ranks → TaskId → ℕ
task_rank r t = r.task t.0

abbrev pub call_rank : WaitingCall → ℕ
call_rank w = w.rank

-- the numbers rise along both lists
pub record IsOrdered (k : PlainKernel) (r : Ranks) : Type 0 where
  pub tasks : Rises (task_rank r) k.runnable
  pub calls : Rises call_rank k.waits

-- a task comes before another or is the same: it is more urgent, or as urgent and of no greater rank
abbrev pub ComesFirst : List (Option TaskBlock) → Ranks → TaskId → TaskId → Type 0
ComesFirst tasks r t u =
    (priority_of (get tasks t.0) < priority_of (get tasks u.0)) ⊎ ((priority_of (get tasks t.0) ≡ priority_of (get tasks u.0)) × (task_rank r t ≤ task_rank r u))

-- before all of these
abbrev pub ComesFirstOf : List (Option TaskBlock) → Ranks → TaskId → List TaskId → Type 0
ComesFirstOf tasks r t [] = Unit {0}
ComesFirstOf tasks r t (u ∷ us) = ComesFirst tasks r t u × ComesFirstOf tasks r t us

-- before and after each operation: it is done in acts, and in whatever acts it is done
abbrev pub OrderedAlong : PlainKernel → Ranks → List Operation → Type 0
OrderedAlong k r [] = IsOrdered k r
OrderedAlong k r (o ∷ os) = IsOrdered k r × (IsAllowed k o → LeadsTo k r (after k o) × ((n : ℕ) (s : Ranks) → InActs n k r (after k o) s → OrderedAlong (after k o) s os))
