-- The ends of waiting calls as the parts of the kernel make them.
use Rattle.std.specs.Prelude.{ℕ, zero, suc, Bool, true, false, ◌==◌, List, [], ◌∷◌, Option, Some, None, if◌then◌else◌}
use Rattle.it_types.specs.declared.id.TaskId.{TaskId}
use Rattle.it_types.specs.declared.er.Er.{Er}
use Rattle.it_types.specs.declared.er.TheConstants.{E_OK}
use Rattle.spec_lists.specs.First.{take_first}
use Rattle.spec_kernel.specs.declared.outcome.KEnd.{KEnd}
use Rattle.spec_kernel.specs.declared.reason.WaitReason.{WaitReason}
use Rattle.spec_kernel.specs.declared.reason.WaitReason.TheVariants as reasons
use Rattle.spec_kernel.specs.declared.reason.WaitingCall.{WaitingCall}
use Rattle.spec_kernel.specs.PlainTasks.{is_woken, woken}
use Rattle.spec_kernel.specs.PlainSemaphores.{PlainSemaphores, next_ready as next_at_semaphores, freed as freed_semaphores}
use Rattle.spec_kernel.specs.PlainFlags.{PlainFlags, next_ready as next_at_flags, freed as freed_flags}
use Rattle.spec_kernel.specs.PlainQueues.{PlainQueues, next_ready as next_at_queues, freed as freed_queues}
use Rattle.spec_kernel.specs.Settle.{ending}
use Rattle.spec_kernel.specs.Parts.{PlainParts}

-- ---- whose wait ends next

-- what the part says where this call waits: the task whose wait ends next there, with its code and bytes
abbrev pub next_at : PlainParts → WaitReason → Option (TaskId × Er × List ℕ)
next_at p (reasons.Semaphore s) = next_at_semaphores p.sems
next_at p (reasons.Flag w) = next_at_flags p.flags
next_at p (reasons.Send q item) = next_at_queues p.dtqs
next_at p (reasons.Receive q) = next_at_queues p.dtqs
next_at p _ = None

-- it waits at an object of the kernel
abbrev pub is_for_an_object : WaitReason → Bool
is_for_an_object (reasons.Semaphore s) = true
is_for_an_object (reasons.Flag w) = true
is_for_an_object (reasons.Send q item) = true
is_for_an_object (reasons.Receive q) = true
is_for_an_object _ = false

-- it names this task
abbrev pub names : TaskId → Option (TaskId × Er × List ℕ) → Bool
names t None = false
names t (Some next) = next.0.0 == t.0

abbrev pub is_sleep : WaitReason → Bool
is_sleep reasons.Sleep = true
is_sleep _ = false

abbrev pub is_named : PlainParts → WaitingCall → Bool
is_named p w = if is_sleep w.reason then is_woken p.tasks w.task else names w.task (next_at p w.reason)

-- the call that ends next, and the others
abbrev pub next_call : PlainParts → Option (WaitingCall × List WaitingCall)
next_call p = take_first (is_named p) p.waits

-- ---- its end

abbrev pub bytes_told : Option (TaskId × Er × List ℕ) → List ℕ
bytes_told None = []
bytes_told (Some next) = next.2

abbrev pub end_told : PlainParts → WaitingCall → KEnd
end_told p w = ending w E_OK (bytes_told (next_at p w.reason))

-- the part lets go of its task
abbrev pub semaphores_let_go : WaitReason → PlainSemaphores → PlainSemaphores
semaphores_let_go (reasons.Semaphore s) d = freed_semaphores d
semaphores_let_go _ d = d

abbrev pub flags_let_go : WaitReason → PlainFlags → PlainFlags
flags_let_go (reasons.Flag w) d = freed_flags d
flags_let_go _ d = d

abbrev pub queues_let_go : WaitReason → PlainQueues → PlainQueues
queues_let_go (reasons.Send q item) d = freed_queues d
queues_let_go (reasons.Receive q) d = freed_queues d
queues_let_go _ d = d

abbrev pub let_go : PlainParts → WaitReason → PlainParts
let_go p reason = record p { sems = semaphores_let_go reason p.sems; flags = flags_let_go reason p.flags; dtqs = queues_let_go reason p.dtqs }

-- the call waits no longer: its task is runnable, unless it is suspended
abbrev pub freed_from : PlainParts → WaitingCall → PlainParts
freed_from p w = record (let_go p w.reason) { tasks = woken p.tasks w.task }

abbrev pub freed_call : PlainParts → WaitingCall → List WaitingCall → PlainParts
freed_call p w others = freed_from (record p { waits = others }) w

abbrev pub turn : (PlainParts → PlainParts × List KEnd) → PlainParts → Option (WaitingCall × List WaitingCall) → PlainParts × List KEnd
turn go_on p None = (p, [])
turn go_on p (Some found) = let rest = go_on (freed_call p found.0 found.1) in (rest.0, end_told p found.0 ∷ rest.1)

-- while a call is named, it ends: as many times as there are calls, at most
unfoldable pub settle : ℕ → PlainParts → PlainParts × List KEnd
settle zero p = (p, [])
settle (suc n) p = turn (settle n) p (next_call p)
