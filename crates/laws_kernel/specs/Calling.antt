-- Who calls the kernel (µITRON4.0 section 3.5, task and non-task contexts), and the numbers of the calls that wait.
use Rattle.std.specs.Prelude.{◌≡◌, ◌≢◌, ℕ, ◌≤◌, List, [], ◌∷◌}
use Rattle.it_types.specs.declared.id.TaskId.{TaskId}
use Rattle.it_types.specs.declared.context.Ctx.{Ctx}
use Rattle.it_types.specs.declared.context.Ctx.TheVariants as contexts
use Rattle.spec_kernel.specs.declared.reason.WaitingCall.{WaitingCall}
use Rattle.spec_kernel.specs.PlainTasks.{running}
use Rattle.spec_kernel.specs.PlainKernel.{PlainKernel, tasks_of}

-- a handler, or the running task
abbrev pub Calls : PlainKernel → Ctx → Type 0
Calls k ctx = (t : TaskId) → ctx ≡ contexts.Task t → (t.0 ≢ 0) × (running (tasks_of k) ≡ t)

-- each number is at most this one
abbrev pub AllAtMost : ℕ → List WaitingCall → Type 0
AllAtMost number [] = Unit {0}
AllAtMost number (w ∷ ws) = (w.call.0 ≤ number) × AllAtMost number ws

-- no call waits under a number above the last one
abbrev pub AreNumbered : PlainKernel → Type 0
AreNumbered k = AllAtMost k.last_call k.waits
