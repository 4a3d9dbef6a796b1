-- How tasks and calls stand in the whole kernel: so from the opening on, and after every event.
use Rattle.std.proofs.Common.{◌≡◌, ◌≢◌, Bool, false, List, Some}
use Rattle.it_types.specs.declared.id.TaskId.{TaskId}
use Rattle.it_types.specs.declared.id.CallNo.{CallNo}
use Rattle.it_types.specs.declared.timeout.Tmo.{Tmo}
use Rattle.it_types.specs.declared.context.Ctx.{Ctx}
use Rattle.it_types.specs.declared.kernel_request.KReq.{KReq}
use Rattle.spec_lists.specs.First.{take_first}
use Rattle.spec_kernel.specs.declared.reason.WaitingCall.{WaitingCall}
use Rattle.spec_kernel.specs.PlainTasks.{running}
use Rattle.spec_kernel.specs.PlainKernel.{PlainKernel, tasks_of}
use Rattle.spec_kernel.specs.Settle.{Outcome, freed, settled}
use Rattle.spec_kernel.specs.Rows.{row, call, quiet, ticked, tick}
use Rattle.spec_kernel.specs.Time.{due, blocked, unblocked}
use Rattle.spec_kernel.specs.Standing.{IsStanding}
use Rattle.laws_kernel.specs.Calling.{Calls}
use Rattle.laws_kernel.proofs.Standing.{act_stands, block_stands}
use Rattle.laws_kernel.proofs.EachCall.{row_holds}
use Rattle.laws_kernel.proofs.RowActs.{Keeps}
use Rattle.laws_kernel.proofs.Events.{freed_holds, settled_holds, call_holds, due_holds, blocked_holds, unblocked_holds}

no_number : CallNo
no_number = record { 0 = 0 }

pub standing_kept : (number : CallNo) → Keeps number (λ b k. IsStanding k)
standing_kept number = record { act = λ b k l a s. act_stands k l a s; block = λ k l a s. block_stands number k l a s; stands = λ b k s. s }

-- after the row of a call
pub row_stands : (k : PlainKernel) (ctx : Ctx) (request : KReq) (number : CallNo) → IsStanding k → Calls k ctx → IsStanding (row k ctx request number).kernel
row_stands k ctx request number s calls = row_holds (λ b k. IsStanding k) (standing_kept number) k ctx calls s request

-- after a call that was found is met and has ended
pub freed_stands : (k : PlainKernel) (f : WaitingCall → Bool) (w : WaitingCall) (others : List WaitingCall) → take_first f k.waits ≡ Some (w, others) → IsStanding k → IsStanding (freed k w others)
freed_stands k f w others e s = freed_holds (λ b k. IsStanding k) (standing_kept no_number) false k f (w, others) e s

-- after all ends of the calls that are met
pub settled_stands : (o : Outcome) → IsStanding o.kernel → IsStanding (settled o).kernel
settled_stands o s = settled_holds (λ b k. IsStanding k) (standing_kept no_number) false o s

-- after a call
pub call_stands : (k : PlainKernel) (ctx : Ctx) (request : KReq) (number : CallNo) → IsStanding k → Calls k ctx → IsStanding (call k ctx request number).kernel
call_stands k ctx request number s calls = call_holds (λ b k. IsStanding k) (standing_kept number) k ctx request calls s

-- after a tick
pub ticked_stands : (k : PlainKernel) → IsStanding k → IsStanding (ticked k)
ticked_stands k s = record { places = s.places; nobody = s.nobody; runnable = s.runnable; once = s.once; active = s.active; ranks = s.ranks }

pub tick_stands : (k : PlainKernel) → IsStanding k → IsStanding (tick k).kernel
unfolding tick
tick_stands k s = settled_stands (quiet (ticked k)) (ticked_stands k s)

-- after an end by time
pub due_stands : (k : PlainKernel) (o : Outcome) → due k ≡ Some o → IsStanding k → IsStanding o.kernel
due_stands k o e s = due_holds (λ b k. IsStanding k) (standing_kept no_number) false k o e s

-- after the running task began to wait outside
pub blocked_stands : (k : PlainKernel) (task : TaskId) (tmo : Tmo) (number : CallNo) → task.0 ≢ 0 → running (tasks_of k) ≡ task → IsStanding k → IsStanding (blocked k task tmo number)
blocked_stands k task tmo number some runs s = blocked_holds (λ b k. IsStanding k) (standing_kept number) k task tmo some runs s

-- after it was woken
pub unblocked_stands : (k : PlainKernel) (task : TaskId) → IsStanding k → IsStanding (unblocked k task).0
unblocked_stands k task s = unblocked_holds (λ b k. IsStanding k) (standing_kept no_number) false k task s
