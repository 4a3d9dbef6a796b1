-- Ends by time, and waits for calls of the network part, as the parts of the kernel make them.
use Rattle.std.specs.Prelude.{ℕ, Bool, true, ◌&&◌, List, Option, Some, None, nat_lt}
use Rattle.it_types.specs.declared.id.CallNo.{CallNo}
use Rattle.spec_kernel.specs.declared.reason.WaitingCall.{WaitingCall}
use Rattle.spec_kernel.specs.PlainTasks.{woken}
use Rattle.spec_kernel.specs.Time.{is_past}
use Rattle.spec_kernel.specs.Parts.{PlainParts}
use Rattle.k_core.specs.PartsRows.{left_by}

-- the number is below that of the call at the place that was found, if any
abbrev pub is_lower : ℕ → Option (ℕ × CallNo) → Bool
is_lower number None = true
is_lower number (Some found) = nat_lt number found.1.0

-- the call's deadline is past, and its number is lower than the one found
abbrev pub is_sooner : ℕ → Option (ℕ × CallNo) → WaitingCall → Bool
is_sooner now found w = is_past now w && is_lower w.call.0 found

-- a call that was taken out is over: its task is runnable, unless it is suspended
abbrev pub ended_from : PlainParts → WaitingCall → PlainParts
ended_from p w = record (left_by p w.task) { tasks = woken p.tasks w.task }

abbrev pub ended_call : PlainParts → WaitingCall → List WaitingCall → PlainParts
ended_call p w others = ended_from (record p { waits = others }) w
