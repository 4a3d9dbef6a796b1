-- No two calls that wait have the same number, of those that wait in the kernel and those of which routines are told.
use Rattle.std.proofs.Common.{◌≡◌, ℕ, zero, suc, ◌+◌, ◌≤◌, List, length, Some, ap, subst, inl, inr, arith}
use Rattle.std.specs.Prelude.{◌==◌}
use Rattle.it_types.specs.declared.id.TaskId.{TaskId}
use Rattle.it_types.specs.declared.id.CallNo.{CallNo}
use Rattle.it_types.specs.declared.context.Ctx.{Ctx}
use Rattle.it_types.specs.declared.kernel_request.KReq.{KReq}
use Rattle.it_types.specs.Callers.{caller}
use Rattle.spec_lists.specs.First.{take_first}
use Rattle.spec_lists.specs.Counting.{one_if}
use Rattle.spec_lists.proofs.Firsts.{cases_of_first}
use Rattle.spec_kernel.specs.declared.reason.WaitingCall.{WaitingCall}
use Rattle.spec_kernel.specs.PlainKernel.{PlainKernel}
use Rattle.spec_kernel.specs.Settle.{Outcome, comes_next, next_freed, freed, settle, settled}
use Rattle.spec_kernel.specs.Rows.{waiting_call, row, call, quiet, ticked, tick}
use Rattle.spec_kernel.specs.Time.{is_next_past, is_outside_of, by_time, due, unblocked}
use Rattle.laws_kernel.proofs.Timing.{due_is}
use Rattle.laws_kernel.proofs.OutsideEnds.{RowWaits, row_waits}
use Rattle.laws_kernel.proofs.OutsideEnds.RowWaits.{leaves, begins, moves, ends}
use Rattle.laws_node.specs.Agreement.{times, is_numbered}
use Rattle.laws_node.proofs.Times.{times_end, times_found}

-- ---- in the kernel

-- no number is borne by more calls than before
abbrev pub FewerNumbers : List WaitingCall → List WaitingCall → Type 0
FewerNumbers before after = (number : ℕ) → times (is_numbered number) after ≤ times (is_numbered number) before

settle_numbers : (n : ℕ) (k : PlainKernel) → FewerNumbers k.waits (settle n k).0.waits
unfolding settle
settle_numbers zero k number = omega arith
settle_numbers (suc n) k number = elim (cases_of_first (next_freed k)) [
  | inl e ↦ rw e (omega arith)
  | inr z ↦ rw z.1 (omega (arith, settle_numbers n (freed k z.0.0 z.0.1) number, times_found (is_numbered number) (comes_next k) k.waits z.0 z.1))
]

settled_numbers : (o : Outcome) → FewerNumbers o.kernel.waits (settled o).kernel.waits
unfolding settled
settled_numbers o = settle_numbers (length o.kernel.waits) o.kernel

-- a row gives its number to one call at most
row_numbers : (k : PlainKernel) (ctx : Ctx) (call : CallNo) (o : Outcome) → RowWaits k ctx call o → (number : ℕ) → times (is_numbered number) o.kernel.waits ≤ times (is_numbered number) k.waits + one_if (call.0 == number)
row_numbers k ctx call o (leaves told same) number = omega (arith, ap (times (is_numbered number)) same)
row_numbers k ctx call o (begins reason tmo inside told same) number = omega (arith, ap (times (is_numbered number)) same, times_end (is_numbered number) k.waits (waiting_call k (caller ctx) reason tmo call))
row_numbers k ctx call o (moves f z rank e told same) number = omega (arith, ap (times (is_numbered number)) same, times_end (is_numbered number) z.1 (record z.0 { rank = rank }), times_found (is_numbered number) f k.waits z e)
row_numbers k ctx call o (ends f z code bytes e told same) number = omega (arith, ap (times (is_numbered number)) same, times_found (is_numbered number) f k.waits z e)

pub call_numbers : (k : PlainKernel) (ctx : Ctx) (request : KReq) (c : CallNo) (number : ℕ) → times (is_numbered number) (call k ctx request c).kernel.waits ≤ times (is_numbered number) k.waits + one_if (c.0 == number)
unfolding call
call_numbers k ctx request c number =
    let o : Outcome = row k ctx request c in
    omega (arith, row_numbers k ctx c o (row_waits k ctx c request) number, settled_numbers o number)

pub tick_numbers : (k : PlainKernel) → FewerNumbers k.waits (tick k).kernel.waits
unfolding tick
tick_numbers k = settled_numbers (quiet (ticked k))

pub due_numbers : (k : PlainKernel) (o : Outcome) → due k ≡ Some o → FewerNumbers k.waits o.kernel.waits
due_numbers k o e =
    let x = due_is k o e in
    subst (λ (p : Outcome). FewerNumbers k.waits p.kernel.waits) x.2
    (λ number. omega (arith, settled_numbers (by_time k x.0) number, times_found (is_numbered number) (is_next_past k.clock.now k.waits) k.waits x.0 x.1))

pub unblocked_numbers : (k : PlainKernel) (task : TaskId) → FewerNumbers k.waits (unblocked k task).0.waits
unfolding unblocked
unblocked_numbers k task number = elim (cases_of_first (take_first (is_outside_of task) k.waits)) [
  | inl none ↦ rw none (omega arith)
  | inr some ↦ rw some.1 (omega (arith, times_found (is_numbered number) (is_outside_of task) k.waits some.0 some.1))
]
