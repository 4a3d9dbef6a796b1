-- What ends by time in the whole kernel: where nothing is due no deadline is past; a wait outside leaves none past; and each end by time
-- leaves fewer calls.
use Rattle.std.proofs.Common.{◌≡◌, ℕ, zero, suc, ◌+◌, ◌≤◌, false, List, [], ◌∷◌, length, Some, None, refl, sym, ◌∙◌, subst, inl, inr, arith}
use Rattle.std.proofs.lemmas.Bool.{lt-leb}
use Rattle.it_types.specs.declared.id.TaskId.{TaskId}
use Rattle.it_types.specs.declared.id.CallNo.{CallNo}
use Rattle.it_types.specs.declared.timeout.Tmo.{Tmo}
use Rattle.it_types.specs.declared.timeout.Tmo.TheVariants as timeouts
use Rattle.spec_lists.specs.First.{take_first}
use Rattle.spec_lists.proofs.Firsts.{cases_of_first, found, none_append, none_from_parts, take_first-shorter}
use Rattle.spec_kernel.specs.declared.reason.WaitReason.{WaitReason}
use Rattle.spec_kernel.specs.declared.reason.WaitReason.TheVariants as reasons
use Rattle.spec_kernel.specs.declared.reason.WaitingCall.{WaitingCall}
use Rattle.spec_kernel.specs.PlainKernel.{PlainKernel}
use Rattle.spec_kernel.specs.Settle.{Outcome, comes_next, next_freed, freed, settle, settled}
use Rattle.spec_kernel.specs.Rows.{with_wait, waiting_call, deadline_of}
use Rattle.spec_kernel.specs.Time.{is_past, NoneIsPast, is_next_past, next_past, by_time, due, blocked, is_outside_of, unblocked}
use Rattle.spec_kernel.proofs.Least.{none_least, none_passes}

-- ---- the next end by time

-- a deadline is past where one of the least number is
pub next_past_none : (k : PlainKernel) → next_past k ≡ None → NoneIsPast k
next_past_none k e = none_least (is_past k.clock.now) (λ (w : WaitingCall). w.call.0) k.waits e

-- where no deadline is past, no call ends by time
pub none_past_next : (k : PlainKernel) → NoneIsPast k → next_past k ≡ None
none_past_next k e = none_passes (is_past k.clock.now) (λ (w : WaitingCall). w.call.0) k.waits e

-- where no deadline is past, nothing is due
pub due_none : (k : PlainKernel) → NoneIsPast k → due k ≡ None
unfolding due
due_none k e = rw (none_past_next k e) refl

-- what is due is the end of the call of the least number whose deadline is past
pub due_some : (k : PlainKernel) (x : WaitingCall × List WaitingCall) → next_past k ≡ Some x → due k ≡ Some (settled (by_time k x))
unfolding due
due_some k x e = rw e refl

-- where nothing is due, no deadline is past
pub due_past : (k : PlainKernel) → due k ≡ None → NoneIsPast k
due_past k e = elim (cases_of_first (next_past k)) [
  | inl none ↦ next_past_none k none
  | inr x ↦ absurd (let some = due_some k x.0 x.1 in cc)
]

some_is : {o p : Outcome} → Some o ≡ Some p → o ≡ p
some_is e = cc

-- what is due is one end, and what it makes ready
pub due_is : (k : PlainKernel) (o : Outcome) → due k ≡ Some o → (x : WaitingCall × List WaitingCall) × (next_past k ≡ Some x) × (settled (by_time k x) ≡ o)
due_is k o e = elim (cases_of_first (next_past k)) [
  | inl none ↦ absurd (let nothing = due_none k (next_past_none k none) in cc)
  | inr x ↦ (x.0, x.1, some_is (sym (due_some k x.0 x.1) ∙ e))
]

-- ---- fewer calls

settle-waits_le : (n : ℕ) (k : PlainKernel) → length (settle n k).0.waits ≤ length k.waits
unfolding settle
settle-waits_le zero k = omega arith
settle-waits_le (suc n) k = elim (cases_of_first (next_freed k)) [
  | inl e ↦ rw e (omega arith)
  | inr w ↦ rw w.1 (omega (arith, settle-waits_le n (freed k w.0.0 w.0.1), take_first-shorter (comes_next k) k.waits w.0 w.1))
]

-- no call waits that didn't
pub settled-waits_le : (o : Outcome) → length (settled o).kernel.waits ≤ length o.kernel.waits
unfolding settled
settled-waits_le o = settle-waits_le (length o.kernel.waits) o.kernel

-- what is due leaves fewer calls
pub due_shorter : (k : PlainKernel) (o : Outcome) → due k ≡ Some o → length o.kernel.waits + 1 ≤ length k.waits
due_shorter k o e =
    let x = due_is k o e in
    subst (λ (p : Outcome). length p.kernel.waits + 1 ≤ length k.waits) x.2
    (omega (arith, settled-waits_le (by_time k x.0), take_first-shorter (is_next_past k.clock.now k.waits) k.waits x.0 x.1))

-- ---- no deadline is past between events

-- a deadline that is set is to come
new_not_past : (now : ℕ) (number : CallNo) (task : TaskId) (reason : WaitReason) (tmo : Tmo) (rank : ℕ) → is_past now (record { call = number; task = task; reason = reason; deadline = deadline_of now tmo; rank = rank }) ≡ false
new_not_past now number task reason (timeouts.Ms ticks) rank = lt-leb (now + ticks + 1) now (omega arith)
new_not_past now number task reason timeouts.Pol rank = refl
new_not_past now number task reason timeouts.Nblk rank = refl
new_not_past now number task reason timeouts.Fevr rank = refl

-- a new wait
pub waiting_none_past : (k : PlainKernel) (task : TaskId) (reason : WaitReason) (tmo : Tmo) (number : CallNo) → NoneIsPast k → NoneIsPast (with_wait k task reason tmo number)
waiting_none_past k task reason tmo number none =
    none_append (is_past k.clock.now) k.waits (new ∷ []) none (none_from_parts (is_past k.clock.now) new [] (new_not_past k.clock.now number task reason tmo k.next_rank) refl)
  where
    new : WaitingCall
    new = waiting_call k task reason tmo number

-- a wait outside leaves none past
pub blocked_none_past : (k : PlainKernel) (task : TaskId) (tmo : Tmo) (number : CallNo) → NoneIsPast k → NoneIsPast (blocked k task tmo number)
blocked_none_past k task tmo number none = waiting_none_past k task reasons.Outside tmo number none

-- nor its end
pub unblocked_none_past : (k : PlainKernel) (task : TaskId) → NoneIsPast k → NoneIsPast (unblocked k task).0
unfolding unblocked
unblocked_none_past k task none = elim (cases_of_first (take_first (is_outside_of task) k.waits)) [
  | inl nothing ↦ rw nothing none
  | inr z ↦ rw z.1 (found (is_outside_of task) (is_past k.clock.now) k.waits z.0 none z.1).1
]
