-- What becomes of both parts of a node in an event: what waking the tasks keeps whose network calls ended, and that no call waits
-- afterwards that didn't.
use Rattle.std.proofs.Common.{◌≡◌, ◌∙◌, ◌≤◌, List, [], ◌∷◌, length, refl, inl, inr, arith}
use Rattle.std.proofs.lemmas.Bool.{cases_Bool}
use Rattle.it_types.specs.declared.id.TaskId.{TaskId}
use Rattle.spec_lists.specs.First.{take_first}
use Rattle.spec_lists.proofs.Firsts.{cases_of_first, take_first-shorter}
use Rattle.spec_kernel.specs.declared.reason.WaitingCall.{WaitingCall}
use Rattle.spec_kernel.specs.declared.outcome.KEnd.{KEnd}
use Rattle.spec_kernel.specs.PlainKernel.{PlainKernel}
use Rattle.spec_kernel.specs.Settle.{Outcome, ended as ended_call}
use Rattle.spec_kernel.specs.Time.{unblocked, is_outside_of}
use Rattle.spec_pend.specs.declared.call.Who.{Who}
use Rattle.spec_pend.specs.declared.call.Who.TheVariants as whos
use Rattle.spec_pend.specs.declared.answer.NetEnd.{NetEnd}
use Rattle.spec_udp.specs.Outside.{ended}
use Rattle.spec_node.specs.Progress.{Progress, woken_for, woken_by, after_end, after_ends, after_kernel}

-- ---- waking tasks

unblocked-waits_le : (k : PlainKernel) (task : TaskId) → length (unblocked k task).0.waits ≤ length k.waits
unfolding unblocked
unblocked-waits_le k task = elim (cases_of_first (take_first (is_outside_of task) k.waits)) [
  | inl none ↦ rw none (omega arith)
  | inr some ↦ rw some.1 (omega (arith, take_first-shorter (is_outside_of task) k.waits some.0 some.1))
]

unblocked_keeps : {X : Type 0} (part : PlainKernel → X) → ((k : PlainKernel) (w : WaitingCall) (others : List WaitingCall) → part (ended_call k w others) ≡ part k) → (k : PlainKernel) (task : TaskId) → part (unblocked k task).0 ≡ part k
unfolding unblocked
unblocked_keeps part kept k task = elim (cases_of_first (take_first (is_outside_of task) k.waits)) [
  | inl none ↦ rw none refl
  | inr some ↦ rw some.1 (kept k some.0.0 some.0.1)
]

woken_for_keeps : {X : Type 0} (part : PlainKernel → X) → ((k : PlainKernel) (w : WaitingCall) (others : List WaitingCall) → part (ended_call k w others) ≡ part k) → (k : PlainKernel) (who : Who) → part (woken_for k who) ≡ part k
woken_for_keeps part kept k (whos.Task t) = unblocked_keeps part kept k t
woken_for_keeps part kept k (whos.Callback t cbr) = refl

-- what waking a task keeps
pub woken_by_keeps : {X : Type 0} (part : PlainKernel → X) → ((k : PlainKernel) (w : WaitingCall) (others : List WaitingCall) → part (ended_call k w others) ≡ part k) → (k : PlainKernel) (es : List NetEnd) → part (woken_by k es) ≡ part k
woken_by_keeps part kept k [] = refl
woken_by_keeps part kept k (e ∷ es) = woken_by_keeps part kept (woken_for k e.who) es ∙ woken_for_keeps part kept k e.who

woken_for-waits_le : (k : PlainKernel) (who : Who) → length (woken_for k who).waits ≤ length k.waits
woken_for-waits_le k (whos.Task t) = unblocked-waits_le k t
woken_for-waits_le k (whos.Callback t cbr) = omega arith

-- no call waits that didn't
pub woken_by-waits_le : (k : PlainKernel) (es : List NetEnd) → length (woken_by k es).waits ≤ length k.waits
woken_by-waits_le k [] = omega arith
woken_by-waits_le k (e ∷ es) = omega (arith, woken_for-waits_le k e.who, woken_by-waits_le (woken_for k e.who) es)

-- ---- ends that the kernel made

after_end-waits_le : (p : Progress) (e : KEnd) → length (after_end p e).kernel.waits ≤ length p.kernel.waits
after_end-waits_le p e = elim (cases_Bool e.outside) [
  | inl t ↦ rw t (woken_by-waits_le p.kernel (ended p.net e.call e.code).endings.ends)
  | inr t ↦ rw t (omega arith)
]

after_ends-waits_le : (p : Progress) (es : List KEnd) → length (after_ends p es).kernel.waits ≤ length p.kernel.waits
after_ends-waits_le p [] = omega arith
after_ends-waits_le p (e ∷ es) = omega (arith, after_end-waits_le p e, after_ends-waits_le (after_end p e) es)

pub after_kernel-waits_le : (p : Progress) (o : Outcome) → length (after_kernel p o).kernel.waits ≤ length o.kernel.waits
unfolding after_kernel
after_kernel-waits_le p o = after_ends-waits_le (record p { kernel = o.kernel }) o.ends
