-- What the parts of a kernel see of the calls that wait stays the same where each call counts in its queue as before.
use Rattle.std.proofs.Common.{◌≡◌, ℕ, ◌≤◌, Bool, true, List, [], ◌∷◌, refl, inl, inr, arith}
use Rattle.std.proofs.lemmas.Bool.{cases_Bool}
use Rattle.spec_lists.specs.Tables.{get}
use Rattle.spec_lists.specs.Counting.{times}
use Rattle.spec_lists.proofs.Counting.{one_if-same}
use Rattle.spec_kernel.specs.declared.reason.WaitReason.{WaitReason}
use Rattle.spec_kernel.specs.declared.reason.WaitingCall.{WaitingCall}
use Rattle.spec_kernel.specs.TaskBlocks.{priority_of}
use Rattle.spec_kernel.specs.Waiting.{is_by_priority}
use Rattle.spec_kernel.specs.PlainKernel.{PlainKernel}
use Rattle.spec_kernel.specs.Settle.{Outcome, urgency_of}
use Rattle.spec_kernel.specs.Standing.{waiting_number}
use Rattle.spec_kernel.specs.Parts.{parts_of}
use Rattle.k_core.specs.PartsRows.{PartsOutcome}
use Rattle.k_core.proofs.Views.{waiters_among}

-- an outcome of the whole kernel, as its parts have it
abbrev pub told : Outcome → PartsOutcome
told o = record { parts = parts_of o.kernel; answer = o.answer; ends = o.ends; gone = o.gone; begun = o.begun }

-- each call of the kind counts in its queue as before
abbrev pub AreAlike : (WaitReason → Bool) → PlainKernel → PlainKernel → List WaitingCall → Type 0
AreAlike kind k l [] = Unit {0}
AreAlike kind k l (w ∷ ws) = (kind w.reason ≡ true → urgency_of l w ≡ urgency_of k w) × AreAlike kind k l ws

pub same_seen : (kind : WaitReason → Bool) (k l : PlainKernel) (ws : List WaitingCall) → AreAlike kind k l ws → waiters_among kind l ws ≡ waiters_among kind k ws
same_seen kind k l [] h = refl
same_seen kind k l (w ∷ ws) h = elim (cases_Bool (kind w.reason)) [
  | inl e ↦ rw (e, h.0 e, same_seen kind k l ws h.1) refl
  | inr e ↦ rw (e, same_seen kind k l ws h.1) refl
]

-- where the queues are as before, and each task that waits has its priority
pub alike_by_priority : (kind : WaitReason → Bool) (k l : PlainKernel) (ws : List WaitingCall)
    → ((r : WaitReason) → is_by_priority l.objects r ≡ is_by_priority k.objects r)
    → ((id : ℕ) → 1 ≤ times waiting_number id ws → priority_of (get l.tasks id) ≡ priority_of (get k.tasks id))
    → AreAlike kind k l ws
alike_by_priority kind k l [] ordered same = tt
alike_by_priority kind k l (w ∷ ws) ordered same = (
  λ e. rw (ordered w.reason, same w.task.0 (omega (arith, one_if-same w.task.0 w.task.0 refl))) refl,
  alike_by_priority kind k l ws ordered (λ id le. same id (omega (arith, le))),
)

-- where the tasks are as before, and each queue of the kind goes by the same
pub alike_by_order : (kind : WaitReason → Bool) (k l : PlainKernel) (ws : List WaitingCall)
    → l.tasks ≡ k.tasks
    → ((r : WaitReason) → kind r ≡ true → is_by_priority l.objects r ≡ is_by_priority k.objects r)
    → AreAlike kind k l ws
alike_by_order kind k l [] same ordered = tt
alike_by_order kind k l (w ∷ ws) same ordered = (
  λ e. rw (ordered w.reason e, same) refl,
  alike_by_order kind k l ws same ordered,
)
