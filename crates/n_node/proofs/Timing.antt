-- The ends by time of a tick, one after another.
use Rattle.std.proofs.Common.{◌≡◌, ℕ, zero, suc, ◌+◌, ◌≤◌, List, [], ◌∷◌, length, Some, None, refl, ap, sym, ◌∙◌, subst, inl, inr, arith}
use Rattle.std.proofs.lemmas.Bool.{cases_Bool}
use Rattle.std.proofs.lemmas.List.{append-nil, nil_from_length}
use Rattle.std.proofs.Common.{add-zero}
use Rattle.it_types.specs.declared.answer.Ans.{Ans}
use Rattle.it_types.specs.declared.answer.Ans.TheVariants as answers
use Rattle.it_types.specs.declared.id.TaskId.{TaskId}
use Rattle.spec_lists.specs.First.{take_first}
use Rattle.spec_lists.proofs.Firsts.{cases_of_first, take_first-shorter}
use Rattle.spec_kernel.specs.declared.outcome.KEnd.{KEnd}
use Rattle.spec_kernel.specs.PlainKernel.{PlainKernel}
use Rattle.spec_kernel.specs.Settle.{Outcome}
use Rattle.spec_kernel.specs.Time.{due, is_outside_of, unblocked}
use Rattle.spec_pend.specs.declared.call.Who.{Who}
use Rattle.spec_pend.specs.declared.call.Who.TheVariants as whos
use Rattle.spec_pend.specs.declared.answer.NetEnd.{NetEnd}
use Rattle.spec_udp.specs.Outside.{ended}
use Rattle.laws_kernel.proofs.Timing.{due_none, due_shorter}
use Rattle.k_core.specs.Kernel.{ended_alone}
use Rattle.spec_node.specs.PlainNode.{PlainNode}
use Rattle.spec_node.specs.Progress.{Progress, woken_for, woken_by, after_end, after_ends, after_kernel, time_out, timed_out}
use Rattle.spec_node.specs.NodeStep.{beginning}
use Rattle.n_node.specs.declared.parts.Parts.{Parts}
use Rattle.n_node.specs.declared.told.Told.{Told}
use Rattle.n_node.specs.Plain.{plain}
use Rattle.n_node.specs.Coming.{Comes, Moves}

-- the code has come to a moment from which the ends by time come to the same
abbrev pub Ends : Parts → Told → Parts → Told → Type 0
Ends parts told parts_after told_after = (start : PlainNode) (answer : Ans) (before : Told) (p : Progress)
    → Comes start answer before p parts told
    → (q : Progress) × Comes start answer before q parts_after told_after × (timed_out q ≡ timed_out p)

pub at_start : (parts : Parts) (told : Told) → Ends parts told parts told
at_start parts told start answer before p h = (p, h, refl)

-- ---- no end makes a call wait

unblocked-waits_le : (k : PlainKernel) (task : TaskId) → length (unblocked k task).0.waits ≤ length k.waits
unfolding unblocked
unblocked-waits_le k task = elim (cases_of_first (take_first (is_outside_of task) k.waits)) [
  | inl none ↦ rw none (omega arith)
  | inr some ↦ rw some.1 (omega (arith, take_first-shorter (is_outside_of task) k.waits some.0 some.1))
]

woken_for-waits_le : (k : PlainKernel) (who : Who) → length (woken_for k who).waits ≤ length k.waits
woken_for-waits_le k (whos.Task t) = unblocked-waits_le k t
woken_for-waits_le k (whos.Callback t cbr) = omega arith

woken_by-waits_le : (k : PlainKernel) (es : List NetEnd) → length (woken_by k es).waits ≤ length k.waits
woken_by-waits_le k [] = omega arith
woken_by-waits_le k (e ∷ es) = omega (arith, woken_for-waits_le k e.who, woken_by-waits_le (woken_for k e.who) es)

after_end-waits_le : (p : Progress) (e : KEnd) → length (after_end p e).kernel.waits ≤ length p.kernel.waits
after_end-waits_le p e = elim (cases_Bool e.outside) [
  | inl t ↦ rw t (woken_by-waits_le p.kernel (ended p.net e.call e.code).endings.ends)
  | inr t ↦ rw t (omega arith)
]

after_ends-waits_le : (p : Progress) (es : List KEnd) → length (after_ends p es).kernel.waits ≤ length p.kernel.waits
after_ends-waits_le p [] = omega arith
after_ends-waits_le p (e ∷ es) = omega (arith, after_end-waits_le p e, after_ends-waits_le (after_end p e) es)

after_kernel-waits_le : (p : Progress) (o : Outcome) → length (after_kernel p o).kernel.waits ≤ length o.kernel.waits
unfolding after_kernel
after_kernel-waits_le p o = after_ends-waits_le (record p { kernel = o.kernel }) o.ends

-- ---- the definition's turns

-- an end leaves fewer calls that wait
after_shorter : (p : Progress) (o : Outcome) → due p.kernel ≡ Some o → length (after_kernel p o).kernel.waits + 1 ≤ length p.kernel.waits
after_shorter p o d = omega (arith, after_kernel-waits_le p o, due_shorter p.kernel o d)

-- where nothing is due, nothing ends
nothing_out : (n : ℕ) (p : Progress) → due p.kernel ≡ None → time_out n p ≡ p
unfolding time_out
nothing_out zero p d = refl
nothing_out (suc n) p d = rw d refl

none_waits : (p : Progress) → length p.kernel.waits ≤ 0 → due p.kernel ≡ None
none_waits p le = let none : p.kernel.waits ≡ [] = nil_from_length p.kernel.waits (omega arith) in due_none p.kernel (rw none refl)

-- with turns enough, their number doesn't matter
time_out_enough : (m n : ℕ) (p : Progress) → length p.kernel.waits ≤ m → length p.kernel.waits ≤ n → time_out m p ≡ time_out n p
unfolding time_out
time_out_enough zero n p a b = sym (nothing_out n p (none_waits p a))
time_out_enough (suc m) zero p a b = nothing_out (suc m) p (none_waits p b)
time_out_enough (suc m) (suc n) p a b = elim (cases_of_first (due p.kernel)) [
  | inl none ↦ rw none refl
  | inr o ↦ rw o.1 (time_out_enough m n (after_kernel p o.0) (omega (arith, a, after_shorter p o.0 o.1)) (omega (arith, b, after_shorter p o.0 o.1)))
]

timed_out_none : (p : Progress) → due p.kernel ≡ None → timed_out p ≡ p
unfolding timed_out
timed_out_none p d = nothing_out (length p.kernel.waits) p d

-- the end that is due comes first
timed_out_some : (p : Progress) (o : Outcome) → due p.kernel ≡ Some o → timed_out p ≡ timed_out (after_kernel p o)
unfolding timed_out time_out
timed_out_some p o d =
    time_out_enough (length p.kernel.waits) (suc (length p.kernel.waits)) p (omega arith) (omega arith)
    ∙ rw d (time_out_enough (length p.kernel.waits) (length (after_kernel p o).kernel.waits) (after_kernel p o) (omega (arith, after_shorter p o d)) (omega arith))

-- ---- the loop

-- the end that was due is taken over
pub goes_on : (parts now middle after : Parts) (told told_now told_after : Told) (e : KEnd)
    → Ends parts told now told_now
    → due now.kernel ≡ Some (ended_alone middle.kernel e)
    → plain middle ≡ record (plain now) { kernel = middle.kernel }
    → Moves middle told_now after told_after (λ p. after_end p e)
    → Ends parts told after told_after
unfolding after_kernel
goes_on parts now middle after told told_now told_after e so_far d node move start answer before p h =
    let x = so_far start answer before p h in
    let q : Progress = x.0 in
    let at : now.kernel ≡ q.kernel = ap (λ (n : PlainNode). n.kernel) x.1.node in
    let turn : Progress = record q { kernel = middle.kernel } in (
      after_end turn e,
      move start answer before turn (record { node = node ∙ ap (λ (n : PlainNode). record n { kernel = middle.kernel }) x.1.node; ends = x.1.ends; marks = x.1.marks; packets = x.1.packets }),
      sym (timed_out_some q (ended_alone middle.kernel e) (ap due (sym at) ∙ d)) ∙ x.2,
    )

-- nothing is due any more, and the kernel stays as it is
pub is_done : (parts now : Parts) (told told_now : Told) (kernel : PlainKernel)
    → Ends parts told now told_now
    → due now.kernel ≡ None
    → kernel ≡ now.kernel
    → Moves parts told (record now { kernel = kernel }) told_now timed_out
is_done parts now told told_now kernel so_far d same start answer before p h =
    let x = so_far start answer before p h in
    let at : now.kernel ≡ x.0.kernel = ap (λ (n : PlainNode). n.kernel) x.1.node in
    rw same (subst (λ (q : Progress). Comes start answer before q now told_now) (sym (timed_out_none x.0 (ap due (sym at) ∙ d)) ∙ x.2) x.1)

after_waits_le : (middle : Parts) (e : KEnd) → length (after_end (beginning (plain middle)) e).kernel.waits ≤ length middle.kernel.waits
unfolding after_kernel
after_waits_le middle e = after_kernel-waits_le (beginning (plain middle)) (ended_alone middle.kernel e)

-- an end that was due leaves fewer calls that wait
pub fewer_wait : (now middle after : Parts) (told told_after : Told) (e : KEnd)
    → due now.kernel ≡ Some (ended_alone middle.kernel e)
    → Moves middle told after told_after (λ p. after_end p e)
    → length after.kernel.waits + 1 ≤ length now.kernel.waits
fewer_wait now middle after told told_after e d move =
    let end = move (plain middle) answers.Quiet told (beginning (plain middle)) (record { node = ap (λ (calls : ℕ). record (plain middle) { calls = calls }) (sym (add-zero middle.calls)); ends = sym (append-nil told.ends); marks = sym (append-nil told.marks); packets = sym (append-nil told.packs) }) in
    let kernel : after.kernel ≡ (after_end (beginning (plain middle)) e).kernel = ap (λ (n : PlainNode). n.kernel) end.node in
    omega (arith, ap (λ (k : PlainKernel). length k.waits) kernel, after_waits_le middle e, due_shorter now.kernel (ended_alone middle.kernel e) d)
