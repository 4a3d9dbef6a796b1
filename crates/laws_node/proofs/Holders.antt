-- A task that holds an answer has no call that waits.
use Rattle.std.proofs.Common.{◌≡◌, ℕ, zero, suc, true, false, List, [], ◌∷◌, slice_set, Some, None, Option, is_some, refl, sym, ap, ◌∙◌, inl, inr, arith}
use Rattle.std.specs.Prelude.{◌==◌}
use Rattle.std.proofs.lemmas.Bool.{cases_Bool, cases_lt, cases_eq, ne_eqb}
use Rattle.std.proofs.lemmas.List.{get_or-set_other}
use Rattle.it_types.specs.declared.id.TaskId.{TaskId}
use Rattle.it_types.specs.declared.er.Er.{Er}
use Rattle.it_types.specs.declared.context.Ctx.{Ctx}
use Rattle.it_types.specs.declared.context.Ctx.TheVariants as contexts
use Rattle.it_types.specs.Callers.{caller}
use Rattle.spec_lists.specs.Tables.{get}
use Rattle.spec_lists.specs.Counting.{one_if}
use Rattle.spec_kernel.specs.declared.reason.WaitingCall.{WaitingCall}
use Rattle.spec_kernel.specs.TaskBlocks.{is_active}
use Rattle.spec_kernel.specs.PlainKernel.{PlainKernel}
use Rattle.spec_kernel.specs.Standing.{IsStanding}
use Rattle.spec_pend.specs.declared.call.Who.{Who}
use Rattle.spec_pend.specs.declared.call.Who.TheVariants as whos
use Rattle.spec_pend.specs.declared.answer.NetEnd.{NetEnd}
use Rattle.spec_node.specs.declared.held.Held.{Held}
use Rattle.spec_node.specs.NodeStep.{forgetting, holding, holding_one}
use Rattle.laws_node.specs.Agreement.{times_waiting}
use Rattle.laws_node.proofs.KernelMoves.{Fewer, Grows}
use Rattle.laws_node.proofs.Waking.{IsFree, AreFree}

abbrev pub HoldersFree : List (Option Held) → List WaitingCall → Type 0
HoldersFree held waits = (id : ℕ) → is_some (get held id) ≡ true → times_waiting id waits ≡ 0

pub holders_fewer : (held : List (Option Held)) (before after : List WaitingCall) → Fewer before after → HoldersFree held before → HoldersFree held after
holders_fewer held before after fewer h id e = omega (arith, h id e, fewer id)

-- the task that begins to wait holds no answer
pub holders_grown : (held : List (Option Held)) (before after : List WaitingCall) (t : TaskId) → is_some (get held t.0) ≡ false → Grows t.0 before after → HoldersFree held before → HoldersFree held after
holders_grown held before after t none grows h id there = elim (cases_eq t.0 id) [
  | inl same ↦ absurd (let f : true ≡ false = sym there ∙ ap (λ i. is_some (get held i)) (sym same) ∙ none in cc)
  | inr other ↦ omega (arith, grows id, h id there, ap one_if (ne_eqb t.0 id other))
]

-- the task that calls holds no answer
abbrev pub HoldsNone : List (Option Held) → Ctx → Type 0
HoldsNone held ctx = (t : TaskId) → ctx ≡ contexts.Task t → is_some (get held t.0) ≡ false

-- there is no task of the id 0
pub nobody_waits : (k : PlainKernel) → IsStanding k → times_waiting 0 k.waits ≡ 0
nobody_waits k s = elim (cases_lt 0 (times_waiting 0 k.waits)) [
  | inl some ↦ absurd (let active : false ≡ true = sym (ap is_active s.nobody) ∙ s.active 0 (omega (arith, some)) in cc)
  | inr none ↦ omega (arith, none)
]

-- after a call that makes its own task wait at most
pub holders_called : (held : List (Option Held)) (before : List WaitingCall) (k : PlainKernel) (ctx : Ctx)
    → IsStanding k
    → HoldsNone held ctx
    → Grows (caller ctx).0 before k.waits
    → HoldersFree held before
    → HoldersFree held k.waits
holders_called held before k (contexts.Task t) s none grows h = holders_grown held before k.waits t (none t refl) grows h
holders_called held before k contexts.Handler s none grows h = λ id there. elim (cases_eq 0 id) [
  | inl same ↦ ap (λ i. times_waiting i k.waits) (sym same) ∙ nobody_waits k s
  | inr other ↦ omega (arith, grows id, h id there, ap one_if (ne_eqb 0 id other))
]

holding_one_free : (who : Who) (code : Er) (bytes : List ℕ) (held : List (Option Held)) (waits : List WaitingCall) → IsFree who waits → HoldersFree held waits → HoldersFree (holding_one who code bytes held) waits
holding_one_free (whos.Callback t cbr) code bytes held waits free h = h
holding_one_free (whos.Task t) code bytes held waits free h = λ id there. elim (cases_eq id t.0) [
  | inl same ↦ ap (λ i. times_waiting i waits) same ∙ free
  | inr other ↦ h id (sym (ap is_some (get_or-set_other held t.0 id (Some (record { code = code; bytes = bytes })) None other)) ∙ there)
]

-- so it stays when the ends are held
holding_free : (es : List NetEnd) (held : List (Option Held)) (waits : List WaitingCall) → AreFree es waits → HoldersFree held waits → HoldersFree (holding es held) waits
holding_free [] held waits free h = h
holding_free (e ∷ es) held waits free h = holding_free es (holding_one e.who e.code e.bytes held) waits free.1 (holding_one_free e.who e.code e.bytes held waits free.0 h)

cleared : (held : List (Option Held)) (i : ℕ) → is_some (get (slice_set held i None) i) ≡ false
cleared [] zero = refl
cleared [] (suc i) = refl
cleared (x ∷ xs) zero = refl
cleared (x ∷ xs) (suc i) = cleared xs i

-- and when a task holds its answer no longer
pub dropped_free : (held : List (Option Held)) (task : TaskId) (waits : List WaitingCall) → HoldersFree held waits → HoldersFree (slice_set held task.0 None) waits
dropped_free held task waits h id there = elim (cases_eq id task.0) [
  | inl same ↦ absurd (let f : true ≡ false = sym there ∙ ap (λ i. is_some (get (slice_set held task.0 None) i)) same ∙ cleared held task.0 in cc)
  | inr other ↦ h id (sym (ap is_some (get_or-set_other held task.0 id None None other)) ∙ there)
]

forgetting_free : (gone : TaskId) (held : List (Option Held)) (waits : List WaitingCall) → HoldersFree held waits → HoldersFree (forgetting gone held) waits
forgetting_free gone held waits h = elim (cases_Bool (gone.0 == 0)) [
  | inl t ↦ rw t h
  | inr t ↦ rw t (dropped_free held gone waits h)
]

-- after the event
pub held_free : (es : List NetEnd) (gone : TaskId) (held : List (Option Held)) (waits : List WaitingCall) → AreFree es waits → HoldersFree held waits → HoldersFree (forgetting gone (holding es held)) waits
held_free es gone held waits free h = forgetting_free gone (holding es held) waits (holding_free es held waits free h)
