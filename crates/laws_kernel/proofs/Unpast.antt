-- Where no deadline is past, none is after a call.
use Rattle.std.proofs.Common.{◌≡◌, ℕ, zero, suc, Bool, false, List, [], ◌∷◌, length, Some, None, refl, sym, ◌∙◌, subst, inl, inr}
use Rattle.it_types.specs.declared.id.CallNo.{CallNo}
use Rattle.it_types.specs.declared.context.Ctx.{Ctx}
use Rattle.it_types.specs.declared.kernel_request.KReq.{KReq}
use Rattle.it_types.specs.Callers.{caller}
use Rattle.spec_lists.specs.First.{take_first}
use Rattle.spec_lists.proofs.Firsts.{cases_of_first, found, none_append, none_from_parts, none_parts, some_parts}
use Rattle.spec_kernel.specs.declared.reason.WaitingCall.{WaitingCall}
use Rattle.spec_kernel.specs.PlainKernel.{PlainKernel}
use Rattle.spec_kernel.specs.Settle.{Outcome, comes_next, next_freed, freed, settle, settled}
use Rattle.spec_kernel.specs.Rows.{row, call}
use Rattle.spec_kernel.specs.Time.{is_past, NoneIsPast}
use Rattle.laws_kernel.proofs.Timing.{waiting_none_past}
use Rattle.laws_kernel.proofs.Drawing.{call-now, settled-now}
use Rattle.laws_kernel.proofs.OutsideEnds.{RowWaits, row_waits}
use Rattle.laws_kernel.proofs.OutsideEnds.RowWaits.{leaves, begins, moves, ends}

-- what is found where nothing passes another test doesn't pass it either
fails_too : {X : Type 0} (f g : X → Bool) (xs : List X) (z : X × List X) → take_first g xs ≡ None → take_first f xs ≡ Some z → g z.0 ≡ false
fails_too f g [] z n e = cc
fails_too f g (x ∷ xs) z n e = elim (some_parts f x xs z e) [
  | inl s ↦ rw s.1 (none_parts g x xs n).0
  | inr s ↦ rw s.3 (fails_too f g xs s.0 (none_parts g x xs n).1 s.2)
]

waits_none_past : (k : PlainKernel) (ctx : Ctx) (number : CallNo) (o : Outcome) → RowWaits k ctx number o → NoneIsPast k → take_first (is_past k.clock.now) o.kernel.waits ≡ None
waits_none_past k ctx number o (leaves told same) none = subst (λ ws. take_first (is_past k.clock.now) ws ≡ None) (sym same) none
waits_none_past k ctx number o (begins reason tmo inside told same) none =
    subst (λ ws. take_first (is_past k.clock.now) ws ≡ None) (sym same) (waiting_none_past k (caller ctx) reason tmo number none)
waits_none_past k ctx number o (moves f z rank e told same) none =
    let moved_call : WaitingCall = record z.0 { rank = rank } in
    subst (λ ws. take_first (is_past k.clock.now) ws ≡ None) (sym same)
    (none_append (is_past k.clock.now) z.1 (moved_call ∷ []) (found f (is_past k.clock.now) k.waits z none e).1 (none_from_parts (is_past k.clock.now) moved_call [] (fails_too f (is_past k.clock.now) k.waits z none e) refl))
waits_none_past k ctx number o (ends f z code bytes e told same) none = subst (λ ws. take_first (is_past k.clock.now) ws ≡ None) (sym same) (found f (is_past k.clock.now) k.waits z none e).1

settle_none_past : (n : ℕ) (k : PlainKernel) → NoneIsPast k → NoneIsPast (settle n k).0
unfolding settle
settle_none_past zero k none = none
settle_none_past (suc n) k none = elim (cases_of_first (next_freed k)) [
  | inl e ↦ rw e none
  | inr z ↦ rw z.1 (settle_none_past n (freed k z.0.0 z.0.1) (found (comes_next k) (is_past k.clock.now) k.waits z.0 none z.1).1)
]

row-now : (k : PlainKernel) (ctx : Ctx) (request : KReq) (number : CallNo) → (row k ctx request number).kernel.clock.now ≡ k.clock.now
unfolding call
row-now k ctx request number = sym (settled-now (row k ctx request number)) ∙ call-now k ctx request number

-- a call leaves no deadline past where none was
pub call_none_past : (k : PlainKernel) (ctx : Ctx) (request : KReq) (number : CallNo) → NoneIsPast k → NoneIsPast (call k ctx request number).kernel
unfolding call settled
call_none_past k ctx request number none =
    let o : Outcome = row k ctx request number in
    settle_none_past (length o.kernel.waits) o.kernel (subst (λ m. take_first (is_past m) o.kernel.waits ≡ None) (sym (row-now k ctx request number)) (waits_none_past k ctx number o (row_waits k ctx number request) none))
