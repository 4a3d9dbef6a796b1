-- One turn of the ends of calls.
use Rattle.std.proofs.Common.{◌≡◌, ℕ, zero, suc, ◌+◌, List, [], ◌∷◌, length, Some, None, refl, ap, sym, ◌∙◌, arith}
use Rattle.spec_kernel.specs.declared.reason.WaitingCall.{WaitingCall}
use Rattle.spec_kernel.specs.Parts.{PlainParts}
use Rattle.k_core.specs.PartsSettle.{next_call, freed_call, end_told, turn, settle}

-- where no call is named, none ends
pub settle_none : (n : ℕ) (p : PlainParts) → next_call p ≡ None → settle n p ≡ (p, [])
unfolding settle
settle_none zero p e = refl
settle_none (suc n) p e = ap (turn (settle n) p) e

-- else it ends, and the others go on
pub settle_turn : (p : PlainParts) (w : WaitingCall) (others : List WaitingCall)
    → next_call p ≡ Some (w, others)
    → length others + 1 ≡ length p.waits
    → settle (length p.waits) p ≡ ((settle (length others) (freed_call p w others)).0, end_told p w ∷ (settle (length others) (freed_call p w others)).1)
unfolding settle
settle_turn p w others e fewer = ap (λ n. settle n p) (sym fewer ∙ one (length others)) ∙ ap (turn (settle (length others)) p) e
  where
    one : (n : ℕ) → n + 1 ≡ suc n
    one n = omega arith
