-- Cyclic handlers that come due one after another.
use Rattle.std.proofs.Common.{◌≡◌, ℕ, ◌+◌, ◌<◌, List, [], ◌∷◌, ◌++◌, length, get_or, take, refl, ap, sym, ◌∙◌}
use Rattle.std.proofs.lemmas.List.{take_more}
use Rattle.it_types.specs.declared.id.ObjId.{ObjId}
use Rattle.it_types.specs.declared.handler.Handler.{Handler}
use Rattle.spec_pend.specs.PlainPend.{PlainPend}
use Rattle.spec_node.specs.Handlers.{with_cyclic, with_cyclics}

pub with_cyclics_end : (due : List Handler) (cycs : List ObjId) (cyc : ObjId) → with_cyclics due (cycs ++ cyc ∷ []) ≡ with_cyclic (with_cyclics due cycs) cyc
with_cyclics_end due [] cyc = refl
with_cyclics_end due (c ∷ cs) cyc = with_cyclics_end (with_cyclic due c) cs cyc

-- one of them more has come due
pub next_cyclic : (first before after : PlainPend) (cycs : List ObjId) (i : ℕ) (other : ObjId)
    → i < length cycs
    → before ≡ record first { due = with_cyclics first.due (take i cycs) }
    → after ≡ record before { due = with_cyclic before.due (get_or cycs i other) }
    → after ≡ record first { due = with_cyclics first.due (take (i + 1) cycs) }
next_cyclic first before after cycs i other inside b a =
    a ∙ ap (λ (p : PlainPend). record p { due = with_cyclic p.due (get_or cycs i other) }) b
    ∙ ap (λ (due : List Handler). record first { due = due }) (sym (ap (with_cyclics first.due) (take_more cycs i other inside) ∙ with_cyclics_end first.due (take i cycs) (get_or cycs i other)))
