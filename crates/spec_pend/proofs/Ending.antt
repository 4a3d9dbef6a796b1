-- What the end of the call of a number comes to.
use Rattle.std.proofs.Common.{◌≡◌, ◌↔◌, ℕ, List, ◌++◌, Option, Some, None, refl, subst, sym}
use Rattle.std.proofs.lemmas.List.{append-nil}
use Rattle.it_types.specs.declared.id.CallNo.{CallNo}
use Rattle.it_types.specs.declared.er.Er.{Er}
use Rattle.it_types.specs.declared.handler.Handler.{Handler}
use Rattle.spec_pend.specs.declared.slot.Slot.{Slot}
use Rattle.spec_pend.specs.declared.call.Who.{Who}
use Rattle.spec_pend.specs.declared.call.Who.TheVariants as whos
use Rattle.spec_pend.specs.declared.call.NetCall.{NetCall}
use Rattle.spec_pend.specs.PlainPend.{PlainPend}
use Rattle.spec_pend.specs.Slots.{numbered}
use Rattle.spec_pend.specs.Ends.{AddsDue, ended, ended_found, handlers_for}
use Rattle.spec_pend.specs.Kept.{PendKept}
use Rattle.spec_pend.proofs.ByNumber.{none_left}

told_found : (p : PlainPend) (found : Option (NetCall × List NetCall)) (code : Er) (bytes : List ℕ) → ((ended_found p found code bytes).1 ≡ None) ↔ (found ≡ None)
told_found p None code bytes = (λ e. refl, λ e. refl)
told_found p (Some z) code bytes = (λ e. absurd cc, λ e. absurd cc)

gone_found : (p : PlainPend) (number : CallNo) (found : Option (NetCall × List NetCall)) (code : Er) (bytes : List ℕ) → PendKept p → numbered p number ≡ found → numbered (ended_found p found code bytes).0 number ≡ None
gone_found p number None code bytes kept e = e
gone_found p number (Some z) code bytes kept e = none_left number p.calls z kept.rise e

due_for : (due : List Handler) (who : Who) (slot : Slot) (code : Er) (bytes : List ℕ) → AddsDue due (due ++ handlers_for who slot code bytes) (Some who) code bytes
due_for due (whos.Task t) slot code bytes = append-nil due
due_for due (whos.Callback t cbr) slot code bytes = (slot, refl)

due_found : (p : PlainPend) (found : Option (NetCall × List NetCall)) (code : Er) (bytes : List ℕ) → AddsDue p.due (ended_found p found code bytes).0.due (ended_found p found code bytes).1 code bytes
due_found p None code bytes = refl
due_found p (Some z) code bytes = due_for p.due z.0.who z.0.slot code bytes

module _ (p q : PlainPend) (number : CallNo) (code : Er) (bytes : List ℕ) (who : Option Who) (ends : (q, who) ≡ ended p number code bytes) where
  -- somebody is told exactly where a call of the number waited
  pub nobody_told : (who ≡ None) ↔ (numbered p number ≡ None)
  nobody_told = subst (λ (r : PlainPend × Option Who). (r.1 ≡ None) ↔ (numbered p number ≡ None)) (sym ends) (told_found p (numbered p number) code bytes)

  -- from then on none of the number waits
  pub ended_gone : PendKept p → numbered q number ≡ None
  ended_gone kept = subst (λ (r : PlainPend × Option Who). numbered r.0 number ≡ None) (sym ends) (gone_found p number (numbered p number) code bytes kept refl)

  -- a routine that is told is due, last
  pub ended_due : AddsDue p.due q.due who code bytes
  ended_due = subst (λ (r : PlainPend × Option Who). AddsDue p.due r.0.due r.1 code bytes) (sym ends) (due_found p (numbered p number) code bytes)
