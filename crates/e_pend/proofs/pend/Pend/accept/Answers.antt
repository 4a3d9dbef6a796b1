use Rattle.std.proofs.Common.{◌<◌, arith, subst, sym, ◌∙◌}
use Rattle.spec_pend.specs.PlainPend.{PlainPend}
use Rattle.spec_pend.proofs.Keeping.{call_kept}
use Rattle.spec_pend.proofs.Room.{room_for}
use Rattle.e_pend.proofs.pend.Pend.accept.Goals as goal

pub push-requires : goal.push-requires
push-requires c =
    let before : PlainPend = record { last = c.self.inside.last; calls = c.self.inside.calls.items; due = c.self.inside.due.items } in
    (omega arith, room_for before c.args.what c.self.invariant c.requires.cep (rw c.as_slice.ensures.value at (sym c.is_taken.ensures ∙ c.if-is_taken.false)))

pub invariant_of-self : goal.invariant_of-self
invariant_of-self c =
    let before : PlainPend = record { last = c.self.inside.last; calls = c.self.inside.calls.items; due = c.self.inside.due.items } in
    let above : before.last < c.args.no.0 = subst (λ (p : PlainPend). p.last < c.args.no.0) (sym c.self.view_is) c.requires.above in
    rw c.push.ensures.items (call_kept before c.args.who c.args.what c.args.no c.requires.cep above (rw c.as_slice.ensures.value at (sym c.is_taken.ensures ∙ c.if-is_taken.false)) c.self.invariant)
