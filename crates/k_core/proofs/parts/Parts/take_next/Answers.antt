use Rattle.std.proofs.Common.{◌≡◌, Some, true, refl, sym, ap, subst, ◌∙◌}
use Rattle.std.specs.List.{position}
use Rattle.spec_lists.proofs.Places.{place_found, no_place}
use Rattle.spec_kernel.specs.declared.reason.WaitingCall.{WaitingCall}
use Rattle.spec_kernel.specs.Parts.{PlainParts}
use Rattle.k_core.specs.PartsSettle.{is_named, next_call}
use Rattle.k_core.proofs.parts.Parts.take_next.Goals as goal

pub returns-in-Some-clause-call : goal.returns-in-Some-clause-call
returns-in-Some-clause-call c =
    let p : PlainParts = record {
      clock = c.self.inside.clock;
      tasks = c.self.inside.tasks;
      sems = c.self.inside.sems;
      flags = c.self.inside.flags;
      dtqs = c.self.inside.dtqs;
      waits = c.self.inside.waits.items;
      last_call = c.self.inside.last_call.0;
    } in
    let place_is : position (is_named p) p.waits ≡ Some c.in-Some.place = ap (λ (q : PlainParts). position (is_named q) q.waits) c.self.view_is ∙ sym c.next_place.ensures ∙ c.in-Some.is in
    let first = (place_found (is_named p) p.waits c.in-Some.place place_is).first c.remove.result c.remove.ensures.value in
    sym (ap next_call c.self.view_is) ∙ first ∙ rw c.remove.ensures.items refl

pub returns-in-Some-clause-named : goal.returns-in-Some-clause-named
returns-in-Some-clause-named c = λ w is.
    let p : PlainParts = record {
      clock = c.self.inside.clock;
      tasks = c.self.inside.tasks;
      sems = c.self.inside.sems;
      flags = c.self.inside.flags;
      dtqs = c.self.inside.dtqs;
      waits = c.self.inside.waits.items;
      last_call = c.self.inside.last_call.0;
    } in
    let place_is : position (is_named p) p.waits ≡ Some c.in-Some.place = ap (λ (q : PlainParts). position (is_named q) q.waits) c.self.view_is ∙ sym c.next_place.ensures ∙ c.in-Some.is in
    let passes : is_named p c.remove.result ≡ true = ap (is_named p) c.remove.ensures.value ∙ (place_found (is_named p) p.waits c.in-Some.place place_is).passes c.remove.result in
    subst (λ (v : WaitingCall). is_named p v ≡ true) (same is) passes
  where
    same : {v w : WaitingCall} → Some v ≡ Some w → v ≡ w
    same e = cc

pub returns-in-None-clause-call : goal.returns-in-None-clause-call
returns-in-None-clause-call c = no_place (is_named c.args.self.now) c.args.self.now.waits (sym c.next_place.ensures ∙ c.in-None.is)
