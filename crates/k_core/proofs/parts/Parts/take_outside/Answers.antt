use Rattle.std.proofs.Common.{◌≡◌, Some, refl, sym, ap, ◌∙◌}
use Rattle.std.specs.List.{position}
use Rattle.spec_lists.specs.First.{take_first}
use Rattle.spec_lists.proofs.Places.{place_found, no_place}
use Rattle.spec_kernel.specs.Time.{is_outside_of}
use Rattle.spec_kernel.specs.Parts.{PlainParts}
use Rattle.k_core.proofs.parts.Parts.take_outside.Goals as goal

pub returns-in-Some-clause-call : goal.returns-in-Some-clause-call
returns-in-Some-clause-call c =
    let place_is : position (is_outside_of c.args.task) c.self.inside.waits.items ≡ Some c.in-Some.place = sym (ap (position (is_outside_of c.args.task)) c.as_slice.ensures.value) ∙ sym c.outside_of.ensures ∙ c.in-Some.is in
    let first = (place_found (is_outside_of c.args.task) c.self.inside.waits.items c.in-Some.place place_is).first c.remove.result c.remove.ensures.value in
    sym (ap (λ (q : PlainParts). take_first (is_outside_of c.args.task) q.waits) c.self.view_is) ∙ first ∙ rw c.remove.ensures.items refl

pub returns-in-None-clause-call : goal.returns-in-None-clause-call
returns-in-None-clause-call c =
    sym (ap (λ (q : PlainParts). take_first (is_outside_of c.args.task) q.waits) c.self.view_is)
    ∙ no_place (is_outside_of c.args.task) c.self.inside.waits.items (sym (ap (position (is_outside_of c.args.task)) c.as_slice.ensures.value) ∙ sym c.outside_of.ensures ∙ c.in-None.is)
