use Rattle.std.proofs.Common.{◌≡◌, ◌<◌, ◌≤◌, ◌∷◌, length, sym, ap, ◌∙◌, arith, Some, None}
use Rattle.std.specs.BinaryHeap.{heap_items, heap_vec}
use Rattle.spec_link.specs.Deliveries.{packet_due, without_due}
use Rattle.w_link.specs.InOrder.{in_order}
use Rattle.w_link.proofs.InOrder.{none_due_packet, none_exactly, none_due_rest, one_top, popped, taken_packet, taken_rest}
use Rattle.w_link.proofs.waiting.Waiting.take_due.Goals as goal

pub returns-then-now-first-clause-packet : goal.returns-then-now-first-clause-packet
returns-then-now-first-clause-packet c =
    sym (none_due_packet c.args.now c.in-Some.field-0.now (heap_items c.self.inside.heap) (c.in-Some.ensures.greatest c.self.invariant) c.if-now-first.true)
    ∙ ap (packet_due c.args.now) c.self.view_is

pub returns-then-now-first-clause-rest : goal.returns-then-now-first-clause-rest
returns-then-now-first-clause-rest c =
    sym c.self.view_is
    ∙ sym (none_due_rest c.args.now c.in-Some.field-0.now (heap_items c.self.inside.heap) (c.in-Some.ensures.greatest c.self.invariant) c.if-now-first.true)
    ∙ ap (without_due c.args.now) c.self.view_is

-- what was taken is what was looked at, and is due
is_due : (c : goal.After-result-1) → c.in-Some-pop.field-0.0.due ≤ c.args.now
is_due c =
    let some : 0 < length (heap_items c.self.inside.heap) = omega (arith, c.in-Some-pop.ensures.len, (heap_vec c.self.inside.heap).ok.0) in
    let same = one_top (heap_items c.self.inside.heap) c.in-Some-pop.field-0 c.in-Some.field-0.now some c.in-Some-pop.ensures.top c.in-Some.ensures.lookup in
    omega (arith, ap (λ r. r.0.due) same, c.if-now-first.false)

-- it was the first, and the others are left
was_first : (c : goal.After-result-1) → in_order (heap_items c.self.inside.heap) ≡ c.in-Some-pop.field-0.0 ∷ in_order (heap_items c.pop.new.self)
was_first c =
    popped c.in-Some-pop.field-0 (heap_items c.self.inside.heap) (heap_items c.pop.new.self) c.in-Some-pop.ensures.permutation
    (c.in-Some-pop.ensures.below_top c.self.invariant)

pub returns-clause-packet : goal.returns-clause-packet
returns-clause-packet c =
    sym (taken_packet c.args.now c.in-Some-pop.field-0.0 (in_order (heap_items c.pop.new.self)) (is_due c))
    ∙ ap (packet_due c.args.now) (sym (was_first c) ∙ c.self.view_is)

pub returns-clause-rest : goal.returns-clause-rest
returns-clause-rest c =
    sym (taken_rest c.args.now c.in-Some-pop.field-0.0 (in_order (heap_items c.pop.new.self)) (is_due c))
    ∙ ap (without_due c.args.now) (sym (was_first c) ∙ c.self.view_is)

pub returns-then-now-first-clause-none : goal.returns-then-now-first-clause-none
returns-then-now-first-clause-none c =
    none_exactly c.args.now (heap_items c.self.inside.heap) c.args.self.now None c.self.view_is (returns-then-now-first-clause-packet c)

pub returns-clause-none : goal.returns-clause-none
returns-clause-none c =
    none_exactly c.args.now (heap_items c.self.inside.heap) c.args.self.now (Some c.in-Some-pop.field-0.0.packet) c.self.view_is (returns-clause-packet c)
