use Rattle.std.proofs.Common.{◌≡◌, Some, sym, ap, ◌∙◌}
use Rattle.std.specs.List.{position}
use Rattle.spec_lists.proofs.Places.{place_found, no_place}
use Rattle.spec_kernel.specs.Parts.{PlainParts}
use Rattle.k_core.specs.PartsRows.{moved, waits_in_order, last_in_its_queue}
use Rattle.k_core.proofs.parts.Parts.move_last.Goals as goal

pub returns-in-Some : goal.returns-in-Some
returns-in-Some c =
    let p : PlainParts = record {
      clock = c.self.inside.clock;
      tasks = c.self.inside.tasks;
      sems = c.self.inside.sems;
      flags = c.self.inside.flags;
      dtqs = c.self.inside.dtqs;
      waits = c.self.inside.waits.items;
      last_call = c.self.inside.last_call.0;
    } in
    let t = c.args.task in
    let place_is : position (waits_in_order p t) p.waits ≡ Some c.in-Some.place = ap (λ (q : PlainParts). position (waits_in_order q t) q.waits) c.self.view_is ∙ sym c.place_in_order.ensures.place ∙ c.in-Some.is in
    let first = (place_found (waits_in_order p t) p.waits c.in-Some.place place_is).first c.remove-wait.result c.remove-wait.ensures.value in
    rw (c.push.ensures.items, c.remove-wait.ensures.items, c.reprioritise-in-Some-2.ensures.dtqs, c.reprioritise-in-Some.ensures.flags, c.reprioritise.ensures.sems, c.rank-rank.ensures.next, c.rank-rank.ensures.rank, c.pri-pri.ensures) (sym (ap (moved p) first)) ∙ ap (λ (q : PlainParts). last_in_its_queue q t) c.self.view_is

pub returns-in_default : goal.returns-in_default
returns-in_default c = sym (ap (moved c.args.self.now) (no_place (waits_in_order c.args.self.now c.args.task) c.args.self.now.waits (sym c.place_in_order.ensures.place ∙ c.in_default.is)))
