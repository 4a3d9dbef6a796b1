use Rattle.std.proofs.Common.{sym, ap, ◌∙◌}
use Rattle.std.specs.Prelude.{is_some}
use Rattle.spec_node.specs.PlainNode.{PlainNode}
use Rattle.spec_sim.specs.Schedule.{plan_of}
use Rattle.w_sim.specs.Playing.{Playing, play_of}
use Rattle.w_sim.proofs.Begun.{still_some, first_goes_on, second_goes_on, none_goes_on}
use Rattle.w_sim.proofs.play.Play.next.Goals as goal

pub returns-then-is_some-clause-event : goal.returns-then-is_some-clause-event
returns-then-is_some-clause-event c =
    let begun = ap (λ (n : PlainNode). is_some n.begun) (sym c.first_node.ensures) ∙ ap is_some (sym c.handler.ensures) ∙ still_some _ c.handler.result ∙ sym c.is_some.ensures ∙ c.if-is_some.true in
    rw (first_goes_on (plan_of c.args.script.now) (play_of c.args.self.now) (ap (λ (p : Playing). is_some (play_of p).world.nodes.first.begun) (sym c.self.view_is) ∙ begun), ← c.self.view_is) c.handler_event.ensures.event

pub returns-then-is_some-2-clause-event : goal.returns-then-is_some-2-clause-event
returns-then-is_some-2-clause-event c =
    let none = ap (λ (n : PlainNode). is_some n.begun) (sym c.first_node.ensures) ∙ ap is_some (sym c.handler.ensures) ∙ still_some _ c.handler.result ∙ sym c.is_some.ensures ∙ c.if-is_some.false in
    let begun = ap (λ (n : PlainNode). is_some n.begun) (sym c.second_node.ensures) ∙ ap is_some (sym c.handler-2.ensures) ∙ still_some _ c.handler-2.result ∙ sym c.is_some-2.ensures ∙ c.if-is_some-2.true in
    rw (second_goes_on (plan_of c.args.script.now) (play_of c.args.self.now) (ap (λ (p : Playing). is_some (play_of p).world.nodes.first.begun) (sym c.self.view_is) ∙ none) (ap (λ (p : Playing). is_some (play_of p).world.nodes.second.begun) (sym c.self.view_is) ∙ begun), ← c.self.view_is) c.handler_event-then-is_some-2.ensures.event

pub returns-clause-event : goal.returns-clause-event
returns-clause-event c =
    let none = ap (λ (n : PlainNode). is_some n.begun) (sym c.first_node.ensures) ∙ ap is_some (sym c.handler.ensures) ∙ still_some _ c.handler.result ∙ sym c.is_some.ensures ∙ c.if-is_some.false in
    let second_none = ap (λ (n : PlainNode). is_some n.begun) (sym c.second_node.ensures) ∙ ap is_some (sym c.handler-2.ensures) ∙ still_some _ c.handler-2.result ∙ sym c.is_some-2.ensures ∙ c.if-is_some-2.false in
    rw (none_goes_on (plan_of c.args.script.now) (play_of c.args.self.now) (ap (λ (p : Playing). is_some (play_of p).world.nodes.first.begun) (sym c.self.view_is) ∙ none) (ap (λ (p : Playing). is_some (play_of p).world.nodes.second.begun) (sym c.self.view_is) ∙ second_none)) c.due_event.ensures.event
