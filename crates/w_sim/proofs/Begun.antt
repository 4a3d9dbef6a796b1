-- Which handler goes first, by a test of whether one has begun.
use Rattle.std.proofs.Common.{◌≡◌, ◌∙◌, true, false, Option, Some, None, refl, sym, ap, inl, inr}
use Rattle.std.specs.Prelude.{is_some, option_map}
use Rattle.it_types.specs.declared.handler.Handler.{Handler}
use Rattle.spec_lists.proofs.Firsts.{cases_of_first}
use Rattle.spec_sim.specs.Bodies.{handler_event}
use Rattle.spec_sim.specs.Schedule.{Plan, PlainPlay, node_0, node_1, due_event, next}
use Rattle.spec_sim.proofs.Turns.{next_of_first_begun, next_of_second_begun, next_of_none_begun}

pub still_some : {X Y : Type 0} (f : X → Y) (x : Option X) → is_some (option_map f x) ≡ is_some x
still_some f None = refl
still_some f (Some x) = refl

none_begun : (begun : Option Handler) → is_some begun ≡ false → begun ≡ None
none_begun None f = refl
none_begun (Some h) f = absurd cc

pub first_goes_on : (plan : Plan) (p : PlainPlay) → is_some p.world.nodes.first.begun ≡ true → next plan p ≡ handler_event node_0 p.first.handler
first_goes_on plan p t = elim (cases_of_first p.world.nodes.first.begun) [
  | inr h ↦ next_of_first_begun plan p h.0 h.1
  | inl e ↦ absurd (let wrong : false ≡ true = sym (ap is_some e) ∙ t in cc)
]

pub second_goes_on : (plan : Plan) (p : PlainPlay) → is_some p.world.nodes.first.begun ≡ false → is_some p.world.nodes.second.begun ≡ true → next plan p ≡ handler_event node_1 p.second.handler
second_goes_on plan p f t = elim (cases_of_first p.world.nodes.second.begun) [
  | inr h ↦ next_of_second_begun plan p h.0 (none_begun p.world.nodes.first.begun f) h.1
  | inl e ↦ absurd (let wrong : false ≡ true = sym (ap is_some e) ∙ t in cc)
]

pub none_goes_on : (plan : Plan) (p : PlainPlay) → is_some p.world.nodes.first.begun ≡ false → is_some p.world.nodes.second.begun ≡ false → next plan p ≡ due_event plan p
none_goes_on plan p f g = next_of_none_begun plan p (none_begun p.world.nodes.first.begun f) (none_begun p.world.nodes.second.begun g)
