use Rattle.std.proofs.Common.{◌≡◌, None, subst, sym}
use Rattle.spec_node.specs.Stepping.{NodeState, refusal}
use Rattle.n_node.specs.Plain.{plain}
use Rattle.n_node.proofs.Steps.{goes, stepped_good}
use Rattle.n_node.proofs.node.Node.step.Goals as goal

pub invariant_of-self : goal.invariant_of-self
invariant_of-self c =
    let none = subst (λ (n : NodeState). refusal n c.args.ev ≡ None) (sym c.self.view_is) (sym c.in_default.ensures) in
    let going = goes (record { plain = plain c.self.inside.parts; ended = c.self.inside.ended }) c.args.ev none in
    λ living. stepped_good (plain c.self.inside.parts) (plain c.step.new.self) c.args.ev c.in-Ok.out (c.self.invariant going.living) going.admitted c.in-Ok.ensures
