-- Each step keeps what a node keeps from event to event.
use Rattle.std.proofs.Common.{◌≡◌, true, false, None, subst}
use Rattle.it_types.specs.declared.entry.Out.{Out}
use Rattle.spec_node.specs.declared.event.NodeEv.{NodeEv}
use Rattle.spec_node.specs.PlainNode.{PlainNode}
use Rattle.spec_node.specs.NodeStep.{node_step}
use Rattle.spec_node.specs.Admitted.{is_admitted}
use Rattle.spec_node.specs.Stepping.{NodeState, refusal, refusals}
use Rattle.spec_lists.proofs.Refusing.{none_holds}
use Rattle.std.proofs.lemmas.Bool.{not-false}
use Rattle.laws_node.proofs.Agreeing.{Good, step_good}

-- an event that isn't refused is admitted, at a node that goes on
pub record Goes (n : NodeState) (event : NodeEv) : Type 0 where
  pub living : n.ended ≡ false
  pub admitted : is_admitted n.plain event ≡ true

pub goes : (n : NodeState) (event : NodeEv) → refusal n event ≡ None → Goes n event
goes n event none = let tests = none_holds (refusals n event) none in record { living = tests.0; admitted = not-false (is_admitted n.plain event) tests.1.0 }

pub stepped_good : (n after : PlainNode) (event : NodeEv) (out : Out) → Good n → is_admitted n event ≡ true → node_step n event ≡ (after, out) → Good after
stepped_good n after event out good admitted e = subst (λ (x : PlainNode × Out). Good x.0) e (step_good n event admitted good)
