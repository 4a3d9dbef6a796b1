-- Over every list of events of a node each end has a cause, and no end has two.
use Rattle.std.proofs.Common.{◌≡◌, ℕ, Bool, true, false, List, [], ◌∷◌, refl}
use Rattle.it_types.specs.declared.id.ObjId.{ObjId}
use Rattle.it_types.specs.declared.conf.KConf.{KConf}
use Rattle.spec_kernel.specs.Opening.{IsDeclarable}
use Rattle.spec_node.specs.declared.event.NodeEv.{NodeEv}
use Rattle.spec_node.specs.PlainNode.{PlainNode, opened_node}
use Rattle.spec_node.specs.NodeStep.{node_step}
use Rattle.spec_node.specs.Admitted.{is_admitted}
use Rattle.laws_node.specs.Taken.{taken}
use Rattle.laws_node.proofs.Agreeing.{Good, agree, step_good, opening_good}
use Rattle.laws_calls.specs.Cause.{EndsAreCaused, CausesAreOne, EachTaken}
use Rattle.laws_calls.proofs.CauseSome.{ends_caused}
use Rattle.laws_calls.proofs.CauseOne.{one_cause}

taken_good : (n : PlainNode) (event : NodeEv) → Good n → Good (taken n event)
taken_good n event g = of (is_admitted n event) (λ e. step_good n event e g)
  where
    of : (b : Bool) → (b ≡ true → Good (node_step n event).0) → Good (elim b [ true ↦ (node_step n event).0 | false ↦ n ])
    of true stepped = stepped refl
    of false stepped = g

-- what holds of each event that is taken at a node whose parts agree holds along any list of events
each_along : (P : PlainNode → NodeEv → Type 0)
    → ((n : PlainNode) (event : NodeEv) → Good n → is_admitted n event ≡ true → P n event)
    → (n : PlainNode) (events : List NodeEv)
    → Good n
    → EachTaken P n events
each_along P holds n [] g = tt
each_along P holds n (event ∷ events) g = (holds n event g, each_along P holds (taken n event) events (taken_good n event g))

pub good_caused : (n : PlainNode) (event : NodeEv) → Good n → is_admitted n event ≡ true → EndsAreCaused n event
good_caused n event g e = ends_caused n event e g.holds.sound.stands

pub caused_along : (conf : KConf) (addr : ℕ) (routines : List ObjId) (events : List NodeEv)
    → IsDeclarable conf
    → EachTaken EndsAreCaused (opened_node conf addr routines) events
caused_along conf addr routines events can = each_along EndsAreCaused good_caused (opened_node conf addr routines) events (opening_good conf addr routines can)

pub one_along : (conf : KConf) (addr : ℕ) (routines : List ObjId) (events : List NodeEv)
    → IsDeclarable conf
    → EachTaken CausesAreOne (opened_node conf addr routines) events
one_along conf addr routines events can = each_along CausesAreOne (λ n event g e. one_cause n event (agree n g)) (opened_node conf addr routines) events (opening_good conf addr routines can)
