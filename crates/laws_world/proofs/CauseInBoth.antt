-- Each end of a call in a run has exactly one cause, at the node at which it ends.
use Rattle.std.proofs.Common.{◌≡◌, List, [], ◌∷◌, ◌++◌, Option, sym, ap, ◌∙◌, subst, inl, inr}
use Rattle.std.specs.Prelude.{◌==◌}
use Rattle.std.specs.List.{AllByRecursion}
use Rattle.std.proofs.lemmas.Bool.{cases_Bool}
use Rattle.it_types.specs.declared.id.NodeId.{NodeId}
use Rattle.it_types.specs.declared.entry.CallEnd.{CallEnd}
use Rattle.it_types.specs.declared.entry.Entry.{Entry}
use Rattle.it_types.specs.declared.node_conf.Conf.{Conf}
use Rattle.spec_node.specs.declared.event.NodeEv.{NodeEv}
use Rattle.spec_node.specs.PlainNode.{PlainNode}
use Rattle.spec_node.specs.NodeStep.{node_step}
use Rattle.spec_world.specs.PlainWorld.{PlainWorld, node_at, step, opened_world}
use Rattle.spec_world.specs.History.{RunsFrom, IsRun}
use Rattle.laws_node.proofs.Agreeing.{Good, agree, step_good}
use Rattle.laws_calls.specs.Cause.{HasCause, CausesAreOne}
use Rattle.laws_calls.proofs.CauseAlong.{good_caused}
use Rattle.laws_calls.proofs.CauseOne.{one_cause}
use Rattle.laws_world.specs.Taken.{CanOpen, taken, OfBoth}
use Rattle.laws_world.specs.Packets.{node_of}
use Rattle.laws_world.specs.OnceInBoth.{node_event}
use Rattle.laws_world.specs.CauseInBoth.{HasOneCause, AreCaused, CausedFrom, LogCaused}
use Rattle.laws_world.proofs.Both.{taken_keeps, opened_good}
use Rattle.laws_world.proofs.OnceInBoth.{Happens, happens}

good_at : (w : PlainWorld) (id : NodeId) → OfBoth Good w → Good (node_at w.nodes id)
good_at w id g = elim (cases_Bool (id.0 == 0)) [
  | inl t ↦ rw t g.first
  | inr t ↦ rw t g.second
]

all_one : (n : PlainNode) (event : NodeEv) (ends : List CallEnd)
    → CausesAreOne n event
    → AllByRecursion (HasCause n event) ends
    → AllByRecursion (HasOneCause n event) ends
all_one n event [] one h = tt
all_one n event (e ∷ es) one h = (record { some = h.0; one = one e }, all_one n event es one h.1)

entry_caused : (w : PlainWorld) (e : Entry) (id : NodeId) (its : Option NodeEv)
    → (step w e.ev).1 ≡ e
    → Happens w e.ev id its
    → Good (node_at w.nodes id)
    → AreCaused (node_at w.nodes id) its e.ends
entry_caused w e id _ given (Happens.nowhere same none) g = sym (ap (λ (x : Entry). x.ends) given) ∙ none
entry_caused w e id _ given (Happens.here its h) g =
    let n : PlainNode = node_at w.nodes id in
    let gives : (node_step n its).1.ends ≡ e.ends = sym (ap (λ (x : PlainWorld × Entry). x.1.ends) h.stepped) ∙ ap (λ (x : Entry). x.ends) given in
    subst (AllByRecursion (HasOneCause n its)) gives (all_one n its (node_step n its).1.ends (one_cause n its (agree n g)) (good_caused n its g h.admitted))

caused_from : (w : PlainWorld) (before log : List Entry) → OfBoth Good w → RunsFrom w before log → CausedFrom w log
caused_from w before [] g runs = tt
caused_from w before (e ∷ es) g runs =
    let kept : OfBoth Good (taken w e.ev) = taken_keeps Good step_good w e.ev g in
    let next : OfBoth Good (step w e.ev).0 = rw (runs.0.admitted, taken) at kept in
    (entry_caused w e (node_of w.packets e.ev) (node_event w.packets e.ev) runs.0.given (happens w e.ev runs.0.admitted) (good_at w (node_of w.packets e.ev) g), caused_from (step w e.ev).0 (before ++ e ∷ []) es next runs.1)

pub log_caused : (conf : Conf) (log : List Entry) → CanOpen conf → IsRun conf log → LogCaused conf log
log_caused conf log can runs = caused_from (opened_world conf) [] log (opened_good conf can) runs
