-- What each admitted event of a node keeps, every list of events keeps in both nodes.
use Rattle.std.proofs.Common.{◌≡◌, Bool, true, false, List, [], ◌∷◌, refl, arith}
use Rattle.it_types.specs.declared.event.Event.{Event}
use Rattle.it_types.specs.declared.node_conf.Conf.{Conf}
use Rattle.it_types.specs.Configuration.{kernel_conf, first_conf, second_conf}
use Rattle.spec_node.specs.declared.event.NodeEv.{NodeEv}
use Rattle.spec_node.specs.PlainNode.{PlainNode}
use Rattle.spec_node.specs.NodeStep.{node_step}
use Rattle.spec_node.specs.Admitted as node
use Rattle.spec_world.specs.PlainWorld.{PlainWorld, step, opened_world}
use Rattle.spec_world.specs.Admitted.{is_admitted}
use Rattle.laws_node.specs.Agreement.{PartsAgree}
use Rattle.laws_node.specs.EndPoints.{HasKeptPoints}
use Rattle.laws_node.specs.Running.{Stands, RunsFree}
use Rattle.laws_node.specs.Due.{DueOnce}
use Rattle.laws_node.proofs.Agreeing.{Good, agree, step_good, opening_good}
use Rattle.laws_node.proofs.RunsFree.{runs_free}
use Rattle.laws_node.proofs.KeepingRows.{points_kept}
use Rattle.laws_node.proofs.Rest.{Rests}
use Rattle.laws_node.proofs.Rest as one_node
use Rattle.laws_node.proofs.Dues.{step_once}
use Rattle.laws_world.specs.Taken.{CanOpen, taken, OfBoth, OfBothAlong}
use Rattle.laws_world.specs.BothNodes.{StandAlong, RunFreeAlong, AgreeAlong, KeptAlong, DueOnceAlong}
use Rattle.laws_world.proofs.Moves.{Moved, NodesMove, step_moves, AlwaysKept}
use Rattle.laws_world.proofs.Rest.{opening_kept}

-- each admitted event of a node keeps it
abbrev pub IsKept : (PlainNode → Type 0) → Type 0
IsKept P = (n : PlainNode) (event : NodeEv) → node.is_admitted n event ≡ true → P n → P (node_step n event).0

moved_keeps : (P : PlainNode → Type 0) (n m : PlainNode) → IsKept P → P n → Moved true n m → P m
moved_keeps P n m kept h (Moved.stays same) = rw same h
moved_keeps P n m kept h (Moved.moves event can after) = rw after (kept n event (can refl) h)

-- an event of the world, taken where it is admitted, keeps it in both nodes
pub taken_keeps : (P : PlainNode → Type 0) → IsKept P → (w : PlainWorld) (event : Event) → OfBoth P w → OfBoth P (taken w event)
taken_keeps P kept w event h = go (is_admitted w event) (step_moves w event)
  where
    go : (b : Bool) → NodesMove b w.nodes (step w event).0.nodes → OfBoth P (elim b [ true ↦ (step w event).0 | false ↦ w ])
    go true moved = record {
      first = moved_keeps P w.nodes.first (step w event).0.nodes.first kept h.first moved.first;
      second = moved_keeps P w.nodes.second (step w event).0.nodes.second kept h.second moved.second;
    }
    go false moved = h

-- what is kept, and all that follows from it, holds over every list of events
pub along : (P Q : PlainNode → Type 0) → IsKept P → ((n : PlainNode) → P n → Q n) → (w : PlainWorld) (events : List Event) → OfBoth P w → OfBothAlong Q w events
along P Q kept then w [] h = record { first = then w.nodes.first h.first; second = then w.nodes.second h.second }
along P Q kept then w (event ∷ events) h =
    (record { first = then w.nodes.first h.first; second = then w.nodes.second h.second }, along P Q kept then (taken w event) events (taken_keeps P kept w event h))

-- ---- what admitted events keep

pub opened_good : (conf : Conf) → CanOpen conf → OfBoth Good (opened_world conf)
opened_good conf can = record {
  first = opening_good (kernel_conf (first_conf conf)) (first_conf conf).addr (first_conf conf).cbrs can.first;
  second = opening_good (kernel_conf (second_conf conf)) (second_conf conf).addr (second_conf conf).cbrs can.second;
}

-- what follows from it holds over every list of events
good_along : (Q : PlainNode → Type 0) → ((n : PlainNode) → Good n → Q n) → (conf : Conf) (events : List Event) → CanOpen conf → OfBothAlong Q (opened_world conf) events
good_along Q then conf events can = along Good Q step_good then (opened_world conf) events (opened_good conf can)

pub agree_from_opening : (conf : Conf) (events : List Event) → CanOpen conf → AgreeAlong (opened_world conf) events
agree_from_opening conf events can = good_along PartsAgree agree conf events can

pub standing_from_opening : (conf : Conf) (events : List Event) → CanOpen conf → StandAlong (opened_world conf) events
standing_from_opening conf events can = good_along Stands (λ n g. g.holds.sound.stands) conf events can

pub free_from_opening : (conf : Conf) (events : List Event) → CanOpen conf → RunFreeAlong (opened_world conf) events
free_from_opening conf events can = good_along RunsFree (λ n g. runs_free n g.holds) conf events can

-- ---- what all events keep

always_along : (P Q : PlainNode → Type 0) → AlwaysKept P → ((n : PlainNode) → P n → Q n) → (w : PlainWorld) (events : List Event) → OfBoth P w → OfBothAlong Q w events
always_along P Q kept then w events h = along P Q (λ n event can p. kept n event p) then w events h

pub kept_from_opening : (conf : Conf) (events : List Event) → KeptAlong (opened_world conf) events
kept_from_opening conf events = always_along Rests HasKeptPoints one_node.step_rests (λ n rest. points_kept n.net rest.net) (opened_world conf) events (opening_kept conf)

opened_once : (conf : Conf) → OfBoth DueOnce (opened_world conf)
opened_once conf = record { first = λ cyc. omega arith; second = λ cyc. omega arith }

pub once_from_opening : (conf : Conf) (events : List Event) → DueOnceAlong (opened_world conf) events
once_from_opening conf events = always_along DueOnce DueOnce step_once (λ n h. h) (opened_world conf) events (opened_once conf)
