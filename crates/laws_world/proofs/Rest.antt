-- Each event leaves both nodes at rest.
use Rattle.std.proofs.Common.{List, [], ◌∷◌}
use Rattle.it_types.specs.declared.event.Event.{Event}
use Rattle.it_types.specs.declared.entry.Entry.{Entry}
use Rattle.it_types.specs.declared.node_conf.Conf.{Conf}
use Rattle.it_types.specs.Configuration.{kernel_conf, first_conf, second_conf}
use Rattle.spec_node.specs.PlainNode.{PlainNode}
use Rattle.spec_world.specs.PlainWorld.{PlainWorld, step, opened_world}
use Rattle.spec_world.specs.Admitted.{is_admitted}
use Rattle.laws_node.specs.AtRest.{NodeRests}
use Rattle.laws_node.proofs.KeepingRows.{whole_kept}
use Rattle.laws_node.proofs.Rest as one_node
use Rattle.laws_node.proofs.Rest.{Rests, node_rests}
use Rattle.laws_world.specs.AtRest.{IsAtRest, HaveRightNames, NamesAreRight, RestsAlong, LogRests}
use Rattle.laws_world.specs.Taken.{OfBoth}
use Rattle.laws_world.proofs.Moves.{AlwaysKept, step_moves, move_keeps}

-- ---- what is kept from event to event

-- what each event of a node keeps, each event of the world keeps in both
pub step_keeps : (P : PlainNode → Type 0) → AlwaysKept P → (w : PlainWorld) (event : Event) → OfBoth P w → OfBoth P (step w event).0
step_keeps P keeps w event h =
    let moved = step_moves w event in
    record {
      first = move_keeps P (is_admitted w event) w.nodes.first (step w event).0.nodes.first keeps h.first moved.first;
      second = move_keeps P (is_admitted w event) w.nodes.second (step w event).0.nodes.second keeps h.second moved.second;
    }

pub step_rests : (w : PlainWorld) (event : Event) → OfBoth Rests w → OfBoth Rests (step w event).0
step_rests w event rest = step_keeps Rests one_node.step_rests w event rest

pub opening_kept : (conf : Conf) → OfBoth Rests (opened_world conf)
opening_kept conf = record {
  first = one_node.opening_rests (kernel_conf (first_conf conf)) (first_conf conf).addr (first_conf conf).cbrs;
  second = one_node.opening_rests (kernel_conf (second_conf conf)) (second_conf conf).addr (second_conf conf).cbrs;
}

-- ---- it comes to rest

at_rest : (w : PlainWorld) → OfBoth Rests w → IsAtRest w.nodes
at_rest w h = record { first = node_rests w.nodes.first h.first; second = node_rests w.nodes.second h.second }

pub opening_rests : (conf : Conf) → IsAtRest (opened_world conf).nodes
opening_rests conf = at_rest (opened_world conf) (opening_kept conf)

events_rest : (w : PlainWorld) (events : List Event) → OfBoth Rests w → RestsAlong w events
events_rest w [] rest = tt
events_rest w (event ∷ events) rest = let next = step_rests w event rest in (at_rest (step w event).0 next, events_rest (step w event).0 events next)

-- the nodes are at rest after each entry of a log
entries_rest : (w : PlainWorld) (log : List Entry) → OfBoth Rests w → LogRests w log
entries_rest w [] rest = tt
entries_rest w (e ∷ es) rest = let next = step_rests w e.ev rest in (at_rest (step w e.ev).0 next, entries_rest (step w e.ev).0 es next)

-- and so from every opening on
pub log_rests : (conf : Conf) (log : List Entry) → LogRests (opened_world conf) log
log_rests conf log = entries_rest (opened_world conf) log (opening_kept conf)

-- and from any nodes at rest on whose names are right
node_kept : (n : PlainNode) → NodeRests n → NamesAreRight n → Rests n
node_kept n rest names = record { kernel = rest.none_ready; past = rest.none_past; net = record { rests = rest.none_met; kept = whole_kept n.net rest.points names.routines names.points } }

pub always : (w : PlainWorld) (events : List Event) → IsAtRest w.nodes → HaveRightNames w.nodes → RestsAlong w events
always w events rest names = events_rest w events (record { first = node_kept w.nodes.first rest.first names.first; second = node_kept w.nodes.second rest.second names.second })
