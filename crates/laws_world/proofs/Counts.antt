-- After so many events no count of the world is above their number: so where a history has room for an entry more, each
-- count fits the code's numbers.
use Rattle.std.proofs.Common.{ℕ, ◌+◌, ◌≤◌, List, [], ◌∷◌, ◌++◌, length, map, Option, Some, None, subst, inl, inr, arith}
use Rattle.std.specs.Prelude.{◌==◌, slice_get}
use Rattle.std.proofs.lemmas.Bool.{cases_Bool}
use Rattle.std.proofs.lemmas.List.{length-append, length-map}
use Rattle.it_types.specs.declared.id.NodeId.{NodeId}
use Rattle.it_types.specs.declared.id.ObjId.{ObjId}
use Rattle.it_types.specs.declared.id.PackNo.{PackNo}
use Rattle.it_types.specs.declared.event.Event.{Event}
use Rattle.it_types.specs.declared.event.Event.TheVariants as events
use Rattle.it_types.specs.declared.entry.Entry.{Entry}
use Rattle.it_types.specs.declared.conf.KConf.{KConf}
use Rattle.it_types.specs.declared.node_conf.Conf.{Conf}
use Rattle.it_types.specs.Configuration.{kernel_conf, first_conf, second_conf}
use Rattle.spec_node.specs.declared.event.NodeEv.{NodeEv}
use Rattle.spec_node.specs.declared.event.NodeEv.TheVariants.{Call, Return, Begin, Finish, Tick, Arrive}
use Rattle.spec_node.specs.PlainNode.{PlainNode, opened_node}
use Rattle.spec_node.specs.NodeStep.{node_step}
use Rattle.spec_world.specs.PlainWorld.{Packet, PlainWorld, packet_from, peer_of, step_at, delivery, step, opened_world}
use Rattle.spec_world.specs.History.{after}
use Rattle.laws_kernel.proofs.Drawing.{opened-next_rank}
use Rattle.laws_node.specs.EndPoints.{HasKeptPoints}
use Rattle.laws_node.proofs.KeepingRows.{points_kept}
use Rattle.laws_node.proofs.Rest.{Rests}
use Rattle.laws_world.specs.Taken.{OfBoth}
use Rattle.laws_world.proofs.Growth.{node_steps_on, node_sends_one}
use Rattle.laws_world.proofs.Rest.{step_rests, opening_kept}

pub record IsWithin (m : ℕ) (n : PlainNode) : Type 0 where
  pub calls : n.calls ≤ m
  pub now : n.kernel.clock.now ≤ m
  pub ranks : n.kernel.next_rank ≤ m

-- the call numbers, ticks and ranks of each node, and the packets, are at most m
pub record AreWithin (m : ℕ) (w : PlainWorld) : Type 0 where
  pub first : IsWithin m w.nodes.first
  pub second : IsWithin m w.nodes.second
  pub packets : length w.packets ≤ m

node_within : (m : ℕ) (n : PlainNode) → IsWithin m n → IsWithin (m + 1) n
node_within m n h = record { calls = omega (arith, h.calls); now = omega (arith, h.now); ranks = omega (arith, h.ranks) }

within_more : (m : ℕ) (w : PlainWorld) → AreWithin m w → AreWithin (m + 1) w
within_more m w h = record { first = node_within m w.nodes.first h.first; second = node_within m w.nodes.second h.second; packets = omega (arith, h.packets) }

node_step_within : (m : ℕ) (n : PlainNode) (event : NodeEv) → IsWithin m n → IsWithin (m + 1) (node_step n event).0
node_step_within m n event h = let on = node_steps_on n event in record { calls = omega (arith, on.calls, h.calls); now = omega (arith, on.now, h.now); ranks = omega (arith, on.ranks, h.ranks) }

packets_more : (m : ℕ) (packets : List Packet) (id : NodeId) (sent : List (List ℕ)) → length packets ≤ m → length sent ≤ 1 → length (packets ++ map (packet_from id) sent) ≤ m + 1
packets_more m packets id sent le few = omega (arith, length-append packets (map (packet_from id) sent), length-map sent (packet_from id))

step_at_within : (m : ℕ) (w : PlainWorld) (id : NodeId) (node_event : NodeEv) (event : Event) → OfBoth HasKeptPoints w → AreWithin m w → AreWithin (m + 1) (step_at w id node_event event).0
step_at_within m w id node_event event kept h = elim (cases_Bool (id.0 == 0)) [
  | inl t ↦ rw t (record {
    first = node_step_within m w.nodes.first node_event h.first;
    second = node_within m w.nodes.second h.second;
    packets = packets_more m w.packets id (node_step w.nodes.first node_event).1.packs h.packets (node_sends_one w.nodes.first node_event kept.first);
  })
  | inr f ↦ rw f (record {
    first = node_within m w.nodes.first h.first;
    second = node_step_within m w.nodes.second node_event h.second;
    packets = packets_more m w.packets id (node_step w.nodes.second node_event).1.packs h.packets (node_sends_one w.nodes.second node_event kept.second);
  })
]

delivery_within : (m : ℕ) (w : PlainWorld) (number : PackNo) (found : Option Packet) → OfBoth HasKeptPoints w → AreWithin m w → AreWithin (m + 1) (delivery w number found).0
delivery_within m w number None kept h = within_more m w h
delivery_within m w number (Some packet) kept h = step_at_within m w (peer_of packet.sender) (Arrive packet.bytes) (events.Deliver number) kept h

-- where only receives wait at the end points of both nodes
pub step_within : (m : ℕ) (w : PlainWorld) (event : Event) → OfBoth HasKeptPoints w → AreWithin m w → AreWithin (m + 1) (step w event).0
unfolding step
step_within m w (events.Call id ctx request) kept h = step_at_within m w id (Call ctx request) (events.Call id ctx request) kept h
step_within m w (events.Return id task) kept h = step_at_within m w id (Return task) (events.Return id task) kept h
step_within m w (events.Begin id) kept h = step_at_within m w id Begin (events.Begin id) kept h
step_within m w (events.Finish id) kept h = step_at_within m w id Finish (events.Finish id) kept h
step_within m w (events.Tick id) kept h = step_at_within m w id Tick (events.Tick id) kept h
step_within m w (events.Deliver number) kept h = delivery_within m w number (slice_get w.packets number.0) kept h
step_within m w events.Stop kept h = within_more m w h

both_kept : (w : PlainWorld) → OfBoth Rests w → OfBoth HasKeptPoints w
both_kept w rest = record { first = points_kept w.nodes.first.net rest.first.net; second = points_kept w.nodes.second.net rest.second.net }

after_within : (m : ℕ) (w : PlainWorld) (es : List Entry) → OfBoth Rests w → AreWithin m w → AreWithin (m + length es) (after w es)
after_within m w [] rest h = subst (λ k. AreWithin k w) (omega arith) h
after_within m w (e ∷ es) rest h =
    subst (λ k. AreWithin k (after (step w e.ev).0 es)) (omega arith) (after_within (m + 1) (step w e.ev).0 es (step_rests w e.ev rest) (step_within m w e.ev (both_kept w rest) h))

opened_within : (conf : KConf) (addr : ℕ) (routines : List ObjId) → IsWithin 0 (opened_node conf addr routines)
opened_within conf addr routines = record { calls = omega arith; now = omega arith; ranks = omega (arith, opened-next_rank conf) }

-- after the events of a history no count is above its length
pub within_length : (conf : Conf) (log : List Entry) → AreWithin (length log) (after (opened_world conf) log)
within_length conf log = subst (λ k. AreWithin k (after (opened_world conf) log)) (omega arith)
    (after_within 0 (opened_world conf) log (opening_kept conf) (record {
      first = opened_within (kernel_conf (first_conf conf)) (first_conf conf).addr (first_conf conf).cbrs;
      second = opened_within (kernel_conf (second_conf conf)) (second_conf conf).addr (second_conf conf).cbrs;
      packets = omega arith;
    }))
