-- What is sent over a run of the machine of two nodes.
use Rattle.std.proofs.Common.{◌≡◌, ℕ, List, [], ◌∷◌, ◌++◌, map, slice_get, Option, Some, None, refl, sym, ◌∙◌, ap, append_assoc}
use Rattle.std.proofs.lemmas.List.{append-nil, map-append}
use Rattle.it_types.specs.declared.id.NodeId.{NodeId}
use Rattle.it_types.specs.declared.id.PackNo.{PackNo}
use Rattle.it_types.specs.declared.event.Event.{Event}
use Rattle.it_types.specs.declared.event.Event.TheVariants as events
use Rattle.it_types.specs.declared.entry.Entry.{Entry}
use Rattle.it_types.specs.declared.node_conf.Conf.{Conf}
use Rattle.spec_world.specs.PlainWorld.{Packet, PlainWorld, packet_from, delivery, step, opened_world}
use Rattle.spec_world.specs.History.{after, RunsFrom, IsRun}
use Rattle.laws_world.specs.Packets.{receiver, node_of, sent_in, bytes_of, all_packs}

-- a step sends the packets of its entry, from the node at which its event happens
abbrev Sends : PlainWorld → Event → PlainWorld × Entry → Type 0
Sends w event x = x.0.packets ≡ w.packets ++ map (packet_from (node_of w.packets event)) x.1.packs

delivery_sends : (w : PlainWorld) (number : PackNo) (found : Option Packet) → (delivery w number found).0.packets ≡ w.packets ++ map (packet_from (receiver found)) (delivery w number found).1.packs
delivery_sends w number None = sym (append-nil w.packets)
delivery_sends w number (Some packet) = refl

pub step_sends : (w : PlainWorld) (event : Event) → Sends w event (step w event)
unfolding step
step_sends w (events.Call id ctx request) = refl
step_sends w (events.Return id task) = refl
step_sends w (events.Begin id) = refl
step_sends w (events.Finish id) = refl
step_sends w (events.Tick id) = refl
step_sends w (events.Deliver number) = delivery_sends w number (slice_get w.packets number.0)
step_sends w events.Stop = sym (append-nil w.packets)

-- the packets after the entries of a run, from any world on
pub run_sends : (w : PlainWorld) (before log : List Entry) → RunsFrom w before log → (after w log).packets ≡ sent_in w.packets log
run_sends w before [] runs = refl
run_sends w before (e ∷ es) runs =
    run_sends (step w e.ev).0 (before ++ e ∷ []) es runs.1
    ∙ ap (λ ps. sent_in ps es) (step_sends w e.ev ∙ ap (λ (x : Entry). w.packets ++ map (packet_from (node_of w.packets e.ev)) x.packs) runs.0.given)

pub packets_sent : (conf : Conf) (log : List Entry) → IsRun conf log → (after (opened_world conf) log).packets ≡ sent_in [] log
packets_sent conf log runs = run_sends (opened_world conf) [] log runs

-- ---- their bytes

bytes_from : (id : NodeId) (packs : List (List ℕ)) → map bytes_of (map (packet_from id) packs) ≡ packs
bytes_from id [] = refl
bytes_from id (p ∷ ps) = ap (λ qs. p ∷ qs) (bytes_from id ps)

sent_bytes : (before : List Packet) (log : List Entry) → map bytes_of (sent_in before log) ≡ map bytes_of before ++ all_packs log
sent_bytes before [] = sym (append-nil (map bytes_of before))
sent_bytes before (e ∷ es) =
    sent_bytes (before ++ map (packet_from (node_of before e.ev)) e.packs) es
    ∙ ap (λ qs. qs ++ all_packs es) (map-append bytes_of before (map (packet_from (node_of before e.ev)) e.packs) ∙ ap (λ qs. map bytes_of before ++ qs) (bytes_from (node_of before e.ev) e.packs))
    ∙ append_assoc (map bytes_of before) e.packs (all_packs es)

pub bytes_sent : (conf : Conf) (log : List Entry) → IsRun conf log → map bytes_of (after (opened_world conf) log).packets ≡ all_packs log
bytes_sent conf log runs = ap (map bytes_of) (packets_sent conf log runs) ∙ sent_bytes [] log
