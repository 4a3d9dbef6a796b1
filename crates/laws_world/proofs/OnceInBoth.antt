-- The entries of a run that are events of one node are those of a list of its own events: so each of its calls ends once.
use Rattle.std.proofs.Common.{◌≡◌, ◌≢◌, ℕ, zero, suc, ◌≤◌, Bool, true, false, List, [], ◌∷◌, ◌++◌, Option, Some, None, map, slice_get, refl, sym, ap, ◌∙◌, subst, inl, inr, arith}
use Rattle.std.specs.Prelude.{◌==◌, nat_le}
use Rattle.std.proofs.lemmas.Bool.{cases_Bool, eqb-true, eq-eqb, and_parts, leb-true}
use Rattle.it_types.specs.declared.id.NodeId.{NodeId}
use Rattle.it_types.specs.declared.event.Event.{Event}
use Rattle.it_types.specs.declared.event.Event.TheVariants as events
use Rattle.it_types.specs.declared.entry.Out.{Out}
use Rattle.it_types.specs.declared.entry.Entry.{Entry}
use Rattle.it_types.specs.declared.node_conf.Conf.{Conf}
use Rattle.it_types.specs.Configuration.{kernel_conf, first_conf, second_conf}
use Rattle.spec_node.specs.declared.event.NodeEv.{NodeEv}
use Rattle.spec_node.specs.declared.event.NodeEv.TheVariants.{Call, Return, Begin, Finish, Tick, Arrive}
use Rattle.spec_node.specs.PlainNode.{PlainNode}
use Rattle.spec_node.specs.NodeStep.{node_step}
use Rattle.spec_node.specs.Admitted as node
use Rattle.spec_world.specs.PlainWorld.{Nodes, Packet, PlainWorld, node_at, with_node, peer_of, packet_from, step_at, step, opened_world}
use Rattle.spec_world.specs.Admitted.{is_admitted, is_admitted_at}
use Rattle.spec_world.specs.History.{RunsFrom, IsRun}
use Rattle.laws_calls.specs.Once.{NodeEntry, Once, entry_at, log_of}
use Rattle.laws_calls.proofs.OnceAlong.{once_along}
use Rattle.laws_world.specs.Taken.{CanOpen}
use Rattle.laws_world.specs.Packets.{node_of}
use Rattle.laws_world.specs.OnceInBoth.{arrival, node_event, out_of, with_entry, entries_at, LogOnce}
use Rattle.laws_world.proofs.Sending.{step_sends}

-- ---- where an event happens

-- it is this event of its node, which is one of both and admits it
pub record HappensAt (w : PlainWorld) (event : Event) (id : NodeId) (its : NodeEv) : Type 0 where
  pub stepped : step w event ≡ step_at w id its event
  pub admitted : node.is_admitted (node_at w.nodes id) its ≡ true
  pub within : id.0 ≤ 1

pub data Happens (w : PlainWorld) (event : Event) (id : NodeId) : Option NodeEv → Type 0 where
  nowhere : (step w event).0.nodes ≡ w.nodes → (step w event).1.ends ≡ [] → Happens w event id None
  here : (its : NodeEv) → HappensAt w event id its → Happens w event id (Some its)

admitted_at : (nodes : Nodes) (id : NodeId) (event : NodeEv) → is_admitted_at nodes id event ≡ true → (node.is_admitted (node_at nodes id) event ≡ true) × (id.0 ≤ 1)
admitted_at nodes id event e = let parts = and_parts (nat_le id.0 1) (node.is_admitted (node_at nodes id) event) e in (parts.1, leb-true id.0 1 parts.0)

peer_within : (id : NodeId) → (peer_of id).0 ≤ 1
peer_within id = elim (cases_Bool (id.0 == 0)) [
  | inl t ↦ rw t (omega arith)
  | inr t ↦ rw t (omega arith)
]

pub happens : (w : PlainWorld) (event : Event) → is_admitted w event ≡ true → Happens w event (node_of w.packets event) (node_event w.packets event)
unfolding step
happens w (events.Call id ctx request) e = let can = admitted_at w.nodes id (Call ctx request) e in Happens.here (Call ctx request) (record { stepped = refl; admitted = can.0; within = can.1 })
happens w (events.Return id task) e = let can = admitted_at w.nodes id (Return task) e in Happens.here (Return task) (record { stepped = refl; admitted = can.0; within = can.1 })
happens w (events.Begin id) e = let can = admitted_at w.nodes id Begin e in Happens.here Begin (record { stepped = refl; admitted = can.0; within = can.1 })
happens w (events.Finish id) e = let can = admitted_at w.nodes id Finish e in Happens.here Finish (record { stepped = refl; admitted = can.0; within = can.1 })
happens w (events.Tick id) e = let can = admitted_at w.nodes id Tick e in Happens.here Tick (record { stepped = refl; admitted = can.0; within = can.1 })
happens w (events.Deliver number) e = of (slice_get w.packets number.0) refl
  where
    of : (found : Option Packet) → slice_get w.packets number.0 ≡ found → Happens w (events.Deliver number) (node_of w.packets (events.Deliver number)) (arrival found)
    of None is = Happens.nowhere (rw is refl) (rw is refl)
    of (Some packet) is = rw is (Happens.here (Arrive packet.bytes) (record { stepped = rw is refl; admitted = refl; within = peer_within packet.sender }))
happens w events.Stop e = Happens.nowhere refl refl

-- ---- the node, and the other

node_with : (nodes : Nodes) (id : NodeId) (n : PlainNode) → node_at (with_node nodes id n) id ≡ n
node_with nodes id n = elim (cases_Bool (id.0 == 0)) [
  | inl t ↦ rw t refl
  | inr t ↦ rw t refl
]

other_with : (nodes : Nodes) (id other : NodeId) (n : PlainNode) → id.0 ≤ 1 → other.0 ≤ 1 → id.0 ≢ other.0 → node_at (with_node nodes id n) other ≡ node_at nodes other
other_with nodes id other n low_id low_other ne = of (id.0 == 0) (other.0 == 0) refl refl
  where
    of : (a b : Bool) → (id.0 == 0) ≡ a → (other.0 == 0) ≡ b → node_at (with_node nodes id n) other ≡ node_at nodes other
    of true true e f = absurd (ne (eqb-true id.0 0 e ∙ sym (eqb-true other.0 0 f)))
    of true false e f = rw (e, f) refl
    of false true e f = rw (e, f) refl
    of false false e f = absurd (ne (omega (arith, low_id, low_other, some id.0 e, some other.0 f)))
      where
        some : (m : ℕ) → (m == 0) ≡ false → 1 ≤ m
        some zero e = absurd cc
        some (suc m) e = omega arith

-- ---- the entries of one node

abbrev events_of : List NodeEntry → List NodeEv
events_of entries = map (λ (x : NodeEntry). x.event) entries

-- one entry more in front
one_entry : (w : PlainWorld) (e : Entry) (id at : NodeId) (o : Option NodeEv) (rest : List NodeEntry)
    → id.0 ≤ 1
    → (step w e.ev).1 ≡ e
    → Happens w e.ev at o
    → rest ≡ log_of (node_at (step w e.ev).0.nodes id) (events_of rest)
    → with_entry (at.0 == id.0) o (out_of e) rest ≡ log_of (node_at w.nodes id) (events_of (with_entry (at.0 == id.0) o (out_of e) rest))
one_entry w e id at _ rest low given (Happens.nowhere same none) later = later ∙ ap (λ (nodes : Nodes). log_of (node_at nodes id) (events_of rest)) same
one_entry w e id at _ rest low given (Happens.here its h) later = of (at.0 == id.0) refl
  where
    n : PlainNode
    n = node_at w.nodes at

    after : (step w e.ev).0.nodes ≡ with_node w.nodes at (node_step n its).0
    after = ap (λ (x : PlainWorld × Entry). x.0.nodes) h.stepped

    gives : (node_step n its).1 ≡ out_of e
    gives = sym (ap (λ (x : PlainWorld × Entry). out_of x.1) h.stepped) ∙ ap out_of given

    follows : (m : PlainNode) → node_at (with_node w.nodes at (node_step n its).0) id ≡ m → rest ≡ log_of m (events_of rest)
    follows m is = later ∙ ap (λ (nodes : Nodes). log_of (node_at nodes id) (events_of rest)) after ∙ ap (λ (x : PlainNode). log_of x (events_of rest)) is

    taken : (m : PlainNode) (event : NodeEv) (es : List NodeEv) → node.is_admitted m event ≡ true → log_of m (event ∷ es) ≡ entry_at m event ∷ log_of (node_step m event).0 es
    taken m event es can = rw can refl

    its_entry : at ≡ id → record { event = its; out = out_of e } ∷ rest ≡ log_of (node_at w.nodes id) (its ∷ events_of rest)
    its_entry same =
        let m : PlainNode = (node_step (node_at w.nodes at) its).0 in
        let later_ones : rest ≡ log_of m (events_of rest) = follows m (subst (λ i. node_at (with_node w.nodes at m) i ≡ m) same (node_with w.nodes at m)) in
        subst (λ i. record { event = its; out = out_of e } ∷ rest ≡ log_of (node_at w.nodes i) (its ∷ events_of rest)) same
        (
        ap (λ (es : List NodeEntry). record { event = its; out = out_of e } ∷ es) later_ones
        ∙ ap (λ (out : Out). record { event = its; out = out } ∷ log_of m (events_of rest)) (sym gives)
        ∙ sym (taken (node_at w.nodes at) its (events_of rest) h.admitted)
        )

    of : (b : Bool) → (at.0 == id.0) ≡ b → with_entry b (Some its) (out_of e) rest ≡ log_of (node_at w.nodes id) (events_of (with_entry b (Some its) (out_of e) rest))
    of false other = follows (node_at w.nodes id) (other_with w.nodes at id (node_step n its).0 h.within low (λ same. let f : true ≡ false = sym (eq-eqb at.0 id.0 same) ∙ other in absurd cc))
    of true same = its_entry (ap (λ i. record { 0 = i }) (eqb-true at.0 id.0 same))

run_entries : (id : NodeId) → id.0 ≤ 1 → (w : PlainWorld) (before log : List Entry) → RunsFrom w before log → entries_at id w.packets log ≡ log_of (node_at w.nodes id) (events_of (entries_at id w.packets log))
run_entries id low w before [] runs = refl
run_entries id low w before (e ∷ es) runs =
    let next : PlainWorld = (step w e.ev).0 in
    let sent : next.packets ≡ w.packets ++ map (packet_from (node_of w.packets e.ev)) e.packs =
    step_sends w e.ev ∙ ap (λ (x : Entry). w.packets ++ map (packet_from (node_of w.packets e.ev)) x.packs) runs.0.given in
    let later = run_entries id low next (before ++ e ∷ []) es runs.1 in
    one_entry w e id (node_of w.packets e.ev) (node_event w.packets e.ev) (entries_at id (w.packets ++ map (packet_from (node_of w.packets e.ev)) e.packs) es) low runs.0.given (happens w e.ev runs.0.admitted)
    (subst (λ (packets : List Packet). entries_at id packets es ≡ log_of (node_at next.nodes id) (events_of (entries_at id packets es))) sent later)

-- ---- the law

pub log_once : (conf : Conf) (log : List Entry) → CanOpen conf → IsRun conf log → LogOnce log
log_once conf log can runs = record {
  first = (
      let run = run_entries (record { 0 = 0 }) (omega arith) (opened_world conf) [] log runs in
      subst Once (sym run) (once_along (kernel_conf (first_conf conf)) (first_conf conf).addr (first_conf conf).cbrs (events_of (entries_at (record { 0 = 0 }) [] log)) can.first)
      );
  second = (
      let run = run_entries (record { 0 = 1 }) (omega arith) (opened_world conf) [] log runs in
      subst Once (sym run) (once_along (kernel_conf (second_conf conf)) (second_conf conf).addr (second_conf conf).cbrs (events_of (entries_at (record { 0 = 1 }) [] log)) can.second)
      );
}
