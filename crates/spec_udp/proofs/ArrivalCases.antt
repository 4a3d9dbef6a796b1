-- Datagrams case by case, where no call is ready before: one that no end point is for, or that has no place, changes nothing; one
-- at whose end point a receive waits ends it and leaves no trace; any other joins the queue, and the routine is told.
use Rattle.std.proofs.Common.{◌≡◌, ℕ, zero, suc, ◌+◌, ◌<◌, Bool, true, false, ◌&&◌, ◌||◌, List, [], ◌∷◌, ◌++◌, length, take, Option, Some, None, refl, sym, ap, subst, ◌∙◌, inl, inr, arith}
use Rattle.std.specs.Prelude.{◌==◌, nat_lt, if◌then◌else◌}
use Rattle.std.specs.Bool.{beq}
use Rattle.std.specs.List.{list_any}
use Rattle.std.proofs.lemmas.Bool.{cases_eq, eq-eqb, ne_eqb, eqb-true}
use Rattle.it_types.specs.declared.id.CepId.{CepId}
use Rattle.it_types.specs.declared.handler.FnCode.TheVariants as functions
use Rattle.spec_lists.specs.Tables.{get, change}
use Rattle.spec_lists.specs.First.{take_first}
use Rattle.spec_lists.proofs.Changes.{change_undone, get-change_other, get-change_same}
use Rattle.spec_lists.proofs.Firsts.{found, none_parts, or_first, same_first, some_parts}
use Rattle.spec_udp.specs.declared.point.Received.{Received}
use Rattle.spec_udp.specs.Points.{has_some, has_port, joined, queue_of, rest_of, without_oldest}
use Rattle.spec_udp.specs.Receiving.{receive_bytes, receive_code}
use Rattle.spec_pend.specs.declared.slot.Slot.{Slot}
use Rattle.spec_pend.specs.declared.slot.Part.{Part}
use Rattle.spec_pend.specs.declared.slot.Part.TheVariants.{Conn, Send, Recv}
use Rattle.spec_pend.specs.declared.call.NetCall.{NetCall}
use Rattle.spec_pend.specs.PlainPend.{no_endings}
use Rattle.spec_pend.specs.Slots.{at_slot, has_slot, part_number}
use Rattle.spec_pend.specs.Ends.{ended_as}
use Rattle.spec_udp.specs.declared.point.UdpPoint.{UdpPoint}
use Rattle.spec_udp.specs.PlainUdps.{UdpSide, UdpOutcome, queue_limit, quiet, side_after}
use Rattle.spec_udp.specs.Settling.{is_met, is_ready, met, met_bytes, met_code, met_packets, point_after, settled, UdpAtRest}
use Rattle.spec_udp.specs.Rows.{slot_of, with_point}
use Rattle.spec_udp.specs.Arrival.{at_point, has_place, is_event, queued, with_event, with_port}
use Rattle.spec_udp.proofs.Settling.{settled_none, settles_one}

-- ---- which end point

-- the first place whose end point has the port
pub with_port_at : (port id : ℕ) (points : List (Option UdpPoint)) (i : ℕ)
    → i < length points
    → take_first (has_port port) (take i points) ≡ None
    → has_port port (get points i) ≡ true
    → with_port id port points ≡ Some (record { 0 = id + i })
with_port_at port id [] i inside none has = absurd (omega (arith, inside))
with_port_at port id (point ∷ points) zero inside none has = let same : id ≡ id + 0 = omega arith in rw has (ap (λ n. Some (record { 0 = n })) same)
with_port_at port id (point ∷ points) (suc i) inside none has =
    let parts = none_parts (has_port port) point (take i points) none in
    let same : (id + 1) + i ≡ id + suc i = omega arith in
    rw parts.0 (with_port_at port (id + 1) points i (omega (arith, inside)) parts.1 has ∙ ap (λ n. Some (record { 0 = n })) same)

-- no end point has it
pub with_port_nowhere : (port id : ℕ) (points : List (Option UdpPoint)) → take_first (has_port port) points ≡ None → with_port id port points ≡ None
with_port_nowhere port id [] none = refl
with_port_nowhere port id (point ∷ points) none =
    let parts = none_parts (has_port port) point points none in
    rw parts.0 (with_port_nowhere port (id + 1) points parts.1)

-- ---- a receive's part of an end point

abbrev pub receives : CepId → Slot
receives cep = slot_of cep functions.UdpRcv

-- what stands in a call that waits there
record IsReceive (cep : CepId) (slot : Slot) : Type 0 where
  udp : slot.udp ≡ true
  at : slot.cep.0 ≡ cep.0
  part : slot.part ≡ Recv

receive_part : (part : Part) → (part_number part == 2) ≡ true → part ≡ Recv
receive_part Conn e = cc
receive_part Send e = cc
receive_part Recv e = refl

-- what a search at a part of an end point asks
pub three : (a b c : Bool) → ((beq a true && b) && c) ≡ true → (a ≡ true) × (b ≡ true) × (c ≡ true)
three true true true e = (refl, refl, refl)
three true true false e = cc
three true false c e = cc
three false b c e = cc

is_receive : (cep : CepId) (c : NetCall) → has_slot (receives cep) c ≡ true → IsReceive cep c.slot
is_receive cep c e =
    let parts = three c.slot.udp (c.slot.cep.0 == cep.0) (part_number c.slot.part == 2) e in
    record { udp = parts.0; at = eqb-true c.slot.cep.0 cep.0 parts.1; part = receive_part c.slot.part parts.2 }

-- ---- what a search found

-- where something was found, something passes
pub some_any : {X : Type 0} (f : X → Bool) (xs : List X) (z : X × List X) → take_first f xs ≡ Some z → list_any f xs ≡ true
some_any f [] z e = cc
some_any f (x ∷ xs) z e = elim (some_parts f x xs z e) [
  | inl s ↦ rw s.0 refl
  | inr s ↦ rw (s.1, some_any f xs s.0 s.2) refl
]

-- what is found by one test doesn't pass another that none passes
found_fails : {X : Type 0} (f g : X → Bool) (xs : List X) (z : X × List X) → take_first g xs ≡ None → take_first f xs ≡ Some z → g z.0 ≡ false
found_fails f g [] z n e = cc
found_fails f g (x ∷ xs) z n e = elim (some_parts f x xs z e) [
  | inl s ↦ rw s.1 (none_parts g x xs n).0
  | inr s ↦ rw s.3 (found_fails f g xs s.0 (none_parts g x xs n).1 s.2)
]

-- ---- what a datagram makes ready

some_last : (queue : List Received) (d : Received) → has_some (queue ++ d ∷ []) ≡ true
some_last [] d = refl
some_last (x ∷ xs) d = refl

nothing_there : (queue : List Received) → has_some queue ≡ false → queue ≡ []
nothing_there [] e = refl
nothing_there (d ∷ ds) e = cc

module _ (s : UdpSide) (cep : CepId) (p : UdpPoint) (d : Received) (there : get s.udps.points cep.0 ≡ Some p) (rest : UdpAtRest s) where
  abbrev after : List (Option UdpPoint)
  after = change s.udps.points cep.0 (joined d)

  now_there : get after cep.0 ≡ Some (record p { queue = p.queue ++ d ∷ [] })
  now_there = get-change_same s.udps.points cep.0 (joined d) p there

  -- at this end point
  met_here : (udp : Bool) (part : Part)
      → (udp && is_met (get after cep.0) part) ≡ (((beq udp true && true) && (part_number part == 2)) || (udp && is_met (get s.udps.points cep.0) part))
  met_here false part = refl
  met_here true Conn = refl
  met_here true Send = refl
  met_here true Recv = ap (λ o. has_some (queue_of o)) now_there ∙ some_last p.queue d

  -- at another
  met_elsewhere : (udp : Bool) (part : Part) (b : Bool) → b ≡ ((beq udp true && false) && (part_number part == 2)) || b
  met_elsewhere false part b = refl
  met_elsewhere true part b = refl

  ready_after : (c : NetCall) → is_ready (record s.udps { points = after }) c ≡ (has_slot (receives cep) c || is_ready s.udps c)
  ready_after c = elim (cases_eq c.slot.cep.0 cep.0) [
    | inl same ↦ rw (eq-eqb c.slot.cep.0 cep.0 same, same) (met_here c.slot.udp c.slot.part)
    | inr other ↦ rw (ne_eqb c.slot.cep.0 cep.0 other, get-change_other s.udps.points cep.0 c.slot.cep.0 (joined d) other) (met_elsewhere c.slot.udp c.slot.part (is_ready s.udps c))
  ]

  -- the first call that waits there
  pub first_after : take_first (is_ready (record s.udps { points = after })) s.pend.calls ≡ at_slot s.pend (receives cep)
  first_after =
      same_first (is_ready (record s.udps { points = after })) (λ c. has_slot (receives cep) c || is_ready s.udps c) s.pend.calls ready_after ∙ or_first (has_slot (receives cep)) (is_ready s.udps) s.pend.calls rest

  -- no receive waits there: the datagram stays
  pub joins_rest : at_slot s.pend (receives cep) ≡ None → take_first (is_ready (record s.udps { points = after })) s.pend.calls ≡ None
  joins_rest none = first_after ∙ none

  -- ---- a datagram that ends a receive

  -- a receive waits only where nothing is queued
  empty_where : (x : NetCall × List NetCall) → at_slot s.pend (receives cep) ≡ Some x → p.queue ≡ []
  empty_where x e =
      let it = is_receive cep x.0 (found (has_slot (receives cep)) (is_ready s.udps) s.pend.calls x rest e).0 in
      let unmet : is_ready s.udps x.0 ≡ false = found_fails (has_slot (receives cep)) (is_ready s.udps) s.pend.calls x rest e in
      nothing_there p.queue (sym (ap (λ o. has_some (queue_of o)) there) ∙ sym (at_receive x.0.slot it) ∙ unmet)
    where
      at_receive : (slot : Slot) → IsReceive cep slot → (slot.udp && is_met (get s.udps.points slot.cep.0) slot.part) ≡ has_some (queue_of (get s.udps.points cep.0))
      at_receive slot it = rw (it.udp, it.at, it.part) refl

  -- the first receive that waits there ends with it, and the end point is as before
  pub ends_receive : (x : NetCall × List NetCall)
      → at_slot s.pend (receives cep) ≡ Some x
      → settled (quiet (with_point s cep (joined d))) ≡ record (quiet s) { endings = ended_as (no_endings s.pend) x (receive_code p.wanted d) (receive_bytes p.wanted d) }
  ends_receive x e =
      settles_one s.udps (quiet (with_point s cep (joined d))) x (first_after ∙ e) those.1 (λ i h. subst (λ (o : UdpOutcome). has_some (queue_of (get o.udps.points i)) ≡ true) same h) ∙ same
    where
      those : (has_slot (receives cep) x.0 ≡ true) × (take_first (is_ready s.udps) x.1 ≡ None)
      those = found (has_slot (receives cep)) (is_ready s.udps) s.pend.calls x rest e

      it : IsReceive cep x.0.slot
      it = is_receive cep x.0 those.0

      empty : p.queue ≡ []
      empty = empty_where x e

      outcome : ℕ → Part → UdpOutcome
      outcome i part = record (quiet s) {
        udps = record s.udps { points = change after i (point_after part) };
        endings = ended_as (no_endings s.pend) x (met_code (get after i) part) (met_bytes (get after i) part);
        packets = met_packets s.udps.addr (get after i) part;
      }

      back : change after cep.0 without_oldest ≡ s.udps.points
      back =
          change_undone s.udps.points cep.0 (joined d) without_oldest p there
          (ap (λ q. Some (record p { queue = rest_of (q ++ d ∷ []) })) empty ∙ ap (λ (q : List Received). Some (record p { queue = q })) (sym empty))

      ended_by : List (Option UdpPoint) → Option UdpPoint → UdpOutcome
      ended_by points o = record (quiet s) { udps = record s.udps { points = points }; endings = ended_as (no_endings s.pend) x (met_code o Recv) (met_bytes o Recv) }

      same : met (quiet (with_point s cep (joined d))) x ≡ record (quiet s) { endings = ended_as (no_endings s.pend) x (receive_code p.wanted d) (receive_bytes p.wanted d) }
      same =
          ap (λ i. outcome i x.0.slot.part) it.at
          ∙ ap (outcome cep.0) it.part
          ∙ ap (λ points. ended_by points (get after cep.0)) back
          ∙ ap (ended_by s.udps.points) (now_there ∙ ap (λ q. Some (record p { queue = q ++ d ∷ [] })) empty)

  -- where none waits, the datagram joins the queue, and the routine is told
  pub queued_settles : at_slot s.pend (receives cep) ≡ None → settled (queued s cep d) ≡ queued s cep d
  queued_settles none = settled_none (queued s cep d) (by_event (is_event s cep))
    where
      by_event : (event : Bool) → UdpAtRest (side_after (if event then with_event (quiet (with_point s cep (joined d))) cep (length d.load) else quiet (with_point s cep (joined d))))
      by_event true = joins_rest none
      by_event false = joins_rest none

  -- a datagram at whose end point a receive waits has a place and is no event
  pub has_room : (x : NetCall × List NetCall) → at_slot s.pend (receives cep) ≡ Some x → has_place (get s.udps.points cep.0) ≡ true
  has_room x e = ap has_place there ∙ ap (λ (q : List Received). nat_lt (length q) queue_limit) (empty_where x e)

  pub arrival_ends : (x : NetCall × List NetCall)
      → at_slot s.pend (receives cep) ≡ Some x
      → settled (at_point s d (Some cep)) ≡ record (quiet s) { endings = ended_as (no_endings s.pend) x (receive_code p.wanted d) (receive_bytes p.wanted d) }
  arrival_ends x e = rw (has_room x e, some_any (has_slot (receives cep)) s.pend.calls x e) (ends_receive x e)
