-- Each event of the UDP end points, at rest before, keeps them as they are to be, and leaves them at rest.
use Rattle.std.proofs.Common.{◌≡◌, ℕ, zero, suc, ◌<◌, ◌≤◌, true, false, ◌&&◌, List, [], ◌∷◌, ◌++◌, length, replicate, Option, Some, None, is_some, is_none, refl, sym, ap, subst, ◌∙◌, inl, inr, arith}
use Rattle.std.specs.Prelude.{◌==◌, nat_lt}
use Rattle.std.specs.List.{AllByRecursion}
use Rattle.std.proofs.lemmas.Bool.{cases_lt, ltb-true, ltb-false, cases_eq, eq-eqb, or_parts}
use Rattle.std.proofs.lemmas.List.{length-append, length-replicate, get_or-replicate, get_or_past}
use Rattle.it_types.specs.declared.id.TaskId.{TaskId}
use Rattle.it_types.specs.declared.id.ObjId.{ObjId}
use Rattle.it_types.specs.declared.id.CepId.{CepId}
use Rattle.it_types.specs.declared.id.CallNo.{CallNo}
use Rattle.it_types.specs.declared.er.Er.{Er}
use Rattle.it_types.specs.declared.er.TheConstants.{E_DLT, E_RLWAI}
use Rattle.it_types.specs.declared.timeout.Tmo.{Tmo}
use Rattle.it_types.specs.declared.context.Ctx.{Ctx}
use Rattle.it_types.specs.declared.handler.FnCode.TheVariants as functions
use Rattle.it_types.specs.declared.request.Req.{Req}
use Rattle.it_types.specs.Callers.{caller, is_nblk}
use Rattle.spec_lists.specs.Tables.{get}
use Rattle.spec_lists.specs.First.{is_least}
use Rattle.spec_lists.proofs.Counting.{one_if-at_most}
use Rattle.spec_lists.proofs.Firsts.{cases_of_first}
use Rattle.spec_udp.specs.declared.point.Received.{Received}
use Rattle.spec_udp.specs.Packets.{Arrived, arrived_in}
use Rattle.spec_pend.specs.declared.slot.Slot.{Slot}
use Rattle.spec_pend.specs.declared.call.Who.TheVariants as whos
use Rattle.spec_pend.specs.declared.call.NetCall.{NetCall}
use Rattle.spec_pend.specs.Slots.{part_number, part_of, is_at, has_slot, is_named, named, has_number, numbered}
use Rattle.spec_pend.specs.Slots as slots
use Rattle.spec_pend.specs.Kept.{IsCep}
use Rattle.spec_pend.proofs.Found.{all_more}
use Rattle.spec_udp.specs.Points.{is_wrong_id, has_port, routine_at, queue_of, joined, new_point, with_wanted, with_sending, without_oldest}
use Rattle.spec_udp.specs.declared.point.UdpPoint.{UdpPoint}
use Rattle.spec_udp.specs.PlainUdps.{PlainUdps, UdpSide, UdpOutcome, side_after, quiet, greatest_point, queue_limit, opened_udps}
use Rattle.spec_udp.specs.Ports.{is_taken, free_port, port_for}
use Rattle.spec_udp.specs.Rows.{is_untold, is_unknown, slot_of, with_point, deleted, who_is_told, row, udp_call}
use Rattle.spec_udp.specs.Settling.{is_ready, first_ready, UdpAtRest, point_after, met, settle, settled}
use Rattle.spec_udp.specs.Arrival.{with_port, has_place, is_event, with_event, queued, at_point, after_arrival, arrive}
use Rattle.spec_udp.specs.Outside.{ended_at, ended}
use Rattle.spec_udp.proofs.FreePorts.{free_port_free}
use Rattle.spec_udp.proofs.Settling.{udp_call_rests, arrive_rests, ended_rests}
use Rattle.laws_node.specs.Agreement.{times}
use Rattle.laws_node.specs.EndPoints.{IsReceive, PointsAreKept}
use Rattle.laws_node.proofs.RowActs.{either, row_acts}
use Rattle.laws_node.proofs.NetMoves.{calls_of}
use Rattle.laws_node.proofs.Alike.{AlikePoint, alike_at, same_points, alike_change, wanted_alike, sending_alike, oldest_alike, after_alike, Shrinks, none_times}
use Rattle.laws_node.proofs.Keeping.{IsUdpCall, HasCep, is_in, Kept, alike_kept, joined_kept, told_rightly}
use Rattle.laws_node.proofs.KeepingPoints.{all_receives, none_elsewhere, receives_at, made_kept, in_is_at, deleted_kept, none_left, where_shrinks}

none_as : (o p : Option UdpPoint) → is_some p ≡ is_some o → is_none o ≡ false → is_none p ≡ false
none_as None p same there = absurd cc
none_as (Some x) None same there = absurd cc
none_as (Some x) (Some y) same there = refl

is_cep : (cep : CepId) → is_wrong_id cep.0 ≡ false → IsCep cep
is_cep cep right =
    let parts = or_parts (cep.0 == 0) (nat_lt greatest_point cep.0) right in
    record { low = elim (cases_eq cep.0 0) [ inl none ↦ absurd (let f : true ≡ false = sym (eq-eqb cep.0 0 none) ∙ parts.0 in cc) | inr some ↦ omega (arith, some) ]; high = ltb-false greatest_point cep.0 parts.1 }

-- between events: no call is ready
pub record RestsKept (s : UdpSide) : Type 0 where
  pub rests : UdpAtRest s
  pub kept : Kept s.udps s.pend.calls

-- while an event goes on
abbrev KeptAfter : UdpOutcome → Type 0
KeptAfter o = Kept o.udps (calls_of o)

-- ---- settling

settle_kept : (n : ℕ) (o : UdpOutcome) → KeptAfter o → KeptAfter (settle n o)
unfolding settle
settle_kept zero o h = h
settle_kept (suc n) o h = elim (cases_of_first (first_ready (side_after o))) [
  | inl e ↦ rw e h
  | inr w ↦ (
      let z : NetCall × List NetCall = w.0 in
      let i : ℕ = z.0.slot.cep.0 in
      rw w.1 (settle_kept n (met o z) (
      alike_kept o.udps (met o z).udps (calls_of o) z.1 h (alike_change o.udps.points i (point_after z.0.slot.part) (after_alike z.0.slot.part (get o.udps.points i))) refl
      (Shrinks.one_ends (is_ready o.udps) z w.1)
      ))
      )
]

settled_kept : (o : UdpOutcome) → KeptAfter o → KeptAfter (settled o)
unfolding settled
settled_kept o h = settle_kept (length o.endings.pend.calls) o h

joined_alike : (d : Received) (o : Option UdpPoint) → length (queue_of o) < queue_limit → AlikePoint o (joined d o)
joined_alike d None room = record { port = λ n. refl; there = refl; routine = refl; room = λ h. h }
joined_alike d (Some p) room = record { port = λ n. refl; there = refl; routine = refl; room = λ h. omega (arith, length-append p.queue (d ∷ []), room) }

-- ---- the rows

-- a call ends, and no end point changes
shrunk_kept : (u : PlainUdps) (before after : List NetCall) → Kept u before → Shrinks before after → Kept u after
shrunk_kept u before after h shrinks = alike_kept u u before after h (same_points u.points) refl shrinks

module _ (s : UdpSide) (h : RestsKept s) where
  pub only_receives : AllByRecursion IsReceive s.pend.calls
  only_receives = all_receives s.udps s.pend.calls h.rests h.kept.kinds

  pub at_most_one : (cep : CepId) → times (is_at true cep) s.pend.calls ≤ 1
  at_most_one cep = omega (arith, receives_at cep.0 s.pend.calls only_receives, h.kept.places cep.0 2, one_if-at_most (is_some (get s.udps.points cep.0)))

  -- one end point changes into one that is alike
  changed_kept : (cep : CepId) (f : Option UdpPoint → Option UdpPoint) → AlikePoint (get s.udps.points cep.0) (f (get s.udps.points cep.0)) → Kept (with_point s cep f).udps s.pend.calls
  changed_kept cep f alike = alike_kept s.udps (with_point s cep f).udps s.pend.calls s.pend.calls h.kept (alike_change s.udps.points cep.0 f alike) refl Shrinks.none_ends

  free_for : (port : ℕ) → is_taken s.udps.points port ≡ false → is_taken s.udps.points (port_for s.udps.points port) ≡ false
  free_for port free = either (λ p. is_taken s.udps.points p ≡ false) (port == 0) (free_port s.udps.points) port (λ any. free_port_free s.udps.points) (λ own. free)

  delete_kept : (cep : CepId) → KeptAfter (deleted s cep)
  delete_kept cep = deleted_kept s.udps s.pend.calls (calls_of (deleted s cep)) cep h.kept
      (where_shrinks s.pend (is_least (is_named true cep functions.All) part_of s.pend.calls) (named s.pend true cep functions.All) E_DLT refl)
      (none_left s.pend cep (named s.pend true cep functions.All) E_DLT only_receives (at_most_one cep) refl)

  -- a call that is accepted, after a change of its end point to one that is alike
  accept_kept : (t : TaskId) (cep : CepId) (tmo : Tmo) (number : CallNo) (f : Option UdpPoint → Option UdpPoint) (slot : Slot)
      → AlikePoint (get s.udps.points cep.0) (f (get s.udps.points cep.0))
      → slot.cep ≡ cep
      → IsUdpCall (record { call = number; who = whos.Task t; slot = slot })
      → is_wrong_id cep.0 ≡ false
      → is_none (get s.udps.points cep.0) ≡ false
      → is_untold (get s.udps.points cep.0) tmo ≡ false
      → times (is_in slot.cep.0 (part_number slot.part)) s.pend.calls ≡ 0
      → Kept (with_point s cep f).udps (s.pend.calls ++ record { call = number; who = who_is_told t (routine_at (get (with_point s cep f).udps.points cep.0)) tmo; slot = slot } ∷ [])
  accept_kept t cep tmo number f slot alike at kind right there told none = joined_kept u s.pend.calls new kept kind (subst IsCep (sym at) (is_cep cep right))
      (ap (λ (c : CepId). is_none (get u.points c.0)) at ∙ still_there) none (told_rightly u s.pend.calls cep t tmo number slot kept at still_told)
    where
      u : PlainUdps
      u = (with_point s cep f).udps

      new : NetCall
      new = record { call = number; who = who_is_told t (routine_at (get u.points cep.0)) tmo; slot = slot }

      kept : Kept u s.pend.calls
      kept = changed_kept cep f alike

      same : AlikePoint (get s.udps.points cep.0) (get u.points cep.0)
      same = alike_at s.udps.points u.points cep.0 (alike_change s.udps.points cep.0 f alike)

      still_there : is_none (get u.points cep.0) ≡ false
      still_there = none_as (get s.udps.points cep.0) (get u.points cep.0) same.there there

      still_told : is_untold (get u.points cep.0) tmo ≡ false
      still_told = subst (λ r. (is_nblk tmo && (r.0 == 0)) ≡ false) (sym same.routine) told

  receive_free : (cep : CepId) → slots.is_taken s.pend (slot_of cep functions.UdpRcv) ≡ false → times (is_in cep.0 2) s.pend.calls ≡ 0
  receive_free cep free = none_times (is_in cep.0 2) s.pend.calls free

  row_kept : (ctx : Ctx) (request : Req) (number : CallNo) → KeptAfter (row s ctx request number)
  row_kept ctx request number = row_acts KeptAfter (record {
    answers = λ code. h.kept;
    makes = λ cep port cbr none free known. made_kept s.udps s.pend.calls cep (new_point (port_for s.udps.points port) cbr) h.kept none (free_for port free) known refl;
    deletes = delete_kept;
    sends = λ cep dest load. h.kept;
    takes = λ cep code bytes. changed_kept cep without_oldest (oldest_alike (get s.udps.points cep.0));
    sends_later = λ cep what tmo allowed nblk.
        accept_kept (caller ctx) cep tmo number (with_sending (Some what)) (slot_of cep functions.UdpSnd) (sending_alike (Some what) (get s.udps.points cep.0)) refl (inr refl) allowed.right allowed.there allowed.told
        (none_elsewhere cep.0 1 s.pend.calls (λ e. omega (arith, e)) only_receives);
    waits = λ cep len tmo allowed none.
        accept_kept (caller ctx) cep tmo number (with_wanted len) (slot_of cep functions.UdpRcv) (wanted_alike len (get s.udps.points cep.0)) refl (inl refl) allowed.right allowed.there allowed.told (receive_free cep none);
    cancels = λ cep func. shrunk_kept s.udps s.pend.calls _ h.kept (where_shrinks s.pend (is_least (is_named true cep func) part_of s.pend.calls) (named s.pend true cep func) E_RLWAI refl);
  }) request

  pub udp_call_kept : (ctx : Ctx) (request : Req) (number : CallNo) → RestsKept (side_after (udp_call s ctx request number))
  unfolding udp_call
  udp_call_kept ctx request number = record { rests = udp_call_rests s ctx request number; kept = settled_kept (row s ctx request number) (row_kept ctx request number) }

  -- ---- the end of a call from outside

  pub ended_kept : (number : CallNo) (code : Er) → RestsKept (side_after (ended s number code))
  unfolding ended
  ended_kept number code = record {
    rests = ended_rests s number code;
    kept = settled_kept (ended_at s number code) (shrunk_kept s.udps s.pend.calls _ h.kept (where_shrinks s.pend (has_number number) (numbered s.pend number) code refl));
  }

  -- ---- arrivals

  queued_kept : (cep : CepId) (d : Received) → has_place (get s.udps.points cep.0) ≡ true → KeptAfter (queued s cep d)
  queued_kept cep d place =
      let joins : UdpOutcome = quiet (with_point s cep (joined d)) in
      let kept : KeptAfter joins = changed_kept cep (joined d) (joined_alike d (get s.udps.points cep.0) (ltb-true (length (queue_of (get s.udps.points cep.0))) queue_limit place)) in
      either KeptAfter (is_event s cep) (with_event joins cep (length d.load)) joins (λ event. kept) (λ none. kept)

  at_point_kept : (d : Received) (cep : Option CepId) → KeptAfter (at_point s d cep)
  at_point_kept d None = h.kept
  at_point_kept d (Some cep) = either KeptAfter (has_place (get s.udps.points cep.0)) (queued s cep d) (quiet s) (queued_kept cep d) (λ full. h.kept)

  arrival_kept : (a : Option Arrived) → KeptAfter (after_arrival s a)
  arrival_kept None = h.kept
  arrival_kept (Some a) = at_point_kept a.received (with_port 0 a.port s.udps.points)

  pub arrive_kept : (bytes : List ℕ) → RestsKept (side_after (arrive s bytes))
  unfolding arrive
  arrive_kept bytes = record { rests = arrive_rests s bytes; kept = settled_kept (after_arrival s (arrived_in s.udps.addr bytes)) (arrival_kept (arrived_in s.udps.addr bytes)) }

  -- ---- what it comes to

  pub points_kept : PointsAreKept s
  points_kept = record {
    ports = h.kept.ports;
    queues = h.kept.queues;
    only = only_receives;
    receives = λ cep. omega (arith, receives_at cep.0 s.pend.calls only_receives, h.kept.places cep.0 2);
    routines = h.kept.routines;
  }

-- where only receives wait, and all names are right, it is all that is kept
pub whole_kept : (s : UdpSide) → PointsAreKept s → ((id : ℕ) → is_unknown s.udps.routines (routine_at (get s.udps.points id)) ≡ false) → AllByRecursion HasCep s.pend.calls → Kept s.udps s.pend.calls
whole_kept s h known ceps = record {
  ports = h.ports;
  queues = h.queues;
  known = known;
  kinds = all_more IsReceive IsUdpCall s.pend.calls (λ c receive. inl receive) h.only;
  ceps = ceps;
  places = λ cep part. omega (arith, in_is_at cep part s.pend.calls, h.receives (record { 0 = cep }));
  routines = h.routines;
}

-- ---- the opening

nothing_opened : (addr : ℕ) (routines : List ObjId) (i : ℕ) → get (opened_udps addr routines).points i ≡ None
nothing_opened addr routines i = elim (cases_lt i 17) [
  | inl lt ↦ get_or-replicate {A = Option UdpPoint} 17 i None None lt
  | inr le ↦ get_or_past (replicate 17 None) i None (simp length-replicate le)
]

pub opened_kept : (addr : ℕ) (routines : List ObjId) → Kept (opened_udps addr routines) []
opened_kept addr routines = record {
  ports = ports;
  queues = λ i. omega (arith, ap (λ o. length (queue_of o)) (nothing_opened addr routines i));
  known = λ i. ap (λ o. is_unknown routines (routine_at o)) (nothing_opened addr routines i);
  kinds = tt;
  ceps = tt;
  places = λ cep part. omega arith;
  routines = tt;
}
  where
    ports : (n : ℕ) → times (has_port n) (opened_udps addr routines).points ≤ 1
    ports n = let zero : times (has_port n) (opened_udps addr routines).points ≡ 0 = refl in omega (arith, zero)
