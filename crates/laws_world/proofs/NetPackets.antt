-- How many packets the network part of a node sends in an event: each send of which a routine is told may still send one as long as
-- it waits, and no other call.
use Rattle.std.proofs.Common.{◌≡◌, ℕ, zero, suc, ◌+◌, ◌≤◌, Bool, true, false, List, [], ◌∷◌, length, Option, Some, None, refl, ap, inl, inr, arith}
use Rattle.std.specs.Prelude.{◌==◌}
use Rattle.std.specs.List.{AllByRecursion}
use Rattle.std.proofs.lemmas.List.{length-append}
use Rattle.it_types.specs.declared.id.TaskId.{TaskId}
use Rattle.it_types.specs.declared.id.CepId.{CepId}
use Rattle.it_types.specs.declared.id.CallNo.{CallNo}
use Rattle.it_types.specs.declared.er.Er.{Er}
use Rattle.it_types.specs.declared.er.TheConstants.{E_DLT, E_RLWAI}
use Rattle.it_types.specs.declared.timeout.Tmo.{Tmo}
use Rattle.it_types.specs.declared.context.Ctx.{Ctx}
use Rattle.it_types.specs.declared.handler.FnCode.{FnCode}
use Rattle.it_types.specs.declared.handler.FnCode.TheVariants as functions
use Rattle.it_types.specs.declared.request.Req.{Req}
use Rattle.it_types.specs.Callers.{caller}
use Rattle.spec_lists.specs.Tables.{get}
use Rattle.spec_lists.specs.First.{take_first, is_least}
use Rattle.spec_lists.specs.Counting.{one_if}
use Rattle.spec_lists.proofs.Counting.{one_if-at_most}
use Rattle.spec_lists.proofs.Firsts.{cases_of_first}
use Rattle.spec_pend.specs.declared.slot.Slot.{Slot}
use Rattle.spec_pend.specs.declared.slot.Part.{Part}
use Rattle.spec_pend.specs.declared.slot.Part.TheVariants.{Conn, Send, Recv}
use Rattle.spec_pend.specs.declared.call.NetCall.{NetCall}
use Rattle.spec_pend.specs.PlainPend.{PlainPend, no_endings}
use Rattle.spec_pend.specs.Slots.{part_number, part_of, has_number, is_named, named, numbered}
use Rattle.spec_pend.specs.Ends.{ended_where}
use Rattle.spec_udp.specs.declared.point.Received.{Received}
use Rattle.spec_udp.specs.declared.point.Sending.{Sending}
use Rattle.spec_udp.specs.declared.point.UdpPoint.{UdpPoint}
use Rattle.spec_udp.specs.Packets.{Arrived, arrived_in}
use Rattle.spec_udp.specs.Points.{routine_at, sending_at, with_sending, with_wanted, joined}
use Rattle.spec_udp.specs.PlainUdps.{UdpSide, UdpOutcome, side_after, quiet}
use Rattle.spec_udp.specs.Settling.{is_ready, first_ready, packets_for, met_packets, met, settle, settled}
use Rattle.spec_udp.specs.Rows.{slot_of, with_point, who_is_told, accepted, row, udp_call}
use Rattle.spec_udp.specs.Arrival.{with_port, has_place, is_event, with_event, queued, at_point, after_arrival, arrive}
use Rattle.spec_udp.specs.Outside.{ended_at, ended}
use Rattle.laws_node.specs.Agreement.{times}
use Rattle.laws_node.specs.EndPoints.{IsReceive}
use Rattle.laws_node.proofs.Times.{times_end, times_found}
use Rattle.laws_node.proofs.RowActs.{either, row_acts}
use Rattle.laws_node.proofs.Alike.{shrinks_times}
use Rattle.laws_node.proofs.KeepingPoints.{where_shrinks}

-- the call sends
abbrev pub is_sender : NetCall → Bool
is_sender c = part_number c.slot.part == 1

-- how many calls that wait send
abbrev pub senders : UdpSide → ℕ
senders s = times is_sender s.pend.calls

receive_sends_not : (c : NetCall) → IsReceive c → is_sender c ≡ false
receive_sends_not c e = ap (λ (slot : Slot). part_number slot.part == 1) e

-- where only receives wait, none does
pub no_senders : (cs : List NetCall) → AllByRecursion IsReceive cs → times is_sender cs ≡ 0
no_senders [] h = refl
no_senders (c ∷ cs) h = omega (arith, no_senders cs h.1, ap one_if (receive_sends_not c h.0))

-- the packets of an outcome, and those that its calls may still send
abbrev pub sent_by : UdpOutcome → ℕ
sent_by o = length o.packets + senders (side_after o)

-- ---- settling

packets_for-le : (addr : ℕ) (point : Option UdpPoint) (what : Option Sending) → length (packets_for addr point what) ≤ 1
packets_for-le addr point None = omega arith
packets_for-le addr point (Some s) = omega arith

met_packets-le : (addr : ℕ) (point : Option UdpPoint) (part : Part) → length (met_packets addr point part) ≤ one_if (part_number part == 1)
met_packets-le addr point Conn = omega arith
met_packets-le addr point Send = packets_for-le addr point (sending_at point)
met_packets-le addr point Recv = omega arith

settle_sends : (n : ℕ) (o : UdpOutcome) → sent_by (settle n o) ≤ sent_by o
unfolding settle
settle_sends zero o = omega arith
settle_sends (suc n) o = elim (cases_of_first (first_ready (side_after o))) [
  | inl e ↦ rw e (omega arith)
  | inr w ↦ (
      let z : NetCall × List NetCall = w.0 in
      let packets : List (List ℕ) = met_packets o.udps.addr (get o.udps.points z.0.slot.cep.0) z.0.slot.part in
      rw w.1 (omega (
        arith,
        settle_sends n (met o z),
        length-append o.packets packets,
        met_packets-le o.udps.addr (get o.udps.points z.0.slot.cep.0) z.0.slot.part,
        times_found is_sender (is_ready o.udps) o.endings.pend.calls z w.1,
      ))
      )
]

settled_sends : (o : UdpOutcome) → sent_by (settled o) ≤ sent_by o
unfolding settled
settled_sends o = settle_sends (length o.endings.pend.calls) o

-- ---- calls

-- a call that ends sends no more
where_sends : (p : PlainPend) (f : NetCall → Bool) (x : Option (NetCall × List NetCall)) (code : Er) → take_first f p.calls ≡ x → times is_sender (ended_where (no_endings p) x code).pend.calls ≤ times is_sender p.calls
where_sends p f x code e = shrinks_times is_sender p.calls (ended_where (no_endings p) x code).pend.calls (where_shrinks p f x code e)

accepted_sends : (s : UdpSide) (by : TaskId) (cep : CepId) (func : FnCode) (tmo : Tmo) (number : CallNo) → sent_by (accepted s by cep func tmo number) ≤ senders s + 1
accepted_sends s by cep func tmo number =
    let new : NetCall = record { call = number; who = who_is_told by (routine_at (get s.udps.points cep.0)) tmo; slot = slot_of cep func } in omega (arith, times_end is_sender s.pend.calls new, one_if-at_most (is_sender new))

row_sends : (s : UdpSide) (ctx : Ctx) (request : Req) (number : CallNo) → sent_by (row s ctx request number) ≤ senders s + 1
row_sends s ctx request number = row_acts {s = s} {ctx = ctx} {number = number} (λ o. sent_by o ≤ senders s + 1) (record {
  answers = λ code. omega arith;
  makes = λ cep port cbr none free known. omega arith;
  deletes = λ cep. omega (arith, where_sends s.pend (is_least (is_named true cep functions.All) part_of s.pend.calls) (named s.pend true cep functions.All) E_DLT refl);
  sends = λ cep dest load. omega arith;
  takes = λ cep code bytes. omega arith;
  sends_later = λ cep what tmo allowed nblk. accepted_sends (with_point s cep (with_sending (Some what))) (caller ctx) cep functions.UdpSnd tmo number;
  waits = λ cep len tmo allowed none. accepted_sends (with_point s cep (with_wanted len)) (caller ctx) cep functions.UdpRcv tmo number;
  cancels = λ cep func. omega (arith, where_sends s.pend (is_least (is_named true cep func) part_of s.pend.calls) (named s.pend true cep func) E_RLWAI refl);
}) request

-- a call sends one packet more at most
pub udp_call_sends : (s : UdpSide) (ctx : Ctx) (request : Req) (number : CallNo) → sent_by (udp_call s ctx request number) ≤ senders s + 1
unfolding udp_call
udp_call_sends s ctx request number = omega (arith, settled_sends (row s ctx request number), row_sends s ctx request number)

-- ---- arrivals and ends from outside

module _ (s : UdpSide) where
  abbrev SendsNoMore : UdpOutcome → Type 0
  SendsNoMore o = sent_by o ≤ senders s

  queued_sends : (cep : CepId) (d : Received) → SendsNoMore (queued s cep d)
  queued_sends cep d =
      let joins : UdpOutcome = quiet (with_point s cep (joined d)) in either SendsNoMore (is_event s cep) (with_event joins cep (length d.load)) joins (λ event. omega arith) (λ none. omega arith)

  at_point_sends : (d : Received) (cep : Option CepId) → SendsNoMore (at_point s d cep)
  at_point_sends d None = omega arith
  at_point_sends d (Some cep) = either SendsNoMore (has_place (get s.udps.points cep.0)) (queued s cep d) (quiet s) (λ place. queued_sends cep d) (λ full. omega arith)

  arrival_sends : (a : Option Arrived) → SendsNoMore (after_arrival s a)
  arrival_sends None = omega arith
  arrival_sends (Some a) = at_point_sends a.received (with_port 0 a.port s.udps.points)

  pub arrive_sends : (bytes : List ℕ) → SendsNoMore (arrive s bytes)
  unfolding arrive
  arrive_sends bytes = omega (arith, settled_sends (after_arrival s (arrived_in s.udps.addr bytes)), arrival_sends (arrived_in s.udps.addr bytes))

  pub ended_sends : (number : CallNo) (code : Er) → SendsNoMore (ended s number code)
  unfolding ended
  ended_sends number code = omega (arith, settled_sends (ended_at s number code), where_sends s.pend (has_number number) (numbered s.pend number) code refl)
