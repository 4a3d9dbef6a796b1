-- By which causes calls end in the network part: those that settling ends have what they waited for, and a row ends the call that a cancel
-- names, or that waits at an end point which is deleted.
use Rattle.std.proofs.Common.{◌≡◌, ℕ, zero, suc, Bool, true, false, List, [], ◌∷◌, length, Option, Some, None, refl, inl, inr}
use Rattle.std.specs.Prelude.{if◌then◌else◌}
use Rattle.std.specs.List.{AllByRecursion}
use Rattle.it_types.specs.declared.id.CepId.{CepId}
use Rattle.it_types.specs.declared.id.CallNo.{CallNo}
use Rattle.it_types.specs.declared.id.EndPt.{EndPt}
use Rattle.it_types.specs.declared.er.Er.{Er}
use Rattle.it_types.specs.declared.er.TheConstants.{E_RLWAI, E_TMOUT, E_DLT}
use Rattle.it_types.specs.declared.timeout.Tmo.{Tmo}
use Rattle.it_types.specs.declared.context.Ctx.{Ctx}
use Rattle.it_types.specs.declared.handler.FnCode.TheVariants as functions
use Rattle.it_types.specs.declared.request.Req.{Req}
use Rattle.it_types.specs.declared.request.Req.TheVariants.{UdpCreCep, UdpDelCep, UdpSndDat, UdpRcvDat, UdpCanCep}
use Rattle.it_types.specs.Callers.{caller, is_nblk, is_poll}
use Rattle.spec_lists.specs.Tables.{get}
use Rattle.spec_lists.specs.Refusal.{first_refusal}
use Rattle.spec_lists.proofs.Firsts.{cases_of_first}
use Rattle.spec_pend.specs.declared.call.NetCall.{NetCall}
use Rattle.spec_pend.specs.declared.answer.NetEnd.{NetEnd}
use Rattle.spec_pend.specs.PlainPend.{no_endings}
use Rattle.spec_pend.specs.Slots.{named}
use Rattle.spec_pend.specs.Ends.{end_of, ended_where}
use Rattle.spec_udp.specs.declared.point.Received.{Received}
use Rattle.spec_udp.specs.Packets.{Arrived}
use Rattle.spec_udp.specs.PlainUdps.{UdpOutcome, quiet, side_after}
use Rattle.spec_udp.specs.Points.{queue_of, joined, with_sending}
use Rattle.spec_udp.specs.Settling.{first_ready, met_code, met_bytes, met, settle, settled}
use Rattle.spec_udp.specs.Arrival.{with_port, has_place, is_event, with_event, queued, at_point, after_arrival}
use Rattle.spec_udp.specs.Rows.{with_point, refusals, sent, sending, waiting, received, receiving, answered, accepted, carried_out, unless_refused, row}
use Rattle.spec_node.specs.declared.event.NodeEv.{NodeEv}
use Rattle.spec_node.specs.declared.event.NodeEv.TheVariants.{Call}
use Rattle.spec_node.specs.PlainNode.{PlainNode}
use Rattle.laws_calls.specs.Cause.{Kind, NetAt, NetEnds}
use Rattle.laws_calls.proofs.OnceLists.{all_end}

-- the end has a cause
abbrev pub HasNetCause : PlainNode → NodeEv → NetEnd → Type 0
HasNetCause n event e = (kind : Kind) × NetEnds n event kind e

abbrev pub HaveNetCauses : PlainNode → NodeEv → List NetEnd → Type 0
HaveNetCauses n event es = AllByRecursion (HasNetCause n event) es

-- an outcome stands where a turn has brought the network part, and each of its ends has a cause
pub record IsCaused (n : PlainNode) (event : NodeEv) (o : UdpOutcome) : Type 0 where
  pub at : NetAt n event (side_after o)
  pub ends : HaveNetCauses n event o.endings.ends

-- ---- settling

module _ (n : PlainNode) (event : NodeEv) where
  settle_caused : (m : ℕ) (o : UdpOutcome) → IsCaused n event o → IsCaused n event (settle m o)
  unfolding settle
  settle_caused zero o h = h
  settle_caused (suc m) o h = elim (cases_of_first (first_ready (side_after o))) [
    | inl e ↦ rw e h
    | inr w ↦ (
        let z : NetCall × List NetCall = w.0 in
        let point = get o.udps.points z.0.slot.cep.0 in
        let end : NetEnd = end_of z.0 (met_code point z.0.slot.part) (met_bytes point z.0.slot.part) in
        rw w.1 (settle_caused m (met o z) (record {
          at = NetAt.after_met (side_after o) z h.at w.1;
          ends = all_end (HasNetCause n event) o.endings.ends end h.ends (Kind.Satisfied, NetEnds.is_met (side_after o) z h.at w.1);
        }))
        )
  ]

  pub settled_caused : (o : UdpOutcome) → IsCaused n event o → IsCaused n event (settled o)
  unfolding settled
  settled_caused o h = settle_caused (length o.endings.pend.calls) o h

  -- ---- an arrival ends no call by itself

  either : (b : Bool) (o p : UdpOutcome)
      → HaveNetCauses n event o.endings.ends
      → HaveNetCauses n event p.endings.ends
      → HaveNetCauses n event (if b then o else p).endings.ends
  either true o p x y = x
  either false o p x y = y

  at_point_caused : (d : Received) (cep : Option CepId) → HaveNetCauses n event (at_point n.net d cep).endings.ends
  at_point_caused d None = tt
  at_point_caused d (Some cep) =
      let joins : UdpOutcome = quiet (with_point n.net cep (joined d)) in
      either (has_place (get n.net.udps.points cep.0)) (queued n.net cep d) (quiet n.net) (either (is_event n.net cep) (with_event joins cep (length d.load)) joins tt tt) tt

  pub arrival_caused : (a : Option Arrived) → HaveNetCauses n event (after_arrival n.net a).endings.ends
  arrival_caused None = tt
  arrival_caused (Some a) = at_point_caused a.received (with_port 0 a.port n.net.udps.points)

-- ---- rows

module _ (n : PlainNode) (ctx : Ctx) (number : CallNo) where
  abbrev Caused : Req → UdpOutcome → Type 0
  Caused request o = HaveNetCauses n (Call ctx request) o.endings.ends

  ended_caused : (request : Req) (found : Option (NetCall × List NetCall)) (code : Er)
      → ((z : NetCall × List NetCall) → found ≡ Some z → HasNetCause n (Call ctx request) (end_of z.0 code []))
      → HaveNetCauses n (Call ctx request) (ended_where (no_endings n.net.pend) found code).ends
  ended_caused request None code c = tt
  ended_caused request (Some z) code c = (c z refl, tt)

  sending_caused : (request : Req) (cep : CepId) (dest : EndPt) (load : List ℕ) (tmo : Tmo)
      → Caused request (sending n.net (caller ctx) cep dest load tmo number)
  sending_caused request cep dest load tmo =
      either n (Call ctx request) (is_nblk tmo)
      (accepted (with_point n.net cep (with_sending (Some (record { dest = dest; load = load })))) (caller ctx) cep functions.UdpSnd tmo number) (sent n.net cep dest load) tt tt

  received_caused : (request : Req) (cep : CepId) (len : ℕ) (tmo : Tmo) (queue : List Received)
      → Caused request (received n.net (caller ctx) cep len tmo number queue)
  received_caused request cep len tmo [] = either n (Call ctx request) (is_poll tmo) (answered n.net E_TMOUT []) (waiting n.net (caller ctx) cep len tmo number) tt tt
  received_caused request cep len tmo (d ∷ ds) = tt

  receiving_caused : (request : Req) (cep : CepId) (len : ℕ) (tmo : Tmo) → Caused request (receiving n.net (caller ctx) cep len tmo number)
  receiving_caused request cep len tmo =
      let queue = queue_of (get n.net.udps.points cep.0) in
      either n (Call ctx request) (is_nblk tmo) (waiting n.net (caller ctx) cep len tmo number) (received n.net (caller ctx) cep len tmo number queue) tt (received_caused request cep len tmo queue)

  carried_out_caused : (request : Req) → first_refusal (refusals n.net ctx request) ≡ None → Caused request (carried_out n.net ctx request number)
  carried_out_caused (UdpCreCep cep port cbr) e = tt
  carried_out_caused (UdpDelCep cep) e = ended_caused (UdpDelCep cep) (named n.net.pend true cep functions.All) E_DLT (λ z found. (Kind.Deleted, NetEnds.is_deleted ctx cep z refl e found))
  carried_out_caused (UdpSndDat cep dest load tmo) e = sending_caused (UdpSndDat cep dest load tmo) cep dest load tmo
  carried_out_caused (UdpRcvDat cep len tmo) e = receiving_caused (UdpRcvDat cep len tmo) cep len tmo
  carried_out_caused (UdpCanCep cep func) e = ended_caused (UdpCanCep cep func) (named n.net.pend true cep func) E_RLWAI (λ z found. (Kind.Released, NetEnds.is_cancelled ctx cep func z refl e found))
  carried_out_caused _ e = tt

  -- the ends that a row makes
  pub row_caused : (request : Req) → Caused request (row n.net ctx request number)
  row_caused request = of (first_refusal (refusals n.net ctx request)) refl
    where
      of : (o : Option Er)
          → first_refusal (refusals n.net ctx request) ≡ o
          → Caused request (unless_refused o n.net (carried_out n.net ctx request number))
      of None e = carried_out_caused request e
      of (Some code) e = tt
