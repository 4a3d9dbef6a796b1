-- Non-blocking calls that are met when they are made, where no call is ready before: they end at once, and they alone.
use Rattle.std.proofs.Common.{◌≡◌, ℕ, true, false, List, [], ◌∷◌, ◌++◌, length, Option, Some, None, refl, sym, ap, ◌∙◌}
use Rattle.std.specs.Prelude.{◌==◌}
use Rattle.std.proofs.lemmas.List.{append-nil}
use Rattle.it_types.specs.declared.id.TaskId.{TaskId}
use Rattle.it_types.specs.declared.id.CepId.{CepId}
use Rattle.it_types.specs.declared.id.CallNo.{CallNo}
use Rattle.it_types.specs.declared.id.EndPt.{EndPt}
use Rattle.it_types.specs.declared.er.Er.{Er}
use Rattle.it_types.specs.declared.timeout.Tmo.{Tmo}
use Rattle.it_types.specs.declared.handler.FnCode.TheVariants as functions
use Rattle.spec_lists.specs.First.{take_first}
use Rattle.spec_lists.specs.Tables.{get, change}
use Rattle.spec_lists.proofs.Changes.{change_undone, get-change_same}
use Rattle.spec_lists.proofs.Firsts.{found_past, none_any, none_weaker}
use Rattle.spec_udp.specs.declared.point.Received.{Received}
use Rattle.spec_udp.specs.Points.{has_some, queue_of, routine_at, with_sending, with_wanted, without_oldest}
use Rattle.spec_udp.specs.Packets.{sent_packet}
use Rattle.spec_udp.specs.Receiving.{count_code, receive_bytes, receive_code}
use Rattle.spec_pend.specs.declared.call.NetCall.{NetCall}
use Rattle.spec_pend.specs.declared.slot.Part.{Part}
use Rattle.spec_pend.specs.declared.slot.Part.TheVariants.{Conn, Send, Recv}
use Rattle.spec_pend.specs.PlainPend.{Endings}
use Rattle.spec_pend.specs.Slots.{has_slot, is_taken, part_number}
use Rattle.spec_udp.specs.declared.point.Sending.{Sending}
use Rattle.spec_udp.specs.declared.point.UdpPoint.{UdpPoint}
use Rattle.spec_udp.specs.PlainUdps.{PlainUdps, UdpSide, UdpOutcome}
use Rattle.spec_udp.specs.Settling.{is_ready, met_bytes, met_code, met_packets, received_bytes, received_code, settled, UdpAtRest}
use Rattle.spec_udp.specs.Rows.{accepted, accepted_answer, slot_of, waiting, who_is_told, with_point}
use Rattle.spec_udp.proofs.ArrivalCases.{three}
use Rattle.spec_udp.proofs.Settling.{NoMore, settles_one, still_rests}
use Rattle.e_udp.specs.Shows.{begun_and_ended}
use Rattle.spec_udp.proofs.Changes.{no_more_twice, sends_no_more, taken_no_more, wanted_no_more}

-- the outcome of such a call at this end point, which stands there, and to these points
abbrev ends_at : UdpSide → List (Option UdpPoint) → Endings → Tmo → List (List ℕ) → UdpOutcome
ends_at s points endings tmo packets = record { udps = record s.udps { points = points }; endings = endings; answer = accepted_answer tmo; packets = packets }

-- a call that is ready behind others of which none is
last_is_first : (u : PlainUdps) (calls : List NetCall) (c : NetCall) → take_first (is_ready u) calls ≡ None → is_ready u c ≡ true → take_first (is_ready u) (calls ++ c ∷ []) ≡ Some (c, calls)
last_is_first u calls c none ready = found_past (is_ready u) calls c [] none ready ∙ ap (λ (xs : List NetCall). Some (c, xs)) (append-nil calls)

send_part : (part : Part) → (part_number part == 1) ≡ true → part ≡ Send
send_part Conn e = cc
send_part Send e = refl
send_part Recv e = cc

-- at rest no send waits
pub send_free : (s : UdpSide) (cep : CepId) → UdpAtRest s → is_taken s.pend (slot_of cep functions.UdpSnd) ≡ false
send_free s cep rest = none_any (has_slot (slot_of cep functions.UdpSnd)) s.pend.calls (none_weaker (has_slot (slot_of cep functions.UdpSnd)) (is_ready s.udps) s.pend.calls is_send rest)
  where
    is_send : (c : NetCall) → has_slot (slot_of cep functions.UdpSnd) c ≡ true → is_ready s.udps c ≡ true
    is_send c e = let parts = three c.slot.udp (c.slot.cep.0 == cep.0) (part_number c.slot.part == 1) e in rw (parts.0, send_part c.slot.part parts.2) refl

module _ (s : UdpSide) (by : TaskId) (cep : CepId) (tmo : Tmo) (number : CallNo) (p : UdpPoint) (there : get s.udps.points cep.0 ≡ Some p) (rest : UdpAtRest s) where
  -- a receive, where a datagram is there
  pub receive_ends : (len : ℕ) (d : Received) (ds : List Received)
      → p.queue ≡ d ∷ ds
      → settled (waiting s by cep len tmo number)
      ≡ record {
        udps = record s.udps { points = change (change s.udps.points cep.0 (with_wanted len)) cep.0 without_oldest };
        endings = begun_and_ended s.pend (who_is_told by p.routine tmo) (slot_of cep functions.UdpRcv) number (receive_code len d) (receive_bytes len d);
        answer = accepted_answer tmo;
        packets = [];
      }
  receive_ends len d ds queue =
      settles_one s.udps (waiting s by cep len tmo number) (new, s.pend.calls) (last_is_first (record s.udps { points = wanting }) s.pend.calls new still ready) rest no_more
      ∙ ap outcome now_there
      ∙ ap (λ q. ended_by (received_code len q) (received_bytes len q)) queue
    where
      wanting : List (Option UdpPoint)
      wanting = change s.udps.points cep.0 (with_wanted len)

      now_there : get wanting cep.0 ≡ Some (record p { wanted = len })
      now_there = get-change_same s.udps.points cep.0 (with_wanted len) p there

      new : NetCall
      new = record { call = number; who = who_is_told by (routine_at (get wanting cep.0)) tmo; slot = slot_of cep functions.UdpRcv }

      still : take_first (is_ready (record s.udps { points = wanting })) s.pend.calls ≡ None
      still = still_rests s.udps (record s.udps { points = wanting }) s.pend.calls (wanted_no_more s.udps.points cep.0 len) rest

      ready : is_ready (record s.udps { points = wanting }) new ≡ true
      ready = ap (λ o. has_some (queue_of o)) now_there ∙ ap has_some queue

      no_more : NoMore s.udps.points (change wanting cep.0 without_oldest)
      no_more = no_more_twice s.udps.points wanting (change wanting cep.0 without_oldest) (wanted_no_more s.udps.points cep.0 len) (taken_no_more wanting cep.0)

      outcome : Option UdpPoint → UdpOutcome
      outcome o =
          ends_at s (change wanting cep.0 without_oldest) (begun_and_ended s.pend (who_is_told by (routine_at o) tmo) (slot_of cep functions.UdpRcv) number (met_code o Recv) (met_bytes o Recv)) tmo []

      ended_by : Er → List ℕ → UdpOutcome
      ended_by code bytes = ends_at s (change wanting cep.0 without_oldest) (begun_and_ended s.pend (who_is_told by p.routine tmo) (slot_of cep functions.UdpRcv) number code bytes) tmo []

  -- a send
  pub send_ends : (dest : EndPt) (load : List ℕ)
      → p.sending ≡ None
      → settled (accepted (with_point s cep (with_sending (Some (record { dest = dest; load = load })))) by cep functions.UdpSnd tmo number)
      ≡ record {
        udps = s.udps;
        endings = begun_and_ended s.pend (who_is_told by p.routine tmo) (slot_of cep functions.UdpSnd) number (count_code (length load)) [];
        answer = accepted_answer tmo;
        packets = sent_packet s.udps.addr p.port dest load ∷ [];
      }
  send_ends dest load idle =
      settles_one s.udps (accepted (with_point s cep (with_sending (Some what))) by cep functions.UdpSnd tmo number) (new, s.pend.calls)
      (last_is_first (record s.udps { points = sending }) s.pend.calls new still refl) rest no_more
      ∙ ap outcome now_there
      ∙ ap (λ points. ends_at s points (begun_and_ended s.pend (who_is_told by p.routine tmo) (slot_of cep functions.UdpSnd) number (count_code (length load)) []) tmo (sent_packet s.udps.addr p.port dest load ∷ [])) as_before
    where
      what : Sending
      what = record { dest = dest; load = load }

      sending : List (Option UdpPoint)
      sending = change s.udps.points cep.0 (with_sending (Some what))

      now_there : get sending cep.0 ≡ Some (record p { sending = Some what })
      now_there = get-change_same s.udps.points cep.0 (with_sending (Some what)) p there

      as_before : change sending cep.0 (with_sending None) ≡ s.udps.points
      as_before = change_undone s.udps.points cep.0 (with_sending (Some what)) (with_sending None) p there (ap (λ w. Some (record p { sending = w })) (sym idle))

      new : NetCall
      new = record { call = number; who = who_is_told by (routine_at (get sending cep.0)) tmo; slot = slot_of cep functions.UdpSnd }

      sending_no_more : NoMore s.udps.points sending
      sending_no_more = sends_no_more s.udps.points cep.0 (Some what)

      still : take_first (is_ready (record s.udps { points = sending })) s.pend.calls ≡ None
      still = still_rests s.udps (record s.udps { points = sending }) s.pend.calls sending_no_more rest

      no_more : NoMore s.udps.points (change sending cep.0 (with_sending None))
      no_more = no_more_twice s.udps.points sending (change sending cep.0 (with_sending None)) sending_no_more (sends_no_more sending cep.0 None)

      outcome : Option UdpPoint → UdpOutcome
      outcome o =
          ends_at s (change sending cep.0 (with_sending None))
          (begun_and_ended s.pend (who_is_told by (routine_at o) tmo) (slot_of cep functions.UdpSnd) number (met_code o Send) (met_bytes o Send)) tmo (met_packets s.udps.addr o Send)
