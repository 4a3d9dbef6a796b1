-- What the code of each call does is what the specification says, for the end points that it began with: `before` are the
-- fields, and `named` is the state that the contract names.
use Rattle.std.proofs.Common.{◌≡◌, ℕ, true, false, List, [], ◌∷◌, ◌++◌, length, Option, None, Some, refl, ap, sym, ◌∙◌, subst}
use Rattle.it_types.specs.declared.answer.Ans.TheVariants as answers
use Rattle.it_types.specs.declared.context.Ctx.{Ctx}
use Rattle.it_types.specs.declared.entry.Out.{Out}
use Rattle.it_types.specs.declared.er.Er.{Er}
use Rattle.it_types.specs.declared.er.TheConstants.{E_DLT, E_OK, E_RLWAI}
use Rattle.it_types.specs.declared.handler.FnCode.{FnCode}
use Rattle.it_types.specs.declared.handler.FnCode.TheVariants as functions
use Rattle.it_types.specs.declared.id.CallNo.{CallNo}
use Rattle.it_types.specs.declared.id.CepId.{CepId}
use Rattle.it_types.specs.declared.id.EndPt.{EndPt}
use Rattle.it_types.specs.declared.id.ObjId.{ObjId}
use Rattle.it_types.specs.declared.id.TaskId.{TaskId}
use Rattle.it_types.specs.declared.request.Req.{Req}
use Rattle.it_types.specs.declared.request.Req.TheVariants.{UdpCreCep, UdpDelCep, UdpSndDat, UdpCanCep}
use Rattle.it_types.specs.declared.timeout.Tmo.{Tmo}
use Rattle.it_types.specs.Callers.{is_nblk}
use Rattle.spec_lists.specs.Refusal.{first_refusal}
use Rattle.spec_lists.specs.Tables.{get, change}
use Rattle.spec_udp.specs.Packets.{sent_packet}
use Rattle.spec_udp.specs.Receiving.{count_code}
use Rattle.spec_pend.specs.declared.call.Who.TheVariants as whos
use Rattle.spec_pend.specs.declared.answer.NetAnswer.TheVariants.{Later}
use Rattle.spec_pend.specs.declared.slot.Slot.{Slot}
use Rattle.spec_pend.specs.PlainPend.{PlainPend, no_endings}
use Rattle.spec_pend.specs.Ends.{ended_where}
use Rattle.spec_pend.specs.Slots.{numbered}
use Rattle.spec_pend.specs.Slots as slots
use Rattle.spec_udp.specs.declared.point.UdpPoint.{UdpPoint}
use Rattle.spec_udp.specs.PlainUdps.{PlainUdps, UdpSide, UdpOutcome}
use Rattle.spec_udp.specs.Points.{local_port, new_point, routine_at, sending_at, with_sending}
use Rattle.spec_udp.specs.Ports.{port_for}
use Rattle.spec_udp.specs.Settling.{UdpAtRest, settled}
use Rattle.spec_udp.specs.Rows.{accepted, accepted_answer, answered, cancelled, carried_out, deleted, made, refusals, sending, sent, slot_of, udp_call, who_is_told, with_point}
use Rattle.spec_udp.specs.Outside.{ended}
use Rattle.spec_udp.proofs.RowCases.{cancelled_settles, deleted_settles, ended_settles, made_settles, udp_call_carried_out, udp_call_refused}
use Rattle.spec_udp.proofs.Settling.{ended_rests, settled_none, settled_rests, udp_call_rests}
use Rattle.e_udp.specs.Contexts.{context_of}
use Rattle.e_udp.specs.Does.{Does, side, no_number}
use Rattle.e_udp.specs.Shows.{Shows, alone, begun_and_ended, ended_with, without_packets}
use Rattle.e_udp.proofs.Allowed.{IsThere, may_send}
use Rattle.e_udp.proofs.Callers.{caller_is}
use Rattle.e_udp.proofs.NonBlocking.{send_ends}
use Rattle.e_udp.proofs.Searches.{without_bytes}

-- ---- any event

-- what settles leaves no call ready
pub settled_leaves : {after : UdpSide} {number : CallNo} {out : Out} (o : UdpOutcome) → Does after number out (settled o) → UdpAtRest after
settled_leaves o does = subst UdpAtRest (sym does.state) (settled_rests o)

pub call_leaves : {after : UdpSide} {number : CallNo} {out : Out} (s : UdpSide) (ctx : Ctx) (request : Req) → Does after number out (udp_call s ctx request number) → UdpAtRest after
call_leaves {number = number} s ctx request does = subst UdpAtRest (sym does.state) (udp_call_rests s ctx request number)

-- what is done by an outcome is done by one that is equal to it
pub does_same : {after : UdpSide} {number : CallNo} {out : Out} {o p : UdpOutcome} → p ≡ o → Does after number out o → Does after number out p
does_same {after} {number} {out} e does = subst (λ r. Does after number out r) (sym e) does

-- a refused call
pub refused_does : {s : UdpSide} {out : Out} (ctx : Ctx) (request : Req) (number : CallNo) (code : Er)
    → UdpAtRest s
    → Some code ≡ first_refusal (refusals s ctx request)
    → out ≡ alone (answers.Now code [])
    → Does s number out (udp_call s ctx request number)
refused_does {s} ctx request number code rest is told = does_same (udp_call_refused s ctx request number code rest (sym is)) (record { state = refl; told = told })

module _ {before named : PlainUdps} (lent : PlainPend) (same : before ≡ named) (rest : UdpAtRest (side named lent)) where
  rest_before : UdpAtRest (side before lent)
  rest_before = subst (λ u. UdpAtRest (side u lent)) (sym same) rest

  -- a call that is carried out, and has this outcome
  pub carried_out_does : {after : UdpSide} {out : Out} (ctx : Ctx) (request : Req) (number : CallNo) (o : UdpOutcome)
      → first_refusal (refusals (side named lent) ctx request) ≡ None
      → settled (carried_out (side before lent) ctx request number) ≡ o
      → Does after number out o
      → Does after number out (udp_call (side named lent) ctx request number)
  carried_out_does {after} {out} ctx request number o allowed outcome does =
      subst (λ u. Does after number out (udp_call (side u lent) ctx request number)) same
      (does_same (udp_call_carried_out (side before lent) ctx request number (subst (λ u. first_refusal (refusals (side u lent) ctx request) ≡ None) (sym same) allowed) ∙ outcome) does)

  -- an end point is made
  pub making_does : {points : List (Option UdpPoint)} {out : Out} (ctx : Ctx) (cep : CepId) (port : ℕ) (cbr : ObjId) (number : CallNo)
      → first_refusal (refusals (side named lent) ctx (UdpCreCep cep port cbr)) ≡ None
      → points ≡ change before.points cep.0 (λ _. Some (new_point (port_for before.points port) cbr))
      → out ≡ alone (answers.Now E_OK [])
      → Does (side (record before { points = points }) lent) number out (udp_call (side named lent) ctx (UdpCreCep cep port cbr) number)
  making_does ctx cep port cbr number allowed e told =
      carried_out_does ctx (UdpCreCep cep port cbr) number (made (side before lent) cep port cbr) allowed (made_settles (side before lent) cep port cbr rest_before)
      (record { state = ap (λ w. side (record before { points = w }) lent) e; told = told })

  -- the call ends that a deletion or a cancel names
  shows_named : {left : PlainPend} {out : Out} (after : PlainUdps) (number : CallNo) (cep : CepId) (func : FnCode) (code : Er)
      → Shows left out (answers.Now E_OK []) (ended_with (no_endings lent) (slots.named lent true cep func) code [])
      → Does (side after left) number out (record (answered (side after lent) E_OK []) { endings = ended_where (no_endings lent) (slots.named lent true cep func) code })
  shows_named after number cep func code shows =
      let same_end = without_bytes (no_endings lent) (slots.named lent true cep func) code in
      record { state = ap (side after) (shows.left ∙ ap (λ e. e.pend) same_end); told = shows.told ∙ ap (without_packets (answers.Now E_OK [])) same_end }

  -- an end point is deleted
  pub deleting_does : {points : List (Option UdpPoint)} {left : PlainPend} {out : Out} (ctx : Ctx) (cep : CepId) (number : CallNo)
      → first_refusal (refusals (side named lent) ctx (UdpDelCep cep)) ≡ None
      → points ≡ change before.points cep.0 (λ _. None)
      → Shows left out (answers.Now E_OK []) (ended_with (no_endings lent) (slots.named lent true cep functions.All) E_DLT [])
      → Does (side (record before { points = points }) left) number out (udp_call (side named lent) ctx (UdpDelCep cep) number)
  deleting_does {points} {left} {out} ctx cep number allowed e shows =
      carried_out_does ctx (UdpDelCep cep) number (deleted (side before lent) cep) allowed (deleted_settles (side before lent) cep rest_before)
      (subst (λ w. Does (side (record before { points = w }) left) number out (deleted (side before lent) cep)) (sym e) (shows_named (record before { points = change before.points cep.0 (λ _. None) }) number cep functions.All E_DLT shows))

  -- a call is canceled
  pub canceling_does : {left : PlainPend} {out : Out} (ctx : Ctx) (cep : CepId) (func : FnCode) (number : CallNo)
      → first_refusal (refusals (side named lent) ctx (UdpCanCep cep func)) ≡ None
      → Shows left out (answers.Now E_OK []) (ended_with (no_endings lent) (slots.named lent true cep func) E_RLWAI [])
      → Does (side before left) number out (udp_call (side named lent) ctx (UdpCanCep cep func) number)
  canceling_does ctx cep func number allowed shows =
      carried_out_does ctx (UdpCanCep cep func) number (cancelled (side before lent) cep func) allowed (cancelled_settles (side before lent) cep func rest_before) (shows_named before number cep func E_RLWAI shows)

  -- ---- sending

  -- a packet goes out
  pub sending_does : {out : Out} (ctx : Ctx) (cep : CepId) (dest : EndPt) (load : List ℕ) (tmo : Tmo) (number : CallNo)
      → first_refusal (refusals (side named lent) ctx (UdpSndDat cep dest load tmo)) ≡ None
      → is_nblk tmo ≡ false
      → out ≡ record (alone (answers.Now (count_code (length load)) [])) { packs = sent_packet before.addr (local_port (get before.points cep.0)) dest load ∷ [] }
      → Does (side before lent) number out (udp_call (side named lent) ctx (UdpSndDat cep dest load tmo) number)
  sending_does ctx cep dest load tmo number allowed now told =
      carried_out_does ctx (UdpSndDat cep dest load tmo) number (sent (side before lent) cep dest load) allowed
      (rw now (settled_none (sent (side before lent) cep dest load) rest_before)) (record { state = refl; told = told })

  -- the call is accepted, and ends at once with its packet
  pub sending_later_does : {left : PlainPend} {slot : Slot} {out told : Out} (by : TaskId) (cep : CepId) (dest : EndPt) (load : List ℕ) (tmo : Tmo) (number : CallNo) (cbr : ObjId) (code : Er) (packet : List ℕ)
      → first_refusal (refusals (side named lent) (context_of by) (UdpSndDat cep dest load tmo)) ≡ None
      → slot ≡ slot_of cep functions.UdpSnd
      → is_nblk tmo ≡ true
      → cbr ≡ routine_at (get before.points cep.0)
      → sending_at (get before.points cep.0) ≡ None
      → code ≡ count_code (length load)
      → packet ≡ sent_packet before.addr (local_port (get before.points cep.0)) dest load
      → Shows left told (answers.Later number) (begun_and_ended lent (whos.Callback by cbr) slot number code [])
      → out ≡ record told { packs = told.packs ++ packet ∷ [] }
      → Does (side named left) number out (udp_call (side named lent) (context_of by) (UdpSndDat cep dest load tmo) number)
  sending_later_does {left} {slot} {out} {told} by cep dest load tmo number cbr code packet allowed at later routine idle c e shows told_is =
      subst (λ u. Does (side u left) number out (udp_call (side named lent) (context_of by) (UdpSndDat cep dest load tmo) number)) same
      (carried_out_does (context_of by) (UdpSndDat cep dest load tmo) number (outcome (slot_of cep functions.UdpSnd) point.routine (count_code (length load)) (sent_packet before.addr point.port dest load)) allowed settles
      (subst (λ (o : UdpOutcome). Does (side before left) number out o) with_those (record { state = ap (side before) shows.left; told = told_is ∙ ap (λ (t : Out). record t { packs = t.packs ++ packet ∷ [] }) shows.told })))
    where
      place : IsThere (side before lent) cep
      place = (may_send (side before lent) (context_of by) cep dest load tmo (subst (λ u. first_refusal (refusals (side u lent) (context_of by) (UdpSndDat cep dest load tmo)) ≡ None) (sym same) allowed)).place

      point : UdpPoint
      point = place.point

      outcome : Slot → ObjId → Er → List ℕ → UdpOutcome
      outcome w r k q = record { udps = before; endings = begun_and_ended lent (whos.Callback by r) w number k []; answer = Later; packets = q ∷ [] }

      with_those : outcome slot cbr code packet ≡ outcome (slot_of cep functions.UdpSnd) point.routine (count_code (length load)) (sent_packet before.addr point.port dest load)
      with_those =
          ap (λ w. outcome w cbr code packet) at
          ∙ ap (λ r. outcome (slot_of cep functions.UdpSnd) r code packet) (routine ∙ ap routine_at place.there)
          ∙ ap (λ k. outcome (slot_of cep functions.UdpSnd) point.routine k packet) c
          ∙ ap (outcome (slot_of cep functions.UdpSnd) point.routine (count_code (length load))) (e ∙ ap (λ o. sent_packet before.addr (local_port o) dest load) place.there)

      to_later : sending (side before lent) by cep dest load tmo number ≡ accepted (with_point (side before lent) cep (with_sending (Some (record { dest = dest; load = load })))) by cep functions.UdpSnd tmo number
      to_later = rw later refl

      ended_so : record { udps = before; endings = begun_and_ended lent (who_is_told by point.routine tmo) (slot_of cep functions.UdpSnd) number (count_code (length load)) []; answer = accepted_answer tmo; packets = sent_packet before.addr point.port dest load ∷ [] } ≡ outcome (slot_of cep functions.UdpSnd) point.routine (count_code (length load)) (sent_packet before.addr point.port dest load)
      ended_so = rw later refl

      settles : settled (carried_out (side before lent) (context_of by) (UdpSndDat cep dest load tmo) number) ≡ outcome (slot_of cep functions.UdpSnd) point.routine (count_code (length load)) (sent_packet before.addr point.port dest load)
      settles =
          ap (λ t. settled (sending (side before lent) t cep dest load tmo number)) (caller_is by)
          ∙ ap settled to_later
          ∙ send_ends (side before lent) by cep tmo number point place.there rest_before dest load (ap sending_at (sym place.there) ∙ idle)
          ∙ ended_so

-- ---- ends from outside

module _ (u : PlainUdps) (lent left : PlainPend) (number : CallNo) (code : Er) {out : Out} (rest : UdpAtRest (side u lent)) (shows : Shows left out answers.Quiet (ended_with (no_endings lent) (numbered lent number) code [])) where
  -- a call ends
  pub ending_does : Does (side u left) no_number out (ended (side u lent) number code)
  ending_does =
      let same_end = without_bytes (no_endings lent) (numbered lent number) code in
      does_same (ended_settles (side u lent) number code rest) (record { state = ap (side u) (shows.left ∙ ap (λ e. e.pend) same_end); told = shows.told ∙ ap (without_packets answers.Quiet) same_end })

  -- and no other is ready
  pub ending_leaves : UdpAtRest (side u left)
  ending_leaves = subst UdpAtRest (sym ending_does.state) (ended_rests (side u lent) number code)
