-- The UDP calls (ITRON TCP/IP API, the service calls on UDP): for each the tests that refuse it, in order, and what it changes
-- where none holds. The order of the tests is this project's own.
use Rattle.std.specs.Prelude.{ℕ, Bool, true, not, ◌&&◌, List, [], ◌∷◌, length, Option, Some, None, is_none, is_some, nat_lt, ◌==◌, if◌then◌else◌}
use Rattle.std.specs.List.{list_any}
use Rattle.it_types.specs.declared.id.TaskId.{TaskId}
use Rattle.it_types.specs.declared.id.ObjId.{ObjId}
use Rattle.it_types.specs.declared.id.CepId.{CepId}
use Rattle.it_types.specs.declared.id.CallNo.{CallNo}
use Rattle.it_types.specs.declared.id.EndPt.{EndPt}
use Rattle.it_types.specs.declared.er.Er.{Er}
use Rattle.it_types.specs.declared.er.TheConstants.{E_OK, E_NOSPT, E_PAR, E_ID, E_CTX, E_OBJ, E_NOEXS, E_RLWAI, E_TMOUT, E_DLT}
use Rattle.it_types.specs.declared.timeout.Tmo.{Tmo}
use Rattle.it_types.specs.declared.context.Ctx.{Ctx}
use Rattle.it_types.specs.declared.handler.FnCode.{FnCode}
use Rattle.it_types.specs.declared.handler.FnCode.TheVariants as functions
use Rattle.it_types.specs.declared.request.Req.{Req}
use Rattle.it_types.specs.declared.request.Req.TheVariants.{UdpCreCep, UdpDelCep, UdpSndDat, UdpRcvDat, UdpCanCep}
use Rattle.it_types.specs.Callers.{caller, is_handler, is_nblk, is_poll}
use Rattle.spec_lists.specs.Tables.{get, change}
use Rattle.spec_lists.specs.Refusal.{first_refusal}
use Rattle.spec_udp.specs.declared.point.Received.{Received}
use Rattle.spec_udp.specs.Packets.{sent_packet}
use Rattle.spec_udp.specs.Receiving.{count_code, receive_code, receive_bytes}
use Rattle.spec_pend.specs.declared.slot.Slot.{Slot}
use Rattle.spec_pend.specs.declared.slot.Part.TheVariants.{Send, Recv}
use Rattle.spec_pend.specs.declared.call.Who.{Who}
use Rattle.spec_pend.specs.declared.call.Who.TheVariants as whos
use Rattle.spec_pend.specs.declared.answer.NetAnswer.{NetAnswer}
use Rattle.spec_pend.specs.declared.answer.NetAnswer.TheVariants.{Now, Pends, Later}
use Rattle.spec_pend.specs.PlainPend.{no_endings}
use Rattle.spec_pend.specs.Slots as slots
use Rattle.spec_pend.specs.Slots.{named, with_call}
use Rattle.spec_pend.specs.Ends.{ended_where}
use Rattle.spec_udp.specs.declared.point.UdpPoint.{UdpPoint}
use Rattle.spec_udp.specs.PlainUdps.{UdpSide, UdpOutcome, quiet}
use Rattle.spec_udp.specs.Points.{is_wrong_id, routine_at, queue_of, local_port, new_point, with_wanted, with_sending, without_oldest}
use Rattle.spec_udp.specs.Ports.{is_taken, port_for}
use Rattle.spec_udp.specs.Settling.{settled}

-- the most data of a datagram that fits a packet of 1,500 bytes
abbrev pub greatest_load : ℕ
greatest_load = 1472

-- the most bytes that a call may ask for
abbrev pub greatest_length : ℕ
greatest_length = 65280

-- ---- the tests

-- a non-blocking call, of whose end no routine could be told
abbrev pub is_untold : Option UdpPoint → Tmo → Bool
is_untold point tmo = is_nblk tmo && ((routine_at point).0 == 0)

-- the routine is neither none nor declared
abbrev pub is_unknown : List ObjId → ObjId → Bool
is_unknown routines cbr = not (cbr.0 == 0) && not (list_any (λ r. r.0 == cbr.0) routines)

abbrev pub slot_of : CepId → FnCode → Slot
slot_of cep functions.UdpSnd = record { udp = true; cep = cep; part = Send; func = functions.UdpSnd }
slot_of cep func = record { udp = true; cep = cep; part = Recv; func = func }

-- the refusals of a request, in the order in which they are tested
abbrev pub refusals : UdpSide → Ctx → Req → List (Bool × Er)
refusals s ctx (UdpCreCep cep port cbr) =
    (is_handler ctx, E_CTX) ∷ (is_wrong_id cep.0, E_ID) ∷ (is_some (get s.udps.points cep.0), E_OBJ) ∷ (is_taken s.udps.points port, E_PAR) ∷ (is_unknown s.udps.routines cbr, E_PAR) ∷ []
refusals s ctx (UdpDelCep cep) =
    (is_handler ctx, E_CTX) ∷ (is_wrong_id cep.0, E_ID) ∷ (is_none (get s.udps.points cep.0), E_NOEXS) ∷ []
refusals s ctx (UdpSndDat cep dest load tmo) =
    (is_handler ctx, E_CTX) ∷ (is_wrong_id cep.0, E_ID) ∷ (is_none (get s.udps.points cep.0), E_NOEXS)
    ∷ (dest.addr == s.udps.addr, E_PAR) ∷ (dest.addr == 0, E_PAR) ∷ (dest.port == 0, E_PAR) ∷ (nat_lt greatest_load (length load), E_PAR) ∷ (is_untold (get s.udps.points cep.0) tmo, E_PAR) ∷ []
refusals s ctx (UdpRcvDat cep len tmo) =
    (is_handler ctx && not (is_poll tmo), E_CTX) ∷ (is_wrong_id cep.0, E_ID) ∷ (is_none (get s.udps.points cep.0), E_NOEXS)
    ∷ (nat_lt greatest_length len, E_PAR) ∷ (is_untold (get s.udps.points cep.0) tmo, E_PAR) ∷ (slots.is_taken s.pend (slot_of cep functions.UdpRcv), E_OBJ) ∷ []
refusals s ctx (UdpCanCep cep func) =
    (is_wrong_id cep.0, E_ID) ∷ (is_none (get s.udps.points cep.0), E_NOEXS) ∷ (is_none (named s.pend true cep func), E_OBJ) ∷ []
refusals s ctx _ = (true, E_NOSPT) ∷ []  -- a call of another part

-- ---- what a call changes

-- the call is answered at once
abbrev pub answered : UdpSide → Er → List ℕ → UdpOutcome
answered s code bytes = record (quiet s) { answer = Now code bytes }

-- a change of one end point
abbrev pub with_point : UdpSide → CepId → (Option UdpPoint → Option UdpPoint) → UdpSide
with_point s cep changed = record s { udps = record s.udps { points = change s.udps.points cep.0 changed } }

-- who is told of the end of a call by this task, with this time-out, at an end point with this routine
abbrev pub who_is_told : TaskId → ObjId → Tmo → Who
who_is_told by cbr tmo = if is_nblk tmo then whos.Callback by cbr else whos.Task by

abbrev pub accepted_answer : Tmo → NetAnswer
accepted_answer tmo = if is_nblk tmo then Later else Pends

-- the call is accepted under the number
abbrev pub accepted : UdpSide → TaskId → CepId → FnCode → Tmo → CallNo → UdpOutcome
accepted s by cep func tmo number = record (quiet s) {
  endings = no_endings (with_call s.pend (who_is_told by (routine_at (get s.udps.points cep.0)) tmo) (slot_of cep func) number);
  answer = accepted_answer tmo;
}

abbrev pub made : UdpSide → CepId → ℕ → ObjId → UdpOutcome
made s cep port cbr = answered (with_point s cep (λ _. Some (new_point (port_for s.udps.points port) cbr))) E_OK []

-- the call that waits there ends, and the end point is gone with its datagrams
abbrev pub deleted : UdpSide → CepId → UdpOutcome
deleted s cep = record (answered (with_point s cep (λ _. None)) E_OK []) { endings = ended_where (no_endings s.pend) (named s.pend true cep functions.All) E_DLT }

-- the answer is the length of the data, and a packet goes out
abbrev pub sent : UdpSide → CepId → EndPt → List ℕ → UdpOutcome
sent s cep dest load = record (answered s (count_code (length load)) []) { packets = sent_packet s.udps.addr (local_port (get s.udps.points cep.0)) dest load ∷ [] }

-- a send of which a routine is told is accepted, and is ready from then on
abbrev pub sending : UdpSide → TaskId → CepId → EndPt → List ℕ → Tmo → CallNo → UdpOutcome
sending s by cep dest load tmo number = if is_nblk tmo then accepted (with_point s cep (with_sending (Some (record { dest = dest; load = load })))) by cep functions.UdpSnd tmo number else sent s cep dest load

-- a receive that is accepted wants so many bytes
abbrev pub waiting : UdpSide → TaskId → CepId → ℕ → Tmo → CallNo → UdpOutcome
waiting s by cep len tmo number = accepted (with_point s cep (with_wanted len)) by cep functions.UdpRcv tmo number

-- a receive of which no routine is told: met by the oldest datagram; without one a poll is over, and any other waits
abbrev pub received : UdpSide → TaskId → CepId → ℕ → Tmo → CallNo → List Received → UdpOutcome
received s by cep len tmo number [] = if is_poll tmo then answered s E_TMOUT [] else waiting s by cep len tmo number
received s by cep len tmo number (d ∷ ds) = answered (with_point s cep without_oldest) (receive_code len d) (receive_bytes len d)

abbrev pub receiving : UdpSide → TaskId → CepId → ℕ → Tmo → CallNo → UdpOutcome
receiving s by cep len tmo number = if is_nblk tmo then waiting s by cep len tmo number else received s by cep len tmo number (queue_of (get s.udps.points cep.0))

-- the call that the cancel names is over
abbrev pub cancelled : UdpSide → CepId → FnCode → UdpOutcome
cancelled s cep func = record (answered s E_OK []) { endings = ended_where (no_endings s.pend) (named s.pend true cep func) E_RLWAI }

-- what a request changes where nothing refuses it
abbrev pub carried_out : UdpSide → Ctx → Req → CallNo → UdpOutcome
carried_out s ctx (UdpCreCep cep port cbr) number = made s cep port cbr
carried_out s ctx (UdpDelCep cep) number = deleted s cep
carried_out s ctx (UdpSndDat cep dest load tmo) number = sending s (caller ctx) cep dest load tmo number
carried_out s ctx (UdpRcvDat cep len tmo) number = receiving s (caller ctx) cep len tmo number
carried_out s ctx (UdpCanCep cep func) number = cancelled s cep func
carried_out s ctx _ number = answered s E_NOSPT []  -- a call of another part

abbrev pub unless_refused : Option Er → UdpSide → UdpOutcome → UdpOutcome
unless_refused (Some code) s o = answered s code []
unless_refused None s o = o

-- the row of a request: its first refusal, which changes nothing, or what it changes
abbrev pub row : UdpSide → Ctx → Req → CallNo → UdpOutcome
row s ctx request number = unless_refused (first_refusal (refusals s ctx request)) s (carried_out s ctx request number)

-- a UDP call: its row, and the ends of all calls that are met then
unfoldable pub udp_call : UdpSide → Ctx → Req → CallNo → UdpOutcome
udp_call s ctx request number = settled (row s ctx request number)
