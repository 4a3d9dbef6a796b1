-- Where no call is ready, these make none ready: a refusal, the creation and deletion of an end point, a cancel, a send at once, a
-- receive that is met at once or by nothing, and the end of a call from outside. So their outcome is that of the row.
use Rattle.std.proofs.Common.{◌≡◌, ℕ, Bool, true, List, [], ◌∷◌, Option, Some, None, refl, ap}
use Rattle.it_types.specs.declared.id.TaskId.{TaskId}
use Rattle.it_types.specs.declared.id.ObjId.{ObjId}
use Rattle.it_types.specs.declared.id.CepId.{CepId}
use Rattle.it_types.specs.declared.id.CallNo.{CallNo}
use Rattle.it_types.specs.declared.er.Er.{Er}
use Rattle.it_types.specs.declared.timeout.Tmo.{Tmo}
use Rattle.it_types.specs.declared.context.Ctx.{Ctx}
use Rattle.it_types.specs.declared.handler.FnCode.{FnCode}
use Rattle.it_types.specs.declared.handler.FnCode.TheVariants as functions
use Rattle.it_types.specs.declared.request.Req.{Req}
use Rattle.spec_lists.specs.First.{take_first, is_least}
use Rattle.spec_lists.specs.Refusal.{first_refusal}
use Rattle.spec_lists.specs.Tables.{get}
use Rattle.spec_lists.proofs.Firsts.{found, none_append, none_from_parts}
use Rattle.spec_udp.specs.Points.{has_some, queue_of, routine_at, with_wanted, without_oldest}
use Rattle.spec_pend.specs.declared.call.NetCall.{NetCall}
use Rattle.spec_pend.specs.PlainPend.{PlainPend, no_endings}
use Rattle.spec_pend.specs.Slots.{has_number, is_named, named, numbered, part_of}
use Rattle.spec_pend.specs.Ends.{ended_where}
use Rattle.spec_udp.specs.PlainUdps.{PlainUdps, UdpSide, side_after}
use Rattle.spec_udp.specs.Ports.{port_for}
use Rattle.spec_udp.specs.Settling.{is_ready, UdpAtRest, settled}
use Rattle.spec_udp.specs.Rows.{refusals, udp_call, carried_out, answered, with_point, made, deleted, waiting, cancelled, slot_of, who_is_told}
use Rattle.spec_udp.specs.Outside.{ended_at, ended}
use Rattle.spec_udp.proofs.Settling.{NoMore, settled_none, still_rests}
use Rattle.spec_udp.proofs.Changes.{deleted_no_more, made_no_more, not_met, taken_no_more, wanted_no_more}

-- a refused call changes nothing
pub udp_call_refused : (s : UdpSide) (ctx : Ctx) (request : Req) (number : CallNo) (code : Er)
    → UdpAtRest s
    → first_refusal (refusals s ctx request) ≡ Some code
    → udp_call s ctx request number ≡ answered s code []
unfolding udp_call
udp_call_refused s ctx request number code rest e = rw e (settled_none (answered s code []) rest)

-- a call that nothing refuses is carried out
pub udp_call_carried_out : (s : UdpSide) (ctx : Ctx) (request : Req) (number : CallNo)
    → first_refusal (refusals s ctx request) ≡ None
    → udp_call s ctx request number ≡ settled (carried_out s ctx request number)
unfolding udp_call
udp_call_carried_out s ctx request number e = rw e refl

-- an end point is made
pub made_settles : (s : UdpSide) (cep : CepId) (port : ℕ) (cbr : ObjId) → UdpAtRest s → settled (made s cep port cbr) ≡ made s cep port cbr
made_settles s cep port cbr rest =
    settled_none (made s cep port cbr) (still_rests s.udps (side_after (made s cep port cbr)).udps s.pend.calls (made_no_more s.udps.points cep.0 (port_for s.udps.points port) cbr) rest)

-- the oldest datagram is taken
pub taken_settles : (s : UdpSide) (cep : CepId) (code : Er) (bytes : List ℕ) → UdpAtRest s → settled (answered (with_point s cep without_oldest) code bytes) ≡ answered (with_point s cep without_oldest) code bytes
taken_settles s cep code bytes rest =
    settled_none (answered (with_point s cep without_oldest) code bytes) (still_rests s.udps (with_point s cep without_oldest).udps s.pend.calls (taken_no_more s.udps.points cep.0) rest)

-- ---- ends

-- a call that was found by any test leaves no other ready
leaves_rest : (u : PlainUdps) (p : PlainPend) (f : NetCall → Bool) (x : Option (NetCall × List NetCall)) (code : Er)
    → take_first f p.calls ≡ x
    → take_first (is_ready u) p.calls ≡ None
    → take_first (is_ready u) (ended_where (no_endings p) x code).pend.calls ≡ None
leaves_rest u p f None code e rest = rest
leaves_rest u p f (Some x) code e rest = (found f (is_ready u) p.calls x rest e).1

-- the call that waits at an end point ends with it
pub deleted_settles : (s : UdpSide) (cep : CepId) → UdpAtRest s → settled (deleted s cep) ≡ deleted s cep
deleted_settles s cep rest =
    settled_none (deleted s cep) (
    still_rests s.udps (side_after (deleted s cep)).udps (side_after (deleted s cep)).pend.calls (deleted_no_more s.udps.points cep.0)
    (leaves_rest s.udps s.pend (is_least (is_named true cep functions.All) part_of s.pend.calls) (named s.pend true cep functions.All) _ refl rest)
    )

-- the call that a cancel names ends
pub cancelled_settles : (s : UdpSide) (cep : CepId) (func : FnCode) → UdpAtRest s → settled (cancelled s cep func) ≡ cancelled s cep func
cancelled_settles s cep func rest =
    settled_none (cancelled s cep func) (leaves_rest s.udps s.pend (is_least (is_named true cep func) part_of s.pend.calls) (named s.pend true cep func) _ refl rest)

-- the end of a call from outside ends no other
pub ended_settles : (s : UdpSide) (number : CallNo) (code : Er) → UdpAtRest s → ended s number code ≡ ended_at s number code
unfolding ended
ended_settles s number code rest = settled_none (ended_at s number code) (leaves_rest s.udps s.pend (has_number number) (numbered s.pend number) code refl rest)

-- ---- waiting

-- a receive waits where no datagram is
pub waiting_settles : (s : UdpSide) (by : TaskId) (cep : CepId) (len : ℕ) (tmo : Tmo) (number : CallNo)
    → queue_of (get s.udps.points cep.0) ≡ []
    → UdpAtRest s
    → settled (waiting s by cep len tmo number) ≡ waiting s by cep len tmo number
waiting_settles s by cep len tmo number empty rest =
    settled_none (waiting s by cep len tmo number)
    (none_append (is_ready after) s.pend.calls (new ∷ []) (still_rests s.udps after s.pend.calls no_more rest) (none_from_parts (is_ready after) new [] (not_met s.udps.points after.points cep.0 no_more (ap has_some empty)) refl))
  where
    after : PlainUdps
    after = (with_point s cep (with_wanted len)).udps

    new : NetCall
    new = record { call = number; who = who_is_told by (routine_at (get after.points cep.0)) tmo; slot = slot_of cep functions.UdpRcv }

    no_more : NoMore s.udps.points after.points
    no_more = wanted_no_more s.udps.points cep.0 len
