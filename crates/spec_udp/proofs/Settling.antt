-- What settling does: it leaves no call ready, so none is ready after any call, arrival or end. Where one call alone is ready, it
-- alone ends.
use Rattle.std.proofs.Common.{◌≡◌, ℕ, zero, suc, ◌≤◌, Bool, true, false, ◌&&◌, List, [], length, Option, None, Some, refl, inl, inr, arith}
use Rattle.std.proofs.lemmas.List.{nil_from_length}
use Rattle.it_types.specs.declared.id.CallNo.{CallNo}
use Rattle.it_types.specs.declared.er.Er.{Er}
use Rattle.it_types.specs.declared.context.Ctx.{Ctx}
use Rattle.it_types.specs.declared.request.Req.{Req}
use Rattle.spec_lists.specs.Tables.{get}
use Rattle.spec_lists.specs.First.{take_first}
use Rattle.spec_lists.proofs.Firsts.{cases_of_first, none_weaker, take_first-shorter}
use Rattle.spec_udp.specs.Points.{has_some, queue_of}
use Rattle.spec_udp.specs.Packets.{arrived_in}
use Rattle.spec_pend.specs.declared.call.NetCall.{NetCall}
use Rattle.spec_pend.specs.declared.slot.Part.{Part}
use Rattle.spec_pend.specs.declared.slot.Part.TheVariants.{Conn, Send, Recv}
use Rattle.spec_udp.specs.declared.point.UdpPoint.{UdpPoint}
use Rattle.spec_udp.specs.PlainUdps.{PlainUdps, UdpSide, UdpOutcome, side_after}
use Rattle.spec_udp.specs.Settling.{is_met, is_ready, first_ready, UdpAtRest, met, settle, settled}
use Rattle.spec_udp.specs.Rows.{row, udp_call}
use Rattle.spec_udp.specs.Arrival.{after_arrival, arrive}
use Rattle.spec_udp.specs.Outside.{ended_at, ended}

-- ---- no call is ready

-- where no call is ready, nothing ends
pub settle_none : (n : ℕ) (o : UdpOutcome) → UdpAtRest (side_after o) → settle n o ≡ o
unfolding settle
settle_none zero o e = refl
settle_none (suc n) o e = rw e refl

-- after as many turns as calls wait, no call is ready
pub settle_rests : (n : ℕ) (o : UdpOutcome) → length o.endings.pend.calls ≤ n → UdpAtRest (side_after (settle n o))
unfolding settle
settle_rests zero o le = let none : o.endings.pend.calls ≡ [] = nil_from_length o.endings.pend.calls (omega arith) in rw none refl
settle_rests (suc n) o le = elim (cases_of_first (first_ready (side_after o))) [
  | inl e ↦ rw e e
  | inr w ↦ rw w.1 (settle_rests n (met o w.0) (omega (arith, take_first-shorter (is_ready o.udps) o.endings.pend.calls w.0 w.1)))
]

-- the outcome of a row after which no call is ready is that of the row
pub settled_none : (o : UdpOutcome) → UdpAtRest (side_after o) → settled o ≡ o
unfolding settled
settled_none o e = settle_none (length o.endings.pend.calls) o e

pub settled_rests : (o : UdpOutcome) → UdpAtRest (side_after (settled o))
unfolding settled
settled_rests o = settle_rests (length o.endings.pend.calls) o (omega arith)

-- no call is ready after a UDP call
pub udp_call_rests : (s : UdpSide) (ctx : Ctx) (request : Req) (number : CallNo) → UdpAtRest (side_after (udp_call s ctx request number))
unfolding udp_call
udp_call_rests s ctx request number = settled_rests (row s ctx request number)

-- no call is ready after a packet has arrived
pub arrive_rests : (s : UdpSide) (bytes : List ℕ) → UdpAtRest (side_after (arrive s bytes))
unfolding arrive
arrive_rests s bytes = settled_rests (after_arrival s (arrived_in s.udps.addr bytes))

-- no call is ready after one was ended from outside
pub ended_rests : (s : UdpSide) (number : CallNo) (code : Er) → UdpAtRest (side_after (ended s number code))
unfolding ended
ended_rests s number code = settled_rests (ended_at s number code)

-- ---- one call is ready

-- what is met at the end points after a change was met before it
abbrev pub NoMore : List (Option UdpPoint) → List (Option UdpPoint) → Type 0
NoMore before after = (i : ℕ) → has_some (queue_of (get after i)) ≡ true → has_some (queue_of (get before i)) ≡ true

met_before : (before after : List (Option UdpPoint)) (i : ℕ) (part : Part) → NoMore before after → is_met (get after i) part ≡ true → is_met (get before i) part ≡ true
met_before before after i Conn no_more e = e
met_before before after i Send no_more e = e
met_before before after i Recv no_more e = no_more i e

both : (a b c : Bool) → (b ≡ true → c ≡ true) → (a && b) ≡ true → (a && c) ≡ true
both true b c less e = less e
both false b c less e = e

-- no call is ready after a change by which no more is met
pub still_rests : (before after : PlainUdps) (calls : List NetCall)
    → NoMore before.points after.points
    → take_first (is_ready before) calls ≡ None
    → take_first (is_ready after) calls ≡ None
still_rests before after calls no_more rest =
    none_weaker (is_ready after) (is_ready before) calls
    (λ c e. both c.slot.udp (is_met (get after.points c.slot.cep.0) c.slot.part) (is_met (get before.points c.slot.cep.0) c.slot.part) (met_before before.points after.points c.slot.cep.0 c.slot.part no_more) e) rest

settle_one : (n : ℕ) (o : UdpOutcome) (x : NetCall × List NetCall)
    → length o.endings.pend.calls ≤ n
    → first_ready (side_after o) ≡ Some x
    → UdpAtRest (side_after (met o x))
    → settle n o ≡ met o x
unfolding settle
settle_one zero o x le e rest = absurd (omega (arith, le, take_first-shorter (is_ready o.udps) o.endings.pend.calls x e))
settle_one (suc n) o x le e rest = rw e (settle_none n (met o x) rest)

-- at rest before an event: the one call that it made ready ends, and by its end no more is met than before the event
pub settles_one : (before : PlainUdps) (o : UdpOutcome) (x : NetCall × List NetCall)
    → first_ready (side_after o) ≡ Some x
    → take_first (is_ready before) x.1 ≡ None
    → NoMore before.points (met o x).udps.points
    → settled o ≡ met o x
unfolding settled
settles_one before o x e rest no_more = settle_one (length o.endings.pend.calls) o x (omega arith) e (still_rests before (met o x).udps x.1 no_more rest)
