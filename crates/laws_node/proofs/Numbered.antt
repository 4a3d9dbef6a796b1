-- Each event of a node with handlers gives its number to one call at most, and that number is above all others.
use Rattle.std.proofs.Common.{◌≡◌, ℕ, zero, suc, ◌+◌, ◌<◌, ◌≤◌, Bool, true, false, ◌&&◌, List, [], ◌∷◌, length, Option, Some, None, refl, ap, subst, inl, inr, arith}
use Rattle.std.specs.Prelude.{◌==◌}
use Rattle.std.proofs.lemmas.Bool.{cases_Bool, cases_eq, ne_eqb, and_parts, and_right}
use Rattle.it_types.specs.declared.id.ObjId.{ObjId}
use Rattle.it_types.specs.declared.id.CepId.{CepId}
use Rattle.it_types.specs.declared.id.CallNo.{CallNo}
use Rattle.it_types.specs.declared.er.Er.{Er}
use Rattle.it_types.specs.declared.er.TheConstants.{E_DLT, E_RLWAI}
use Rattle.it_types.specs.declared.context.Ctx.{Ctx}
use Rattle.it_types.specs.declared.context.Ctx.TheVariants as contexts
use Rattle.it_types.specs.declared.handler.FnCode.TheVariants as functions
use Rattle.it_types.specs.declared.kernel_request.KReq.{KReq}
use Rattle.it_types.specs.declared.request.Req.{Req}
use Rattle.it_types.specs.Callers.{caller, is_nblk}
use Rattle.it_types.specs.Requests.{kernel_of, timeout_of}
use Rattle.spec_lists.specs.Tables.{get}
use Rattle.spec_lists.specs.First.{take_first, is_least}
use Rattle.spec_lists.specs.Counting.{one_if}
use Rattle.spec_lists.proofs.Counting.{one_if-at_most}
use Rattle.spec_lists.proofs.Firsts.{cases_of_first}
use Rattle.spec_kernel.specs.declared.outcome.KEnd.{KEnd}
use Rattle.spec_kernel.specs.declared.reason.WaitReason.TheVariants as reasons
use Rattle.spec_kernel.specs.declared.reason.WaitingCall.{WaitingCall}
use Rattle.spec_kernel.specs.PlainKernel.{PlainKernel}
use Rattle.spec_kernel.specs.Settle.{Outcome}
use Rattle.spec_kernel.specs.Time.{due}
use Rattle.spec_kernel.specs.Rows as kernel_rows
use Rattle.spec_udp.specs.declared.point.Received.{Received}
use Rattle.spec_udp.specs.Packets.{Arrived, arrived_in}
use Rattle.spec_pend.specs.declared.slot.Slot.{Slot}
use Rattle.spec_pend.specs.declared.call.Who.{Who}
use Rattle.spec_pend.specs.declared.call.Who.TheVariants as whos
use Rattle.spec_pend.specs.declared.call.NetCall.{NetCall}
use Rattle.spec_pend.specs.declared.answer.NetEnd.{NetEnd}
use Rattle.spec_pend.specs.declared.answer.NetAnswer.{NetAnswer}
use Rattle.spec_pend.specs.declared.answer.NetAnswer.TheVariants as net_answers
use Rattle.spec_pend.specs.PlainPend.{PlainPend, no_endings}
use Rattle.spec_pend.specs.Slots.{is_named, part_of, named, has_number, numbered}
use Rattle.spec_pend.specs.Ends.{ended_where}
use Rattle.spec_udp.specs.PlainUdps.{UdpSide, UdpOutcome, quiet}
use Rattle.spec_udp.specs.Points.{routine_at, joined, with_wanted, with_sending}
use Rattle.spec_udp.specs.Rows.{slot_of, with_point, row, udp_call}
use Rattle.spec_udp.specs.Settling.{settled}
use Rattle.spec_udp.specs.Arrival.{with_port, has_place, is_event, with_event, queued, at_point, after_arrival, arrive}
use Rattle.spec_udp.specs.Outside.{ended_at, ended}
use Rattle.spec_node.specs.declared.event.NodeEv.{NodeEv}
use Rattle.spec_node.specs.declared.event.NodeEv.TheVariants.{Call, Return, Begin, Finish, Tick, Arrive}
use Rattle.spec_node.specs.PlainNode.{PlainNode}
use Rattle.spec_node.specs.Progress.{Progress, woken_for, woken_by, after_end, after_ends, after_kernel, time_out, timed_out}
use Rattle.spec_node.specs.NodeStep.{beginning, blocked_where, kernel_called, network_called, called_as, arrived, tick_beginning, ticked, returned, begun, finished, node_step}
use Rattle.spec_node.specs.Admitted.{is_free, is_admitted}
use Rattle.laws_kernel.specs.Calling.{Calls, AllAtMost, AreNumbered}
use Rattle.laws_kernel.proofs.Numbers.{call_numbered, tick_numbered, due_numbered, blocked_numbered, unblocked_numbered}
use Rattle.laws_node.specs.Agreement.{times, tells_routine, is_routine_call, is_numbered}
use Rattle.laws_node.proofs.Times.{times_end}
use Rattle.laws_node.proofs.Rising.{AllBelow}
use Rattle.laws_node.proofs.RowActs.{either, row_acts}
use Rattle.laws_node.proofs.NetMoves.{call_number, calls_of, settle_left}
use Rattle.laws_node.proofs.Alike.{shrinks_times}
use Rattle.laws_node.proofs.KeepingPoints.{where_shrinks}
use Rattle.laws_node.proofs.Borne.{call_numbers, tick_numbers, due_numbers, unblocked_numbers}
use Rattle.laws_node.proofs.Joining.{numbered_next, joined as joined_call}
use Rattle.laws_node.proofs.Along.{Holds, calls_itself}

-- how many calls that wait have the number
abbrev pub borne : ℕ → PlainKernel → PlainPend → ℕ
borne number k p = times (is_numbered number) k.waits + times (is_routine_call number) p.calls

-- none more has any number
record Going (k : PlainKernel) (p : PlainPend) (l : PlainKernel) (q : PlainPend) : Type 0 where
  fewer : (number : ℕ) → borne number l q ≤ borne number k p
  numbered : AreNumbered k → AreNumbered l

stays : (k : PlainKernel) (p : PlainPend) → Going k p k p
stays k p = record { fewer = λ number. omega arith; numbered = λ h. h }

goes_on : (k l m : PlainKernel) (p q r : PlainPend) → Going k p l q → Going l q m r → Going k p m r
goes_on k l m p q r first second = record { fewer = λ number. omega (arith, first.fewer number, second.fewer number); numbered = λ h. second.numbered (first.numbered h) }

-- ---- ends

woken_for_going : (k : PlainKernel) (who : Who) (p : PlainPend) → Going k p (woken_for k who) p
woken_for_going k (whos.Task t) p = record { fewer = λ number. omega (arith, unblocked_numbers k t number); numbered = unblocked_numbered k t }
woken_for_going k (whos.Callback t cbr) p = stays k p

woken_by_going : (k : PlainKernel) (es : List NetEnd) (p : PlainPend) → Going k p (woken_by k es) p
woken_by_going k [] p = stays k p
woken_by_going k (e ∷ es) p = goes_on k (woken_for k e.who) (woken_by (woken_for k e.who) es) p p p (woken_for_going k e.who p) (woken_by_going (woken_for k e.who) es p)

-- an event of the network part after which no more calls wait
net_going : (k : PlainKernel) (p : PlainPend) (o : UdpOutcome) → ((f : NetCall → Bool) → times f (calls_of o) ≤ times f p.calls) → Going k p (woken_by k o.endings.ends) o.endings.pend
net_going k p o fewer = goes_on k k (woken_by k o.endings.ends) p o.endings.pend o.endings.pend
    (record { fewer = λ number. omega (arith, fewer (is_routine_call number)); numbered = λ h. h }) (woken_by_going k o.endings.ends o.endings.pend)

settled_fewer : (o : UdpOutcome) (f : NetCall → Bool) → times f (calls_of (settled o)) ≤ times f (calls_of o)
unfolding settled
settled_fewer o f = (settle_left (length o.endings.pend.calls) o).fewer f

ended_fewer : (s : UdpSide) (number : CallNo) (code : Er) (f : NetCall → Bool) → times f (calls_of (ended s number code)) ≤ times f s.pend.calls
unfolding ended
ended_fewer s number code f = omega (arith, settled_fewer (ended_at s number code) f, shrinks_times f s.pend.calls _ (where_shrinks s.pend (has_number number) (numbered s.pend number) code refl))

-- ---- what the kernel did is taken over

abbrev ProgressGoing : Progress → Progress → Type 0
ProgressGoing p q = Going p.kernel p.net.pend q.kernel q.net.pend

after_end_going : (p : Progress) (e : KEnd) → ProgressGoing p (after_end p e)
after_end_going p e = elim (cases_Bool e.outside) [
  | inl t ↦ rw t (net_going p.kernel p.net.pend (ended p.net e.call e.code) (ended_fewer p.net e.call e.code))
  | inr t ↦ rw t (stays p.kernel p.net.pend)
]

after_ends_going : (p : Progress) (es : List KEnd) → ProgressGoing p (after_ends p es)
after_ends_going p [] = stays p.kernel p.net.pend
after_ends_going p (e ∷ es) =
    let q : Progress = after_end p e in goes_on p.kernel q.kernel (after_ends q es).kernel p.net.pend q.net.pend (after_ends q es).net.pend (after_end_going p e) (after_ends_going q es)

after_kernel_going : (p : Progress) (o : Outcome) → Going o.kernel p.net.pend (after_kernel p o).kernel (after_kernel p o).net.pend
unfolding after_kernel
after_kernel_going p o = after_ends_going (record p { kernel = o.kernel }) o.ends

time_out_going : (n : ℕ) (p : Progress) → ProgressGoing p (time_out n p)
unfolding time_out
time_out_going zero p = stays p.kernel p.net.pend
time_out_going (suc n) p = elim (cases_of_first (due p.kernel)) [
  | inl e ↦ rw e (stays p.kernel p.net.pend)
  | inr o ↦ (
      let q : Progress = after_kernel p o.0 in
      let ends : Going p.kernel p.net.pend o.0.kernel p.net.pend = record { fewer = λ number. omega (arith, due_numbers p.kernel o.0 o.1 number); numbered = due_numbered p.kernel o.0 o.1 } in
      let first = goes_on p.kernel o.0.kernel q.kernel p.net.pend p.net.pend q.net.pend ends (after_kernel_going p o.0) in
      rw o.1 (goes_on p.kernel q.kernel (time_out n q).kernel p.net.pend q.net.pend (time_out n q).net.pend first (time_out_going n q))
      )
]

timed_out_going : (p : Progress) → ProgressGoing p (timed_out p)
unfolding timed_out
timed_out_going p = time_out_going (length p.kernel.waits) p

-- ---- the row of a call of the network part

one_if-and : (a b : Bool) → one_if (a && b) ≤ one_if a
one_if-and true b = one_if-at_most b
one_if-and false b = omega arith

module _ (k : PlainKernel) (ctx : Ctx) (request : Req) (calls : ℕ) where
  -- the kernel in which the task that calls waits, or not
  abbrev begun_for : NetAnswer → PlainKernel
  begun_for answer = blocked_where answer k ctx request (numbered_next calls)

  -- the number of the call is borne once more at most
  abbrev OneMore : PlainPend → UdpOutcome → Type 0
  OneMore p o = (number : ℕ) → borne number (begun_for o.answer) o.endings.pend ≤ borne number k p + one_if (calls + 1 == number)

  accepted_one_more : (s : UdpSide) (later : Bool) (routine : ObjId) (slot : Slot) → OneMore s.pend (joined_call s later (caller ctx) routine slot (numbered_next calls))
  accepted_one_more s true routine slot number =
      omega (arith, times_end (is_routine_call number) s.pend.calls (record { call = numbered_next calls; who = whos.Callback (caller ctx) routine; slot = slot }), one_if-and (calls + 1 == number) true)
  accepted_one_more s false routine slot number =
      omega (
        arith,
        times_end (is_routine_call number) s.pend.calls (record { call = numbered_next calls; who = whos.Task (caller ctx); slot = slot }),
        ap one_if (and_right (calls + 1 == number) false refl),
        times_end (is_numbered number) k.waits (kernel_rows.waiting_call k (caller ctx) reasons.Outside (timeout_of request) (numbered_next calls)),
      )

  ended_one_more : (p : PlainPend) (f : NetCall → Bool) (x : Option (NetCall × List NetCall)) (code : Er) → take_first f p.calls ≡ x → (number : ℕ)
      → borne number k (ended_where (no_endings p) x code).pend ≤ borne number k p + one_if (calls + 1 == number)
  ended_one_more p f x code e number = omega (arith, shrinks_times (is_routine_call number) p.calls (ended_where (no_endings p) x code).pend.calls (where_shrinks p f x code e))

  row_one_more : (s : UdpSide) → OneMore s.pend (row s ctx request (numbered_next calls))
  row_one_more s = row_acts {s = s} {ctx = ctx} {number = numbered_next calls} (OneMore s.pend) (record {
    answers = λ code number. omega arith;
    makes = λ cep port cbr none free known number. omega arith;
    deletes = λ cep. ended_one_more s.pend (is_least (is_named true cep functions.All) part_of s.pend.calls) (named s.pend true cep functions.All) E_DLT refl;
    sends = λ cep dest load number. omega arith;
    takes = λ cep code bytes number. omega arith;
    sends_later = λ cep what tmo allowed nblk. accepted_one_more (with_point s cep (with_sending (Some what))) (is_nblk tmo) (routine_at (get (with_point s cep (with_sending (Some what))).udps.points cep.0)) (slot_of cep functions.UdpSnd);
    waits = λ cep len tmo allowed none. accepted_one_more (with_point s cep (with_wanted len)) (is_nblk tmo) (routine_at (get (with_point s cep (with_wanted len)).udps.points cep.0)) (slot_of cep functions.UdpRcv);
    cancels = λ cep func. ended_one_more s.pend (is_least (is_named true cep func) part_of s.pend.calls) (named s.pend true cep func) E_RLWAI refl;
  }) request

  call_one_more : (s : UdpSide) → OneMore s.pend (udp_call s ctx request (numbered_next calls))
  unfolding udp_call settled
  call_one_more s number =
      let r : UdpOutcome = row s ctx request (numbered_next calls) in
      let left = settle_left (length r.endings.pend.calls) r in
      omega (arith, row_one_more s number, left.fewer (is_routine_call number), ap (λ a. times (is_numbered number) (begun_for a).waits) left.answer)

  begun_numbered : (answer : NetAnswer) → k.last_call ≤ calls → AreNumbered k → AreNumbered (begun_for answer)
  begun_numbered net_answers.Pends le h = blocked_numbered k (caller ctx) (timeout_of request) (numbered_next calls) (omega (arith, le)) h
  begun_numbered net_answers.Later le h = h
  begun_numbered (net_answers.Now code bytes) le h = h
  begun_numbered net_answers.Quiet le h = h

-- ---- arrivals

module _ (s : UdpSide) where
  abbrev NoMore : UdpOutcome → Type 0
  NoMore o = (f : NetCall → Bool) → times f (calls_of o) ≤ times f s.pend.calls

  queued_no_more : (cep : CepId) (d : Received) → NoMore (queued s cep d)
  queued_no_more cep d =
      let joins : UdpOutcome = quiet (with_point s cep (joined d)) in either NoMore (is_event s cep) (with_event joins cep (length d.load)) joins (λ event f. omega arith) (λ none f. omega arith)

  at_point_no_more : (d : Received) (cep : Option CepId) → NoMore (at_point s d cep)
  at_point_no_more d None = λ f. omega arith
  at_point_no_more d (Some cep) = either NoMore (has_place (get s.udps.points cep.0)) (queued s cep d) (quiet s) (λ place. queued_no_more cep d) (λ full f. omega arith)

  arrival_no_more : (a : Option Arrived) → NoMore (after_arrival s a)
  arrival_no_more None = λ f. omega arith
  arrival_no_more (Some a) = at_point_no_more a.received (with_port 0 a.port s.udps.points)

  arrive_no_more : (bytes : List ℕ) → NoMore (arrive s bytes)
  unfolding arrive
  arrive_no_more bytes f = omega (arith, settled_fewer (after_arrival s (arrived_in s.udps.addr bytes)) f, arrival_no_more (arrived_in s.udps.addr bytes) f)

-- ---- the events

pub record Numbers (k : PlainKernel) (p : PlainPend) : Type 0 where
  pub once : (number : ℕ) → borne number k p ≤ 1
  pub numbered : AreNumbered k

going_numbers : (k : PlainKernel) (p : PlainPend) (l : PlainKernel) (q : PlainPend) → Going k p l q → Numbers k p → Numbers l q
going_numbers k p l q g h = record { once = λ number. omega (arith, g.fewer number, h.once number); numbered = g.numbered h.numbered }

none_waits : (last number : ℕ) (ws : List WaitingCall) → last < number → AllAtMost last ws → times (is_numbered number) ws ≡ 0
none_waits last number [] above h = refl
none_waits last number (w ∷ ws) above h = omega (arith, none_waits last number ws above h.1, ap one_if (ne_eqb w.call.0 number (λ e. omega (arith, e, h.0, above))))

none_is_told : (last number : ℕ) (cs : List NetCall) → last < number → AllBelow call_number (last + 1) cs → times (is_routine_call number) cs ≡ 0
none_is_told last number [] above h = refl
none_is_told last number (c ∷ cs) above h =
    omega (arith, none_is_told last number cs above h.1, one_if-and (c.call.0 == number) (tells_routine c.who), ap one_if (ne_eqb c.call.0 number (λ e. omega (arith, e, h.0, above))))

-- the next number is borne by none
fresh : (n : PlainNode) → Holds n → AreNumbered n.kernel → borne (n.calls + 1) n.kernel n.net.pend ≡ 0
fresh n h numbered =
    omega (arith, none_waits n.kernel.last_call (n.calls + 1) n.kernel.waits (omega (arith, h.sound.last)) numbered, none_is_told n.net.pend.last (n.calls + 1) n.net.pend.calls (omega (arith, h.sound.drawn)) h.sound.below)

-- so one call may have it
one_more_numbers : (n : PlainNode) (l : PlainKernel) (q : PlainPend)
    → Holds n
    → Numbers n.kernel n.net.pend
    → ((number : ℕ) → borne number l q ≤ borne number n.kernel n.net.pend + one_if (n.calls + 1 == number))
    → AreNumbered l
    → Numbers l q
one_more_numbers n l q h g more numbered = record { once = once; numbered = numbered }
  where
    once : (number : ℕ) → borne number l q ≤ 1
    once number = elim (cases_eq (n.calls + 1) number) [
      | inl same ↦ (let none : borne number n.kernel n.net.pend ≡ 0 = subst (λ m. borne m n.kernel n.net.pend ≡ 0) same (fresh n h g.numbered) in omega (arith, more number, none, one_if-at_most (n.calls + 1 == number)))
      | inr other ↦ omega (arith, more number, g.once number, ap one_if (ne_eqb (n.calls + 1) number other))
    ]

-- of a node
abbrev pub NodeNumbers : PlainNode → Type 0
NodeNumbers n = Numbers n.kernel n.net.pend

kernel_called_numbers : (n : PlainNode) (ctx : Ctx) (request : KReq) → Calls n.kernel ctx → Holds n → NodeNumbers n → NodeNumbers (kernel_called n ctx request).0
unfolding kernel_called
kernel_called_numbers n ctx request calls h g =
    let number : CallNo = numbered_next n.calls in
    let o : Outcome = kernel_rows.call n.kernel ctx request number in
    let q : Progress = after_kernel (beginning n) o in
    let going = after_kernel_going (beginning n) o in
    one_more_numbers n q.kernel q.net.pend h g (λ m. omega (arith, going.fewer m, call_numbers n.kernel ctx request number m))
    (going.numbered (call_numbered n.kernel ctx request number h.sound.stands calls (omega (arith, h.sound.last)) g.numbered))

network_called_numbers : (n : PlainNode) (ctx : Ctx) (request : Req) → Holds n → NodeNumbers n → NodeNumbers (network_called n ctx request).0
unfolding network_called
network_called_numbers n ctx request h g =
    let o : UdpOutcome = udp_call n.net ctx request (numbered_next n.calls) in
    let start : PlainKernel = blocked_where o.answer n.kernel ctx request (numbered_next n.calls) in
    let woken = woken_by_going start o.endings.ends o.endings.pend in
    one_more_numbers n (woken_by start o.endings.ends) o.endings.pend h g (λ m. omega (arith, woken.fewer m, call_one_more n.kernel ctx request n.calls n.net m))
    (woken.numbered (begun_numbered n.kernel ctx request n.calls o.answer h.sound.last g.numbered))

called_numbers : (n : PlainNode) (ctx : Ctx) (request : Req) (call : Option KReq) → Calls n.kernel ctx → Holds n → NodeNumbers n → NodeNumbers (called_as n ctx request call).0
called_numbers n ctx request (Some call) calls h g = kernel_called_numbers n ctx call calls h g
called_numbers n ctx request None calls h g = network_called_numbers n ctx request h g

ticked_numbers : (n : PlainNode) → NodeNumbers n → NodeNumbers (ticked n).0
unfolding ticked
ticked_numbers n g =
    let o : Outcome = kernel_rows.tick n.kernel in
    let start : Progress = tick_beginning n in
    let first : Progress = after_kernel start o in
    let ticks : Numbers o.kernel start.net.pend = record { once = λ m. omega (arith, tick_numbers n.kernel m, g.once m); numbered = tick_numbered n.kernel g.numbered } in
    going_numbers first.kernel first.net.pend _ _ (timed_out_going first) (going_numbers o.kernel start.net.pend first.kernel first.net.pend (after_kernel_going start o) ticks)

pub step_numbers : (n : PlainNode) (event : NodeEv) → is_admitted n event ≡ true → Holds n → NodeNumbers n → NodeNumbers (node_step n event).0
unfolding node_step returned begun finished arrived
step_numbers n (Call (contexts.Task task) request) e h g = called_numbers n (contexts.Task task) request (kernel_of request) (calls_itself n task (and_parts (is_free n task) _ e).0) h g
step_numbers n (Call contexts.Handler request) e h g = called_numbers n contexts.Handler request (kernel_of request) (λ t is. absurd cc) h g
step_numbers n (Return task) e h g = g
step_numbers n Begin e h g = record { once = g.once; numbered = g.numbered }
step_numbers n Finish e h g = g
step_numbers n Tick e h g = ticked_numbers n g
step_numbers n (Arrive bytes) e h g = going_numbers n.kernel n.net.pend _ _ (net_going n.kernel n.net.pend (arrive n.net bytes) (arrive_no_more n.net bytes)) g
