-- A cyclic handler is due at most once, and handlers come before tasks.
use Rattle.std.proofs.Common.{◌≡◌, ◌≢◌, ℕ, zero, suc, ◌+◌, ◌≤◌, Bool, true, false, not, ◌&&◌, ◌||◌, List, [], ◌∷◌, ◌++◌, length, Option, Some, None, refl, sym, ap, ◌∙◌, inl, inr, arith}
use Rattle.std.specs.Prelude.{◌==◌}
use Rattle.std.specs.List.{list_any}
use Rattle.std.proofs.lemmas.Bool.{cases_Bool, eqb-true, eq-eqb, ne_eqb, and_parts, or_parts, not-true}
use Rattle.it_types.specs.declared.id.TaskId.{TaskId}
use Rattle.it_types.specs.declared.id.ObjId.{ObjId}
use Rattle.it_types.specs.declared.id.CepId.{CepId}
use Rattle.it_types.specs.declared.id.CallNo.{CallNo}
use Rattle.it_types.specs.declared.er.Er.{Er}
use Rattle.it_types.specs.declared.er.TheConstants.{E_DLT, E_RLWAI}
use Rattle.it_types.specs.declared.conf.KConf.{KConf}
use Rattle.it_types.specs.declared.context.Ctx.{Ctx}
use Rattle.it_types.specs.declared.context.Ctx.TheVariants as contexts
use Rattle.it_types.specs.declared.handler.Handler.{Handler}
use Rattle.it_types.specs.declared.handler.Handler.TheVariants.{Cyc}
use Rattle.it_types.specs.declared.handler.FnCode.TheVariants as functions
use Rattle.it_types.specs.declared.kernel_request.KReq.{KReq}
use Rattle.it_types.specs.declared.request.Req.{Req}
use Rattle.it_types.specs.Requests.{kernel_of}
use Rattle.spec_lists.specs.Tables.{get}
use Rattle.spec_lists.specs.Counting.{one_if}
use Rattle.spec_lists.proofs.Firsts.{cases_of_first}
use Rattle.spec_kernel.specs.declared.outcome.KEnd.{KEnd}
use Rattle.spec_kernel.specs.PlainClock.{due_at_tick}
use Rattle.spec_kernel.specs.Settle.{Outcome}
use Rattle.spec_kernel.specs.Time.{due}
use Rattle.spec_kernel.specs.Rows as kernel_rows
use Rattle.spec_udp.specs.declared.point.Received.{Received}
use Rattle.spec_udp.specs.Receiving.{count_code}
use Rattle.spec_udp.specs.Packets.{Arrived, arrived_in}
use Rattle.spec_pend.specs.declared.slot.Slot.{Slot}
use Rattle.spec_pend.specs.declared.call.Who.{Who}
use Rattle.spec_pend.specs.declared.call.Who.TheVariants as whos
use Rattle.spec_pend.specs.declared.call.NetCall.{NetCall}
use Rattle.spec_pend.specs.PlainPend.{PlainPend, no_endings}
use Rattle.spec_pend.specs.Slots.{named, numbered}
use Rattle.spec_pend.specs.Ends.{routine_told, handlers_for, ended_where, later_due, is_cyclic}
use Rattle.spec_udp.specs.PlainUdps.{UdpSide, UdpOutcome, side_after, quiet}
use Rattle.spec_udp.specs.Points.{routine_at, joined}
use Rattle.spec_udp.specs.Rows.{slot_of, with_point, row, udp_call}
use Rattle.spec_udp.specs.Settling.{first_ready, met_code, met_bytes, met, settle, settled}
use Rattle.spec_udp.specs.Arrival.{with_port, has_place, is_event, with_event, queued, at_point, after_arrival, arrive}
use Rattle.spec_udp.specs.Outside.{ended_at, ended}
use Rattle.spec_node.specs.declared.event.NodeEv.{NodeEv}
use Rattle.spec_node.specs.declared.event.NodeEv.TheVariants.{Call, Return, Begin, Finish, Tick, Arrive}
use Rattle.spec_node.specs.PlainNode.{PlainNode, opened_node, running_task, holds_answer, has_due, has_begun}
use Rattle.spec_node.specs.Handlers.{with_cyclic, with_cyclics}
use Rattle.spec_node.specs.Progress.{Progress, after_end, after_ends, after_kernel, time_out, timed_out}
use Rattle.spec_node.specs.NodeStep.{beginning, next_number, kernel_called, network_called, called_as, arrived, tick_beginning, ticked, returned, begun, finished, node_step}
use Rattle.spec_node.specs.Admitted.{is_free, is_admitted}
use Rattle.laws_node.specs.Agreement.{times}
use Rattle.laws_node.proofs.Times.{times_end}
use Rattle.laws_node.specs.Taken.{taken, Along}
use Rattle.laws_node.specs.Due.{DueOnce}
use Rattle.laws_node.proofs.RowActs.{either, row_acts}
use Rattle.laws_node.proofs.Alike.{none_times}

times_append : {X : Type 0} (p : X → Bool) (xs ys : List X) → times p (xs ++ ys) ≡ times p xs + times p ys
times_append p [] ys = omega arith
times_append p (x ∷ xs) ys = omega (arith, times_append p xs ys)

-- ---- what the network part does tells routines alone

-- the same cyclic handlers are due
abbrev SameCyclics : List Handler → List Handler → Type 0
SameCyclics before after = (cyc : ObjId) → times (is_cyclic cyc) after ≡ times (is_cyclic cyc) before

told_same : (before : List Handler) (who : Who) (slot : Slot) (code : Er) (bytes : List ℕ) → SameCyclics before (before ++ handlers_for who slot code bytes)
told_same before (whos.Task t) slot code bytes cyc = omega (arith, times_append (is_cyclic cyc) before [])
told_same before (whos.Callback t routine) slot code bytes cyc = omega (arith, times_append (is_cyclic cyc) before (handlers_for (whos.Callback t routine) slot code bytes))

settle_same : (n : ℕ) (o : UdpOutcome) → SameCyclics o.endings.pend.due (settle n o).endings.pend.due
unfolding settle
settle_same zero o cyc = refl
settle_same (suc n) o cyc = elim (cases_of_first (first_ready (side_after o))) [
  | inl e ↦ rw e refl
  | inr w ↦ (
      let z : NetCall × List NetCall = w.0 in
      let point = get o.udps.points z.0.slot.cep.0 in
      rw w.1 (settle_same n (met o z) cyc ∙ told_same o.endings.pend.due z.0.who z.0.slot (met_code point z.0.slot.part) (met_bytes point z.0.slot.part) cyc)
      )
]

-- what an outcome has made due before settling, it has afterwards
settled_same : (before : List Handler) (o : UdpOutcome) → SameCyclics before o.endings.pend.due → SameCyclics before (settled o).endings.pend.due
unfolding settled
settled_same before o same cyc = settle_same (length o.endings.pend.calls) o cyc ∙ same cyc

where_same : (p : PlainPend) (x : Option (NetCall × List NetCall)) (code : Er) → SameCyclics p.due (ended_where (no_endings p) x code).pend.due
where_same p None code cyc = refl
where_same p (Some z) code cyc = told_same p.due z.0.who z.0.slot code [] cyc

module _ (s : UdpSide) where
  abbrev Same : UdpOutcome → Type 0
  Same o = SameCyclics s.pend.due o.endings.pend.due

  row_same : (ctx : Ctx) (request : Req) (number : CallNo) → Same (row s ctx request number)
  row_same ctx request number = row_acts {s = s} {ctx = ctx} {number = number} Same (record {
    answers = λ code cyc. refl;
    makes = λ cep port cbr none free known cyc. refl;
    deletes = λ cep. where_same s.pend (named s.pend true cep functions.All) E_DLT;
    sends = λ cep dest load cyc. refl;
    takes = λ cep code bytes cyc. refl;
    sends_later = λ cep what tmo allowed nblk cyc. refl;
    waits = λ cep len tmo allowed none cyc. refl;
    cancels = λ cep func. where_same s.pend (named s.pend true cep func) E_RLWAI;
  }) request

  udp_call_same : (ctx : Ctx) (request : Req) (number : CallNo) → Same (udp_call s ctx request number)
  unfolding udp_call
  udp_call_same ctx request number = settled_same s.pend.due (row s ctx request number) (row_same ctx request number)

  ended_same : (number : CallNo) (code : Er) → Same (ended s number code)
  unfolding ended
  ended_same number code = settled_same s.pend.due (ended_at s number code) (where_same s.pend (numbered s.pend number) code)

  queued_same : (cep : CepId) (d : Received) → Same (queued s cep d)
  queued_same cep d =
      let joins : UdpOutcome = quiet (with_point s cep (joined d)) in
      either Same (is_event s cep) (with_event joins cep (length d.load)) joins (λ event cyc. omega (arith, times_end (is_cyclic cyc) s.pend.due (routine_told (routine_at (get joins.udps.points cep.0)) (slot_of cep functions.UdpEvent) (count_code (length d.load)) []))) (λ none cyc. refl)

  at_point_same : (d : Received) (cep : Option CepId) → Same (at_point s d cep)
  at_point_same d None = λ cyc. refl
  at_point_same d (Some cep) = either Same (has_place (get s.udps.points cep.0)) (queued s cep d) (quiet s) (λ place. queued_same cep d) (λ full cyc. refl)

  arrival_same : (a : Option Arrived) → Same (after_arrival s a)
  arrival_same None = λ cyc. refl
  arrival_same (Some a) = at_point_same a.received (with_port 0 a.port s.udps.points)

  arrive_same : (bytes : List ℕ) → Same (arrive s bytes)
  unfolding arrive
  arrive_same bytes = settled_same s.pend.due (after_arrival s (arrived_in s.udps.addr bytes)) (arrival_same (arrived_in s.udps.addr bytes))

-- ---- what the kernel ends

after_end_same : (p : Progress) (e : KEnd) → SameCyclics p.net.pend.due (after_end p e).net.pend.due
after_end_same p e cyc = elim (cases_Bool e.outside) [
  | inl t ↦ rw t (ended_same p.net e.call e.code cyc)
  | inr t ↦ rw t refl
]

after_ends_same : (p : Progress) (es : List KEnd) → SameCyclics p.net.pend.due (after_ends p es).net.pend.due
after_ends_same p [] cyc = refl
after_ends_same p (e ∷ es) cyc = after_ends_same (after_end p e) es cyc ∙ after_end_same p e cyc

after_kernel_same : (p : Progress) (o : Outcome) → SameCyclics p.net.pend.due (after_kernel p o).net.pend.due
unfolding after_kernel
after_kernel_same p o = after_ends_same (record p { kernel = o.kernel }) o.ends

time_out_same : (n : ℕ) (p : Progress) → SameCyclics p.net.pend.due (time_out n p).net.pend.due
unfolding time_out
time_out_same zero p cyc = refl
time_out_same (suc n) p cyc = elim (cases_of_first (due p.kernel)) [
  | inl e ↦ rw e refl
  | inr o ↦ rw o.1 (time_out_same n (after_kernel p o.0) cyc ∙ after_kernel_same p o.0 cyc)
]

timed_out_same : (p : Progress) → SameCyclics p.net.pend.due (timed_out p).net.pend.due
unfolding timed_out
timed_out_same p = time_out_same (length p.kernel.waits) p

-- ---- cyclic handlers come due

abbrev Once : List Handler → Type 0
Once handlers = (cyc : ObjId) → times (is_cyclic cyc) handlers ≤ 1

same_once : (before after : List Handler) → SameCyclics before after → Once before → Once after
same_once before after same once cyc = omega (arith, same cyc, once cyc)

one_more_once : (handlers : List Handler) (new : ObjId) → list_any (is_cyclic new) handlers ≡ false → Once handlers → Once (handlers ++ Cyc new ∷ [])
one_more_once handlers new none once cyc = elim (cases_Bool (new.0 == cyc.0)) [
  | inl t ↦ (
      let zero : times (is_cyclic cyc) handlers ≡ 0 = ap (λ i. times (is_cyclic (record { 0 = i })) handlers) (sym (eqb-true new.0 cyc.0 t)) ∙ none_times (is_cyclic new) handlers none in
      omega (arith, times_end (is_cyclic cyc) handlers (Cyc new), zero, ap one_if t)
      )
  | inr t ↦ omega (arith, times_end (is_cyclic cyc) handlers (Cyc new), once cyc, ap one_if t)
]

with_cyclics_once : (handlers : List Handler) (cycs : List ObjId) → Once handlers → Once (with_cyclics handlers cycs)
with_cyclics_once handlers [] once = once
with_cyclics_once handlers (new ∷ cycs) once =
    with_cyclics_once (with_cyclic handlers new) cycs (either Once (list_any (is_cyclic new) handlers) handlers (handlers ++ Cyc new ∷ []) (λ due. once) (λ none. one_more_once handlers new none once))

later_once : (handlers : List Handler) → Once handlers → Once (later_due handlers)
later_once [] once = once
later_once (h ∷ hs) once = λ cyc. omega (arith, once cyc)

-- ---- the events

called_once : (n : PlainNode) (ctx : Ctx) (request : Req) (call : Option KReq) → DueOnce n → DueOnce (called_as n ctx request call).0
unfolding kernel_called network_called
called_once n ctx request (Some call) once = same_once n.net.pend.due _ (after_kernel_same (beginning n) (kernel_rows.call n.kernel ctx call (next_number n))) once
called_once n ctx request None once = same_once n.net.pend.due _ (udp_call_same n.net ctx request (next_number n)) once

ticked_once : (n : PlainNode) → DueOnce n → DueOnce (ticked n).0
unfolding ticked
ticked_once n once =
    let first : Progress = after_kernel (tick_beginning n) (kernel_rows.tick n.kernel) in
    same_once first.net.pend.due _ (timed_out_same first)
    (same_once (tick_beginning n).net.pend.due _ (after_kernel_same (tick_beginning n) (kernel_rows.tick n.kernel)) (with_cyclics_once n.net.pend.due (due_at_tick n.kernel.clock) once))

pub step_once : (n : PlainNode) (event : NodeEv) → DueOnce n → DueOnce (node_step n event).0
unfolding node_step returned begun finished arrived
step_once n (Call ctx request) once = called_once n ctx request (kernel_of request) once
step_once n (Return task) once = once
step_once n Begin once = later_once n.net.pend.due once
step_once n Finish once = once
step_once n Tick once = ticked_once n once
step_once n (Arrive bytes) once = same_once n.net.pend.due _ (arrive_same n.net bytes) once

taken_once : (n : PlainNode) (event : NodeEv) → DueOnce n → DueOnce (taken n event)
taken_once n event once = go (is_admitted n event)
  where
    go : (b : Bool) → DueOnce (elim b [ true ↦ (node_step n event).0 | false ↦ n ])
    go true = step_once n event once
    go false = once

once_along : (n : PlainNode) (es : List NodeEv) → DueOnce n → Along DueOnce n es
once_along n [] once = once
once_along n (e ∷ es) once = (once, once_along (taken n e) es (taken_once n e once))

pub once_from_opening : (conf : KConf) (addr : ℕ) (routines : List ObjId) (es : List NodeEv) → Along DueOnce (opened_node conf addr routines) es
once_from_opening conf addr routines es = once_along (opened_node conf addr routines) es (λ cyc. omega arith)

-- ---- handlers come first

free_parts : (n : PlainNode) (task : TaskId) → is_free n task ≡ true → (has_due n ≡ false) × (has_begun n ≡ false)
free_parts n task e =
    let none = and_parts (not (has_due n || has_begun n)) (not (task.0 == 0) && ((running_task n).0 == task.0)) e in or_parts (has_due n) (has_begun n) (not-true (has_due n || has_begun n) none.0)

pub call_after : (n : PlainNode) (task : TaskId) (request : Req) → is_admitted n (Call (contexts.Task task) request) ≡ true → (has_due n ≡ false) × (has_begun n ≡ false)
call_after n task request e = free_parts n task (and_parts (is_free n task) (not (holds_answer n task)) e).0

pub return_after : (n : PlainNode) (task : TaskId) → is_admitted n (Return task) ≡ true → (has_due n ≡ false) × (has_begun n ≡ false)
return_after n task e = free_parts n task (and_parts (is_free n task) (holds_answer n task) e).0

runs_free : (n : PlainNode) → has_due n ≡ false → has_begun n ≡ false → (running_task n).0 ≢ 0 → is_free n (running_task n) ≡ true
runs_free n due begun some = rw (due, begun, ne_eqb (running_task n).0 0 some, eq-eqb (running_task n).0 (running_task n).0 refl) refl

pub may_call : (n : PlainNode) (request : Req) → has_due n ≡ false → has_begun n ≡ false → (running_task n).0 ≢ 0 → is_admitted n (Call (contexts.Task (running_task n)) request) ≡ not (holds_answer n (running_task n))
may_call n request due begun some = ap (λ b. b && not (holds_answer n (running_task n))) (runs_free n due begun some)

pub may_return : (n : PlainNode) → has_due n ≡ false → has_begun n ≡ false → (running_task n).0 ≢ 0 → is_admitted n (Return (running_task n)) ≡ holds_answer n (running_task n)
may_return n due begun some = ap (λ b. b && holds_answer n (running_task n)) (runs_free n due begun some)
