-- Over every list of events both parts of a node with handlers agree.
use Rattle.std.proofs.Common.{◌≡◌, ◌≢◌, ℕ, ◌+◌, ◌≤◌, true, false, not, ◌&&◌, ◌||◌, List, Option, Some, None, is_some, refl, sym, ap, ◌∙◌, subst, inl, inr, arith}
use mathlib.Core.Logic.{◌⊎◌}
use Rattle.std.specs.Prelude.{◌==◌}
use Rattle.std.proofs.lemmas.Bool.{eqb-true, eq-eqb, and_parts, not-true}
use Rattle.it_types.specs.declared.id.TaskId.{TaskId}
use Rattle.it_types.specs.declared.id.ObjId.{ObjId}
use Rattle.it_types.specs.declared.id.CepId.{CepId}
use Rattle.it_types.specs.declared.answer.Ans.{Ans}
use Rattle.it_types.specs.declared.answer.Ans.TheVariants as answers
use Rattle.it_types.specs.declared.context.Ctx.{Ctx}
use Rattle.it_types.specs.declared.context.Ctx.TheVariants as contexts
use Rattle.it_types.specs.declared.conf.KConf.{KConf}
use Rattle.it_types.specs.declared.handler.Handler.{Handler}
use Rattle.it_types.specs.declared.kernel_request.KReq.{KReq}
use Rattle.it_types.specs.declared.request.Req.{Req}
use Rattle.it_types.specs.Callers.{nobody}
use Rattle.it_types.specs.Requests.{kernel_of}
use Rattle.spec_kernel.specs.declared.outcome.KAns.TheVariants as kernel_answers
use Rattle.spec_kernel.specs.declared.reason.WaitingCall.{WaitingCall}
use Rattle.spec_kernel.specs.PlainTasks.{running}
use Rattle.spec_kernel.specs.PlainClock.{due_at_tick}
use Rattle.spec_kernel.specs.PlainKernel.{PlainKernel, tasks_of}
use Rattle.spec_kernel.specs.Settle.{Outcome}
use Rattle.spec_kernel.specs.Rows as kernel_rows
use Rattle.spec_kernel.specs.Opening.{IsDeclarable}
use Rattle.spec_udp.specs.declared.point.Received.{Received}
use Rattle.spec_udp.specs.Packets.{Arrived, arrived_in}
use Rattle.spec_lists.specs.Tables.{get}
use Rattle.spec_pend.specs.PlainPend.{PlainPend}
use Rattle.spec_pend.specs.Outs.{shown_answer}
use Rattle.spec_udp.specs.PlainUdps.{UdpSide, UdpOutcome, quiet}
use Rattle.spec_udp.specs.Points.{joined}
use Rattle.spec_udp.specs.Rows.{udp_call, with_point}
use Rattle.spec_udp.specs.Settling.{settled}
use Rattle.spec_udp.specs.Arrival.{with_port, has_place, is_event, with_event, queued, at_point, after_arrival, arrive}
use Rattle.spec_node.specs.NodeStep.{kernel_answer, beginning, node_after, blocked_where, drawn, kernel_called, network_called, called_as, arrived, tick_beginning, ticked, returned, begun, finished, node_step}
use Rattle.spec_node.specs.declared.event.NodeEv.{NodeEv}
use Rattle.spec_node.specs.declared.event.NodeEv.TheVariants.{Call, Return, Begin, Finish, Tick, Arrive}
use Rattle.spec_node.specs.PlainNode.{PlainNode, opened_node, running_task, holds_answer, has_due, has_begun}
use Rattle.spec_node.specs.Progress.{Progress, after_net, after_kernel, timed_out}
use Rattle.spec_node.specs.Handlers.{with_cyclics}
use Rattle.spec_node.specs.Admitted.{is_free, is_admitted}
use Rattle.laws_kernel.specs.Calling.{Calls}
use Rattle.laws_kernel.proofs.LastCalls.{call-last_call, tick-last_call}
use Rattle.laws_kernel.proofs.Opened.{opened_stands}
use Rattle.laws_node.proofs.KernelMoves.{call_grows, call_moves, tick_moves, tick_fewer}
use Rattle.laws_node.proofs.Holders.{HoldersFree, holders_fewer, dropped_free, HoldsNone, holders_called, held_free}
use Rattle.laws_node.proofs.RowActs.{either}
use Rattle.laws_node.proofs.Waking.{Sound, WokenSound, settled_sound, unended_sound}
use Rattle.laws_node.proofs.TakingOver.{Taken, net_taken, kernel_taken, timed_out_taken}
use Rattle.laws_node.proofs.Joining.{numbered_next, call_sound}

pub record Holds (n : PlainNode) : Type 0 where
  pub sound : Sound n.kernel n.net.pend n.calls
  pub free : HoldersFree n.held n.kernel.waits

done_holds : (n : PlainNode) (answer : Ans) (gone : TaskId) (p : Progress) (before : List WaitingCall) → Taken before p (n.calls + drawn answer) → HoldersFree n.held before → Holds (node_after n answer gone p)
done_holds n answer gone p before t free = record { sound = t.sound; free = held_free p.ends gone n.held p.kernel.waits t.free (holders_fewer n.held before p.kernel.waits t.fewer free) }

-- ---- calls

answer_numbers : (k : PlainKernel) (calls : ℕ) (o : Outcome)
    → k.last_call ≤ calls
    → ((o.answer ≡ kernel_answers.Pends) × (o.kernel.last_call ≡ calls + 1)) ⊎ ((o.answer ≢ kernel_answers.Pends) × (o.kernel.last_call ≡ k.last_call))
    → o.kernel.last_call ≤ calls + drawn (kernel_answer (calls + 1) o.answer)
answer_numbers k calls o le (inl h) = rw h.0 (omega (arith, h.1))
answer_numbers k calls o le (inr h) = omega (arith, h.1, le)

kernel_called_holds : (n : PlainNode) (ctx : Ctx) (request : KReq) → Calls n.kernel ctx → HoldsNone n.held ctx → Holds n → Holds (kernel_called n ctx request).0
unfolding kernel_called
kernel_called_holds n ctx request calls none h =
    let o : Outcome = kernel_rows.call n.kernel ctx request (numbered_next n.calls) in
    let answer : Ans = kernel_answer (n.calls + 1) o.answer in
    let moves = call_moves n.kernel ctx request (numbered_next n.calls) h.sound.stands calls in
    done_holds n answer o.gone (after_kernel (beginning n) o) o.kernel.waits
    (kernel_taken (beginning n) o n.calls (n.calls + drawn answer) h.sound (omega arith) (answer_numbers n.kernel n.calls o h.sound.last (call-last_call n.kernel ctx request (numbered_next n.calls))) tt moves)
    (holders_called n.held n.kernel.waits o.kernel ctx moves.stands none (call_grows n.kernel ctx request (numbered_next n.calls)) h.free)

network_called_holds : (n : PlainNode) (ctx : Ctx) (request : Req) → Calls n.kernel ctx → HoldsNone n.held ctx → Holds n → Holds (network_called n ctx request).0
unfolding network_called
network_called_holds n ctx request calls none h =
    let o : UdpOutcome = udp_call n.net ctx request (numbered_next n.calls) in
    let answer : Ans = shown_answer (numbered_next n.calls) o.answer in
    let start : Progress = record (beginning n) { kernel = blocked_where o.answer n.kernel ctx request (numbered_next n.calls) } in
    let after = call_sound n.kernel ctx request n.calls calls n.net h.sound in
    done_holds n answer nobody (after_net start o) start.kernel.waits (net_taken start o (n.calls + drawn answer) tt after.woken)
    (holders_called n.held n.kernel.waits start.kernel ctx after.stands none after.grows h.free)

called_holds : (n : PlainNode) (ctx : Ctx) (request : Req) (call : Option KReq) → Calls n.kernel ctx → HoldsNone n.held ctx → Holds n → Holds (called_as n ctx request call).0
called_holds n ctx request (Some call) calls none h = kernel_called_holds n ctx call calls none h
called_holds n ctx request None calls none h = network_called_holds n ctx request calls none h

-- ---- arrivals and ticks

-- the handlers that are due don't matter
due_sound : (k : PlainKernel) (p : PlainPend) (calls : ℕ) (due : List Handler) → Sound k p calls → Sound k (record p { due = due }) calls
due_sound k p calls due h = record { stands = h.stands; last = h.last; same = h.same; rises = h.rises; below = h.below; drawn = h.drawn }

module _ (k : PlainKernel) (s : UdpSide) (calls : ℕ) (h : Sound k s.pend calls) where
  abbrev After : UdpOutcome → Type 0
  After o = WokenSound k o calls

  queued_sound : (cep : CepId) (d : Received) → After (queued s cep d)
  queued_sound cep d =
      let joins : UdpOutcome = quiet (with_point s cep (joined d)) in
      either After (is_event s cep) (with_event joins cep _) joins (λ event. unended_sound k _ calls (due_sound k s.pend calls _ h)) (λ none. unended_sound k s.pend calls h)

  at_point_sound : (d : Received) (cep : Option CepId) → After (at_point s d cep)
  at_point_sound d None = unended_sound k s.pend calls h
  at_point_sound d (Some cep) = either After (has_place (get s.udps.points cep.0)) (queued s cep d) (quiet s) (λ place. queued_sound cep d) (λ full. unended_sound k s.pend calls h)

  arrival_sound : (a : Option Arrived) → After (after_arrival s a)
  arrival_sound None = unended_sound k s.pend calls h
  arrival_sound (Some a) = at_point_sound a.received (with_port 0 a.port s.udps.points)

no_more : (n : PlainNode) → Sound n.kernel n.net.pend n.calls → Sound n.kernel n.net.pend (n.calls + 0)
no_more n h = subst (Sound n.kernel n.net.pend) (omega arith) h

arrived_holds : (n : PlainNode) (bytes : List ℕ) → Holds n → Holds (arrived n bytes).0
unfolding arrived arrive
arrived_holds n bytes h =
    let o : UdpOutcome = after_arrival n.net (arrived_in n.net.udps.addr bytes) in
    let after = settled_sound n.kernel o (n.calls + 0) (arrival_sound n.kernel n.net (n.calls + 0) (no_more n h.sound) (arrived_in n.net.udps.addr bytes)) in
    done_holds n answers.Quiet nobody (after_net (beginning n) (settled o)) n.kernel.waits (net_taken (beginning n) (settled o) (n.calls + 0) tt after) h.free

ticked_holds : (n : PlainNode) → Holds n → Holds (ticked n).0
unfolding ticked
ticked_holds n h =
    let o : Outcome = kernel_rows.tick n.kernel in
    let start : Sound n.kernel (tick_beginning n).net.pend n.calls = due_sound n.kernel n.net.pend n.calls (with_cyclics n.net.pend.due (due_at_tick n.kernel.clock)) h.sound in
    let first = kernel_taken (tick_beginning n) o n.calls (n.calls + 0) start (omega arith) (omega (arith, h.sound.last, tick-last_call n.kernel)) tt (tick_moves n.kernel h.sound.stands) in
    done_holds n answers.Quiet nobody (timed_out (after_kernel (tick_beginning n) o)) o.kernel.waits (timed_out_taken (after_kernel (tick_beginning n) o) o.kernel.waits (n.calls + 0) first)
    (holders_fewer n.held n.kernel.waits o.kernel.waits (tick_fewer n.kernel) h.free)

-- ---- the other events

returned_holds : (n : PlainNode) (task : TaskId) → Holds n → Holds (returned n task).0
unfolding returned
returned_holds n task h = record { sound = h.sound; free = dropped_free n.held task n.kernel.waits h.free }

begun_holds : (n : PlainNode) → Holds n → Holds (begun n).0
unfolding begun
begun_holds n h = record { sound = due_sound n.kernel n.net.pend n.calls _ h.sound; free = h.free }

finished_holds : (n : PlainNode) → Holds n → Holds (finished n).0
unfolding finished
finished_holds n h = record { sound = h.sound; free = h.free }

-- ---- who calls

module _ (n : PlainNode) (task : TaskId) (free : is_free n task ≡ true) where
  runs : (not (task.0 == 0) ≡ true) × (((running_task n).0 == task.0) ≡ true)
  runs = and_parts (not (task.0 == 0)) ((running_task n).0 == task.0) (and_parts (not (has_due n || has_begun n)) (not (task.0 == 0) && ((running_task n).0 == task.0)) free).1

  somebody : task.0 ≢ 0
  somebody z = absurd (let f : not true ≡ true = ap not (sym (eq-eqb task.0 0 z)) ∙ runs.0 in cc)

  is_the_running : running (tasks_of n.kernel) ≡ task
  is_the_running = ap (λ i. record { 0 = i }) (eqb-true _ _ runs.1)

  pub calls_itself : Calls n.kernel (contexts.Task task)
  calls_itself t e = subst (λ u. (u.0 ≢ 0) × (running (tasks_of n.kernel) ≡ u)) (same t e) (somebody, is_the_running)
    where
      same : (t : TaskId) → contexts.Task task ≡ contexts.Task t → task ≡ t
      same t e = cc

  holds_none : is_some (get n.held task.0) ≡ false → HoldsNone n.held (contexts.Task task)
  holds_none none t e = subst (λ u. is_some (get n.held u.0) ≡ false) (same t e) none
    where
      same : (t : TaskId) → contexts.Task task ≡ contexts.Task t → task ≡ t
      same t e = cc

-- each admitted event keeps it
pub step_holds : (n : PlainNode) (event : NodeEv) → is_admitted n event ≡ true → Holds n → Holds (node_step n event).0
unfolding node_step
step_holds n (Call (contexts.Task task) request) e h =
    let parts = and_parts (is_free n task) (not (holds_answer n task)) e in
    called_holds n (contexts.Task task) request (kernel_of request) (calls_itself n task parts.0) (holds_none n task parts.0 (not-true (holds_answer n task) parts.1)) h
step_holds n (Call contexts.Handler request) e h = called_holds n contexts.Handler request (kernel_of request) (λ t is. absurd cc) (λ t is. absurd cc) h
step_holds n (Return task) e h = returned_holds n task h
step_holds n Begin e h = begun_holds n h
step_holds n Finish e h = finished_holds n h
step_holds n Tick e h = ticked_holds n h
step_holds n (Arrive bytes) e h = arrived_holds n bytes h

-- ---- the opening

pub opening_holds : (conf : KConf) (addr : ℕ) (routines : List ObjId) → IsDeclarable conf → Holds (opened_node conf addr routines)
opening_holds conf addr routines can = record {
  sound = record {
    stands = opened_stands conf can;
    last = omega arith;
    same = λ m i. refl;
    rises = tt;
    below = tt;
    drawn = omega arith;
  };
  free = λ id there. refl;
}
