-- Each event draws at most one call number and one rank, ticks a node's clock at most once, and, at a node where only receives wait at
-- end points, sends at most one packet.
use Rattle.std.proofs.Common.{◌≡◌, ℕ, zero, suc, ◌+◌, ◌≤◌, List, [], ◌∷◌, length, Option, Some, None, refl, ◌∙◌, inl, inr, arith}
use Rattle.std.proofs.lemmas.Bool.{cases_Bool}
use Rattle.std.proofs.lemmas.List.{length-append}
use Rattle.it_types.specs.declared.id.TaskId.{TaskId}
use Rattle.it_types.specs.declared.id.CallNo.{CallNo}
use Rattle.it_types.specs.declared.answer.Ans.{Ans}
use Rattle.it_types.specs.declared.answer.Ans.TheVariants as answers
use Rattle.it_types.specs.declared.context.Ctx.{Ctx}
use Rattle.it_types.specs.declared.kernel_request.KReq.{KReq}
use Rattle.it_types.specs.declared.request.Req.{Req}
use Rattle.it_types.specs.declared.entry.Out.{Out}
use Rattle.it_types.specs.Requests.{kernel_of}
use Rattle.spec_lists.proofs.Firsts.{cases_of_first}
use Rattle.spec_kernel.specs.declared.outcome.KEnd.{KEnd}
use Rattle.spec_kernel.specs.PlainKernel.{PlainKernel}
use Rattle.spec_kernel.specs.Settle.{Outcome}
use Rattle.spec_kernel.specs.Rows.{call, tick}
use Rattle.spec_kernel.specs.Time.{due}
use Rattle.spec_pend.specs.declared.call.Who.{Who}
use Rattle.spec_pend.specs.declared.call.Who.TheVariants as whos
use Rattle.spec_pend.specs.declared.answer.NetAnswer.{NetAnswer}
use Rattle.spec_pend.specs.declared.answer.NetAnswer.TheVariants as net_answers
use Rattle.spec_pend.specs.declared.answer.NetEnd.{NetEnd}
use Rattle.spec_pend.specs.Outs.{shown_answer}
use Rattle.spec_udp.specs.PlainUdps.{UdpOutcome}
use Rattle.spec_udp.specs.Rows.{udp_call}
use Rattle.spec_udp.specs.Arrival.{arrive}
use Rattle.spec_udp.specs.Outside.{ended}
use Rattle.spec_node.specs.declared.event.NodeEv.{NodeEv}
use Rattle.spec_node.specs.declared.event.NodeEv.TheVariants.{Call, Return, Begin, Finish, Tick, Arrive}
use Rattle.spec_node.specs.PlainNode.{PlainNode}
use Rattle.spec_node.specs.Progress.{Progress, woken_for, woken_by, after_net, after_end, after_ends, after_kernel, time_out, timed_out}
use Rattle.spec_node.specs.NodeStep.{beginning, next_number, blocked_where, kernel_answer, drawn, kernel_called, network_called, called_as, arrived, tick_beginning, ticked, returned, begun, finished, node_step}
use Rattle.spec_node.proofs.Progressing.{woken_by_keeps}
use Rattle.laws_kernel.proofs.Drawing.{call-now, call-next_rank, tick-now, tick-next_rank, due-now, due-next_rank, unblocked-next_rank}
use Rattle.laws_node.specs.EndPoints.{HasKeptPoints}
use Rattle.laws_world.proofs.NetPackets.{senders, no_senders, sent_by, udp_call_sends, arrive_sends, ended_sends}

-- ---- numbers

pub drawn_le : (answer : Ans) → drawn answer ≤ 1
drawn_le (answers.Pends number) = omega arith
drawn_le (answers.Now code bytes) = omega arith
drawn_le (answers.Later number) = omega arith
drawn_le answers.Quiet = omega arith

-- ---- clocks and ranks

woken_by-now : (k : PlainKernel) (es : List NetEnd) → (woken_by k es).clock.now ≡ k.clock.now
woken_by-now k es = woken_by_keeps (λ (k : PlainKernel). k.clock.now) (λ k w others. refl) k es

woken_for-next_rank : (k : PlainKernel) (who : Who) → (woken_for k who).next_rank ≡ k.next_rank
woken_for-next_rank k (whos.Task t) = unblocked-next_rank k t
woken_for-next_rank k (whos.Callback t cbr) = refl

woken_by-next_rank : (k : PlainKernel) (es : List NetEnd) → (woken_by k es).next_rank ≡ k.next_rank
woken_by-next_rank k [] = refl
woken_by-next_rank k (e ∷ es) = woken_by-next_rank (woken_for k e.who) es ∙ woken_for-next_rank k e.who

blocked_where-now : (answer : NetAnswer) (k : PlainKernel) (ctx : Ctx) (request : Req) (number : CallNo) → (blocked_where answer k ctx request number).clock.now ≡ k.clock.now
blocked_where-now net_answers.Pends k ctx request number = refl
blocked_where-now net_answers.Later k ctx request number = refl
blocked_where-now (net_answers.Now code bytes) k ctx request number = refl
blocked_where-now net_answers.Quiet k ctx request number = refl

blocked_where-next_rank : (answer : NetAnswer) (k : PlainKernel) (ctx : Ctx) (request : Req) (number : CallNo) → (blocked_where answer k ctx request number).next_rank ≤ k.next_rank + 1
blocked_where-next_rank net_answers.Pends k ctx request number = omega arith
blocked_where-next_rank net_answers.Later k ctx request number = omega arith
blocked_where-next_rank (net_answers.Now code bytes) k ctx request number = omega arith
blocked_where-next_rank net_answers.Quiet k ctx request number = omega arith

-- ---- what the parts did is taken over

-- the packets so far, and those that calls may still send
abbrev sent_in : Progress → ℕ
sent_in p = length p.packets + senders p.net

-- the clock and the ranks stay as they were, and no more packets are sent than might have been
record Stays (k : PlainKernel) (p q : Progress) : Type 0 where
  now : q.kernel.clock.now ≡ k.clock.now
  ranks : q.kernel.next_rank ≡ k.next_rank
  packets : sent_in q ≤ sent_in p

-- what the network part did
net_sends : (p : Progress) (o : UdpOutcome) → sent_in (after_net p o) ≡ length p.packets + sent_by o
net_sends p o = omega (arith, length-append p.packets o.packets)

after_end_stays : (p : Progress) (e : KEnd) → Stays p.kernel p (after_end p e)
after_end_stays p e = elim (cases_Bool e.outside) [
  | inl t ↦
      let o : UdpOutcome = ended p.net e.call e.code in
      rw t (record {
        now = woken_by-now p.kernel o.endings.ends;
        ranks = woken_by-next_rank p.kernel o.endings.ends;
        packets = omega (arith, net_sends p o, ended_sends p.net e.call e.code);
      })
  | inr t ↦ rw t (record { now = refl; ranks = refl; packets = omega arith })
]

after_ends_stays : (p : Progress) (es : List KEnd) → Stays p.kernel p (after_ends p es)
after_ends_stays p [] = record { now = refl; ranks = refl; packets = omega arith }
after_ends_stays p (e ∷ es) =
    let one = after_end_stays p e in
    let rest = after_ends_stays (after_end p e) es in
    record { now = rest.now ∙ one.now; ranks = rest.ranks ∙ one.ranks; packets = omega (arith, rest.packets, one.packets) }

-- as the kernel has left them
after_kernel_stays : (p : Progress) (o : Outcome) → Stays o.kernel p (after_kernel p o)
unfolding after_kernel
after_kernel_stays p o = let all = after_ends_stays (record p { kernel = o.kernel }) o.ends in record { now = all.now; ranks = all.ranks; packets = all.packets }

time_out_stays : (n : ℕ) (p : Progress) → Stays p.kernel p (time_out n p)
unfolding time_out
time_out_stays zero p = record { now = refl; ranks = refl; packets = omega arith }
time_out_stays (suc n) p = elim (cases_of_first (due p.kernel)) [
  | inl e ↦ rw e (record { now = refl; ranks = refl; packets = omega arith })
  | inr o ↦ (
      let one = after_kernel_stays p o.0 in
      let rest = time_out_stays n (after_kernel p o.0) in
      rw o.1 (record {
        now = rest.now ∙ one.now ∙ due-now p.kernel o.0 o.1;
        ranks = rest.ranks ∙ one.ranks ∙ due-next_rank p.kernel o.0 o.1;
        packets = omega (arith, rest.packets, one.packets);
      })
      )
]

timed_out_stays : (p : Progress) → Stays p.kernel p (timed_out p)
unfolding timed_out
timed_out_stays p = time_out_stays (length p.kernel.waits) p

-- ---- an event at a node

pub record StepsOn (n : PlainNode) (r : PlainNode × Out) : Type 0 where
  pub calls : r.0.calls ≤ n.calls + 1
  pub now : r.0.kernel.clock.now ≤ n.kernel.clock.now + 1
  pub ranks : r.0.kernel.next_rank ≤ n.kernel.next_rank + 1
  pub packs : length r.1.packs ≤ senders n.net + 1

kernel_called_on : (n : PlainNode) (ctx : Ctx) (request : KReq) → StepsOn n (kernel_called n ctx request)
unfolding kernel_called
kernel_called_on n ctx request =
    let o : Outcome = call n.kernel ctx request (next_number n) in
    let stays = after_kernel_stays (beginning n) o in
    record {
      calls = omega (arith, drawn_le (kernel_answer (n.calls + 1) o.answer));
      now = omega (arith, stays.now, call-now n.kernel ctx request (next_number n));
      ranks = omega (arith, stays.ranks, call-next_rank n.kernel ctx request (next_number n));
      packs = omega (arith, stays.packets);
    }

network_called_on : (n : PlainNode) (ctx : Ctx) (request : Req) → StepsOn n (network_called n ctx request)
unfolding network_called
network_called_on n ctx request =
    let o : UdpOutcome = udp_call n.net ctx request (next_number n) in
    let k : PlainKernel = blocked_where o.answer n.kernel ctx request (next_number n) in
    record {
      calls = omega (arith, drawn_le (shown_answer (next_number n) o.answer));
      now = omega (arith, woken_by-now k o.endings.ends, blocked_where-now o.answer n.kernel ctx request (next_number n));
      ranks = omega (arith, woken_by-next_rank k o.endings.ends, blocked_where-next_rank o.answer n.kernel ctx request (next_number n));
      packs = omega (arith, udp_call_sends n.net ctx request (next_number n));
    }

arrived_on : (n : PlainNode) (bytes : List ℕ) → StepsOn n (arrived n bytes)
unfolding arrived
arrived_on n bytes = record {
  calls = omega arith;
  now = omega (arith, woken_by-now n.kernel (arrive n.net bytes).endings.ends);
  ranks = omega (arith, woken_by-next_rank n.kernel (arrive n.net bytes).endings.ends);
  packs = omega (arith, arrive_sends n.net bytes);
}

ticked_on : (n : PlainNode) → StepsOn n (ticked n)
unfolding ticked
ticked_on n =
    let o : Outcome = tick n.kernel in
    let first = after_kernel_stays (tick_beginning n) o in
    let rest = timed_out_stays (after_kernel (tick_beginning n) o) in
    record {
      calls = omega arith;
      now = omega (arith, rest.now, first.now, tick-now n.kernel);
      ranks = omega (arith, rest.ranks, first.ranks, tick-next_rank n.kernel);
      packs = omega (arith, rest.packets, first.packets);
    }

returned_on : (n : PlainNode) (task : TaskId) → StepsOn n (returned n task)
unfolding returned
returned_on n task = record { calls = omega arith; now = omega arith; ranks = omega arith; packs = omega arith }

begun_on : (n : PlainNode) → StepsOn n (begun n)
unfolding begun
begun_on n = record { calls = omega arith; now = omega arith; ranks = omega arith; packs = omega arith }

finished_on : (n : PlainNode) → StepsOn n (finished n)
unfolding finished
finished_on n = record { calls = omega arith; now = omega arith; ranks = omega arith; packs = omega arith }

called_on : (n : PlainNode) (ctx : Ctx) (request : Req) (call : Option KReq) → StepsOn n (called_as n ctx request call)
called_on n ctx request (Some call) = kernel_called_on n ctx call
called_on n ctx request None = network_called_on n ctx request

pub node_steps_on : (n : PlainNode) (event : NodeEv) → StepsOn n (node_step n event)
unfolding node_step
node_steps_on n (Call ctx request) = called_on n ctx request (kernel_of request)
node_steps_on n (Return task) = returned_on n task
node_steps_on n Begin = begun_on n
node_steps_on n Finish = finished_on n
node_steps_on n Tick = ticked_on n
node_steps_on n (Arrive bytes) = arrived_on n bytes

-- where only receives wait at end points, one packet at most goes out
pub node_sends_one : (n : PlainNode) (event : NodeEv) → HasKeptPoints n → length (node_step n event).1.packs ≤ 1
node_sends_one n event h = omega (arith, (node_steps_on n event).packs, no_senders n.net.pend.calls h.only)
