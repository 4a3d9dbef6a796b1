-- Each end that an event tells has a cause: the turns of both parts go on from each other.
use Rattle.std.proofs.Common.{◌≡◌, ℕ, zero, suc, true, not, List, [], ◌∷◌, length, map, Option, Some, None, refl, sym, subst, inl, inr}
use Rattle.std.specs.List.{AllByRecursion}
use Rattle.std.proofs.lemmas.Bool.{cases_Bool, and_parts}
use Rattle.it_types.specs.declared.context.Ctx.{Ctx}
use Rattle.it_types.specs.declared.context.Ctx.TheVariants as contexts
use Rattle.it_types.specs.declared.kernel_request.KReq.{KReq}
use Rattle.it_types.specs.declared.request.Req.{Req}
use Rattle.it_types.specs.Requests.{kernel_of}
use Rattle.spec_lists.proofs.Firsts.{cases_of_first}
use Rattle.spec_kernel.specs.declared.outcome.KEnd.{KEnd}
use Rattle.spec_kernel.specs.PlainKernel.{PlainKernel}
use Rattle.spec_kernel.specs.Settle.{Outcome, AtRest, settled}
use Rattle.spec_kernel.specs.Rows as kernel_rows
use Rattle.spec_kernel.specs.Time.{by_time, due}
use Rattle.spec_kernel.specs.Standing.{IsStanding}
use Rattle.spec_pend.specs.declared.call.Who.{Who}
use Rattle.spec_pend.specs.declared.call.Who.TheVariants as whos
use Rattle.spec_pend.specs.declared.call.NetCall.{NetCall}
use Rattle.spec_pend.specs.declared.answer.NetEnd.{NetEnd}
use Rattle.spec_pend.specs.PlainPend.{no_endings}
use Rattle.spec_pend.specs.Slots.{numbered}
use Rattle.spec_pend.specs.Ends.{ended_where}
use Rattle.spec_pend.specs.Outs.{shown_end}
use Rattle.spec_udp.specs.Packets.{arrived_in}
use Rattle.spec_udp.specs.PlainUdps.{UdpSide, UdpOutcome, side_after}
use Rattle.spec_udp.specs.Rows as udp
use Rattle.spec_udp.specs.Settling as udp_settling
use Rattle.spec_udp.specs.Arrival.{after_arrival, arrive}
use Rattle.spec_udp.specs.Outside.{ended_at, ended}
use Rattle.laws_kernel.specs.Calling.{Calls}
use Rattle.laws_kernel.proofs.Settling.{tick_rests}
use Rattle.laws_kernel.proofs.Resting.{unblocked_rests, due_rests}
use Rattle.laws_kernel.proofs.Timing.{due_is}
use Rattle.spec_node.specs.declared.event.NodeEv.{NodeEv}
use Rattle.spec_node.specs.declared.event.NodeEv.TheVariants.{Call, Return, Begin, Finish, Tick, Arrive}
use Rattle.spec_node.specs.PlainNode.{PlainNode, holds_answer}
use Rattle.spec_node.specs.Progress.{Progress, kernel_end, woken_for, woken_by, after_net, after_end, after_ends, after_kernel, time_out, timed_out}
use Rattle.spec_node.specs.NodeStep.{next_number, beginning, tick_beginning, blocked_where, kernel_called, network_called, called_as, arrived, ticked, returned, begun, finished, node_step}
use Rattle.spec_node.specs.Admitted.{is_free, is_admitted}
use Rattle.laws_node.proofs.NetMoves.{settle_left}
use Rattle.laws_node.proofs.Along.{calls_itself}
use Rattle.laws_calls.specs.Cause.{Kind, KernelAt, NetAt, KernelEnds, NetEnds, Cause, HasCause, EndsAreCaused}
use Rattle.laws_calls.specs.Cause.{kernel_called as kernel_after, net_called as net_after}
use Rattle.laws_calls.proofs.OnceLists.{all_append, all_end, all_more}
use Rattle.laws_calls.proofs.KernelCauses.{HaveKernelCauses, HasKernelCause}
use Rattle.laws_calls.proofs.KernelCauses as kernel
use Rattle.laws_calls.proofs.NetCauses.{HaveNetCauses, HasNetCause, IsCaused}
use Rattle.laws_calls.proofs.NetCauses as net

module _ (n : PlainNode) (event : NodeEv) where
  -- an end of either part
  abbrev Has : NetEnd → Type 0
  Has e = HasCause n event (shown_end e)

  -- both parts stand where turns have brought them, and each end so far has a cause, and each that is still to be told
  record Caused (still : List KEnd) (p : Progress) : Type 0 where
    kernel_at : KernelAt n event p.kernel
    net_at : NetAt n event p.net
    ends : AllByRecursion Has p.ends
    told_still : HaveKernelCauses n event still

  -- ---- what the network part did

  woken_by_at : (k : PlainKernel) (es : List NetEnd) → KernelAt n event k → HaveNetCauses n event es → KernelAt n event (woken_by k es)
  woken_by_at k [] at h = at
  woken_by_at k (e ∷ es) at h = woken_by_at (woken_for k e.who) es (KernelAt.after_told k h.0.0 e at h.0.1) h.1

  has_cause : (e : NetEnd) → HasNetCause n event e → Has e
  has_cause e c = (c.0, Cause.of_network c.0 e c.1)

  after_net_caused : (still : List KEnd) (p : Progress) (o : UdpOutcome)
      → KernelAt n event p.kernel
      → AllByRecursion Has p.ends
      → HaveKernelCauses n event still
      → IsCaused n event o
      → Caused still (after_net p o)
  after_net_caused still p o at ends s h = record {
    kernel_at = woken_by_at p.kernel o.endings.ends at h.ends;
    net_at = h.at;
    ends = all_append Has p.ends o.endings.ends ends (all_more (HasNetCause n event) Has o.endings.ends has_cause h.ends);
    told_still = s;
  }

  -- ---- an end that the kernel made

  ended_caused : (s : UdpSide) (e : KEnd) → NetAt n event s → HasKernelCause n event e → e.outside ≡ true → IsCaused n event (ended s e.call e.code)
  unfolding ended
  ended_caused s e at c outside = net.settled_caused n event (ended_at s e.call e.code) (record { at = NetAt.after_ended s c.0 e at c.1 outside; ends = of (numbered s.pend e.call) refl })
    where
      of : (found : Option (NetCall × List NetCall))
          → numbered s.pend e.call ≡ found
          → HaveNetCauses n event (ended_where (no_endings s.pend) found e.code).ends
      of None f = tt
      of (Some z) f = ((c.0, NetEnds.is_ended s z c.0 e at c.1 outside f), tt)

  after_end_caused : (e : KEnd) (es : List KEnd) (p : Progress) → Caused (e ∷ es) p → Caused es (after_end p e)
  after_end_caused e es p g = elim (cases_Bool e.outside) [
    | inl t ↦ rw t (after_net_caused es p (ended p.net e.call e.code) g.kernel_at g.ends g.told_still.1 (ended_caused p.net e g.net_at g.told_still.0 t))
    | inr t ↦ rw t (record {
      kernel_at = g.kernel_at;
      net_at = g.net_at;
      ends = all_end Has p.ends (kernel_end e) g.ends (g.told_still.0.0, Cause.of_kernel g.told_still.0.0 e g.told_still.0.1 t);
      told_still = g.told_still.1;
    })
  ]

  after_ends_caused : (p : Progress) (es : List KEnd) → Caused es p → Caused [] (after_ends p es)
  after_ends_caused p [] g = g
  after_ends_caused p (e ∷ es) g = after_ends_caused (after_end p e) es (after_end_caused e es p g)

  after_kernel_caused : (p : Progress) (o : Outcome)
      → NetAt n event p.net
      → AllByRecursion Has p.ends
      → KernelAt n event o.kernel
      → HaveKernelCauses n event o.ends
      → Caused [] (after_kernel p o)
  unfolding after_kernel
  after_kernel_caused p o net_at ends at still = after_ends_caused (record p { kernel = o.kernel }) o.ends (record { kernel_at = at; net_at = net_at; ends = ends; told_still = still })

  -- the ends as they are shown
  shown_caused : (es : List NetEnd) → AllByRecursion Has es → AllByRecursion (HasCause n event) (map shown_end es)
  shown_caused [] h = tt
  shown_caused (e ∷ es) h = (h.0, shown_caused es h.1)

-- ---- in a kernel at rest, no end of another part makes a call ready

woken_by_rests : (k : PlainKernel) (es : List NetEnd) → AtRest k → AtRest (woken_by k es)
woken_by_rests k [] rest = rest
woken_by_rests k (e ∷ es) rest = woken_by_rests (woken_for k e.who) es (of e.who)
  where
    of : (who : Who) → AtRest (woken_for k who)
    of (whos.Task t) = unblocked_rests k t rest
    of (whos.Callback t cbr) = rest

after_end_rests : (p : Progress) (e : KEnd) → AtRest p.kernel → AtRest (after_end p e).kernel
after_end_rests p e rest = elim (cases_Bool e.outside) [
  | inl t ↦ rw t (woken_by_rests p.kernel (ended p.net e.call e.code).endings.ends rest)
  | inr t ↦ rw t rest
]

after_ends_rests : (p : Progress) (es : List KEnd) → AtRest p.kernel → AtRest (after_ends p es).kernel
after_ends_rests p [] rest = rest
after_ends_rests p (e ∷ es) rest = after_ends_rests (after_end p e) es (after_end_rests p e rest)

after_kernel_rests : (p : Progress) (o : Outcome) → AtRest o.kernel → AtRest (after_kernel p o).kernel
unfolding after_kernel
after_kernel_rests p o rest = after_ends_rests (record p { kernel = o.kernel }) o.ends rest

-- ---- ticks

module _ (n : PlainNode) where
  -- the next end by time, with what it makes ready
  due_caused : (p : Progress) (o : Outcome) → due p.kernel ≡ Some o → AtRest p.kernel → Caused n Tick [] p → Caused n Tick [] (after_kernel p o)
  due_caused p o e rest g =
      let x = due_is p.kernel o e in
      let at = KernelAt.after_timed_out p.kernel x.0 refl g.kernel_at rest x.1 in
      let all = kernel.settled_caused n Tick (by_time p.kernel x.0) at ((Kind.TimedOut, KernelEnds.is_timed_out p.kernel x.0 refl g.kernel_at rest x.1), tt) in
      subst (λ (q : Outcome). Caused n Tick [] (after_kernel p q)) x.2 (after_kernel_caused n Tick p (settled (by_time p.kernel x.0)) g.net_at g.ends all.0 all.1)

  time_out_caused : (m : ℕ) (p : Progress) → AtRest p.kernel → Caused n Tick [] p → Caused n Tick [] (time_out m p)
  unfolding time_out
  time_out_caused zero p rest g = g
  time_out_caused (suc m) p rest g = elim (cases_of_first (due p.kernel)) [
    | inl e ↦ rw e g
    | inr o ↦ rw o.1 (time_out_caused m (after_kernel p o.0) (after_kernel_rests p o.0 (due_rests p.kernel o.0 o.1)) (due_caused p o.0 o.1 rest g))
  ]

  ticked_caused : AllByRecursion (HasCause n Tick) (ticked n).1.ends
  unfolding ticked kernel_rows.tick timed_out
  ticked_caused =
      let o : Outcome = kernel_rows.tick n.kernel in
      let first : Progress = after_kernel (tick_beginning n) o in
      let all = kernel.settled_caused n Tick (kernel_rows.quiet (kernel_rows.ticked n.kernel)) KernelAt.after_kernel_row tt in
      let start = after_kernel_caused n Tick (tick_beginning n) o NetAt.after_net_row tt all.0 all.1 in
      shown_caused n Tick (timed_out first).ends (time_out_caused (length first.kernel.waits) first (after_kernel_rests (tick_beginning n) o (tick_rests n.kernel)) start).ends

  -- ---- arrivals

  arrived_caused : (bytes : List ℕ) → AllByRecursion (HasCause n (Arrive bytes)) (arrived n bytes).1.ends
  unfolding arrived arrive
  arrived_caused bytes =
      let o : UdpOutcome = after_arrival n.net (arrived_in n.net.udps.addr bytes) in
      let settles = net.settled_caused n (Arrive bytes) o (record { at = NetAt.after_net_row; ends = net.arrival_caused n (Arrive bytes) (arrived_in n.net.udps.addr bytes) }) in
      shown_caused n (Arrive bytes) _ (after_net_caused n (Arrive bytes) [] (beginning n) (udp_settling.settled o) KernelAt.after_kernel_row tt tt settles).ends

-- ---- calls

module _ (n : PlainNode) (ctx : Ctx) (request : Req) where
  kernel_called_caused : (call : KReq)
      → kernel_of request ≡ Some call
      → Calls n.kernel ctx
      → IsStanding n.kernel
      → AllByRecursion (HasCause n (Call ctx request)) (kernel_called n ctx call).1.ends
  unfolding kernel_called kernel_rows.call
  kernel_called_caused call is calls stands =
      let event : NodeEv = Call ctx request in
      let r : Outcome = kernel_rows.row n.kernel ctx call (next_number n) in
      let kernel_at : KernelAt n event r.kernel = subst (λ c. KernelAt n event (kernel_after n ctx request c)) is KernelAt.after_kernel_row in
      let net_at : NetAt n event n.net = subst (λ c. NetAt n event (net_after n ctx request c)) is NetAt.after_net_row in
      let all = kernel.settled_caused n event r kernel_at (kernel.row_caused n event ctx (next_number n) calls stands call (request, refl, is)) in
      shown_caused n event _ (after_kernel_caused n event (beginning n) (settled r) net_at tt all.0 all.1).ends

  network_called_caused : kernel_of request ≡ None → AllByRecursion (HasCause n (Call ctx request)) (network_called n ctx request).1.ends
  unfolding network_called udp.udp_call udp_settling.settled
  network_called_caused is =
      let event : NodeEv = Call ctx request in
      let r : UdpOutcome = udp.row n.net ctx request (next_number n) in
      let o : UdpOutcome = udp.udp_call n.net ctx request (next_number n) in
      let start : Progress = record (beginning n) { kernel = blocked_where o.answer n.kernel ctx request (next_number n) } in
      let at_row : KernelAt n event (blocked_where r.answer n.kernel ctx request (next_number n)) = subst (λ c. KernelAt n event (kernel_after n ctx request c)) is KernelAt.after_kernel_row in
      let kernel_at : KernelAt n event start.kernel = subst (λ a. KernelAt n event (blocked_where a n.kernel ctx request (next_number n))) (sym (settle_left (length r.endings.pend.calls) r).answer) at_row in
      let net_at : NetAt n event (side_after r) = subst (λ c. NetAt n event (net_after n ctx request c)) is NetAt.after_net_row in
      let settles = net.settled_caused n event r (record { at = net_at; ends = net.row_caused n ctx (next_number n) request }) in
      shown_caused n event _ (after_net_caused n event [] start o kernel_at tt tt settles).ends

  called_caused : (call : Option KReq)
      → kernel_of request ≡ call
      → Calls n.kernel ctx
      → IsStanding n.kernel
      → AllByRecursion (HasCause n (Call ctx request)) (called_as n ctx request call).1.ends
  called_caused (Some call) is calls stands = kernel_called_caused call is calls stands
  called_caused None is calls stands = network_called_caused is

-- ---- each event that is taken

pub ends_caused : (n : PlainNode) (event : NodeEv) → is_admitted n event ≡ true → IsStanding n.kernel → EndsAreCaused n event
unfolding node_step returned begun finished
ends_caused n (Call (contexts.Task task) request) e stands = called_caused n (contexts.Task task) request (kernel_of request) refl (calls_itself n task (and_parts (is_free n task) (not (holds_answer n task)) e).0) stands
ends_caused n (Call contexts.Handler request) e stands = called_caused n contexts.Handler request (kernel_of request) refl (λ t is. absurd cc) stands
ends_caused n (Return task) e stands = tt
ends_caused n Begin e stands = tt
ends_caused n Finish e stands = tt
ends_caused n Tick e stands = ticked_caused n
ends_caused n (Arrive bytes) e stands = arrived_caused n bytes
