-- Ends that no cause has: a delay that ends with the code of a time-out, an end that is told once more in the next entry, and a call
-- that a signal ends with the code of a release.
use Rattle.std.proofs.Common.{◌≡◌, ℕ, ◌⊎◌, [], ◌∷◌, Some, refl, sym, ap, ◌∙◌, subst, inl, inr}
use Rattle.std.specs.Prelude.{pos}
use Rattle.it_types.specs.declared.id.TaskId.{TaskId}
use Rattle.it_types.specs.declared.id.ObjId.{ObjId}
use Rattle.it_types.specs.declared.er.TheConstants.{E_TMOUT, E_RLWAI}
use Rattle.it_types.specs.declared.context.Ctx.{Ctx}
use Rattle.it_types.specs.declared.kernel_request.KReq.{KReq}
use Rattle.it_types.specs.declared.kernel_request.KReq.TheVariants as kernel_requests
use Rattle.it_types.specs.declared.request.Req.TheVariants.{SigSem, UdpCanCep}
use Rattle.it_types.specs.declared.entry.CallEnd.{CallEnd}
use Rattle.it_types.specs.Requests.{kernel_of}
use Rattle.it_types.proofs.CallWords.{delays}
use Rattle.spec_kernel.specs.declared.outcome.KEnd.{KEnd}
use Rattle.spec_kernel.specs.declared.reason.WaitReason.TheVariants as reasons
use Rattle.spec_kernel.specs.declared.reason.WaitingCall.{WaitingCall}
use Rattle.spec_kernel.specs.PlainKernel.{PlainKernel}
use Rattle.spec_kernel.specs.Settle.{comes_next}
use Rattle.spec_kernel.specs.Settle as kernel_settle
use Rattle.spec_kernel.specs.Time.{is_next_past, code_by_time, due}
use Rattle.spec_kernel.specs.Rows as kernel_rows
use Rattle.spec_pend.specs.declared.call.NetCall.{NetCall}
use Rattle.spec_pend.specs.Slots.{has_number}
use Rattle.spec_udp.specs.Settling as udp
use Rattle.spec_node.specs.declared.event.NodeEv.{NodeEv}
use Rattle.spec_node.specs.declared.event.NodeEv.TheVariants.{Call, Tick}
use Rattle.spec_node.specs.PlainNode.{PlainNode}
use Rattle.spec_node.specs.Progress.{after_kernel, time_out, timed_out}
use Rattle.spec_node.specs.NodeStep.{kernel_called, ticked, node_step}
use Rattle.spec_node.proofs.Examples.{node, task, calls, end}
use Rattle.laws_calls.specs.Cause.{Kind, IsKernelCall, Releases, KernelEnds, NetEnds, Cause}
use Rattle.laws_calls.proofs.CauseLists.{IsAmong, found_among}
use Rattle.laws_calls.proofs.CauseMembers.{waited_in_kernel, waited_in_net}
use Rattle.laws_calls.proofs.CauseCodes.{CodeOf, code_of, Alike, alike, no_success}

-- ---- an end by time is that of a call that waited, with its code

kernel_over : (n : PlainNode) (kind : Kind) (e : KEnd)
    → KernelEnds n Tick kind e
    → kind ≡ Kind.TimedOut
    → (w : WaitingCall) × IsAmong w n.kernel.waits × (e.code ≡ code_by_time w.reason)
kernel_over n _ _ (KernelEnds.is_timed_out k z tick at rest f) is = (z.0, waited_in_kernel n k z.0 at (found_among (is_next_past k.clock.now k.waits) k.waits z f), refl)
kernel_over n _ _ (KernelEnds.is_freed k z at f) is = absurd cc
kernel_over n _ _ (KernelEnds.is_handed ctx call task bytes z its hands f) is = absurd cc
kernel_over n _ _ (KernelEnds.is_released ctx call task z its releases f) is = absurd cc

over : (n : PlainNode) (kind : Kind) (e : CallEnd)
    → Cause n Tick kind e
    → kind ≡ Kind.TimedOut
    → (w : WaitingCall) × IsAmong w n.kernel.waits × (e.code ≡ code_by_time w.reason)
over n _ _ (Cause.of_kernel kind e ends inside) is = kernel_over n kind e ends is
over n _ _ (Cause.of_network _ _ (NetEnds.is_ended s z kind e at ends outside f)) is = kernel_over n kind e ends is
over n _ _ (Cause.of_network _ _ (NetEnds.is_met s z at f)) is = absurd cc
over n _ _ (Cause.of_network _ _ (NetEnds.is_cancelled ctx cep func z its free f)) is = absurd cc
over n _ _ (Cause.of_network _ _ (NetEnds.is_deleted ctx cep z its free f)) is = absurd cc

is_time_out : (kind : Kind) → CodeOf kind E_TMOUT → kind ≡ Kind.TimedOut
is_time_out kind has = elim (alike kind Kind.TimedOut E_TMOUT has (inl refl)) [
  | Alike.same s ↦ s
  | Alike.first_over s t ↦ s
  | Alike.second_over s t ↦ absurd (no_success (subst (λ k. CodeOf k E_TMOUT) s has))
]

-- ---- a delay that ends with the code of a time-out

-- task 1 has a delay of 0 ticks
abbrev delaying : PlainNode
delaying = (node_step (node (task 1 1 ∷ []) [] []) (calls 1 (delays 0))).0

its_delay : (w : WaitingCall) → IsAmong w delaying.kernel.waits → w.reason ≡ reasons.Delay
unfolding node_step kernel_called kernel_rows.call kernel_settle.settled kernel_settle.settle after_kernel
its_delay w (inl is) = ap (λ (v : WaitingCall). v.reason) is
its_delay w (inr is) = absurd is

-- in the tick at which it is over, its end with E_OK has a cause, but not with E_TMOUT
delay_timed_out : (kind : Kind) → Cause delaying Tick kind (end 1 (E_TMOUT.0) []) → ⊥
delay_timed_out kind cause =
    let o = over delaying kind (end 1 (E_TMOUT.0) []) cause (is_time_out kind (code_of delaying Tick kind (end 1 (E_TMOUT.0) []) cause)) in
    no_success (inl (0, o.2 ∙ ap code_by_time (its_delay o.0 o.1)))

delay_is_over : (node_step delaying Tick).1.ends ≡ end 1 (pos 0) [] ∷ []
unfolding node_step kernel_called ticked kernel_rows.call kernel_rows.tick kernel_settle.settled kernel_settle.settle due after_kernel time_out timed_out
delay_is_over = refl

-- ---- in a tick no call ends that didn't wait before

-- a call waits in one of both parts
abbrev SomeWaits : PlainNode → Type 0
SomeWaits n = ((w : WaitingCall) × IsAmong w n.kernel.waits) ⊎ ((c : NetCall) × IsAmong c n.net.pend.calls)

kernel_waited : (n : PlainNode) (kind : Kind) (e : KEnd) → KernelEnds n Tick kind e → SomeWaits n
kernel_waited n _ _ (KernelEnds.is_freed k z at f) = inl (z.0, waited_in_kernel n k z.0 at (found_among (comes_next k) k.waits z f))
kernel_waited n _ _ (KernelEnds.is_timed_out k z tick at rest f) = inl (z.0, waited_in_kernel n k z.0 at (found_among (is_next_past k.clock.now k.waits) k.waits z f))
kernel_waited n _ _ (KernelEnds.is_handed ctx call task bytes z its hands f) = absurd (let g : Tick ≡ Call ctx its.0 = its.1 in cc)
kernel_waited n _ _ (KernelEnds.is_released ctx call task z its releases f) = absurd (let g : Tick ≡ Call ctx its.0 = its.1 in cc)

waited : (n : PlainNode) (kind : Kind) (e : CallEnd) → Cause n Tick kind e → SomeWaits n
waited n _ _ (Cause.of_kernel kind e ends inside) = kernel_waited n kind e ends
waited n _ _ (Cause.of_network _ _ (NetEnds.is_met s z at f)) = inr (z.0, waited_in_net n s z.0 at (found_among (udp.is_ready s.udps) s.pend.calls z f))
waited n _ _ (Cause.of_network _ _ (NetEnds.is_ended s z kind e at ends outside f)) = inr (z.0, waited_in_net n s z.0 at (found_among (has_number e.call) s.pend.calls z f))
waited n _ _ (Cause.of_network _ _ (NetEnds.is_cancelled ctx cep func z its free f)) = absurd cc
waited n _ _ (Cause.of_network _ _ (NetEnds.is_deleted ctx cep z its free f)) = absurd cc

-- task 1's delay is over
abbrev over_delay : PlainNode
over_delay = (node_step delaying Tick).0

none_waits : SomeWaits over_delay → ⊥
unfolding node_step kernel_called ticked kernel_rows.call kernel_rows.tick kernel_settle.settled kernel_settle.settle due after_kernel time_out timed_out
none_waits (inl w) = absurd w.1
none_waits (inr c) = absurd c.1

-- in the tick after it, no cause has its end, whatever its code
told_again : (kind : Kind) (e : CallEnd) → Cause over_delay Tick kind e → ⊥
told_again kind e cause = none_waits (waited over_delay kind e cause)

-- ---- a call that a signal ends with the code of a release

-- a signal of a semaphore releases no task
no_release : (k : PlainKernel) (ctx : Ctx) (s : ObjId) (call : KReq) (task : TaskId) → Releases k ctx call task → call ≡ kernel_requests.SigSem s → ⊥
no_release k ctx s _ _ (Releases.rel_wai t accepted) e = absurd cc
no_release k ctx s _ _ (Releases.ter_tsk t accepted) e = absurd cc

its_call : (event : NodeEv) (ctx by : Ctx) (s : ObjId) (call : KReq)
    → event ≡ Call by (SigSem s)
    → IsKernelCall event ctx call
    → call ≡ kernel_requests.SigSem s
its_call event ctx by s call e is =
    let same : SigSem s ≡ is.0 = cc in
    let made : Some (kernel_requests.SigSem s) ≡ Some call = ap kernel_of same ∙ is.2 in
    cc

kernel_released : (n : PlainNode) (event : NodeEv) (by : Ctx) (s : ObjId) (kind : Kind) (e : KEnd)
    → KernelEnds n event kind e
    → event ≡ Call by (SigSem s)
    → kind ≡ Kind.Released
    → ⊥
kernel_released n event by s _ _ (KernelEnds.is_released ctx call task z its releases f) signal is = no_release n.kernel ctx s call task releases (its_call event ctx by s call signal its)
kernel_released n event by s _ _ (KernelEnds.is_freed k z at f) signal is = absurd cc
kernel_released n event by s _ _ (KernelEnds.is_handed ctx call task bytes z its hands f) signal is = absurd cc
kernel_released n event by s _ _ (KernelEnds.is_timed_out k z tick at rest f) signal is = absurd cc

released : (n : PlainNode) (event : NodeEv) (by : Ctx) (s : ObjId) (kind : Kind) (e : CallEnd)
    → Cause n event kind e
    → event ≡ Call by (SigSem s)
    → kind ≡ Kind.Released
    → ⊥
released n event by s _ _ (Cause.of_kernel kind e ends inside) signal is = kernel_released n event by s kind e ends signal is
released n event by s _ _ (Cause.of_network _ _ (NetEnds.is_ended t z kind e at ends outside f)) signal is = kernel_released n event by s kind e ends signal is
released n event by s _ _ (Cause.of_network _ _ (NetEnds.is_met t z at f)) signal is = absurd cc
released n event by s _ _ (Cause.of_network _ _ (NetEnds.is_cancelled ctx cep func z its free f)) signal is = absurd (let g : Call ctx (UdpCanCep cep func) ≡ Call by (SigSem s) = sym its ∙ signal in cc)
released n event by s _ _ (Cause.of_network _ _ (NetEnds.is_deleted ctx cep z its free f)) signal is = absurd cc

is_release : (kind : Kind) → CodeOf kind E_RLWAI → kind ≡ Kind.Released
is_release kind has = elim (alike kind Kind.Released E_RLWAI has refl) [
  | Alike.same s ↦ s
  | Alike.first_over s t ↦ absurd cc
  | Alike.second_over s t ↦ absurd cc
]

-- at any node
signal_releases : (n : PlainNode) (by : Ctx) (s : ObjId) (number : ℕ) (kind : Kind)
    → Cause n (Call by (SigSem s)) kind (end number (E_RLWAI.0) [])
    → ⊥
signal_releases n by s number kind cause = released n (Call by (SigSem s)) by s kind (end number (E_RLWAI.0) []) cause refl (is_release kind (code_of n (Call by (SigSem s)) kind (end number (E_RLWAI.0) []) cause))
