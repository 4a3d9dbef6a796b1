-- No end has causes of two kinds: in a tick a call that ends with success is either met, or a delay that is over; a delay is never
-- met, and no other call has its number.
use Rattle.std.proofs.Common.{◌≡◌, ◌≢◌, ◌≤◌, true, false, not, ◌&&◌, List, Some, refl, sym, ap, ◌∙◌, subst, arith}
use Rattle.std.specs.Prelude.{◌==◌, nat_lt}
use Rattle.std.specs.List.{list_any}
use Rattle.std.proofs.lemmas.Bool.{eq-eqb, and_parts}
use Rattle.it_types.specs.declared.id.CallNo.{CallNo}
use Rattle.it_types.specs.declared.entry.CallEnd.{CallEnd}
use Rattle.spec_kernel.specs.declared.outcome.KEnd.{KEnd}
use Rattle.spec_kernel.specs.declared.reason.WaitReason.TheVariants as reasons
use Rattle.spec_kernel.specs.declared.reason.WaitingCall.{WaitingCall}
use Rattle.spec_kernel.specs.Waiters.{is_same_queue}
use Rattle.spec_kernel.specs.PlainKernel.{PlainKernel}
use Rattle.spec_kernel.specs.Settle.{is_outside, is_ready, urgency_of, comes_next, next_freed}
use Rattle.spec_kernel.specs.Time.{is_next_past}
use Rattle.laws_kernel.proofs.Lists.{found_passes}
use Rattle.spec_pend.specs.declared.call.Who.{Who}
use Rattle.spec_pend.specs.declared.call.Who.TheVariants as whos
use Rattle.spec_pend.specs.declared.call.NetCall.{NetCall}
use Rattle.spec_pend.specs.Slots.{has_number}
use Rattle.spec_udp.specs.Settling as udp
use Rattle.spec_node.specs.declared.event.NodeEv.{NodeEv}
use Rattle.spec_node.specs.declared.event.NodeEv.TheVariants.{Call, Tick}
use Rattle.spec_node.specs.PlainNode.{PlainNode}
use Rattle.laws_node.specs.Agreement.{PartsAgree, times, is_numbered, is_outside_call, is_net_call, is_routine_call}
use Rattle.laws_calls.specs.Cause.{Kind, KernelEnds, NetEnds, Cause, CausesAreOne}
use Rattle.laws_calls.proofs.CauseLists.{IsAmong, found_among, one_at_least, some_passes, the_same}
use Rattle.laws_calls.proofs.CauseMembers.{waited_in_kernel, waited_in_net}
use Rattle.laws_calls.proofs.CauseCodes.{IsSuccess, CodeOf, code_of, Alike, alike, delay_only}

-- ---- a delay that is over

-- a delay of this number waited
record Delays (n : PlainNode) (call : CallNo) : Type 0 where
  delay : WaitingCall
  among : IsAmong delay n.kernel.waits
  reason : delay.reason ≡ reasons.Delay
  number : delay.call ≡ call

over_in_kernel : (n : PlainNode) (kind : Kind) (e : KEnd)
    → KernelEnds n Tick kind e
    → kind ≡ Kind.TimedOut
    → IsSuccess e.code
    → Delays n e.call × (e.outside ≡ false)
over_in_kernel n _ _ (KernelEnds.is_timed_out k z tick at rest f) over s =
    let delay : z.0.reason ≡ reasons.Delay = delay_only z.0.reason s in
    (record { delay = z.0; among = waited_in_kernel n k z.0 at (found_among (is_next_past k.clock.now k.waits) k.waits z f); reason = delay; number = refl }, ap is_outside delay)
over_in_kernel n _ _ (KernelEnds.is_freed k z at f) over s = absurd cc
over_in_kernel n _ _ (KernelEnds.is_handed ctx call task bytes z is hands f) over s = absurd cc
over_in_kernel n _ _ (KernelEnds.is_released ctx call task z is releases f) over s = absurd cc

over : (n : PlainNode) (kind : Kind) (e : CallEnd) → Cause n Tick kind e → kind ≡ Kind.TimedOut → IsSuccess e.code → Delays n e.call
over n _ _ (Cause.of_kernel kind e ends inside) is s = (over_in_kernel n kind e ends is s).0
over n _ _ (Cause.of_network _ _ (NetEnds.is_ended s z kind e at ends outside f)) is success = absurd (let g : true ≡ false = sym outside ∙ (over_in_kernel n kind e ends is success).1 in cc)
over n _ _ (Cause.of_network _ _ (NetEnds.is_met s z at f)) is success = absurd cc
over n _ _ (Cause.of_network _ _ (NetEnds.is_cancelled ctx cep func z event free f)) is success = absurd cc
over n _ _ (Cause.of_network _ _ (NetEnds.is_deleted ctx cep z event free f)) is success = absurd cc

-- ---- a call that is met

-- a call of this number waited, in the kernel and for no delay, or in the network part
data Waits (n : PlainNode) (call : CallNo) : Type 0 where
  in_kernel : (w : WaitingCall) → IsAmong w n.kernel.waits → w.reason ≢ reasons.Delay → w.call ≡ call → Waits n call
  in_net : (c : NetCall) → IsAmong c n.net.pend.calls → c.call ≡ call → Waits n call

not_ready : (k : PlainKernel) (w : WaitingCall) → w.reason ≡ reasons.Delay → is_ready k w ≡ false
not_ready k w e = rw e refl

next_ready : (k : PlainKernel) (z : WaitingCall × List WaitingCall) → next_freed k ≡ Some z → is_ready k z.0 ≡ true
next_ready k z e =
    (and_parts (is_ready k z.0) (not (list_any (λ v. (is_ready k v && is_same_queue v.reason z.0.reason) && nat_lt (urgency_of k v) (urgency_of k z.0)) k.waits)) (found_passes (comes_next k) k.waits z e)).0

met_in_kernel : (n : PlainNode) (kind : Kind) (e : KEnd) → KernelEnds n Tick kind e → kind ≡ Kind.Satisfied → Waits n e.call
met_in_kernel n _ _ (KernelEnds.is_freed k z at f) is =
    Waits.in_kernel z.0 (waited_in_kernel n k z.0 at (found_among (comes_next k) k.waits z f)) (λ delay. let g : true ≡ false = sym (next_ready k z f) ∙ not_ready k z.0 delay in absurd cc) refl
met_in_kernel n _ _ (KernelEnds.is_handed ctx call task bytes z event hands f) is = absurd (let g : Tick ≡ Call ctx event.0 = event.1 in cc)
met_in_kernel n _ _ (KernelEnds.is_timed_out k z tick at rest f) is = absurd cc
met_in_kernel n _ _ (KernelEnds.is_released ctx call task z event releases f) is = absurd cc

met : (n : PlainNode) (kind : Kind) (e : CallEnd) → Cause n Tick kind e → kind ≡ Kind.Satisfied → Waits n e.call
met n _ _ (Cause.of_kernel kind e ends inside) is = met_in_kernel n kind e ends is
met n _ _ (Cause.of_network _ _ (NetEnds.is_met s z at f)) is = Waits.in_net z.0 (waited_in_net n s z.0 at (found_among (udp.is_ready s.udps) s.pend.calls z f)) refl
met n _ _ (Cause.of_network _ _ (NetEnds.is_ended s z kind e at ends outside f)) is = Waits.in_net z.0 (waited_in_net n s z.0 at (found_among (has_number e.call) s.pend.calls z f)) refl
met n _ _ (Cause.of_network _ _ (NetEnds.is_cancelled ctx cep func z event free f)) is = absurd cc
met n _ _ (Cause.of_network _ _ (NetEnds.is_deleted ctx cep z event free f)) is = absurd cc

-- ---- never both

has_its_number : (w : WaitingCall) (call : CallNo) → w.call ≡ call → is_numbered call.0 w ≡ true
has_its_number w call e = eq-eqb w.call.0 call.0 (ap (λ (c : CallNo). c.0) e)

never_both : (n : PlainNode) (call : CallNo) → PartsAgree n → Delays n call → Waits n call → ⊥
never_both n call agree d (Waits.in_kernel w among other number) =
    let one : times (is_numbered call.0) n.kernel.waits ≤ 1 = omega (arith, agree.numbers call.0) in
    let same : w ≡ d.delay = the_same (is_numbered call.0) n.kernel.waits w d.delay one among d.among (has_its_number w call number) (has_its_number d.delay call d.number) in
    other (ap (λ (v : WaitingCall). v.reason) same ∙ d.reason)
never_both n call agree d (Waits.in_net c among number) = of c.who refl
  where
    its : (c.call.0 == call.0) ≡ true
    its = eq-eqb c.call.0 call.0 (ap (λ (m : CallNo). m.0) number)

    one : 1 ≤ times (is_numbered call.0) n.kernel.waits
    one = one_at_least (is_numbered call.0) n.kernel.waits d.delay d.among (has_its_number d.delay call d.number)

    of : (who : Who) → c.who ≡ who → ⊥
    of (whos.Callback t cbr) who = omega (arith, agree.numbers call.0, one, one_at_least (is_routine_call call.0) n.net.pend.calls c among (rw (its, who) refl))
    of (whos.Task t) who =
        let listed : 1 ≤ times (is_net_call call.0 t.0) n.net.pend.calls = one_at_least (is_net_call call.0 t.0) n.net.pend.calls c among (rw (its, who, eq-eqb t.0 t.0 refl) refl) in
        let w = some_passes (is_outside_call call.0 t.0) n.kernel.waits (omega (arith, agree.same call.0 t.0, listed)) in
        let parts = and_parts (is_outside w.0.reason) ((w.0.call.0 == call.0) && (w.0.task.0 == t.0)) w.2 in
        let same : w.0 ≡ d.delay = the_same (is_numbered call.0) n.kernel.waits w.0 d.delay (omega (arith, agree.numbers call.0)) w.1 d.among (and_parts (w.0.call.0 == call.0) (w.0.task.0 == t.0) parts.1).0 (has_its_number d.delay call d.number) in
        let f : true ≡ false = sym parts.0 ∙ ap is_outside (ap (λ (v : WaitingCall). v.reason) same ∙ d.reason) in
        absurd cc

-- ---- the law

-- only in a tick does a call end by time
over_in_ticks : (n : PlainNode) (event : NodeEv) (kind : Kind) (e : KEnd) → KernelEnds n event kind e → kind ≡ Kind.TimedOut → event ≡ Tick
over_in_ticks n event _ _ (KernelEnds.is_timed_out k z tick at rest f) is = tick
over_in_ticks n event _ _ (KernelEnds.is_freed k z at f) is = absurd cc
over_in_ticks n event _ _ (KernelEnds.is_handed ctx call task bytes z its hands f) is = absurd cc
over_in_ticks n event _ _ (KernelEnds.is_released ctx call task z its releases f) is = absurd cc

over_at : (n : PlainNode) (event : NodeEv) (kind : Kind) (e : CallEnd) → Cause n event kind e → kind ≡ Kind.TimedOut → event ≡ Tick
over_at n event _ _ (Cause.of_kernel kind e ends inside) is = over_in_ticks n event kind e ends is
over_at n event _ _ (Cause.of_network _ _ (NetEnds.is_ended s z kind e at ends outside f)) is = over_in_ticks n event kind e ends is
over_at n event _ _ (Cause.of_network _ _ (NetEnds.is_met s z at f)) is = absurd cc
over_at n event _ _ (Cause.of_network _ _ (NetEnds.is_cancelled ctx cep func z its free f)) is = absurd cc
over_at n event _ _ (Cause.of_network _ _ (NetEnds.is_deleted ctx cep z its free f)) is = absurd cc

-- an end isn't both by time and by what its call waits for
not_both : (n : PlainNode) (event : NodeEv) (e : CallEnd) (a b : Kind)
    → PartsAgree n
    → Cause n event a e
    → Cause n event b e
    → a ≡ Kind.TimedOut
    → b ≡ Kind.Satisfied
    → ⊥
not_both n event e a b agree x y over_time is_met =
    let tick : event ≡ Tick = over_at n event a e x over_time in
    let success : IsSuccess e.code = subst (λ kind. CodeOf kind e.code) is_met (code_of n event b e y) in
    never_both n e.call agree (over n a e (subst (λ t. Cause n t a e) tick x) over_time success) (met n b e (subst (λ t. Cause n t b e) tick y) is_met)

pub one_cause : (n : PlainNode) (event : NodeEv) → PartsAgree n → CausesAreOne n event
one_cause n event agree e a b x y = elim (alike a b e.code (code_of n event a e x) (code_of n event b e y)) [
  | Alike.same s ↦ s
  | Alike.first_over s t ↦ absurd (not_both n event e a b agree x y s t)
  | Alike.second_over s t ↦ absurd (not_both n event e b a agree y x t s)
]
