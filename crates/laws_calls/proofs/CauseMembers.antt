-- In a tick no call waits that didn't before it.
use Rattle.std.proofs.Common.{◌≡◌, Option, Some, None, refl}
use Rattle.std.specs.Prelude.{List}
use Rattle.spec_lists.specs.First.{take_first}
use Rattle.spec_kernel.specs.declared.reason.WaitingCall.{WaitingCall}
use Rattle.spec_kernel.specs.PlainKernel.{PlainKernel}
use Rattle.spec_kernel.specs.Settle.{comes_next}
use Rattle.spec_kernel.specs.Time.{is_next_past, is_outside_of, unblocked_at, unblocked}
use Rattle.spec_pend.specs.declared.call.Who.{Who}
use Rattle.spec_pend.specs.declared.call.Who.TheVariants as whos
use Rattle.spec_pend.specs.declared.call.NetCall.{NetCall}
use Rattle.spec_pend.specs.PlainPend.{no_endings}
use Rattle.spec_pend.specs.Slots.{has_number, numbered}
use Rattle.spec_pend.specs.Ends.{ended_where}
use Rattle.spec_udp.specs.PlainUdps.{UdpSide}
use Rattle.spec_udp.specs.Settling.{is_ready}
use Rattle.spec_node.specs.declared.event.NodeEv.TheVariants.{Tick}
use Rattle.spec_node.specs.PlainNode.{PlainNode}
use Rattle.spec_node.specs.Progress.{woken_for}
use Rattle.laws_calls.specs.Cause.{KernelAt, NetAt}
use Rattle.laws_calls.proofs.CauseLists.{IsAmong, others_among}

woken_among : (k : PlainKernel) (who : Who) (w : WaitingCall) → IsAmong w (woken_for k who).waits → IsAmong w k.waits
unfolding unblocked
woken_among k (whos.Callback t cbr) w m = m
woken_among k (whos.Task t) w m = of (take_first (is_outside_of t) k.waits) refl m
  where
    of : (found : Option (WaitingCall × List WaitingCall))
        → take_first (is_outside_of t) k.waits ≡ found
        → IsAmong w (unblocked_at k found).0.waits
        → IsAmong w k.waits
    of None e m = m
    of (Some z) e m = others_among (is_outside_of t) k.waits z w e m

pub waited_in_kernel : (n : PlainNode) (k : PlainKernel) (w : WaitingCall) → KernelAt n Tick k → IsAmong w k.waits → IsAmong w n.kernel.waits
waited_in_kernel n k w KernelAt.after_kernel_row m = m
waited_in_kernel n _ w (KernelAt.after_freed k z at e) m = waited_in_kernel n k w at (others_among (comes_next k) k.waits z w e m)
waited_in_kernel n _ w (KernelAt.after_timed_out k z tick at rest e) m = waited_in_kernel n k w at (others_among (is_next_past k.clock.now k.waits) k.waits z w e m)
waited_in_kernel n _ w (KernelAt.after_told k kind e at ends) m = waited_in_kernel n k w at (woken_among k e.who w m)

pub waited_in_net : (n : PlainNode) (s : UdpSide) (c : NetCall) → NetAt n Tick s → IsAmong c s.pend.calls → IsAmong c n.net.pend.calls
waited_in_net n s c NetAt.after_net_row m = m
waited_in_net n _ c (NetAt.after_met s z at e) m = waited_in_net n s c at (others_among (is_ready s.udps) s.pend.calls z c e m)
waited_in_net n _ c (NetAt.after_ended s kind e at ends outside) m = waited_in_net n s c at (of (numbered s.pend e.call) refl m)
  where
    of : (found : Option (NetCall × List NetCall))
        → numbered s.pend e.call ≡ found
        → IsAmong c (ended_where (no_endings s.pend) found e.code).pend.calls
        → IsAmong c s.pend.calls
    of None f m = m
    of (Some z) f m = others_among (has_number e.call) s.pend.calls z c f m
