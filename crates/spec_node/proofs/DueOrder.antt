-- Histories of several handlers that are due: they begin in the order in which they became so. A tick makes no callback routine due: a
-- call of which one is told has no deadline, and a tick brings no datagram and cancels nothing.
use Rattle.std.proofs.Common.{◌≡◌, [], ◌∷◌, None, refl}
use Rattle.std.specs.Prelude.{pos}
use Rattle.it_types.specs.declared.handler.FnCode.TheVariants as functions
use Rattle.it_types.specs.declared.timeout.Tmo.TheVariants.{Pol, Nblk, Ms}
use Rattle.it_types.proofs.CallWords.{delays, creates, receives}
use Rattle.spec_wire.specs.Sum.{ones_sum}
use Rattle.spec_wire.specs.Ipv4 as ipv4
use Rattle.spec_wire.specs.Udp as udp
use Rattle.spec_kernel.specs.Settle as kernel_settle
use Rattle.spec_kernel.specs.Time.{due, unblocked}
use Rattle.spec_kernel.specs.Rows as kernel_rows
use Rattle.spec_udp.specs.Packets.{arrived_in}
use Rattle.spec_udp.specs.Ports.{first_free}
use Rattle.spec_udp.specs.Settling as udp_settle
use Rattle.spec_udp.specs.Rows.{udp_call}
use Rattle.spec_udp.specs.Arrival.{arrive}
use Rattle.spec_udp.specs.Outside.{ended}
use Rattle.spec_node.specs.declared.event.NodeEv.TheVariants.{Begin, Finish, Tick, Arrive}
use Rattle.spec_node.specs.Progress.{after_kernel, time_out, timed_out}
use Rattle.spec_node.specs.NodeStep.{kernel_called, network_called, arrived, ticked, returned, begun, finished, node_step}
use Rattle.spec_node.proofs.Examples.{outs, task, cyclic, node, calls, handler_calls, returns, cancels, hi_packet, minus, gives, now, code, pends, later, nothing, ends_with, enters, end, cyc, cbr, callback, run}

-- cyclic handlers that come due at one tick stand behind a routine that is due before it, by rising id and not as they were declared
pub after_a_callback :
    outs (node (task 1 1 ∷ []) [] (cyclic 2 5 0 ∷ cyclic 1 5 0 ∷ [])) (
    calls 1 (creates 1 2000 1)
    ∷ Arrive hi_packet
    ∷ Tick
    ∷ Begin
    ∷ Finish
    ∷ Begin
    ∷ Finish
    ∷ Begin
    ∷ Finish
    ∷ Begin
    ∷ [])
    ≡ code (pos 0) []
    ∷ ends_with [] (callback 1 functions.UdpEvent (pos 2) ∷ [])
    ∷ nothing
    ∷ enters (cbr 1 functions.UdpEvent (pos 2) [])
    ∷ nothing
    ∷ enters (cyc 1)
    ∷ nothing
    ∷ enters (cyc 2)
    ∷ nothing
    ∷ None
    ∷ []
unfolding ones_sum ipv4.written ipv4.refusal udp.written udp.refusal kernel_settle.settle kernel_settle.settled due kernel_rows.call kernel_rows.tick unblocked first_free arrived_in udp_settle.settle udp_settle.settled udp_call arrive ended after_kernel time_out timed_out kernel_called network_called arrived ticked returned begun finished node_step
after_a_callback = refl

-- a routine of which the first of them makes the call end stands behind both
pub before_a_callback :
    outs (node (task 1 1 ∷ []) [] (cyclic 2 5 0 ∷ cyclic 1 5 0 ∷ [])) (
    calls 1 (creates 1 2000 1)
    ∷ calls 1 (receives 1 5 Nblk)
    ∷ Tick
    ∷ Begin
    ∷ handler_calls (cancels 1 functions.All)
    ∷ Finish
    ∷ Begin
    ∷ Finish
    ∷ Begin
    ∷ Finish
    ∷ [])
    ≡ code (pos 0) []
    ∷ later 1
    ∷ nothing
    ∷ enters (cyc 1)
    ∷ gives (now (pos 0) []) (end 1 (minus 49) [] ∷ []) (callback 1 functions.UdpRcv (minus 49) ∷ []) []
    ∷ nothing
    ∷ enters (cyc 2)
    ∷ nothing
    ∷ enters (cbr 1 functions.UdpRcv (minus 49) [])
    ∷ nothing
    ∷ []
unfolding ones_sum ipv4.written ipv4.refusal udp.written udp.refusal kernel_settle.settle kernel_settle.settled due kernel_rows.call kernel_rows.tick unblocked first_free arrived_in udp_settle.settle udp_settle.settled udp_call arrive ended after_kernel time_out timed_out kernel_called network_called arrived ticked returned begun finished node_step
before_a_callback = refl

-- at one tick both handlers come due and calls of both parts end by time, by rising number: a task returns after the handlers
pub with_deadlines :
    outs (node (task 1 2 ∷ task 2 1 ∷ []) [] (cyclic 2 5 0 ∷ cyclic 1 5 0 ∷ [])) (
    calls 2 (creates 1 2000 1)
    ∷ calls 2 (receives 1 5 (Ms 0))
    ∷ calls 1 (delays 0)
    ∷ Tick
    ∷ returns 2
    ∷ Begin
    ∷ handler_calls (receives 1 5 Pol)
    ∷ Finish
    ∷ returns 2
    ∷ Begin
    ∷ Finish
    ∷ returns 2
    ∷ [])
    ≡ code (pos 0) []
    ∷ pends 1 1
    ∷ pends 2 0
    ∷ ends_with (end 1 (minus 50) [] ∷ end 2 (pos 0) [] ∷ []) (run 2 ∷ [])
    ∷ None
    ∷ enters (cyc 1)
    ∷ code (minus 50) []
    ∷ nothing
    ∷ None
    ∷ enters (cyc 2)
    ∷ nothing
    ∷ code (minus 50) []
    ∷ []
unfolding ones_sum ipv4.written ipv4.refusal udp.written udp.refusal kernel_settle.settle kernel_settle.settled due kernel_rows.call kernel_rows.tick unblocked first_free arrived_in udp_settle.settle udp_settle.settled udp_call arrive ended after_kernel time_out timed_out kernel_called network_called arrived ticked returned begun finished node_step
with_deadlines = refl
