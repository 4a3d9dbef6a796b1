-- Histories of datagrams that come where no call waits for them.
use Rattle.std.proofs.Common.{◌≡◌, [], ◌∷◌, None, refl}
use Rattle.std.specs.Prelude.{pos}
use Rattle.it_types.specs.declared.handler.FnCode.TheVariants as functions
use Rattle.it_types.specs.declared.timeout.Tmo.TheVariants.{Pol, Nblk, Fevr}
use Rattle.it_types.proofs.CallWords.{creates, receives}
use Rattle.spec_wire.specs.Sum.{ones_sum}
use Rattle.spec_wire.specs.Ipv4 as ipv4
use Rattle.spec_wire.specs.Udp as udp
use Rattle.spec_kernel.specs.Settle as kernel_settle
use Rattle.spec_kernel.specs.Time.{due, unblocked}
use Rattle.spec_kernel.specs.Rows as kernel_rows
use Rattle.spec_udp.specs.Packets.{arrived_in}
use Rattle.spec_udp.specs.Ports.{first_free}
use Rattle.spec_udp.specs.Settling as udp_settle
use Rattle.spec_udp.specs.Rows.{udp_call}
use Rattle.spec_udp.specs.Arrival.{arrive}
use Rattle.spec_udp.specs.Outside.{ended}
use Rattle.spec_node.specs.declared.event.NodeEv.TheVariants.{Begin, Finish, Arrive}
use Rattle.spec_node.specs.Progress.{after_kernel, time_out, timed_out}
use Rattle.spec_node.specs.NodeStep.{kernel_called, network_called, arrived, ticked, returned, begun, finished, node_step}
use Rattle.spec_node.proofs.Examples.{outs, task, node, calls, handler_calls, returns, cancels, hi_packet, hi_bytes, minus, gives, now, code, pends, later, nothing, ends_with, enters, end, cbr, callback, run}

-- the routine is told of the datagram's length alone, and takes it by a poll
pub event :
    outs (node (task 1 1 ∷ []) [] []) (
    calls 1 (creates 1 2000 1)
    ∷ Arrive hi_packet
    ∷ Begin
    ∷ handler_calls (receives 1 5 Pol)
    ∷ Finish
    ∷ Begin
    ∷ [])
    ≡ code (pos 0) []
    ∷ ends_with [] (callback 1 functions.UdpEvent (pos 2) ∷ [])
    ∷ enters (cbr 1 functions.UdpEvent (pos 2) [])
    ∷ code (pos 2) hi_bytes
    ∷ nothing
    ∷ None
    ∷ []
unfolding ones_sum ipv4.written ipv4.refusal udp.written udp.refusal kernel_settle.settle kernel_settle.settled due kernel_rows.call kernel_rows.tick unblocked first_free arrived_in udp_settle.settle udp_settle.settled udp_call arrive ended after_kernel time_out timed_out kernel_called network_called arrived ticked returned begun finished node_step
event = refl

-- no routine is told where a receive waits: the datagram ends it
pub no_event_for_a_receive :
    outs (node (task 1 1 ∷ []) [] []) (
    calls 1 (creates 1 2000 1)
    ∷ calls 1 (receives 1 5 Fevr)
    ∷ Arrive hi_packet
    ∷ Begin
    ∷ returns 1
    ∷ [])
    ≡ code (pos 0) []
    ∷ pends 1 0
    ∷ ends_with (end 1 (pos 2) hi_bytes ∷ []) (run 1 ∷ [])
    ∷ None
    ∷ code (pos 2) hi_bytes
    ∷ []
unfolding ones_sum ipv4.written ipv4.refusal udp.written udp.refusal kernel_settle.settle kernel_settle.settled due kernel_rows.call kernel_rows.tick unblocked first_free arrived_in udp_settle.settle udp_settle.settled udp_call arrive ended after_kernel time_out timed_out kernel_called network_called arrived ticked returned begun finished node_step
no_event_for_a_receive = refl

-- nor where the end point has none
pub no_event_without_a_routine :
    outs (node (task 1 1 ∷ []) [] []) (
    calls 1 (creates 1 2000 0)
    ∷ Arrive hi_packet
    ∷ Begin
    ∷ calls 1 (receives 1 5 Pol)
    ∷ [])
    ≡ code (pos 0) []
    ∷ nothing
    ∷ None
    ∷ code (pos 2) hi_bytes
    ∷ []
unfolding ones_sum ipv4.written ipv4.refusal udp.written udp.refusal kernel_settle.settle kernel_settle.settled due kernel_rows.call kernel_rows.tick unblocked first_free arrived_in udp_settle.settle udp_settle.settled udp_call arrive ended after_kernel time_out timed_out kernel_called network_called arrived ticked returned begun finished node_step
no_event_without_a_routine = refl

-- nor where the queue has eight datagrams and the ninth is dropped
pub no_event_for_a_full_queue :
    outs (node (task 1 1 ∷ []) [] []) (
    calls 1 (creates 1 2000 1)
    ∷ Arrive hi_packet
    ∷ Arrive hi_packet
    ∷ Arrive hi_packet
    ∷ Arrive hi_packet
    ∷ Arrive hi_packet
    ∷ Arrive hi_packet
    ∷ Arrive hi_packet
    ∷ Arrive hi_packet
    ∷ Arrive hi_packet
    ∷ Begin
    ∷ handler_calls (receives 1 5 Pol)
    ∷ Arrive hi_packet
    ∷ Finish
    ∷ [])
    ≡ code (pos 0) []
    ∷ ends_with [] (callback 1 functions.UdpEvent (pos 2) ∷ [])
    ∷ ends_with [] (callback 1 functions.UdpEvent (pos 2) ∷ [])
    ∷ ends_with [] (callback 1 functions.UdpEvent (pos 2) ∷ [])
    ∷ ends_with [] (callback 1 functions.UdpEvent (pos 2) ∷ [])
    ∷ ends_with [] (callback 1 functions.UdpEvent (pos 2) ∷ [])
    ∷ ends_with [] (callback 1 functions.UdpEvent (pos 2) ∷ [])
    ∷ ends_with [] (callback 1 functions.UdpEvent (pos 2) ∷ [])
    ∷ ends_with [] (callback 1 functions.UdpEvent (pos 2) ∷ [])
    ∷ nothing
    ∷ enters (cbr 1 functions.UdpEvent (pos 2) [])
    ∷ code (pos 2) hi_bytes
    ∷ ends_with [] (callback 1 functions.UdpEvent (pos 2) ∷ [])
    ∷ nothing
    ∷ []
unfolding ones_sum ipv4.written ipv4.refusal udp.written udp.refusal kernel_settle.settle kernel_settle.settled due kernel_rows.call kernel_rows.tick unblocked first_free arrived_in udp_settle.settle udp_settle.settled udp_call arrive ended after_kernel time_out timed_out kernel_called network_called arrived ticked returned begun finished node_step
no_event_for_a_full_queue = refl

-- a receive that was cancelled is not ended again by the datagram that comes next: the routine is told of that datagram itself
pub cancelled_once :
    outs (node (task 1 1 ∷ []) [] []) (
    calls 1 (creates 1 2000 1)
    ∷ calls 1 (receives 1 5 Nblk)
    ∷ calls 1 (cancels 1 functions.All)
    ∷ Arrive hi_packet
    ∷ Begin
    ∷ Finish
    ∷ Begin
    ∷ Finish
    ∷ [])
    ≡ code (pos 0) []
    ∷ later 1
    ∷ gives (now (pos 0) []) (end 1 (minus 49) [] ∷ []) (callback 1 functions.UdpRcv (minus 49) ∷ []) []
    ∷ ends_with [] (callback 1 functions.UdpEvent (pos 2) ∷ [])
    ∷ enters (cbr 1 functions.UdpRcv (minus 49) [])
    ∷ nothing
    ∷ enters (cbr 1 functions.UdpEvent (pos 2) [])
    ∷ nothing
    ∷ []
unfolding ones_sum ipv4.written ipv4.refusal udp.written udp.refusal kernel_settle.settle kernel_settle.settled due kernel_rows.call kernel_rows.tick unblocked first_free arrived_in udp_settle.settle udp_settle.settled udp_call arrive ended after_kernel time_out timed_out kernel_called network_called arrived ticked returned begun finished node_step
cancelled_once = refl
