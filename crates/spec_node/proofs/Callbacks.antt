-- Histories of calls of whose end a callback routine is told.
use Rattle.std.proofs.Common.{◌≡◌, [], ◌∷◌, None, refl}
use Rattle.std.specs.Prelude.{pos}
use Rattle.it_types.specs.declared.handler.FnCode.TheVariants as functions
use Rattle.it_types.specs.declared.timeout.Tmo.TheVariants.{Pol, Nblk, Fevr}
use Rattle.it_types.proofs.CallWords.{exits, delays, creates, sends, receives}
use Rattle.spec_wire.specs.Sum.{ones_sum}
use Rattle.spec_wire.specs.Ipv4 as ipv4
use Rattle.spec_wire.specs.Udp as udp
use Rattle.spec_kernel.specs.Settle as kernel_settle
use Rattle.spec_kernel.specs.Time.{due, unblocked}
use Rattle.spec_kernel.specs.Rows as kernel_rows
use Rattle.spec_udp.specs.Packets.{arrived_in}
use Rattle.spec_udp.specs.Ports.{first_free}
use Rattle.spec_udp.specs.Settling as udp_settle
use Rattle.spec_udp.specs.Rows.{udp_call}
use Rattle.spec_udp.specs.Arrival.{arrive}
use Rattle.spec_udp.specs.Outside.{ended}
use Rattle.spec_node.specs.declared.event.NodeEv.TheVariants.{Begin, Finish, Arrive}
use Rattle.spec_node.specs.Progress.{after_kernel, time_out, timed_out}
use Rattle.spec_node.specs.NodeStep.{kernel_called, network_called, arrived, ticked, returned, begun, finished, node_step}
use Rattle.spec_node.proofs.Examples.{outs, task, node, calls, returns, cancels, peer, hi, hi_packet, other_packet, sent_packet, hi_bytes, minus, gives, now, accepted, code, pends, later, nothing, ends_with, enters, end, cbr, callback, gone, run}

-- a receive is cancelled: until its routine has ended no task calls; then there is none to be cancelled
pub cancelled :
    outs (node (task 1 1 ∷ []) [] []) (
    calls 1 (creates 1 2000 1)
    ∷ calls 1 (receives 1 10 Nblk)
    ∷ calls 1 (cancels 1 functions.UdpRcv)
    ∷ calls 1 (cancels 1 functions.All)
    ∷ Begin
    ∷ calls 1 (cancels 1 functions.All)
    ∷ Finish
    ∷ calls 1 (cancels 1 functions.All)
    ∷ calls 1 exits
    ∷ [])
    ≡ code (pos 0) []
    ∷ later 1
    ∷ gives (now (pos 0) []) (end 1 (minus 49) [] ∷ []) (callback 1 functions.UdpRcv (minus 49) ∷ []) []
    ∷ None
    ∷ enters (cbr 1 functions.UdpRcv (minus 49) [])
    ∷ None
    ∷ nothing
    ∷ code (minus 41) []
    ∷ ends_with [] (gone 1 ∷ run 0 ∷ [])
    ∷ []
unfolding ones_sum ipv4.written ipv4.refusal udp.written udp.refusal kernel_settle.settle kernel_settle.settled due kernel_rows.call kernel_rows.tick unblocked first_free arrived_in udp_settle.settle udp_settle.settled udp_call arrive ended after_kernel time_out timed_out kernel_called network_called arrived ticked returned begun finished node_step
cancelled = refl

-- a send of which a routine is told ends, with its packet, in the entry that accepts it; one of which none is told sends too, and
-- draws no number
pub sent_in_the_entry :
    outs (node (task 1 1 ∷ []) [] []) (
    calls 1 (creates 1 2000 1)
    ∷ calls 1 (sends 1 peer hi Nblk)
    ∷ Begin
    ∷ Finish
    ∷ calls 1 (sends 1 peer hi Fevr)
    ∷ calls 1 (delays 0)
    ∷ [])
    ≡ code (pos 0) []
    ∷ gives (accepted 1) (end 1 (pos 2) [] ∷ []) (callback 1 functions.UdpSnd (pos 2) ∷ []) (sent_packet ∷ [])
    ∷ enters (cbr 1 functions.UdpSnd (pos 2) [])
    ∷ nothing
    ∷ gives (now (pos 2) []) [] [] (sent_packet ∷ [])
    ∷ pends 2 0
    ∷ []
unfolding ones_sum ipv4.written ipv4.refusal udp.written udp.refusal kernel_settle.settle kernel_settle.settled due kernel_rows.call kernel_rows.tick unblocked first_free arrived_in udp_settle.settle udp_settle.settled udp_call arrive ended after_kernel time_out timed_out kernel_called network_called arrived ticked returned begun finished node_step
sent_in_the_entry = refl

-- where a datagram is queued the receive is accepted and ends in one entry, and the datagram is taken
pub received_in_the_entry :
    outs (node (task 1 1 ∷ []) [] []) (
    calls 1 (creates 1 2000 1)
    ∷ Arrive hi_packet
    ∷ Begin
    ∷ Finish
    ∷ calls 1 (receives 1 5 Nblk)
    ∷ Begin
    ∷ Finish
    ∷ calls 1 (receives 1 5 Pol)
    ∷ [])
    ≡ code (pos 0) []
    ∷ ends_with [] (callback 1 functions.UdpEvent (pos 2) ∷ [])
    ∷ enters (cbr 1 functions.UdpEvent (pos 2) [])
    ∷ nothing
    ∷ gives (accepted 1) (end 1 (pos 2) hi_bytes ∷ []) (callback 1 functions.UdpRcv (pos 2) ∷ []) []
    ∷ enters (cbr 1 functions.UdpRcv (pos 2) hi_bytes)
    ∷ nothing
    ∷ code (minus 50) []
    ∷ []
unfolding ones_sum ipv4.written ipv4.refusal udp.written udp.refusal kernel_settle.settle kernel_settle.settled due kernel_rows.call kernel_rows.tick unblocked first_free arrived_in udp_settle.settle udp_settle.settled udp_call arrive ended after_kernel time_out timed_out kernel_called network_called arrived ticked returned begun finished node_step
received_in_the_entry = refl

-- a task has told a routine of its receive at one end point, and waits at another: the datagram for the first wakes nobody
pub woken_by_its_own :
    outs (node (task 1 1 ∷ []) [] []) (
    calls 1 (creates 1 2000 1)
    ∷ calls 1 (creates 2 2001 0)
    ∷ calls 1 (receives 1 5 Nblk)
    ∷ calls 1 (receives 2 5 Fevr)
    ∷ Arrive hi_packet
    ∷ Arrive other_packet
    ∷ returns 1
    ∷ Begin
    ∷ returns 1
    ∷ Finish
    ∷ returns 1
    ∷ returns 1
    ∷ [])
    ≡ code (pos 0) []
    ∷ code (pos 0) []
    ∷ later 1
    ∷ pends 2 0
    ∷ ends_with (end 1 (pos 2) hi_bytes ∷ []) (callback 1 functions.UdpRcv (pos 2) ∷ [])
    ∷ ends_with (end 2 (pos 2) hi_bytes ∷ []) (run 1 ∷ [])
    ∷ None
    ∷ enters (cbr 1 functions.UdpRcv (pos 2) hi_bytes)
    ∷ None
    ∷ nothing
    ∷ code (pos 2) hi_bytes
    ∷ None
    ∷ []
unfolding ones_sum ipv4.written ipv4.refusal udp.written udp.refusal kernel_settle.settle kernel_settle.settled due kernel_rows.call kernel_rows.tick unblocked first_free arrived_in udp_settle.settle udp_settle.settled udp_call arrive ended after_kernel time_out timed_out kernel_called network_called arrived ticked returned begun finished node_step
woken_by_its_own = refl
