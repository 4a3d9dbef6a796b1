-- Histories of calls of the network part that end in other ways: with their end point, with their task, by a release.
use Rattle.std.proofs.Common.{◌≡◌, [], ◌∷◌, None, refl}
use Rattle.std.specs.Prelude.{pos}
use Rattle.it_types.specs.declared.handler.FnCode.TheVariants as functions
use Rattle.it_types.specs.declared.timeout.Tmo.TheVariants.{Pol, Nblk, Fevr, Ms}
use Rattle.it_types.proofs.CallWords.{exits, delays, creates, receives}
use Rattle.spec_wire.specs.Sum.{ones_sum}
use Rattle.spec_wire.specs.Ipv4 as ipv4
use Rattle.spec_wire.specs.Udp as udp
use Rattle.spec_kernel.specs.Settle as kernel_settle
use Rattle.spec_kernel.specs.Time.{due, unblocked}
use Rattle.spec_kernel.specs.Rows as kernel_rows
use Rattle.spec_udp.specs.Packets.{arrived_in}
use Rattle.spec_udp.specs.Ports.{first_free}
use Rattle.spec_udp.specs.Settling as udp_settle
use Rattle.spec_udp.specs.Rows.{udp_call}
use Rattle.spec_udp.specs.Arrival.{arrive}
use Rattle.spec_udp.specs.Outside.{ended}
use Rattle.spec_node.specs.declared.event.NodeEv.TheVariants.{Begin, Finish, Tick, Arrive}
use Rattle.spec_node.specs.Progress.{after_kernel, time_out, timed_out}
use Rattle.spec_node.specs.NodeStep.{kernel_called, network_called, arrived, ticked, returned, begun, finished, node_step}
use Rattle.spec_node.proofs.Examples.{outs, task, cyclic, node, calls, handler_calls, returns, activates, terminates, releases, deletes, hi_packet, hi_bytes, minus, gives, now, code, pends, later, nothing, ends_with, enters, end, cyc, cbr, callback, gone, begins, run}

-- an end point is deleted under a receive of which a routine is told; a datagram then finds no end point
pub deleted_under_a_routine :
    outs (node (task 1 1 ∷ []) [] []) (
    calls 1 (creates 1 2000 1)
    ∷ calls 1 (receives 1 10 Nblk)
    ∷ calls 1 (deletes 1)
    ∷ Arrive hi_packet
    ∷ Begin
    ∷ handler_calls (receives 1 10 Pol)
    ∷ Finish
    ∷ [])
    ≡ code (pos 0) []
    ∷ later 1
    ∷ gives (now (pos 0) []) (end 1 (minus 51) [] ∷ []) (callback 1 functions.UdpRcv (minus 51) ∷ []) []
    ∷ nothing
    ∷ enters (cbr 1 functions.UdpRcv (minus 51) [])
    ∷ code (minus 42) []
    ∷ nothing
    ∷ []
unfolding ones_sum ipv4.written ipv4.refusal udp.written udp.refusal kernel_settle.settle kernel_settle.settled due kernel_rows.call kernel_rows.tick unblocked first_free arrived_in udp_settle.settle udp_settle.settled udp_call arrive ended after_kernel time_out timed_out kernel_called network_called arrived ticked returned begun finished node_step
deleted_under_a_routine = refl

-- and under one for which a task waits
pub deleted_under_a_task :
    outs (node (task 1 1 ∷ task 2 2 ∷ []) [] []) (
    calls 1 (creates 1 2000 1)
    ∷ calls 1 (receives 1 10 Fevr)
    ∷ calls 2 (deletes 1)
    ∷ returns 1
    ∷ calls 1 (receives 1 10 Pol)
    ∷ [])
    ≡ code (pos 0) []
    ∷ pends 1 2
    ∷ gives (now (pos 0) []) (end 1 (minus 51) [] ∷ []) (run 1 ∷ []) []
    ∷ code (minus 51) []
    ∷ code (minus 42) []
    ∷ []
unfolding ones_sum ipv4.written ipv4.refusal udp.written udp.refusal kernel_settle.settle kernel_settle.settled due kernel_rows.call kernel_rows.tick unblocked first_free arrived_in udp_settle.settle udp_settle.settled udp_call arrive ended after_kernel time_out timed_out kernel_called network_called arrived ticked returned begun finished node_step
deleted_under_a_task = refl

-- a task is terminated that holds an answer and has told a routine of a receive: the answer is dropped, and the receive waits on
pub terminated_with_an_answer :
    outs (node (task 1 2 ∷ task 2 1 ∷ []) [] []) (
    calls 2 (delays 1)
    ∷ calls 1 (creates 1 2000 1)
    ∷ calls 1 (receives 1 5 Nblk)
    ∷ calls 1 (delays 0)
    ∷ Tick
    ∷ Tick
    ∷ returns 2
    ∷ calls 2 (terminates 1)
    ∷ Arrive hi_packet
    ∷ Begin
    ∷ Finish
    ∷ calls 2 (activates 1)
    ∷ calls 2 exits
    ∷ returns 1
    ∷ calls 1 exits
    ∷ [])
    ≡ pends 1 1
    ∷ code (pos 0) []
    ∷ later 2
    ∷ pends 3 0
    ∷ ends_with (end 3 (pos 0) [] ∷ []) (run 1 ∷ [])
    ∷ ends_with (end 1 (pos 0) [] ∷ []) (run 2 ∷ [])
    ∷ code (pos 0) []
    ∷ gives (now (pos 0) []) [] (gone 1 ∷ []) []
    ∷ ends_with (end 2 (pos 2) hi_bytes ∷ []) (callback 1 functions.UdpRcv (pos 2) ∷ [])
    ∷ enters (cbr 1 functions.UdpRcv (pos 2) hi_bytes)
    ∷ nothing
    ∷ gives (now (pos 0) []) [] (begins 1 ∷ []) []
    ∷ ends_with [] (gone 2 ∷ run 1 ∷ [])
    ∷ None
    ∷ ends_with [] (gone 1 ∷ run 0 ∷ [])
    ∷ []
unfolding ones_sum ipv4.written ipv4.refusal udp.written udp.refusal kernel_settle.settle kernel_settle.settled due kernel_rows.call kernel_rows.tick unblocked first_free arrived_in udp_settle.settle udp_settle.settled udp_call arrive ended after_kernel time_out timed_out kernel_called network_called arrived ticked returned begun finished node_step
terminated_with_an_answer = refl

-- a task is terminated that waits for a receive: it ends, nobody returns with it, and no receive waits when a datagram comes
pub terminated_in_a_receive :
    outs (node (task 1 1 ∷ task 2 2 ∷ []) [] []) (
    calls 1 (creates 1 2000 1)
    ∷ calls 1 (receives 1 5 Fevr)
    ∷ calls 2 (terminates 1)
    ∷ Arrive hi_packet
    ∷ returns 1
    ∷ [])
    ≡ code (pos 0) []
    ∷ pends 1 2
    ∷ gives (now (pos 0) []) (end 1 (minus 49) [] ∷ []) (gone 1 ∷ []) []
    ∷ ends_with [] (callback 1 functions.UdpEvent (pos 2) ∷ [])
    ∷ None
    ∷ []
unfolding ones_sum ipv4.written ipv4.refusal udp.written udp.refusal kernel_settle.settle kernel_settle.settled due kernel_rows.call kernel_rows.tick unblocked first_free arrived_in udp_settle.settle udp_settle.settled udp_call arrive ended after_kernel time_out timed_out kernel_called network_called arrived ticked returned begun finished node_step
terminated_in_a_receive = refl

-- a wait outside is released by a handler: the call ends in the network part too
pub released :
    outs (node (task 1 1 ∷ []) [] (cyclic 1 5 0 ∷ [])) (
    calls 1 (creates 1 2000 1)
    ∷ calls 1 (receives 1 5 Fevr)
    ∷ Tick
    ∷ Begin
    ∷ handler_calls (releases 1)
    ∷ Arrive hi_packet
    ∷ Finish
    ∷ Begin
    ∷ Finish
    ∷ returns 1
    ∷ [])
    ≡ code (pos 0) []
    ∷ pends 1 0
    ∷ nothing
    ∷ enters (cyc 1)
    ∷ gives (now (pos 0) []) (end 1 (minus 49) [] ∷ []) (run 1 ∷ []) []
    ∷ ends_with [] (callback 1 functions.UdpEvent (pos 2) ∷ [])
    ∷ nothing
    ∷ enters (cbr 1 functions.UdpEvent (pos 2) [])
    ∷ nothing
    ∷ code (minus 49) []
    ∷ []
unfolding ones_sum ipv4.written ipv4.refusal udp.written udp.refusal kernel_settle.settle kernel_settle.settled due kernel_rows.call kernel_rows.tick unblocked first_free arrived_in udp_settle.settle udp_settle.settled udp_call arrive ended after_kernel time_out timed_out kernel_called network_called arrived ticked returned begun finished node_step
released = refl

-- and by a task, which ends what the released task waits for, and not a receive of which it told a routine
pub released_by_a_task :
    outs (node (task 1 1 ∷ task 2 2 ∷ []) [] []) (
    calls 1 (creates 1 2000 1)
    ∷ calls 1 (receives 1 5 (Ms 7))
    ∷ calls 2 (releases 1)
    ∷ returns 1
    ∷ calls 1 (receives 1 5 Nblk)
    ∷ calls 1 (delays 0)
    ∷ calls 2 (releases 1)
    ∷ Arrive hi_packet
    ∷ Begin
    ∷ Finish
    ∷ returns 1
    ∷ [])
    ≡ code (pos 0) []
    ∷ pends 1 2
    ∷ gives (now (pos 0) []) (end 1 (minus 49) [] ∷ []) (run 1 ∷ []) []
    ∷ code (minus 49) []
    ∷ later 2
    ∷ pends 3 2
    ∷ gives (now (pos 0) []) (end 3 (minus 49) [] ∷ []) (run 1 ∷ []) []
    ∷ ends_with (end 2 (pos 2) hi_bytes ∷ []) (callback 1 functions.UdpRcv (pos 2) ∷ [])
    ∷ enters (cbr 1 functions.UdpRcv (pos 2) hi_bytes)
    ∷ nothing
    ∷ code (minus 49) []
    ∷ []
unfolding ones_sum ipv4.written ipv4.refusal udp.written udp.refusal kernel_settle.settle kernel_settle.settled due kernel_rows.call kernel_rows.tick unblocked first_free arrived_in udp_settle.settle udp_settle.settled udp_call arrive ended after_kernel time_out timed_out kernel_called network_called arrived ticked returned begun finished node_step
released_by_a_task = refl
