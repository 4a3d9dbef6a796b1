-- Histories of a node in which calls of both parts end by time.
use Rattle.std.proofs.Common.{◌≡◌, [], ◌∷◌, refl}
use Rattle.std.specs.Prelude.{pos}
use Rattle.it_types.specs.declared.timeout.Tmo.TheVariants.{Pol, Fevr, Ms}
use Rattle.it_types.proofs.CallWords.{delays, waits, creates, receives}
use Rattle.spec_wire.specs.Sum.{ones_sum}
use Rattle.spec_wire.specs.Ipv4 as ipv4
use Rattle.spec_wire.specs.Udp as udp
use Rattle.spec_kernel.specs.Settle as kernel_settle
use Rattle.spec_kernel.specs.Time.{due, unblocked}
use Rattle.spec_kernel.specs.Rows as kernel_rows
use Rattle.spec_udp.specs.Packets.{arrived_in}
use Rattle.spec_udp.specs.Ports.{first_free}
use Rattle.spec_udp.specs.Settling as udp_settle
use Rattle.spec_udp.specs.Rows.{udp_call}
use Rattle.spec_udp.specs.Arrival.{arrive}
use Rattle.spec_udp.specs.Outside.{ended}
use Rattle.spec_node.specs.declared.event.NodeEv.TheVariants.{Tick, Arrive}
use Rattle.spec_node.specs.Progress.{after_kernel, time_out, timed_out}
use Rattle.spec_node.specs.NodeStep.{kernel_called, network_called, arrived, ticked, returned, begun, finished, node_step}
use Rattle.spec_node.proofs.Examples.{outs, task, semaphore, node, calls, returns, hi_packet, hi_bytes, minus, code, pends, nothing, ends_with, end, run}

-- a receive for two ticks ends at the third; the datagram that comes then joins the queue, and a poll takes it
pub receive_ends_by_time :
    outs (node (task 1 1 ∷ []) [] []) (
    calls 1 (creates 1 2000 0)
    ∷ calls 1 (receives 1 5 (Ms 2))
    ∷ Tick
    ∷ Tick
    ∷ Tick
    ∷ Arrive hi_packet
    ∷ returns 1
    ∷ calls 1 (receives 1 5 Pol)
    ∷ [])
    ≡ code (pos 0) []
    ∷ pends 1 0
    ∷ nothing
    ∷ nothing
    ∷ ends_with (end 1 (minus 50) [] ∷ []) (run 1 ∷ [])
    ∷ nothing
    ∷ code (minus 50) []
    ∷ code (pos 2) hi_bytes
    ∷ []
unfolding ones_sum ipv4.written ipv4.refusal udp.written udp.refusal kernel_settle.settle kernel_settle.settled due kernel_rows.call kernel_rows.tick unblocked first_free arrived_in udp_settle.settle udp_settle.settled udp_call arrive ended after_kernel time_out timed_out kernel_called network_called arrived ticked returned begun finished node_step
receive_ends_by_time = refl

-- one that is met in the tick before ends then, and nothing ends at its deadline
pub datagram_before_the_deadline :
    outs (node (task 1 1 ∷ []) [] []) (
    calls 1 (creates 1 2000 0)
    ∷ calls 1 (receives 1 5 (Ms 2))
    ∷ Tick
    ∷ Tick
    ∷ Arrive hi_packet
    ∷ Tick
    ∷ returns 1
    ∷ [])
    ≡ code (pos 0) []
    ∷ pends 1 0
    ∷ nothing
    ∷ nothing
    ∷ ends_with (end 1 (pos 2) hi_bytes ∷ []) (run 1 ∷ [])
    ∷ nothing
    ∷ code (pos 2) hi_bytes
    ∷ []
unfolding ones_sum ipv4.written ipv4.refusal udp.written udp.refusal kernel_settle.settle kernel_settle.settled due kernel_rows.call kernel_rows.tick unblocked first_free arrived_in udp_settle.settle udp_settle.settled udp_call arrive ended after_kernel time_out timed_out kernel_called network_called arrived ticked returned begun finished node_step
datagram_before_the_deadline = refl

-- calls of both parts whose deadlines are at one tick end there by rising number; then the most urgent task runs
pub both_parts_at_one_tick :
    outs (node (task 1 3 ∷ task 2 2 ∷ task 3 1 ∷ []) (semaphore 1 0 1 ∷ []) []) (
    calls 3 (creates 1 2000 0)
    ∷ calls 3 (delays 1)
    ∷ calls 2 (receives 1 5 (Ms 1))
    ∷ calls 1 (waits 1 (Ms 1))
    ∷ Tick
    ∷ Tick
    ∷ returns 3
    ∷ calls 3 (receives 1 5 Fevr)
    ∷ returns 2
    ∷ [])
    ≡ code (pos 0) []
    ∷ pends 1 2
    ∷ pends 2 1
    ∷ pends 3 0
    ∷ nothing
    ∷ ends_with (end 1 (pos 0) [] ∷ end 2 (minus 50) [] ∷ end 3 (minus 50) [] ∷ []) (run 3 ∷ [])
    ∷ code (pos 0) []
    ∷ pends 4 2
    ∷ code (minus 50) []
    ∷ []
unfolding ones_sum ipv4.written ipv4.refusal udp.written udp.refusal kernel_settle.settle kernel_settle.settled due kernel_rows.call kernel_rows.tick unblocked first_free arrived_in udp_settle.settle udp_settle.settled udp_call arrive ended after_kernel time_out timed_out kernel_called network_called arrived ticked returned begun finished node_step
both_parts_at_one_tick = refl
