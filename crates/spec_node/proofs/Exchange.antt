-- Histories of the exchange of a datagram, at the node that sends it and at the node that receives it.
use Rattle.std.proofs.Common.{◌≡◌, ℕ, List, [], ◌∷◌, refl}
use Rattle.std.specs.Prelude.{pos}
use Rattle.it_types.specs.declared.timeout.Tmo.TheVariants.{Pol, Fevr}
use Rattle.it_types.proofs.CallWords.{delays, creates, sends, receives}
use Rattle.spec_wire.specs.Sum.{ones_sum}
use Rattle.spec_wire.specs.Ipv4 as ipv4
use Rattle.spec_wire.specs.Udp as udp
use Rattle.spec_kernel.specs.Settle as kernel_settle
use Rattle.spec_kernel.specs.Time.{due, unblocked}
use Rattle.spec_kernel.specs.Rows as kernel_rows
use Rattle.spec_udp.specs.Packets.{arrived_in}
use Rattle.spec_udp.specs.Ports.{first_free}
use Rattle.spec_udp.specs.Settling as udp_settle
use Rattle.spec_udp.specs.Rows.{udp_call}
use Rattle.spec_udp.specs.Arrival.{arrive}
use Rattle.spec_udp.specs.Outside.{ended}
use Rattle.spec_node.specs.declared.event.NodeEv.TheVariants.{Tick, Arrive}
use Rattle.spec_node.specs.Progress.{after_kernel, time_out, timed_out}
use Rattle.spec_node.specs.NodeStep.{kernel_called, network_called, arrived, ticked, returned, begun, finished, node_step}
use Rattle.spec_node.proofs.Examples.{outs, task, node, calls, returns, peer, hi, hi_packet, sent_packet, minus, gives, now, code, pends, nothing, ends_with, end, run}

-- the sender, 10.0.0.1:1000, and the first byte of the data
abbrev first_byte : List ℕ
first_byte = 0x0a ∷ 0x00 ∷ 0x00 ∷ 0x01 ∷ 0x03 ∷ 0xe8 ∷ 0x68 ∷ []

-- the task makes an end point, waits for a tick, and sends
pub sender :
    outs (node (task 1 1 ∷ []) [] []) (
    calls 1 (creates 1 2000 0)
    ∷ calls 1 (delays 1)
    ∷ Tick
    ∷ Tick
    ∷ returns 1
    ∷ calls 1 (sends 1 peer hi Fevr)
    ∷ [])
    ≡ code (pos 0) []
    ∷ pends 1 0
    ∷ nothing
    ∷ ends_with (end 1 (pos 0) [] ∷ []) (run 1 ∷ [])
    ∷ code (pos 0) []
    ∷ gives (now (pos 2) []) [] [] (sent_packet ∷ [])
    ∷ []
unfolding ones_sum ipv4.written ipv4.refusal udp.written udp.refusal kernel_settle.settle kernel_settle.settled due kernel_rows.call kernel_rows.tick unblocked first_free arrived_in udp_settle.settle udp_settle.settled udp_call arrive ended after_kernel time_out timed_out kernel_called network_called arrived ticked returned begun finished node_step
sender = refl

-- the task makes an end point and waits there; the datagram ends its call, and it runs and returns; the datagram was taken
pub receiver_before :
    outs (node (task 1 1 ∷ []) [] []) (
    calls 1 (creates 1 2000 0)
    ∷ calls 1 (receives 1 1 Fevr)
    ∷ Arrive hi_packet
    ∷ returns 1
    ∷ calls 1 (receives 1 1 Pol)
    ∷ [])
    ≡ code (pos 0) []
    ∷ pends 1 0
    ∷ ends_with (end 1 (minus 58) first_byte ∷ []) (run 1 ∷ [])
    ∷ code (minus 58) first_byte
    ∷ code (minus 50) []
    ∷ []
unfolding ones_sum ipv4.written ipv4.refusal udp.written udp.refusal kernel_settle.settle kernel_settle.settled due kernel_rows.call kernel_rows.tick unblocked first_free arrived_in udp_settle.settle udp_settle.settled udp_call arrive ended after_kernel time_out timed_out kernel_called network_called arrived ticked returned begun finished node_step
receiver_before = refl

-- the datagram comes before the receive, which is met at once
pub receiver_after :
    outs (node (task 1 1 ∷ []) [] []) (
    calls 1 (creates 1 2000 0)
    ∷ Arrive hi_packet
    ∷ calls 1 (receives 1 1 Fevr)
    ∷ calls 1 (receives 1 1 Pol)
    ∷ [])
    ≡ code (pos 0) []
    ∷ nothing
    ∷ code (minus 58) first_byte
    ∷ code (minus 50) []
    ∷ []
unfolding ones_sum ipv4.written ipv4.refusal udp.written udp.refusal kernel_settle.settle kernel_settle.settled due kernel_rows.call kernel_rows.tick unblocked first_free arrived_in udp_settle.settle udp_settle.settled udp_call arrive ended after_kernel time_out timed_out kernel_called network_called arrived ticked returned begun finished node_step
receiver_after = refl

-- it comes twice, and is received twice
pub received_twice :
    outs (node (task 1 1 ∷ []) [] []) (
    calls 1 (creates 1 2000 0)
    ∷ calls 1 (receives 1 1 Fevr)
    ∷ Arrive hi_packet
    ∷ Arrive hi_packet
    ∷ returns 1
    ∷ calls 1 (receives 1 1 Pol)
    ∷ [])
    ≡ code (pos 0) []
    ∷ pends 1 0
    ∷ ends_with (end 1 (minus 58) first_byte ∷ []) (run 1 ∷ [])
    ∷ nothing
    ∷ code (minus 58) first_byte
    ∷ code (minus 58) first_byte
    ∷ []
unfolding ones_sum ipv4.written ipv4.refusal udp.written udp.refusal kernel_settle.settle kernel_settle.settled due kernel_rows.call kernel_rows.tick unblocked first_free arrived_in udp_settle.settle udp_settle.settled udp_call arrive ended after_kernel time_out timed_out kernel_called network_called arrived ticked returned begun finished node_step
received_twice = refl
