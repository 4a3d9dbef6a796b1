-- Histories of calls that are refused where a routine or a handler comes in.
use Rattle.std.proofs.Common.{◌≡◌, [], ◌∷◌, refl}
use Rattle.std.specs.Prelude.{pos}
use Rattle.it_types.specs.declared.handler.FnCode.TheVariants as functions
use Rattle.it_types.specs.declared.timeout.Tmo.TheVariants.{Pol, Nblk, Fevr}
use Rattle.it_types.proofs.CallWords.{delays, creates, sends, receives}
use Rattle.spec_wire.specs.Sum.{ones_sum}
use Rattle.spec_wire.specs.Ipv4 as ipv4
use Rattle.spec_wire.specs.Udp as udp
use Rattle.spec_kernel.specs.Settle as kernel_settle
use Rattle.spec_kernel.specs.Time.{due, unblocked}
use Rattle.spec_kernel.specs.Rows as kernel_rows
use Rattle.spec_udp.specs.Packets.{arrived_in}
use Rattle.spec_udp.specs.Ports.{first_free}
use Rattle.spec_udp.specs.Settling as udp_settle
use Rattle.spec_udp.specs.Rows.{udp_call}
use Rattle.spec_udp.specs.Arrival.{arrive}
use Rattle.spec_udp.specs.Outside.{ended}
use Rattle.spec_node.specs.declared.event.NodeEv.TheVariants.{Begin, Finish, Tick}
use Rattle.spec_node.specs.Progress.{after_kernel, time_out, timed_out}
use Rattle.spec_node.specs.NodeStep.{kernel_called, network_called, arrived, ticked, returned, begun, finished, node_step}
use Rattle.spec_node.proofs.Examples.{outs, task, cyclic, node, calls, handler_calls, deletes, cancels, peer, hi, minus, gives, now, code, pends, later, nothing, enters, end, cyc, cbr, callback}

-- a handler may poll a receive and cancel one; any other call of the network part but these is refused in it
pub calls_of_a_handler :
    outs (node (task 1 1 ∷ []) [] (cyclic 1 5 0 ∷ [])) (
    calls 1 (creates 1 2000 1)
    ∷ calls 1 (receives 1 5 Nblk)
    ∷ Tick
    ∷ Begin
    ∷ handler_calls (receives 1 5 Nblk)
    ∷ handler_calls (receives 1 5 Pol)
    ∷ handler_calls (cancels 1 functions.UdpRcv)
    ∷ handler_calls (receives 1 5 Pol)
    ∷ handler_calls (receives 1 5 Nblk)
    ∷ handler_calls (receives 1 5 Fevr)
    ∷ handler_calls (sends 1 peer hi Pol)
    ∷ handler_calls (creates 2 2001 0)
    ∷ handler_calls (deletes 1)
    ∷ Finish
    ∷ Begin
    ∷ Finish
    ∷ [])
    ≡ code (pos 0) []
    ∷ later 1
    ∷ nothing
    ∷ enters (cyc 1)
    ∷ code (minus 25) []
    ∷ code (minus 41) []
    ∷ gives (now (pos 0) []) (end 1 (minus 49) [] ∷ []) (callback 1 functions.UdpRcv (minus 49) ∷ []) []
    ∷ code (minus 50) []
    ∷ code (minus 25) []
    ∷ code (minus 25) []
    ∷ code (minus 25) []
    ∷ code (minus 25) []
    ∷ code (minus 25) []
    ∷ nothing
    ∷ enters (cbr 1 functions.UdpRcv (minus 49) [])
    ∷ nothing
    ∷ []
unfolding ones_sum ipv4.written ipv4.refusal udp.written udp.refusal kernel_settle.settle kernel_settle.settled due kernel_rows.call kernel_rows.tick unblocked first_free arrived_in udp_settle.settle udp_settle.settled udp_call arrive ended after_kernel time_out timed_out kernel_called network_called arrived ticked returned begun finished node_step
calls_of_a_handler = refl

-- where the end point has no routine a non-blocking call is E_PAR, also where a receive waits there
pub untold :
    outs (node (task 1 1 ∷ task 2 2 ∷ []) [] []) (
    calls 1 (creates 1 2000 0)
    ∷ calls 1 (sends 1 peer hi Nblk)
    ∷ calls 1 (receives 1 5 Fevr)
    ∷ calls 2 (receives 1 5 Nblk)
    ∷ calls 2 (receives 1 5 Fevr)
    ∷ [])
    ≡ code (pos 0) []
    ∷ code (minus 17) []
    ∷ pends 1 2
    ∷ code (minus 17) []
    ∷ code (minus 41) []
    ∷ []
unfolding ones_sum ipv4.written ipv4.refusal udp.written udp.refusal kernel_settle.settle kernel_settle.settled due kernel_rows.call kernel_rows.tick unblocked first_free arrived_in udp_settle.settle udp_settle.settled udp_call arrive ended after_kernel time_out timed_out kernel_called network_called arrived ticked returned begun finished node_step
untold = refl

-- a routine that is not declared is E_PAR; a second receive is E_OBJ, whoever is told of the first, and draws no number
pub unknown_or_second :
    outs (node (task 1 1 ∷ []) [] []) (
    calls 1 (creates 1 2000 2)
    ∷ calls 1 (creates 1 2000 1)
    ∷ calls 1 (receives 1 5 Nblk)
    ∷ calls 1 (receives 1 5 Nblk)
    ∷ calls 1 (receives 1 5 Fevr)
    ∷ calls 1 (cancels 1 functions.UdpSnd)
    ∷ calls 1 (delays 0)
    ∷ [])
    ≡ code (minus 17) []
    ∷ code (pos 0) []
    ∷ later 1
    ∷ code (minus 41) []
    ∷ code (minus 41) []
    ∷ code (minus 41) []
    ∷ pends 2 0
    ∷ []
unfolding ones_sum ipv4.written ipv4.refusal udp.written udp.refusal kernel_settle.settle kernel_settle.settled due kernel_rows.call kernel_rows.tick unblocked first_free arrived_in udp_settle.settle udp_settle.settled udp_call arrive ended after_kernel time_out timed_out kernel_called network_called arrived ticked returned begun finished node_step
unknown_or_second = refl
