-- Histories of cyclic handlers.
use Rattle.std.proofs.Common.{◌≡◌, [], ◌∷◌, None, refl}
use Rattle.std.specs.Prelude.{pos}
use Rattle.it_types.specs.declared.timeout.Tmo.TheVariants.{Fevr}
use Rattle.it_types.proofs.CallWords.{delays, signals, waits}
use Rattle.spec_wire.specs.Sum.{ones_sum}
use Rattle.spec_wire.specs.Ipv4 as ipv4
use Rattle.spec_wire.specs.Udp as udp
use Rattle.spec_kernel.specs.Settle as kernel_settle
use Rattle.spec_kernel.specs.Time.{due, unblocked}
use Rattle.spec_kernel.specs.Rows as kernel_rows
use Rattle.spec_udp.specs.Packets.{arrived_in}
use Rattle.spec_udp.specs.Ports.{first_free}
use Rattle.spec_udp.specs.Settling as udp_settle
use Rattle.spec_udp.specs.Rows.{udp_call}
use Rattle.spec_udp.specs.Arrival.{arrive}
use Rattle.spec_udp.specs.Outside.{ended}
use Rattle.spec_node.specs.declared.event.NodeEv.TheVariants.{Begin, Finish, Tick}
use Rattle.spec_node.specs.Progress.{after_kernel, time_out, timed_out}
use Rattle.spec_node.specs.NodeStep.{kernel_called, network_called, arrived, ticked, returned, begun, finished, node_step}
use Rattle.spec_node.proofs.Examples.{outs, task, semaphore, cyclic, node, calls, handler_calls, returns, starts, stops, minus, gives, now, code, pends, nothing, enters, end, cyc, run}

-- a handler of period 3 signals a semaphore for which a task waits, at the first tick and at the fourth
pub signals_twice :
    outs (node (task 1 1 ∷ []) (semaphore 1 0 9 ∷ []) (cyclic 1 3 0 ∷ [])) (
    calls 1 (waits 1 Fevr)
    ∷ Begin
    ∷ Tick
    ∷ Begin
    ∷ handler_calls (signals 1)
    ∷ returns 1
    ∷ Finish
    ∷ returns 1
    ∷ calls 1 (waits 1 Fevr)
    ∷ Tick
    ∷ Begin
    ∷ Tick
    ∷ Begin
    ∷ Tick
    ∷ Begin
    ∷ handler_calls (signals 1)
    ∷ Finish
    ∷ returns 1
    ∷ [])
    ≡ pends 1 0
    ∷ None
    ∷ nothing
    ∷ enters (cyc 1)
    ∷ gives (now (pos 0) []) (end 1 (pos 0) [] ∷ []) (run 1 ∷ []) []
    ∷ None
    ∷ nothing
    ∷ code (pos 0) []
    ∷ pends 2 0
    ∷ nothing
    ∷ None
    ∷ nothing
    ∷ None
    ∷ nothing
    ∷ enters (cyc 1)
    ∷ gives (now (pos 0) []) (end 2 (pos 0) [] ∷ []) (run 1 ∷ []) []
    ∷ nothing
    ∷ code (pos 0) []
    ∷ []
unfolding ones_sum ipv4.written ipv4.refusal udp.written udp.refusal kernel_settle.settle kernel_settle.settled due kernel_rows.call kernel_rows.tick unblocked first_free arrived_in udp_settle.settle udp_settle.settled udp_call arrive ended after_kernel time_out timed_out kernel_called network_called arrived ticked returned begun finished node_step
signals_twice = refl

-- one of period 2 comes due at ticks 1, 3 and 5; where it is due still at tick 3 it isn't due twice, and is due next at tick 5
pub due_once :
    outs (node (task 1 1 ∷ []) [] (cyclic 1 2 0 ∷ [])) (
    Tick
    ∷ Tick
    ∷ Tick
    ∷ Begin
    ∷ Finish
    ∷ Begin
    ∷ Tick
    ∷ Begin
    ∷ Tick
    ∷ Begin
    ∷ Finish
    ∷ [])
    ≡ nothing
    ∷ nothing
    ∷ nothing
    ∷ enters (cyc 1)
    ∷ nothing
    ∷ None
    ∷ nothing
    ∷ None
    ∷ nothing
    ∷ enters (cyc 1)
    ∷ nothing
    ∷ []
unfolding ones_sum ipv4.written ipv4.refusal udp.written udp.refusal kernel_settle.settle kernel_settle.settled due kernel_rows.call kernel_rows.tick unblocked first_free arrived_in udp_settle.settle udp_settle.settled udp_call arrive ended after_kernel time_out timed_out kernel_called network_called arrived ticked returned begun finished node_step
due_once = refl

-- one that has begun is due again at its next tick, and begins again after its end
pub due_again :
    outs (node (task 1 1 ∷ []) [] (cyclic 1 1 0 ∷ [])) (
    Tick
    ∷ Begin
    ∷ Tick
    ∷ Begin
    ∷ Finish
    ∷ Finish
    ∷ calls 1 (delays 0)
    ∷ Begin
    ∷ Finish
    ∷ Begin
    ∷ [])
    ≡ nothing
    ∷ enters (cyc 1)
    ∷ nothing
    ∷ None
    ∷ nothing
    ∷ None
    ∷ None
    ∷ enters (cyc 1)
    ∷ nothing
    ∷ None
    ∷ []
unfolding ones_sum ipv4.written ipv4.refusal udp.written udp.refusal kernel_settle.settle kernel_settle.settled due kernel_rows.call kernel_rows.tick unblocked first_free arrived_in udp_settle.settle udp_settle.settled udp_call arrive ended after_kernel time_out timed_out kernel_called network_called arrived ticked returned begun finished node_step
due_again = refl

-- one that runs is started anew before tick 1, at which it would have been due: it is due at tick 4
pub started_anew :
    outs (node (task 1 1 ∷ []) [] (cyclic 1 3 0 ∷ [])) (
    calls 1 (starts 1)
    ∷ Tick
    ∷ Begin
    ∷ Tick
    ∷ Begin
    ∷ Tick
    ∷ Begin
    ∷ Tick
    ∷ Begin
    ∷ Finish
    ∷ [])
    ≡ code (pos 0) []
    ∷ nothing
    ∷ None
    ∷ nothing
    ∷ None
    ∷ nothing
    ∷ None
    ∷ nothing
    ∷ enters (cyc 1)
    ∷ nothing
    ∷ []
unfolding ones_sum ipv4.written ipv4.refusal udp.written udp.refusal kernel_settle.settle kernel_settle.settled due kernel_rows.call kernel_rows.tick unblocked first_free arrived_in udp_settle.settle udp_settle.settled udp_call arrive ended after_kernel time_out timed_out kernel_called network_called arrived ticked returned begun finished node_step
started_anew = refl

-- one that is stopped comes due no more, until it is started
pub stopped :
    outs (node (task 1 1 ∷ []) [] (cyclic 1 1 0 ∷ [])) (
    calls 1 (stops 1)
    ∷ Tick
    ∷ Begin
    ∷ calls 1 (starts 1)
    ∷ Tick
    ∷ Begin
    ∷ Tick
    ∷ Begin
    ∷ Finish
    ∷ [])
    ≡ code (pos 0) []
    ∷ nothing
    ∷ None
    ∷ code (pos 0) []
    ∷ nothing
    ∷ None
    ∷ nothing
    ∷ enters (cyc 1)
    ∷ nothing
    ∷ []
unfolding ones_sum ipv4.written ipv4.refusal udp.written udp.refusal kernel_settle.settle kernel_settle.settled due kernel_rows.call kernel_rows.tick unblocked first_free arrived_in udp_settle.settle udp_settle.settled udp_call arrive ended after_kernel time_out timed_out kernel_called network_called arrived ticked returned begun finished node_step
stopped = refl

-- one that is due isn't stopped any more: while it is due tasks don't call, and a handler may not stop it
pub due_and_not_stopped :
    outs (node (task 1 1 ∷ []) [] (cyclic 1 5 0 ∷ cyclic 2 5 0 ∷ [])) (
    Tick
    ∷ calls 1 (stops 2)
    ∷ Begin
    ∷ calls 1 (stops 2)
    ∷ handler_calls (stops 2)
    ∷ Finish
    ∷ calls 1 (stops 2)
    ∷ Begin
    ∷ Finish
    ∷ calls 1 (stops 2)
    ∷ [])
    ≡ nothing
    ∷ None
    ∷ enters (cyc 1)
    ∷ None
    ∷ code (minus 25) []
    ∷ nothing
    ∷ None
    ∷ enters (cyc 2)
    ∷ nothing
    ∷ code (pos 0) []
    ∷ []
unfolding ones_sum ipv4.written ipv4.refusal udp.written udp.refusal kernel_settle.settle kernel_settle.settled due kernel_rows.call kernel_rows.tick unblocked first_free arrived_in udp_settle.settle udp_settle.settled udp_call arrive ended after_kernel time_out timed_out kernel_called network_called arrived ticked returned begun finished node_step
due_and_not_stopped = refl

-- a stop that came all the same would leave it due
pub stop_leaves_due : (node_step (node_step (node (task 1 1 ∷ []) [] (cyclic 1 5 0 ∷ [])) Tick).0 (calls 1 (stops 1))).0.net.pend.due ≡ cyc 1 ∷ []
unfolding kernel_settle.settle kernel_settle.settled due kernel_rows.call kernel_rows.tick after_kernel time_out timed_out kernel_called ticked node_step
stop_leaves_due = refl
