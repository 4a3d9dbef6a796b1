-- Histories of handlers: a routine that is told of a cancelled receive, and cyclic handlers that signal and activate.
use Rattle.std.proofs.Common.{◌≡◌, List, [], ◌∷◌, refl}
use Rattle.std.specs.Prelude.{pos, negsuc}
use Rattle.it_types.specs.declared.timeout.Tmo.TheVariants.{Nblk}
use Rattle.it_types.specs.declared.answer.Ans.TheVariants.{Quiet}
use Rattle.it_types.specs.declared.handler.FnCode.TheVariants as functions
use Rattle.it_types.specs.declared.entry.Entry.{Entry}
use Rattle.spec_kernel.specs.Settle as kernel_settle
use Rattle.spec_kernel.specs.Time.{due, unblocked}
use Rattle.spec_kernel.specs.Rows as kernel_rows
use Rattle.spec_udp.specs.Ports.{first_free}
use Rattle.spec_udp.specs.Settling as udp_settle
use Rattle.spec_udp.specs.Rows.{udp_call}
use Rattle.spec_udp.specs.Outside.{ended}
use Rattle.spec_node.specs.Progress as progress
use Rattle.spec_node.specs.NodeStep as node
use Rattle.spec_world.specs.PlainWorld.{step}
use Rattle.spec_script.specs.Interpreter.{forward, lines_passed, rounds_passed}
use Rattle.spec_sim.specs.Bodies.{tasks_started}
use Rattle.spec_sim.specs.Schedule.{next, after}
use Rattle.spec_sim.specs.Serial.{run, serial}
use Rattle.spec_sim.proofs.Examples.{script_of, script_of_both, task, dormant_task, semaphore, delays, activates, cyclic, routine, waits, signals, creates_with, receives, cancels, exits, line, called, called_at, called_by_handler, begins, finishes, returned, code, pends, later, end, gone, begun, run_mark, callback, cyc, cbr, tick, tick_with, stop}

-- ---- a receive is cancelled: its routine begins and ends before the task goes on, which then has none to cancel

abbrev cancelled_history : List Entry
cancelled_history =
    called_at 1 1 (creates_with 1 2000 1) (code (pos 0)) [] [] ∷ called_at 1 1 (receives 1 10 Nblk) (later 1) [] []
    ∷ called_at 1 1 (cancels 1 functions.UdpRcv) (code (pos 0)) (end 1 (negsuc 48) ∷ []) (callback 1 1 functions.UdpRcv (negsuc 48) ∷ [])
    ∷ begins 1 (cbr 1 1 functions.UdpRcv (negsuc 48)) ∷ finishes 1
    ∷ called_at 1 1 (cancels 1 functions.All) (code (negsuc 40)) [] [] ∷ called_at 1 1 exits Quiet [] (gone 1 ∷ run_mark 0 ∷ []) ∷ stop ∷ []

pub cancelled :
    serial (script_of_both [] (
    routine 1 []
    ∷ task 1 1 (line (creates_with 1 2000 1) ∷ line (receives 1 10 Nblk) ∷ line (cancels 1 functions.UdpRcv) ∷ line (cancels 1 functions.All) ∷ [])
    ∷ []))
    ≡ cancelled_history
unfolding kernel_settle.settle kernel_settle.settled kernel_rows.call unblocked first_free udp_settle.settle udp_settle.settled udp_call ended progress.after_kernel node.kernel_called node.network_called node.begun node.finished node.node_step step forward lines_passed rounds_passed tasks_started next after run
cancelled = refl

-- ---- a handler of period 3 and phase 0 signals at ticks 1 and 4, and a task waits twice

abbrev signalled_history : List Entry
signalled_history =
    called 1 (waits 1) (pends 1) [] (run_mark 0 ∷ [])
    ∷ tick 0 ∷ begins 0 (cyc 1) ∷ called_by_handler 0 (signals 1) (code (pos 0)) (end 1 (pos 0) ∷ []) (run_mark 1 ∷ []) ∷ finishes 0
    ∷ returned 1 (pos 0) ∷ called 1 (waits 1) (pends 2) [] (run_mark 0 ∷ [])
    ∷ tick 1 ∷ tick 0 ∷ tick 1 ∷ tick 0 ∷ tick 1
    ∷ tick 0 ∷ begins 0 (cyc 1) ∷ called_by_handler 0 (signals 1) (code (pos 0)) (end 2 (pos 0) ∷ []) (run_mark 1 ∷ []) ∷ finishes 0
    ∷ returned 1 (pos 0) ∷ called 1 exits Quiet [] (gone 1 ∷ run_mark 0 ∷ []) ∷ stop ∷ []

pub signalled : serial (script_of (semaphore 1 0 9 ∷ cyclic 1 3 0 (line (signals 1) ∷ []) ∷ task 1 1 (line (waits 1) ∷ line (waits 1) ∷ []) ∷ [])) ≡ signalled_history
unfolding kernel_settle.settle kernel_settle.settled due kernel_rows.call kernel_rows.tick progress.after_kernel progress.time_out progress.timed_out node.kernel_called node.returned node.ticked node.begun node.finished node.node_step step forward lines_passed rounds_passed tasks_started next after run
signalled = refl

-- ---- a handler activates a task at ticks 1 and 4, which begins at the first line of its body both times

abbrev activated_history : List Entry
activated_history =
    called 1 (delays 3) (pends 1) [] (run_mark 0 ∷ [])
    ∷ tick 0 ∷ begins 0 (cyc 1) ∷ called_by_handler 0 (activates 2) (code (pos 0)) [] (begun 2 ∷ run_mark 2 ∷ []) ∷ finishes 0
    ∷ called 2 (signals 1) (code (pos 0)) [] [] ∷ called 2 exits Quiet [] (gone 2 ∷ run_mark 0 ∷ [])
    ∷ tick 1 ∷ tick 0 ∷ tick 1 ∷ tick 0 ∷ tick 1
    ∷ tick_with 0 (end 1 (pos 0) ∷ []) (run_mark 1 ∷ []) ∷ begins 0 (cyc 1) ∷ called_by_handler 0 (activates 2) (code (pos 0)) [] (begun 2 ∷ []) ∷ finishes 0
    ∷ returned 1 (pos 0) ∷ called 1 exits Quiet [] (gone 1 ∷ run_mark 2 ∷ [])
    ∷ called 2 (signals 1) (code (pos 0)) [] [] ∷ called 2 exits Quiet [] (gone 2 ∷ run_mark 0 ∷ []) ∷ stop ∷ []

pub activated :
    serial (script_of (
    semaphore 1 0 9
    ∷ cyclic 1 3 0 (line (activates 2) ∷ [])
    ∷ task 1 1 (line (delays 3) ∷ [])
    ∷ dormant_task 2 2 (line (signals 1) ∷ [])
    ∷ []))
    ≡ activated_history
unfolding kernel_settle.settle kernel_settle.settled due kernel_rows.call kernel_rows.tick progress.after_kernel progress.time_out progress.timed_out node.kernel_called node.returned node.ticked node.begun node.finished node.node_step step forward lines_passed rounds_passed tasks_started next after run
activated = refl
