-- Histories of ends by time: several at one tick, one that a signal forestalls, and the shortest delay.
use Rattle.std.proofs.Common.{◌≡◌, List, [], ◌∷◌, refl}
use Rattle.std.specs.Prelude.{pos, negsuc}
use Rattle.it_types.specs.declared.entry.Entry.{Entry}
use Rattle.it_types.specs.declared.answer.Ans.TheVariants.{Quiet}
use Rattle.spec_kernel.specs.Settle.{settle, settled}
use Rattle.spec_kernel.specs.Time.{due}
use Rattle.spec_kernel.specs.Rows as rows
use Rattle.spec_node.specs.Progress as progress
use Rattle.spec_node.specs.NodeStep as node
use Rattle.spec_world.specs.PlainWorld.{step}
use Rattle.spec_script.specs.Interpreter.{forward, lines_passed, rounds_passed}
use Rattle.spec_sim.specs.Bodies.{tasks_started}
use Rattle.spec_sim.specs.Schedule.{next, after}
use Rattle.spec_sim.specs.Serial.{run, serial}
use Rattle.spec_sim.proofs.Examples.{script_of, task, semaphore, waits_up_to, delays, signals, exits, line, called, returned, code, pends, end, gone, run_mark, tick, tick_with, stop}

-- three calls whose deadlines are at one tick end there by rising number; then the most urgent task runs
abbrev at_one_tick : List Entry
at_one_tick =
    called 2 (delays 3) (pends 1) [] (run_mark 1 ∷ []) ∷ called 1 (waits_up_to 1 3) (pends 2) [] (run_mark 3 ∷ []) ∷ called 3 (waits_up_to 1 3) (pends 3) [] (run_mark 0 ∷ [])
    ∷ tick 0 ∷ tick 1 ∷ tick 0 ∷ tick 1 ∷ tick 0 ∷ tick 1
    ∷ tick_with 0 (end 1 (pos 0) ∷ end 2 (negsuc 49) ∷ end 3 (negsuc 49) ∷ []) (run_mark 2 ∷ [])
    ∷ returned 2 (pos 0) ∷ called 2 exits Quiet [] (gone 2 ∷ run_mark 1 ∷ [])
    ∷ returned 1 (negsuc 49) ∷ called 1 exits Quiet [] (gone 1 ∷ run_mark 3 ∷ [])
    ∷ returned 3 (negsuc 49) ∷ called 3 exits Quiet [] (gone 3 ∷ run_mark 0 ∷ []) ∷ stop ∷ []

pub several_at_one_tick : serial (script_of (semaphore 1 0 1 ∷ task 1 2 (line (waits_up_to 1 3) ∷ []) ∷ task 2 1 (line (delays 3) ∷ []) ∷ task 3 3 (line (waits_up_to 1 3) ∷ []) ∷ [])) ≡ at_one_tick
unfolding settle settled due rows.call rows.tick progress.after_kernel progress.time_out progress.timed_out node.kernel_called node.returned node.ticked node.node_step step forward lines_passed rounds_passed tasks_started next after run
several_at_one_tick = refl

-- a signal in the tick before the deadline ends the call, and the tick of the deadline ends nothing
abbrev before_the_deadline : List Entry
before_the_deadline =
    called 1 (waits_up_to 1 3) (pends 1) [] (run_mark 2 ∷ []) ∷ called 2 (delays 2) (pends 2) [] (run_mark 0 ∷ [])
    ∷ tick 0 ∷ tick 1 ∷ tick 0 ∷ tick 1 ∷ tick_with 0 (end 2 (pos 0) ∷ []) (run_mark 2 ∷ [])
    ∷ returned 2 (pos 0) ∷ called 2 (signals 1) (code (pos 0)) (end 1 (pos 0) ∷ []) (run_mark 1 ∷ [])
    ∷ returned 1 (pos 0) ∷ called 1 (delays 1) (pends 3) [] (run_mark 2 ∷ []) ∷ called 2 exits Quiet [] (gone 2 ∷ run_mark 0 ∷ [])
    ∷ tick 1 ∷ tick 0 ∷ tick 1 ∷ tick_with 0 (end 3 (pos 0) ∷ []) (run_mark 1 ∷ [])
    ∷ returned 1 (pos 0) ∷ called 1 exits Quiet [] (gone 1 ∷ run_mark 0 ∷ []) ∷ stop ∷ []

pub signal_before_the_deadline : serial (script_of (semaphore 1 0 1 ∷ task 1 1 (line (waits_up_to 1 3) ∷ line (delays 1) ∷ []) ∷ task 2 2 (line (delays 2) ∷ line (signals 1) ∷ []) ∷ [])) ≡ before_the_deadline
unfolding settle settled due rows.call rows.tick progress.after_kernel progress.time_out progress.timed_out node.kernel_called node.returned node.ticked node.node_step step forward lines_passed rounds_passed tasks_started next after run
signal_before_the_deadline = refl

-- a delay of 0 ends at the next tick
abbrev at_the_next_tick : List Entry
at_the_next_tick =
    called 1 (delays 0) (pends 1) [] (run_mark 0 ∷ []) ∷ tick_with 0 (end 1 (pos 0) ∷ []) (run_mark 1 ∷ []) ∷ returned 1 (pos 0)
    ∷ called 1 exits Quiet [] (gone 1 ∷ run_mark 0 ∷ []) ∷ stop ∷ []

pub shortest_delay : serial (script_of (task 1 1 (line (delays 0) ∷ []) ∷ [])) ≡ at_the_next_tick
unfolding settle settled due rows.call rows.tick progress.after_kernel progress.time_out progress.timed_out node.kernel_called node.returned node.ticked node.node_step step forward lines_passed rounds_passed tasks_started next after run
shortest_delay = refl
