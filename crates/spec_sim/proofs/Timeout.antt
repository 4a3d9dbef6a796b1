-- The history of a time-out: a call of 5 ticks, accepted at tick 0 of its node, ends at tick 6.
use Rattle.std.proofs.Common.{◌≡◌, List, [], ◌∷◌, ◌++◌, refl}
use Rattle.std.specs.Prelude.{negsuc}
use Rattle.it_types.specs.declared.entry.Entry.{Entry}
use Rattle.it_types.specs.declared.answer.Ans.TheVariants.{Quiet}
use Rattle.spec_kernel.specs.Settle.{settle, settled}
use Rattle.spec_kernel.specs.Time.{due}
use Rattle.spec_kernel.specs.Rows as rows
use Rattle.spec_node.specs.Progress as progress
use Rattle.spec_node.specs.NodeStep as node
use Rattle.spec_world.specs.PlainWorld.{step}
use Rattle.spec_script.specs.Interpreter.{forward, lines_passed, rounds_passed}
use Rattle.spec_sim.specs.Bodies.{tasks_started}
use Rattle.spec_sim.specs.Schedule.{next, after}
use Rattle.spec_sim.specs.Serial.{run, serial}
use Rattle.spec_sim.proofs.Examples.{script_of, task, semaphore, waits_up_to, exits, line, called, returned, pends, end, gone, run_mark, tick, tick_with, stop}

-- a tick of each node at which nothing ends
abbrev both_tick : List Entry
both_tick = tick 0 ∷ tick 1 ∷ []

abbrev history : List Entry
history =
    called 1 (waits_up_to 1 5) (pends 1) [] (run_mark 0 ∷ [])
    ∷ (both_tick ++ (both_tick ++ (both_tick ++ (both_tick ++ (both_tick
    ++ (tick_with 0 (end 1 (negsuc 49) ∷ []) (run_mark 1 ∷ []) ∷ returned 1 (negsuc 49) ∷ called 1 exits Quiet [] (gone 1 ∷ run_mark 0 ∷ []) ∷ stop ∷ []))))))

pub timeout : serial (script_of (semaphore 1 0 1 ∷ task 1 1 (line (waits_up_to 1 5) ∷ []) ∷ [])) ≡ history
unfolding settle settled due rows.call rows.tick progress.after_kernel progress.time_out progress.timed_out node.kernel_called node.returned node.ticked node.node_step step forward lines_passed rounds_passed tasks_started next after run
timeout = refl
