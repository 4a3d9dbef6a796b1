-- The semaphore history: a task waits, a task of lower priority signals it.
use Rattle.std.proofs.Common.{◌≡◌, List, [], ◌∷◌, refl}
use Rattle.std.specs.Prelude.{pos}
use Rattle.it_types.specs.declared.entry.Entry.{Entry}
use Rattle.it_types.specs.declared.answer.Ans.TheVariants.{Quiet}
use Rattle.spec_kernel.specs.Settle.{settle, settled}
use Rattle.spec_kernel.specs.Rows as rows
use Rattle.spec_node.specs.Progress as progress
use Rattle.spec_node.specs.NodeStep as node
use Rattle.spec_world.specs.PlainWorld.{step}
use Rattle.spec_script.specs.Interpreter.{forward, lines_passed, rounds_passed}
use Rattle.spec_sim.specs.Bodies.{tasks_started}
use Rattle.spec_sim.specs.Schedule.{next, after}
use Rattle.spec_sim.specs.Serial.{run, serial}
use Rattle.spec_sim.proofs.Examples.{script_of, task, semaphore, waits, signals, exits, line, called, returned, code, pends, end, gone, run_mark, stop}

abbrev history : List Entry
history =
    called 1 (waits 1) (pends 1) [] (run_mark 2 ∷ []) ∷ called 2 (signals 1) (code (pos 0)) (end 1 (pos 0) ∷ []) (run_mark 1 ∷ []) ∷ returned 1 (pos 0)
    ∷ called 1 exits Quiet [] (gone 1 ∷ run_mark 2 ∷ []) ∷ called 2 exits Quiet [] (gone 2 ∷ run_mark 0 ∷ []) ∷ stop ∷ []

pub handoff : serial (script_of (semaphore 1 0 1 ∷ task 1 1 (line (waits 1) ∷ []) ∷ task 2 2 (line (signals 1) ∷ []) ∷ [])) ≡ history
unfolding settle settled rows.call progress.after_kernel node.kernel_called node.returned node.node_step step forward lines_passed rounds_passed tasks_started next after run
handoff = refl
