-- A signal at a full semaphore on which nobody waits is refused with E_QOVR.
use Rattle.std.proofs.Common.{◌≡◌, List, [], ◌∷◌, refl}
use Rattle.std.specs.Prelude.{negsuc}
use Rattle.it_types.specs.declared.entry.Entry.{Entry}
use Rattle.it_types.specs.declared.answer.Ans.TheVariants.{Quiet}
use Rattle.spec_kernel.specs.Settle.{settle, settled}
use Rattle.spec_kernel.specs.Rows as rows
use Rattle.spec_node.specs.Progress as progress
use Rattle.spec_node.specs.NodeStep as node
use Rattle.spec_world.specs.PlainWorld.{step}
use Rattle.spec_script.specs.Interpreter.{forward, lines_passed, rounds_passed}
use Rattle.spec_sim.specs.Bodies.{tasks_started}
use Rattle.spec_sim.specs.Schedule.{next, after}
use Rattle.spec_sim.specs.Serial.{run, serial}
use Rattle.spec_sim.proofs.Examples.{script_of, task, semaphore, signals, exits, line, called, code, gone, run_mark, stop}

abbrev history : List Entry
history = called 1 (signals 1) (code (negsuc 42)) [] [] ∷ called 1 exits Quiet [] (gone 1 ∷ run_mark 0 ∷ []) ∷ stop ∷ []

pub overflow : serial (script_of (semaphore 1 1 1 ∷ task 1 1 (line (signals 1) ∷ []) ∷ [])) ≡ history
unfolding settle settled rows.call progress.after_kernel node.kernel_called node.returned node.node_step step forward lines_passed rounds_passed tasks_started next after run
overflow = refl
