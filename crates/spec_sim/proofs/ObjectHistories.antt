-- Histories of event flags, data queues, and a semaphore on which tasks wait by priority.
use Rattle.std.proofs.Common.{◌≡◌, ℕ, List, [], ◌∷◌, refl}
use Rattle.std.specs.Prelude.{pos, negsuc}
use Rattle.it_types.specs.declared.timeout.Tmo.TheVariants.{Pol, Fevr}
use Rattle.it_types.specs.declared.answer.Ans.{Ans}
use Rattle.it_types.specs.declared.answer.Ans.TheVariants.{Quiet}
use Rattle.it_types.specs.declared.entry.Entry.{Entry}
use Rattle.spec_kernel.specs.Settle.{settle, settled}
use Rattle.spec_kernel.specs.Time.{due}
use Rattle.spec_kernel.specs.Rows as rows
use Rattle.spec_node.specs.Progress as progress
use Rattle.spec_node.specs.NodeStep as node
use Rattle.spec_world.specs.PlainWorld.{step}
use Rattle.spec_script.specs.declared.decl.Decl.{Decl}
use Rattle.spec_script.specs.Interpreter.{forward, lines_passed, rounds_passed}
use Rattle.spec_sim.specs.Bodies.{tasks_started}
use Rattle.spec_sim.specs.Schedule.{next, after}
use Rattle.spec_sim.specs.Serial.{run, serial}
use Rattle.spec_sim.proofs.Examples.{script_of, task, semaphore_by_priority, clearing_flag, queue, waits, signals, gives_priority, sets, waits_for_any, waits_for_all, sends_item, forces_item, receives_item, exits, line, called, returned, returned_with, code, told, pends, end, end_with, gone, run_mark, ticks_before, stop}

abbrev ok : Ans
ok = code (pos 0)

-- a pattern or an item below 256 in bytes
abbrev word : ℕ → List ℕ
word n = 0 ∷ 0 ∷ 0 ∷ n ∷ []

-- ---- two tasks wait on one flag; each end tells the pattern and clears it

abbrev flag_script : List Decl
flag_script =
    clearing_flag 1 0 ∷ task 1 1 (line (waits_for_any 1 1 Fevr) ∷ []) ∷ task 2 2 (line (waits_for_all 1 3 Fevr) ∷ [])
    ∷ task 3 3 (line (sets 1 1) ∷ line (sets 1 3) ∷ line (waits_for_any 1 3 Pol) ∷ []) ∷ []

abbrev flag_history : List Entry
flag_history =
    called 1 (waits_for_any 1 1 Fevr) (pends 1) [] (run_mark 2 ∷ []) ∷ called 2 (waits_for_all 1 3 Fevr) (pends 2) [] (run_mark 3 ∷ [])
    ∷ called 3 (sets 1 1) ok (end_with 1 (pos 0) (word 1) ∷ []) (run_mark 1 ∷ [])
    ∷ returned_with 0 1 (pos 0) (word 1) ∷ called 1 exits Quiet [] (gone 1 ∷ run_mark 3 ∷ [])
    ∷ called 3 (sets 1 3) ok (end_with 2 (pos 0) (word 3) ∷ []) (run_mark 2 ∷ [])
    ∷ returned_with 0 2 (pos 0) (word 3) ∷ called 2 exits Quiet [] (gone 2 ∷ run_mark 3 ∷ [])
    ∷ called 3 (waits_for_any 1 3 Pol) (code (negsuc 49)) [] [] ∷ called 3 exits Quiet [] (gone 3 ∷ run_mark 0 ∷ []) ∷ stop ∷ []

pub flag : serial (script_of flag_script) ≡ flag_history
unfolding settle settled rows.call progress.after_kernel node.kernel_called node.returned node.node_step step forward lines_passed rounds_passed tasks_started next after run
flag = refl

-- ---- a data queue of capacity 0: the item goes from the sender to the receiver that waits

abbrev rendezvous_script : List Decl
rendezvous_script = queue 1 0 ∷ task 1 1 (line (receives_item 1 Fevr) ∷ []) ∷ task 2 2 (line (sends_item 1 7) ∷ line (forces_item 1 9) ∷ []) ∷ []

abbrev rendezvous_history : List Entry
rendezvous_history =
    called 1 (receives_item 1 Fevr) (pends 1) [] (run_mark 2 ∷ [])
    ∷ called 2 (sends_item 1 7) ok (end_with 1 (pos 0) (word 7) ∷ []) (run_mark 1 ∷ [])
    ∷ returned_with 0 1 (pos 0) (word 7) ∷ called 1 exits Quiet [] (gone 1 ∷ run_mark 2 ∷ [])
    ∷ called 2 (forces_item 1 9) (code (negsuc 27)) [] [] ∷ called 2 exits Quiet [] (gone 2 ∷ run_mark 0 ∷ []) ∷ stop ∷ []

pub rendezvous : serial (script_of rendezvous_script) ≡ rendezvous_history
unfolding settle settled rows.call progress.after_kernel node.kernel_called node.returned node.node_step step forward lines_passed rounds_passed tasks_started next after run
rendezvous = refl

-- ---- a third item sent by force to a data queue for two drops the oldest

abbrev oldest_dropped_script : List Decl
oldest_dropped_script =
    queue 1 2 ∷ task 1 1 (line (forces_item 1 1) ∷ line (forces_item 1 2) ∷ line (forces_item 1 3)
    ∷ line (receives_item 1 Pol) ∷ line (receives_item 1 Pol) ∷ line (receives_item 1 Pol) ∷ []) ∷ []

abbrev oldest_dropped_history : List Entry
oldest_dropped_history =
    called 1 (forces_item 1 1) ok [] [] ∷ called 1 (forces_item 1 2) ok [] [] ∷ called 1 (forces_item 1 3) ok [] []
    ∷ called 1 (receives_item 1 Pol) (told (word 2)) [] [] ∷ called 1 (receives_item 1 Pol) (told (word 3)) [] []
    ∷ called 1 (receives_item 1 Pol) (code (negsuc 49)) [] [] ∷ called 1 exits Quiet [] (gone 1 ∷ run_mark 0 ∷ []) ∷ stop ∷ []

pub oldest_dropped : serial (script_of oldest_dropped_script) ≡ oldest_dropped_history
unfolding settle settled rows.call progress.after_kernel node.kernel_called node.returned node.node_step step forward lines_passed rounds_passed tasks_started next after run
oldest_dropped = refl

-- ---- the later of two tasks that wait by priority is made the more urgent; the other waits for good

abbrev new_priority_script : List Decl
new_priority_script =
    semaphore_by_priority 1 0 1 ∷ task 1 5 (line (waits 1) ∷ []) ∷ task 2 6 (line (waits 1) ∷ [])
    ∷ task 3 7 (line (gives_priority 2 4) ∷ line (signals 1) ∷ []) ∷ []

abbrev new_priority_history : List Entry
new_priority_history =
    called 1 (waits 1) (pends 1) [] (run_mark 2 ∷ []) ∷ called 2 (waits 1) (pends 2) [] (run_mark 3 ∷ [])
    ∷ called 3 (gives_priority 2 4) ok [] [] ∷ called 3 (signals 1) ok (end 2 (pos 0) ∷ []) (run_mark 2 ∷ [])
    ∷ returned 2 (pos 0) ∷ called 2 exits Quiet [] (gone 2 ∷ run_mark 3 ∷ []) ∷ called 3 exits Quiet [] (gone 3 ∷ run_mark 0 ∷ [])
    ∷ ticks_before 10 (stop ∷ [])

pub new_priority : serial (script_of new_priority_script) ≡ new_priority_history
unfolding settle settled due rows.call rows.tick progress.after_kernel progress.time_out progress.timed_out node.kernel_called node.returned node.ticked node.node_step step forward lines_passed rounds_passed tasks_started next after run
new_priority = refl
