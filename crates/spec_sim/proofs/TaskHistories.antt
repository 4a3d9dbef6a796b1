-- Histories of tasks that are released, suspended and terminated while they wait, and of the system time.
use Rattle.std.proofs.Common.{◌≡◌, ℕ, List, [], ◌∷◌, refl}
use Rattle.std.specs.Prelude.{pos, negsuc}
use Rattle.it_types.specs.declared.timeout.Tmo.TheVariants.{Fevr}
use Rattle.it_types.specs.declared.answer.Ans.{Ans}
use Rattle.it_types.specs.declared.answer.Ans.TheVariants.{Quiet}
use Rattle.it_types.specs.declared.entry.Entry.{Entry}
use Rattle.spec_kernel.specs.Settle as kernel_settle
use Rattle.spec_kernel.specs.Time.{due, unblocked}
use Rattle.spec_kernel.specs.Rows as rows
use Rattle.spec_udp.specs.Settling as udp_settle
use Rattle.spec_udp.specs.Rows.{udp_call}
use Rattle.spec_udp.specs.Outside.{ended}
use Rattle.spec_node.specs.Progress as progress
use Rattle.spec_node.specs.NodeStep as node
use Rattle.spec_world.specs.PlainWorld.{step}
use Rattle.spec_script.specs.declared.decl.Decl.{Decl}
use Rattle.spec_script.specs.Interpreter.{forward, lines_passed, rounds_passed}
use Rattle.spec_sim.specs.Bodies.{tasks_started}
use Rattle.spec_sim.specs.Schedule.{next, after}
use Rattle.spec_sim.specs.Serial.{run, serial}
use Rattle.spec_sim.proofs.Examples.{script_of, task, dormant_task, semaphore, waits, waits_up_to, delays, signals, activates, terminates, releases, suspends, resumes, sets_time, tells_time, creates, receives, exits, line, called, returned, code, told, pends, end, gone, begun, run_mark, ticks_before, tick_with, stop}

abbrev ok : Ans
ok = code (pos 0)

-- ---- a wait of up to 5 ticks is cut short by another task at tick 2

abbrev released_script : List Decl
released_script = semaphore 1 0 1 ∷ task 1 1 (line (waits_up_to 1 5) ∷ []) ∷ task 2 2 (line (delays 1) ∷ line (releases 1) ∷ line (releases 1) ∷ []) ∷ []

abbrev released_history : List Entry
released_history =
    called 1 (waits_up_to 1 5) (pends 1) [] (run_mark 2 ∷ []) ∷ called 2 (delays 1) (pends 2) [] (run_mark 0 ∷ [])
    ∷ ticks_before 1 (tick_with 0 (end 2 (pos 0) ∷ []) (run_mark 2 ∷ []) ∷ returned 2 (pos 0)
    ∷ called 2 (releases 1) ok (end 1 (negsuc 48) ∷ []) (run_mark 1 ∷ [])
    ∷ returned 1 (negsuc 48) ∷ called 1 exits Quiet [] (gone 1 ∷ run_mark 2 ∷ [])
    ∷ called 2 (releases 1) (code (negsuc 40)) [] [] ∷ called 2 exits Quiet [] (gone 2 ∷ run_mark 0 ∷ []) ∷ stop ∷ [])

pub released : serial (script_of released_script) ≡ released_history
unfolding kernel_settle.settle kernel_settle.settled due rows.call rows.tick progress.after_kernel progress.time_out progress.timed_out node.kernel_called node.returned node.ticked node.node_step step forward lines_passed rounds_passed tasks_started next after run
released = refl

-- ---- the wait of a suspended task ends; the task runs after the resume

abbrev suspended_script : List Decl
suspended_script = semaphore 1 0 1 ∷ task 1 1 (line (waits 1) ∷ []) ∷ task 2 2 (line (suspends 1) ∷ line (signals 1) ∷ line (resumes 1) ∷ []) ∷ []

abbrev suspended_history : List Entry
suspended_history =
    called 1 (waits 1) (pends 1) [] (run_mark 2 ∷ []) ∷ called 2 (suspends 1) ok [] [] ∷ called 2 (signals 1) ok (end 1 (pos 0) ∷ []) []
    ∷ called 2 (resumes 1) ok [] (run_mark 1 ∷ []) ∷ returned 1 (pos 0) ∷ called 1 exits Quiet [] (gone 1 ∷ run_mark 2 ∷ [])
    ∷ called 2 exits Quiet [] (gone 2 ∷ run_mark 0 ∷ []) ∷ stop ∷ []

pub suspended : serial (script_of suspended_script) ≡ suspended_history
unfolding kernel_settle.settle kernel_settle.settled rows.call progress.after_kernel node.kernel_called node.returned node.node_step step forward lines_passed rounds_passed tasks_started next after run
suspended = refl

-- ---- a task that waits for a datagram is terminated, and begins again with an activation that was kept

abbrev terminated_script : List Decl
terminated_script =
    dormant_task 1 1 (line (creates 1 1000) ∷ line (receives 1 16 Fevr) ∷ [])
    ∷ task 2 2 (line (activates 1) ∷ line (activates 1) ∷ line (terminates 1) ∷ line (terminates 1) ∷ []) ∷ []

abbrev terminated_history : List Entry
terminated_history =
    called 2 (activates 1) ok [] (begun 1 ∷ run_mark 1 ∷ []) ∷ called 1 (creates 1 1000) ok [] []
    ∷ called 1 (receives 1 16 Fevr) (pends 1) [] (run_mark 2 ∷ []) ∷ called 2 (activates 1) ok [] []
    ∷ called 2 (terminates 1) ok (end 1 (negsuc 48) ∷ []) (gone 1 ∷ begun 1 ∷ run_mark 1 ∷ [])
    ∷ called 1 (creates 1 1000) (code (negsuc 40)) [] [] ∷ called 1 (receives 1 16 Fevr) (pends 2) [] (run_mark 2 ∷ [])
    ∷ called 2 (terminates 1) ok (end 2 (negsuc 48) ∷ []) (gone 1 ∷ []) ∷ called 2 exits Quiet [] (gone 2 ∷ run_mark 0 ∷ []) ∷ stop ∷ []

pub terminated : serial (script_of terminated_script) ≡ terminated_history
unfolding kernel_settle.settle kernel_settle.settled rows.call unblocked udp_settle.settle udp_settle.settled udp_call ended progress.after_kernel node.kernel_called node.network_called node.returned node.node_step step forward lines_passed rounds_passed tasks_started next after run
terminated = refl

-- ---- the system time is set while a wait of 2 ticks is under way, which ends at tick 3 all the same

-- 1,700,000,000,000, and 3 ticks later
abbrev time_bytes : ℕ → List ℕ
time_bytes last = 0x00 ∷ 0x00 ∷ 0x01 ∷ 0x8b ∷ 0xcf ∷ 0xe5 ∷ 0x68 ∷ last ∷ []

abbrev time_set_script : List Decl
time_set_script =
    semaphore 1 0 1 ∷ task 1 1 (line (waits_up_to 1 2) ∷ line tells_time ∷ [])
    ∷ task 2 2 (line (sets_time 1700000000000) ∷ line tells_time ∷ []) ∷ []

abbrev time_set_history : List Entry
time_set_history =
    called 1 (waits_up_to 1 2) (pends 1) [] (run_mark 2 ∷ []) ∷ called 2 (sets_time 1700000000000) ok [] []
    ∷ called 2 tells_time (told (time_bytes 0x00)) [] [] ∷ called 2 exits Quiet [] (gone 2 ∷ run_mark 0 ∷ [])
    ∷ ticks_before 2 (tick_with 0 (end 1 (negsuc 49) ∷ []) (run_mark 1 ∷ []) ∷ returned 1 (negsuc 49)
    ∷ called 1 tells_time (told (time_bytes 0x03)) [] [] ∷ called 1 exits Quiet [] (gone 1 ∷ run_mark 0 ∷ []) ∷ stop ∷ [])

pub time_set : serial (script_of time_set_script) ≡ time_set_history
unfolding kernel_settle.settle kernel_settle.settled due rows.call rows.tick progress.after_kernel progress.time_out progress.timed_out node.kernel_called node.returned node.ticked node.node_step step forward lines_passed rounds_passed tasks_started next after run
time_set = refl
