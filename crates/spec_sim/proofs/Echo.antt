-- The history of two datagrams that are sent back to where they came from.
use Rattle.std.proofs.Common.{◌≡◌, ℕ, List, [], ◌∷◌, refl}
use Rattle.std.specs.Prelude.{pos}
use Rattle.it_types.specs.declared.timeout.Tmo.TheVariants.{Fevr}
use Rattle.it_types.specs.declared.answer.Ans.TheVariants.{Quiet}
use Rattle.it_types.specs.declared.entry.Entry.{Entry}
use Rattle.spec_wire.specs.Sum.{ones_sum}
use Rattle.spec_wire.specs.Ipv4 as ipv4
use Rattle.spec_wire.specs.Udp as udp
use Rattle.spec_kernel.specs.Settle as kernel_settle
use Rattle.spec_kernel.specs.Time.{due, unblocked}
use Rattle.spec_kernel.specs.Rows as kernel_rows
use Rattle.spec_udp.specs.Packets.{arrived_in}
use Rattle.spec_udp.specs.Settling as udp_settle
use Rattle.spec_udp.specs.Rows.{udp_call}
use Rattle.spec_udp.specs.Arrival.{arrive}
use Rattle.spec_node.specs.Progress as progress
use Rattle.spec_node.specs.NodeStep as node
use Rattle.spec_world.specs.PlainWorld.{step}
use Rattle.spec_script.specs.declared.decl.Decl.{Decl}
use Rattle.spec_script.specs.declared.decl.Line.TheVariants.{Fill, Loop, Pool, UntilFail}
use Rattle.spec_script.specs.Interpreter.{forward, lines_passed, rounds_passed, pattern_bytes, peer_in}
use Rattle.spec_link.specs.Fates.{words, after_words, generator_of}
use Rattle.spec_link.specs.Link.{sent}
use Rattle.spec_sim.specs.Bodies.{tasks_started}
use Rattle.spec_sim.specs.Schedule.{next, after}
use Rattle.spec_sim.specs.Serial.{run, serial}
use Rattle.spec_sim.proofs.Examples.{script_of_both, near, far, from_near, from_far, task, delays, creates, sends, sends_buffer, sends_back, receives, exits, line, called_at, sent_at, returned_with, delivered, code, code_with, pends, end, end_with, gone, run_mark, tick, tick_with, stop}

-- the pattern's first bytes in task 1 of node 0
abbrev filled : List ℕ
filled = 0x10 ∷ 0x11 ∷ 0x12 ∷ []

-- with the data, from near to far and back
abbrev there : List ℕ
there = 0x45 ∷ 0x00 ∷ 0x00 ∷ 0x1f ∷ 0x00 ∷ 0x00 ∷ 0x40 ∷ 0x00 ∷ 0x40 ∷ 0x11 ∷ 0x26 ∷ 0xcc ∷ 0x0a ∷ 0x00 ∷ 0x00 ∷ 0x01 ∷ 0x0a ∷ 0x00 ∷ 0x00 ∷ 0x02 ∷ 0x03 ∷ 0xe8 ∷ 0x07 ∷ 0xd0 ∷ 0x00 ∷ 0x0b ∷ 0xbe ∷ 0x0c ∷ filled

abbrev back : List ℕ
back = 0x45 ∷ 0x00 ∷ 0x00 ∷ 0x1f ∷ 0x00 ∷ 0x00 ∷ 0x40 ∷ 0x00 ∷ 0x40 ∷ 0x11 ∷ 0x26 ∷ 0xcc ∷ 0x0a ∷ 0x00 ∷ 0x00 ∷ 0x02 ∷ 0x0a ∷ 0x00 ∷ 0x00 ∷ 0x01 ∷ 0x07 ∷ 0xd0 ∷ 0x03 ∷ 0xe8 ∷ 0x00 ∷ 0x0b ∷ 0xbe ∷ 0x0c ∷ filled

-- two datagrams are sent, and one received
abbrev first_task : Decl
first_task = task 1 1 (line (creates 1 1000) ∷ line (delays 1) ∷ Fill 3 ∷ Loop 2 ∷ sends_buffer 1 far ∷ UntilFail ∷ Pool ∷ line (receives 1 100 Fevr) ∷ [])

-- two datagrams are received, and each is sent back
abbrev second_task : Decl
second_task = task 1 1 (line (creates 1 2000) ∷ Loop 2 ∷ line (receives 1 100 Fevr) ∷ sends_back 1 ∷ Pool ∷ [])

abbrev echoed : List Entry
echoed =
    called_at 0 1 (creates 1 1000) (code (pos 0)) [] [] ∷ called_at 0 1 (delays 1) (pends 1) [] (run_mark 0 ∷ [])
    ∷ called_at 1 1 (creates 1 2000) (code (pos 0)) [] [] ∷ called_at 1 1 (receives 1 100 Fevr) (pends 1) [] (run_mark 0 ∷ [])
    ∷ tick 0 ∷ tick 1 ∷ tick_with 0 (end 1 (pos 0) ∷ []) (run_mark 1 ∷ []) ∷ returned_with 0 1 (pos 0) []
    ∷ sent_at 0 1 (sends 1 far filled) (code (pos 3)) there ∷ delivered 0 (end_with 1 (pos 3) (from_near filled) ∷ []) (run_mark 1 ∷ [])
    ∷ sent_at 0 1 (sends 1 far filled) (code (pos 3)) there ∷ delivered 1 [] []
    ∷ called_at 0 1 (receives 1 100 Fevr) (pends 2) [] (run_mark 0 ∷ [])
    ∷ returned_with 1 1 (pos 3) (from_near filled)
    ∷ sent_at 1 1 (sends 1 near filled) (code (pos 3)) back ∷ delivered 2 (end_with 2 (pos 3) (from_far filled) ∷ []) (run_mark 1 ∷ [])
    ∷ returned_with 0 1 (pos 3) (from_far filled) ∷ called_at 0 1 exits Quiet [] (gone 1 ∷ run_mark 0 ∷ [])
    ∷ called_at 1 1 (receives 1 100 Fevr) (code_with (pos 3) (from_near filled)) [] []
    ∷ sent_at 1 1 (sends 1 near filled) (code (pos 3)) back ∷ delivered 3 [] []
    ∷ called_at 1 1 exits Quiet [] (gone 1 ∷ run_mark 0 ∷ []) ∷ stop ∷ []

pub echo : serial (script_of_both (first_task ∷ []) (second_task ∷ [])) ≡ echoed
unfolding ones_sum ipv4.written ipv4.refusal udp.written udp.refusal kernel_settle.settle kernel_settle.settled due kernel_rows.call kernel_rows.tick unblocked arrived_in udp_settle.settle udp_settle.settled udp_call arrive progress.after_kernel progress.time_out progress.timed_out node.kernel_called node.network_called node.arrived node.ticked node.returned node.node_step step forward lines_passed rounds_passed pattern_bytes peer_in words after_words generator_of sent tasks_started next after run
echo = refl
