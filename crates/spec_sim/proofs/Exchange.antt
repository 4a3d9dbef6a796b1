-- Histories of datagrams between 10.0.0.1 and 10.0.0.2 over a link that loses none.
use Rattle.std.proofs.Common.{◌≡◌, ℕ, List, [], ◌∷◌, refl}
use Rattle.std.specs.Prelude.{pos, negsuc}
use Rattle.it_types.specs.declared.timeout.Tmo.TheVariants.{Pol, Fevr}
use Rattle.it_types.specs.declared.answer.Ans.TheVariants.{Quiet}
use Rattle.it_types.specs.declared.entry.Entry.{Entry}
use Rattle.spec_wire.specs.Sum.{ones_sum}
use Rattle.spec_wire.specs.Ipv4 as ipv4
use Rattle.spec_wire.specs.Udp as udp
use Rattle.spec_kernel.specs.Settle as kernel_settle
use Rattle.spec_kernel.specs.Time.{due, unblocked}
use Rattle.spec_kernel.specs.Rows as kernel_rows
use Rattle.spec_udp.specs.Packets.{arrived_in}
use Rattle.spec_udp.specs.Ports.{first_free}
use Rattle.spec_udp.specs.Settling as udp_settle
use Rattle.spec_udp.specs.Rows.{udp_call}
use Rattle.spec_udp.specs.Arrival.{arrive}
use Rattle.spec_udp.specs.Outside.{ended}
use Rattle.spec_node.specs.Progress as progress
use Rattle.spec_node.specs.NodeStep as node
use Rattle.spec_world.specs.PlainWorld.{step}
use Rattle.spec_script.specs.Interpreter.{forward, lines_passed, rounds_passed}
use Rattle.spec_link.specs.Fates.{words, generator_of}
use Rattle.spec_link.specs.Link.{sent}
use Rattle.spec_sim.specs.Bodies.{tasks_started}
use Rattle.spec_sim.specs.Schedule.{next, after}
use Rattle.spec_sim.specs.Serial.{run, serial}
use Rattle.spec_sim.proofs.Examples.{script_of_both, far, from_near, task, delays, creates, sends, receives, exits, line, called_at, sent_at, returned_with, delivered, code, pends, end, end_with, gone, run_mark, tick, tick_with, stop}

-- "hi" from 10.0.0.1:1000 to 10.0.0.2:2000
abbrev hi : List ℕ
hi = 0x68 ∷ 0x69 ∷ []

abbrev hi_packet : List ℕ
hi_packet = 0x45 ∷ 0x00 ∷ 0x00 ∷ 0x1e ∷ 0x00 ∷ 0x00 ∷ 0x40 ∷ 0x00 ∷ 0x40 ∷ 0x11 ∷ 0x26 ∷ 0xcd ∷ 0x0a ∷ 0x00 ∷ 0x00 ∷ 0x01 ∷ 0x0a ∷ 0x00 ∷ 0x00 ∷ 0x02 ∷ 0x03 ∷ 0xe8 ∷ 0x07 ∷ 0xd0 ∷ 0x00 ∷ 0x0a ∷ 0x77 ∷ 0xb6 ∷ 0x68 ∷ 0x69 ∷ []

-- ---- a receive that waits, a datagram that ends it, and a poll for another

abbrev first_exchange : List Entry
first_exchange =
    called_at 0 1 (creates 1 1000) (code (pos 0)) [] [] ∷ called_at 0 1 (delays 1) (pends 1) [] (run_mark 0 ∷ [])
    ∷ called_at 1 1 (creates 1 2000) (code (pos 0)) [] [] ∷ called_at 1 1 (receives 1 1 Fevr) (pends 1) [] (run_mark 0 ∷ [])
    ∷ tick 0 ∷ tick 1 ∷ tick_with 0 (end 1 (pos 0) ∷ []) (run_mark 1 ∷ []) ∷ returned_with 0 1 (pos 0) []
    ∷ sent_at 0 1 (sends 1 far hi) (code (pos 2)) hi_packet
    ∷ delivered 0 (end_with 1 (negsuc 57) (from_near (0x68 ∷ [])) ∷ []) (run_mark 1 ∷ [])
    ∷ called_at 0 1 exits Quiet [] (gone 1 ∷ run_mark 0 ∷ [])
    ∷ returned_with 1 1 (negsuc 57) (from_near (0x68 ∷ [])) ∷ called_at 1 1 (receives 1 1 Pol) (code (negsuc 49)) [] []
    ∷ called_at 1 1 exits Quiet [] (gone 1 ∷ run_mark 0 ∷ []) ∷ stop ∷ []

pub exchange :
    serial (script_of_both
    (task 1 1 (line (creates 1 1000) ∷ line (delays 1) ∷ line (sends 1 far hi) ∷ []) ∷ [])
    (task 1 1 (line (creates 1 2000) ∷ line (receives 1 1 Fevr) ∷ line (receives 1 1 Pol) ∷ []) ∷ []))
    ≡ first_exchange
unfolding ones_sum ipv4.written ipv4.refusal udp.written udp.refusal kernel_settle.settle kernel_settle.settled due kernel_rows.call kernel_rows.tick unblocked first_free arrived_in udp_settle.settle udp_settle.settled udp_call arrive ended progress.after_kernel progress.time_out progress.timed_out node.kernel_called node.network_called node.arrived node.ticked node.returned node.node_step step forward lines_passed rounds_passed tasks_started words generator_of sent next after run
exchange = refl
