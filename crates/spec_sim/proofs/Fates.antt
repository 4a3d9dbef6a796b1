-- Histories over links that lose packets, deliver them twice, or deliver them out of order.
use Rattle.std.proofs.Common.{◌≡◌, ℕ, zero, suc, ◌+◌, List, [], ◌∷◌, length, refl}
use Rattle.it_types.specs.declared.timeout.Tmo.TheVariants.{Ms}
use Rattle.it_types.specs.declared.event.Event.{Event}
use Rattle.it_types.specs.declared.event.Event.TheVariants.{Deliver, Tick}
use Rattle.it_types.specs.declared.entry.Entry.{Entry}
use Rattle.spec_wire.specs.Sum.{ones_sum}
use Rattle.spec_wire.specs.Ipv4 as ipv4
use Rattle.spec_wire.specs.Udp as udp
use Rattle.spec_kernel.specs.Settle as kernel_settle
use Rattle.spec_kernel.specs.Time.{due, unblocked}
use Rattle.spec_kernel.specs.Rows as kernel_rows
use Rattle.spec_udp.specs.Packets.{arrived_in}
use Rattle.spec_udp.specs.Settling as udp_settle
use Rattle.spec_udp.specs.Rows.{udp_call}
use Rattle.spec_udp.specs.Arrival.{arrive}
use Rattle.spec_udp.specs.Outside.{ended}
use Rattle.spec_node.specs.Progress as progress
use Rattle.spec_node.specs.NodeStep as node
use Rattle.spec_world.specs.PlainWorld.{step}
use Rattle.spec_script.specs.declared.script.Script.{Script}
use Rattle.spec_script.specs.declared.decl.Decl.{Decl}
use Rattle.spec_script.specs.declared.decl.Line.TheVariants.{Fill, Loop, Pool, UntilFail}
use Rattle.spec_script.specs.Interpreter.{forward, lines_passed, rounds_passed, after_pool, pattern_bytes}
use Rattle.spec_link.specs.Fates.{words, after_words, generator_of}
use Rattle.spec_link.specs.Link.{sent}
use Rattle.spec_sim.specs.Bodies.{tasks_started}
use Rattle.spec_sim.specs.Schedule.{next, after}
use Rattle.spec_sim.specs.Serial.{run, serial}
use Rattle.spec_sim.proofs.Examples.{script_with, far, task, delays, creates, sends_buffer, receives, line}

-- ---- what is told of a history

-- the clock of node 0 after an event
abbrev clock_after : Event → ℕ → ℕ
clock_after (Tick at) now = elim at.0 [ zero ↦ now + 1 | suc n ↦ now ]
clock_after _ now = now

-- a packet that is delivered, with the clock of node 0
abbrev and_delivery : Event → ℕ → List (ℕ × ℕ) → List (ℕ × ℕ)
and_delivery (Deliver packet) now rest = (now, packet.0) ∷ rest
and_delivery _ now rest = rest

-- the deliveries from here on
abbrev deliveries : List Entry → ℕ → List (ℕ × ℕ)
deliveries [] now = []
deliveries (e ∷ es) now = and_delivery e.ev now (deliveries es (clock_after e.ev now))

abbrev packets : List Entry → ℕ
packets [] = 0
packets (e ∷ es) = length e.packs + packets es

-- how many packets were sent, and each delivery
abbrev told_of : List Entry → ℕ × List (ℕ × ℕ)
told_of log = (packets log, deliveries log 0)

-- ---- scripts

-- after tick 1 of node 0 so many datagrams of one byte are sent
abbrev sender : ℕ → Decl
sender rounds = task 1 1 (line (creates 1 1000) ∷ line (delays 0) ∷ Loop rounds ∷ Fill 1 ∷ sends_buffer 1 far ∷ Pool ∷ [])

-- datagrams are received until none comes for five ticks
abbrev receiver : Decl
receiver = task 1 1 (line (creates 1 2000) ∷ Loop 10 ∷ line (receives 1 100 (Ms 5)) ∷ UntilFail ∷ Pool ∷ [])

abbrev script_over : List ℕ → ℕ → Script
script_over link rounds = script_with link 20 (sender rounds ∷ []) (receiver ∷ [])

-- ---- histories

-- half of all packets are lost: of four the first and the third come
pub lost : told_of (serial (script_over (3 ∷ 8 ∷ 0 ∷ 0 ∷ []) 4)) ≡ (4, (1, 0) ∷ (1, 2) ∷ [])
unfolding ones_sum ipv4.written ipv4.refusal udp.written udp.refusal kernel_settle.settle kernel_settle.settled due kernel_rows.call kernel_rows.tick unblocked arrived_in udp_settle.settle udp_settle.settled udp_call arrive ended progress.after_kernel progress.time_out progress.timed_out node.kernel_called node.network_called node.arrived node.ticked node.returned node.node_step step forward lines_passed rounds_passed after_pool pattern_bytes words after_words generator_of sent tasks_started next after run
lost = refl

-- each packet comes twice
pub delivered_twice : told_of (serial (script_over (0 ∷ 0 ∷ 16 ∷ 3 ∷ []) 2)) ≡ (2, (1, 0) ∷ (2, 0) ∷ (2, 1) ∷ (4, 1) ∷ [])
unfolding ones_sum ipv4.written ipv4.refusal udp.written udp.refusal kernel_settle.settle kernel_settle.settled due kernel_rows.call kernel_rows.tick unblocked arrived_in udp_settle.settle udp_settle.settled udp_call arrive ended progress.after_kernel progress.time_out progress.timed_out node.kernel_called node.network_called node.arrived node.ticked node.returned node.node_step step forward lines_passed rounds_passed after_pool pattern_bytes words after_words generator_of sent tasks_started next after run
delivered_twice = refl

-- the first packet comes a tick after the others
pub reordered : told_of (serial (script_over (10 ∷ 0 ∷ 0 ∷ 3 ∷ []) 3)) ≡ (3, (1, 1) ∷ (1, 2) ∷ (2, 0) ∷ [])
unfolding ones_sum ipv4.written ipv4.refusal udp.written udp.refusal kernel_settle.settle kernel_settle.settled due kernel_rows.call kernel_rows.tick unblocked arrived_in udp_settle.settle udp_settle.settled udp_call arrive ended progress.after_kernel progress.time_out progress.timed_out node.kernel_called node.network_called node.arrived node.ticked node.returned node.node_step step forward lines_passed rounds_passed after_pool pattern_bytes words after_words generator_of sent tasks_started next after run
reordered = refl
