use Rattle.std.proofs.Common.{◌≡◌, ◌+◌, drop}
use Rattle.spec_sim.specs.Schedule.{all_sent}
use Rattle.w_sim.proofs.play.send_all.Given as goal

abbrev pub invariant-loop-packet : goal.invariant-loop-packet
invariant-loop-packet l = (l.number ≡ l.first + l._packet-index) × (all_sent l.number (drop l._packet-index l.packets) l.now l.link ≡ all_sent l.first l.packets l.now l.fn.link)
