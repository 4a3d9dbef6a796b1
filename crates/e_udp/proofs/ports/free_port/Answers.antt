use Rattle.std.proofs.Common.{refl, sym, ◌∙◌, arith}
use Rattle.spec_udp.specs.Ports.{is_taken}
use Rattle.e_udp.proofs.FreePorts.{free_further, free_here, free_last}
use Rattle.e_udp.proofs.ports.free_port.Goals as goal

pub loop-left-init : goal.loop-left-init
loop-left-init c = record { found = refl; within = omega (arith, c.requires) }

pub overflow_add-port : goal.overflow_add-port
overflow_add-port c = omega (arith, c.loop-left.invariant.within, c.loop-left-test.true)

pub loop-left-preserved : goal.loop-left-preserved
loop-left-preserved c = record {
  found = free_further c.loop-left.left c.loop-left.port (is_taken c.args.points.now) c.loop-left-test.true (sym c.is_taken.ensures ∙ c.if-is_taken.true) ∙ c.loop-left.invariant.found;
  within = omega (arith, c.loop-left.invariant.within, c.loop-left-test.true);
}

pub returns-else-is_taken : goal.returns-else-is_taken
returns-else-is_taken c =
    sym (free_here c.loop-left.left c.loop-left.port (is_taken c.args.points.now) (sym c.is_taken.ensures ∙ c.if-is_taken.false)) ∙ c.loop-left.invariant.found

pub returns-after-loop-left : goal.returns-after-loop-left
returns-after-loop-left c = sym (free_last c.loop-left.left c.loop-left.port (is_taken c.args.points.now) (omega (arith, c.loop-left-test.false))) ∙ c.loop-left.invariant.found
