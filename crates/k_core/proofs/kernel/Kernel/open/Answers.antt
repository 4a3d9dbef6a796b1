use Rattle.k_core.proofs.AtOpening.{opened_tied}
use Rattle.k_core.proofs.kernel.Kernel.open.Goals as goal

pub invariant_of-result : goal.invariant_of-result
invariant_of-result c = rw (c.in_ok-clock.ensures, c.in_ok-tasks.ensures, c.in_ok-sems.ensures, c.in_ok-flags.ensures, c.in_ok-dtqs.ensures, c.new.ensures) (opened_tied c.args.conf.now c.requires)
