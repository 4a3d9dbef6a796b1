use Rattle.k_sync.proofs.SemaphoreLaws.{nobody_waits, ranges_declared}
use Rattle.k_sync.proofs.sems.Sems.open.Goals as goal

pub invariant_of-result : goal.invariant_of-result
invariant_of-result c = record {
  ranges = rw (c.in_ok-semaphores.ensures, c.as_slice.ensures) (ranges_declared c.args.conf.now.sems c.requires.ranges);
  apart = rw c.new.ensures nobody_waits;
}
