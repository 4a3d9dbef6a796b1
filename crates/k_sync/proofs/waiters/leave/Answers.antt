use Rattle.std.proofs.Common.{◌∙◌}
use Rattle.spec_kernel.specs.Waiters.{is_task}
use Rattle.k_sync.proofs.Searching.{any_taken}
use Rattle.k_sync.proofs.waiters.leave.Goals as goal

pub returns-clause-waited : goal.returns-clause-waited
returns-clause-waited c = c.is_some.ensures ∙ any_taken (is_task c.args.task) _ _ c.take_out.result (c.take_out.ensures.found (is_task c.args.task) (rw c.as_slice.ensures.value at c.find-place.ensures))
