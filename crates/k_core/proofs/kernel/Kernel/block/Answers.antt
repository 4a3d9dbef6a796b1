use Rattle.std.proofs.Common.{ap, ◌∙◌}
use Rattle.spec_kernel.specs.PlainTasks.{running}
use Rattle.spec_kernel.specs.PlainKernel.{PlainKernel, tasks_of}
use Rattle.spec_kernel.specs.Time.{blocked}
use Rattle.k_core.proofs.KernelSteps.{block_does, block_tied, may_as}
use Rattle.k_core.proofs.kernel.Kernel.block.Goals as goal

pub begin_wait-requires-clause-room : goal.begin_wait-requires-clause-room
begin_wait-requires-clause-room c = (may_as c.self.invariant c.args.task c.requires.some (ap (λ (k : PlainKernel). running (tasks_of k)) c.self.view_is ∙ c.requires.runs)).room

pub invariant_of-self : goal.invariant_of-self
invariant_of-self c = block_tied c.self.invariant c.args.task c.args.tmo c.args.no c.requires.some (ap (λ (k : PlainKernel). running (tasks_of k)) c.self.view_is ∙ c.requires.runs) c.begin_wait.ensures

pub returns : goal.returns
returns c =
    block_does c.self.invariant c.args.task c.args.tmo c.args.no c.requires.some (ap (λ (k : PlainKernel). running (tasks_of k)) c.self.view_is ∙ c.requires.runs) c.begin_wait.ensures
    ∙ ap (λ k. blocked k c.args.task c.args.tmo c.args.no) c.self.view_is
