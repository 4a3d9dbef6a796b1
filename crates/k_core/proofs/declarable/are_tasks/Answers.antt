use Rattle.k_core.proofs.Declarations.{tasks_good}
use Rattle.k_core.proofs.declarable.are_tasks.Goals as goal

pub returns : goal.returns
returns c = rw c.are_declarable.ensures (tasks_good c.args.decls.now)
