use Rattle.k_core.proofs.Declarations.{semaphores_good}
use Rattle.k_core.proofs.declarable.are_semaphores.Goals as goal

pub returns : goal.returns
returns c = rw c.are_declarable.ensures (semaphores_good c.args.decls.now)
