use Rattle.k_core.proofs.Declarations.{queues_good}
use Rattle.k_core.proofs.declarable.are_queues.Goals as goal

pub returns : goal.returns
returns c = rw c.are_declarable.ensures (queues_good c.args.decls.now)
