use Rattle.k_core.proofs.Declarations.{cyclic_handlers_good}
use Rattle.k_core.proofs.declarable.are_cyclic_handlers.Goals as goal

pub returns : goal.returns
returns c = rw c.are_declarable.ensures (cyclic_handlers_good c.args.decls.now)
