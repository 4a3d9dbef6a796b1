use Rattle.k_core.proofs.Declarations.{flags_good}
use Rattle.k_core.proofs.declarable.are_flags.Goals as goal

pub returns : goal.returns
returns c = rw c.are_declarable.ensures (flags_good c.args.decls.now)
