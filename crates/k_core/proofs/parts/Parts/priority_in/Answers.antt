use Rattle.k_core.proofs.Calling.{as_caller}
use Rattle.k_core.proofs.parts.Parts.priority_in.Goals as goal

pub returns-clause-idle : goal.returns-clause-idle
returns-clause-idle c = as_caller c.args.ctx c.requires.caller
