use Rattle.spec_pend.proofs.EndsOnce.{ends_once}
use Rattle.spec_pend.proofs.once.a_call_ends_once.Goals as goal

pub returns : goal.returns
returns c = ends_once
