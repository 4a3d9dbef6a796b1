use Rattle.spec_link.proofs.Soon.{none_later}
use Rattle.spec_link.proofs.deliveries.no_copy_is_later.Goals as goal

pub returns : goal.returns
returns c = none_later
