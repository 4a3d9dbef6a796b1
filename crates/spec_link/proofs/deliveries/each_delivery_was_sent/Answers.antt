use Rattle.spec_link.proofs.Sendings.{delivers}
use Rattle.spec_link.proofs.deliveries.each_delivery_was_sent.Goals as goal

pub returns : goal.returns
returns c = delivers
