use Rattle.laws_tcp.proofs.Breaking.{breaks_by_reset, reset_breaks}
use Rattle.laws_tcp.proofs.resets.resets_are_exact.Goals as goal

pub returns-clause-only : goal.returns-clause-only
returns-clause-only c at s now begun whole breaks = breaks_by_reset at s now begun whole breaks

pub returns-clause-breaks : goal.returns-clause-breaks
returns-clause-breaks c at s now may acceptable rst here = reset_breaks at s now may acceptable rst here
