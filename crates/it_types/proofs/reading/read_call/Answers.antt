use Rattle.std.proofs.Common.{sym, ◌∙◌}
use Rattle.it_types.proofs.LineLaws.{nothing}
use Rattle.it_types.proofs.reading.read_call.Goals as goal

pub returns-in-None : goal.returns-in-None
returns-in-None c = nothing c.args.line.now (sym c.in-None.is ∙ c.in_ok-request.ensures)
