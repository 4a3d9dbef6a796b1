use Rattle.std.proofs.Common.{ap, refl, sym}
use Rattle.spec_lists.proofs.Places.{searched, searched_none}
use Rattle.spec_pend.specs.Slots.{number_found}
use Rattle.e_pend.proofs.calls.number_at.Goals as goal

pub returns-in-Some : goal.returns-in-Some
returns-in-Some c = λ f found. sym (ap number_found ((searched f c.args.calls.now c.args.calls.now c.args.place c.in-Some.place refl found c.in-Some.is).first c.call_at.result c.call_at.ensures))

pub returns-in-None : goal.returns-in-None
returns-in-None c = λ f found. sym (ap number_found (searched_none f c.args.calls.now c.args.calls.now c.args.place refl found c.in-None.is))
