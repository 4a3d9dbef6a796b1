use Rattle.spec_pend.specs.Slots.{has_slot}
use Rattle.e_pend.proofs.Searches.{number_told}
use Rattle.e_pend.proofs.pend.Pend.of.Goals as goal

pub returns-clause-same : goal.returns-clause-same
returns-clause-same c = (number_told (λ cs. has_slot c.args.what) _ c.args.self.now _ _ _ c.number_at.result c.self.view_is c.self.invariant c.as_slice.ensures.value c.as_slice-2.ensures.value c.place_at-place.ensures c.number_at.ensures).same
