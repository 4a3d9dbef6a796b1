use Rattle.spec_lists.specs.First.{is_least}
use Rattle.spec_pend.specs.Slots.{is_named, part_of}
use Rattle.e_pend.proofs.Searches.{number_told}
use Rattle.e_pend.proofs.pend.Pend.cancel_first.Goals as goal

pub returns-clause-number : goal.returns-clause-number
returns-clause-number c = (number_told (is_least (is_named c.args.udp c.args.cep c.args.func) part_of) _ c.args.self.now _ _ _ c.number_at.result c.self.view_is c.self.invariant c.as_slice.ensures.value c.as_slice-2.ensures.value c.place_named-place.ensures c.number_at.ensures).number

pub returns-clause-same : goal.returns-clause-same
returns-clause-same c = (number_told (is_least (is_named c.args.udp c.args.cep c.args.func) part_of) _ c.args.self.now _ _ _ c.number_at.result c.self.view_is c.self.invariant c.as_slice.ensures.value c.as_slice-2.ensures.value c.place_named-place.ensures c.number_at.ensures).same
