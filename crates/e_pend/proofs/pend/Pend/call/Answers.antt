use Rattle.std.proofs.Common.{List, ap, refl, sym, ◌∙◌}
use Rattle.std.specs.Prelude.{option_map}
use Rattle.std.specs.List.{remove}
use Rattle.spec_lists.proofs.Places.{searched_none}
use Rattle.spec_pend.specs.declared.call.NetCall.{NetCall}
use Rattle.spec_pend.specs.PlainPend.{PlainPend}
use Rattle.spec_pend.specs.Slots.{has_number, numbered}
use Rattle.e_pend.proofs.Searches.{taken}
use Rattle.e_pend.proofs.pend.Pend.call.Goals as goal

pub returns-in-Some : goal.returns-in-Some
returns-in-Some c =
    sym (ap (option_map (λ (found : NetCall × List NetCall). found.0))
    (taken (has_number c.args.no) c.as_slice.result.now c.as_slice-in-Some.result.now c.self.inside.calls.items c.place_of.result c.in-Some.place c.call_at.result (remove c.self.inside.calls.items c.in-Some.place) c.as_slice.ensures.value
    c.as_slice-in-Some.ensures.value c.place_of.ensures c.in-Some.is c.call_at.ensures refl))
    ∙ ap (λ (p : PlainPend). option_map (λ (found : NetCall × List NetCall). found.0) (numbered p c.args.no)) c.self.view_is

pub returns-in-None : goal.returns-in-None
returns-in-None c =
    sym (ap (option_map (λ (found : NetCall × List NetCall). found.0)) (searched_none (has_number c.args.no) c.as_slice.result.now c.self.inside.calls.items c.place_of.result c.as_slice.ensures.value c.place_of.ensures c.in-None.is))
    ∙ ap (λ (p : PlainPend). option_map (λ (found : NetCall × List NetCall). found.0) (numbered p c.args.no)) c.self.view_is
