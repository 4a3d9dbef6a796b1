-- A history ends with the stop if its last entry is the stop.
use Rattle.std.proofs.Common.{◌≡◌, false, suc, ◌-◌, List, [], ◌∷◌, length, Some, refl, ap, ◌∙◌, sym, arith}
use Rattle.std.specs.Prelude.{slice_get}
use Rattle.it_types.specs.declared.event.Event.{Event}
use Rattle.it_types.specs.declared.event.Event.TheVariants as events
use Rattle.it_types.specs.declared.entry.Entry.{Entry}
use Rattle.spec_world.specs.History.{is_stop, ends_with_stop}

pub stops_at_last : (log : List Entry) (e : Entry) → slice_get log (length log - 1) ≡ Some e → ends_with_stop log ≡ is_stop e.ev
stops_at_last [] e found = cc
stops_at_last (x ∷ []) e found = let same : x ≡ e = cc in ap (λ (y : Entry). is_stop y.ev) same
stops_at_last (x ∷ y ∷ ys) e found =
    let at : length (x ∷ y ∷ ys) - 1 ≡ suc (length (y ∷ ys) - 1) = omega arith in
    stops_at_last (y ∷ ys) e (ap (slice_get (x ∷ y ∷ ys)) (sym at) ∙ found)

-- an event that is not the stop
pub not_stop : (event : Event) → (event ≡ events.Stop → ⊥) → is_stop event ≡ false
not_stop (events.Call id ctx request) other = refl
not_stop (events.Return id task) other = refl
not_stop (events.Begin id) other = refl
not_stop (events.Finish id) other = refl
not_stop (events.Tick id) other = refl
not_stop (events.Deliver number) other = refl
not_stop events.Stop other = absurd (other refl)
