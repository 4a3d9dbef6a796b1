-- The entry of an event has that event.
use Rattle.std.proofs.Common.{◌≡◌, Option, Some, None, refl}
use Rattle.std.specs.Prelude.{slice_get}
use Rattle.it_types.specs.declared.id.PackNo.{PackNo}
use Rattle.it_types.specs.declared.event.Event.{Event}
use Rattle.it_types.specs.declared.event.Event.TheVariants as events
use Rattle.spec_world.specs.PlainWorld.{Packet, PlainWorld, delivery, step}

delivery-ev : (w : PlainWorld) (number : PackNo) (found : Option Packet) → (delivery w number found).1.ev ≡ events.Deliver number
delivery-ev w number None = refl
delivery-ev w number (Some packet) = refl

pub step-ev : (w : PlainWorld) (event : Event) → (step w event).1.ev ≡ event
unfolding step
step-ev w (events.Call id ctx request) = refl
step-ev w (events.Return id task) = refl
step-ev w (events.Tick id) = refl
step-ev w (events.Begin id) = refl
step-ev w (events.Finish id) = refl
step-ev w (events.Deliver number) = delivery-ev w number (slice_get w.packets number.0)
step-ev w events.Stop = refl
