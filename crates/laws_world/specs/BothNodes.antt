-- What holds of each of two nodes over every list of events. It is this project's own.
use Rattle.std.specs.Prelude.{List}
use Rattle.it_types.specs.declared.event.Event.{Event}
use Rattle.spec_world.specs.PlainWorld.{PlainWorld}
use Rattle.laws_node.specs.Agreement.{PartsAgree}
use Rattle.laws_node.specs.EndPoints.{HasKeptPoints}
use Rattle.laws_node.specs.Running.{Stands, RunsFree}
use Rattle.laws_node.specs.Due.{DueOnce}
use Rattle.laws_world.specs.Taken.{OfBothAlong}

abbrev pub StandAlong : PlainWorld → List Event → Type 0
StandAlong w events = OfBothAlong Stands w events

abbrev pub RunFreeAlong : PlainWorld → List Event → Type 0
RunFreeAlong w events = OfBothAlong RunsFree w events

abbrev pub AgreeAlong : PlainWorld → List Event → Type 0
AgreeAlong w events = OfBothAlong PartsAgree w events

abbrev pub KeptAlong : PlainWorld → List Event → Type 0
KeptAlong w events = OfBothAlong HasKeptPoints w events

abbrev pub DueOnceAlong : PlainWorld → List Event → Type 0
DueOnceAlong w events = OfBothAlong DueOnce w events
