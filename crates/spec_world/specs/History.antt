-- Histories of two nodes: what follows on what, and which events a world refuses. It is this project's own.
use Rattle.std.specs.Prelude.{◌≡◌, Bool, true, false, not, List, [], ◌∷◌, ◌++◌, Option}
use Rattle.it_types.specs.declared.event.Event.{Event}
use Rattle.it_types.specs.declared.event.Event.TheVariants as events
use Rattle.it_types.specs.declared.entry.Entry.{Entry}
use Rattle.it_types.specs.declared.node_conf.Conf.{Conf}
use Rattle.spec_lists.specs.Refusal.{first_refusal}
use Rattle.spec_world.specs.declared.refusal.WErr.{WErr}
use Rattle.spec_world.specs.declared.refusal.WErr.TheVariants.{Ended, Stopped, Long, NoPacket, NotAdmitted}
use Rattle.spec_world.specs.PlainWorld.{PlainWorld, step, opened_world}
use Rattle.spec_world.specs.Admitted.{is_sent, is_admitted}
use Rattle.spec_world.specs.Sizes.{is_full}

-- ---- runs

abbrev pub is_stop : Event → Bool
is_stop (events.Call id ctx request) = false
is_stop (events.Return id task) = false
is_stop (events.Begin id) = false
is_stop (events.Finish id) = false
is_stop (events.Tick id) = false
is_stop (events.Deliver number) = false
is_stop events.Stop = true

abbrev pub ends_with_stop : List Entry → Bool
ends_with_stop [] = false
ends_with_stop (e ∷ []) = is_stop e.ev
ends_with_stop (e ∷ f ∷ es) = ends_with_stop (f ∷ es)

-- the world after the events of these entries
abbrev pub after : PlainWorld → List Entry → PlainWorld
after w [] = w
after w (e ∷ es) = after (step w e.ev).0 es

-- the entry follows those before: the history goes on and has room, the event is admitted, and the entry is the machine's
pub record Follows (w : PlainWorld) (before : List Entry) (e : Entry) : Type 0 where
  pub going : ends_with_stop before ≡ false
  pub room : is_full before ≡ false
  pub admitted : is_admitted w e.ev ≡ true
  pub given : (step w e.ev).1 ≡ e

-- each of the entries follows those before it
abbrev pub RunsFrom : PlainWorld → List Entry → List Entry → Type 0
RunsFrom w before [] = Unit {0}
RunsFrom w before (e ∷ es) = Follows w before e × RunsFrom (step w e.ev).0 (before ++ e ∷ []) es

-- the entries are a run of the machine from the opening of this configuration
abbrev pub IsRun : Conf → List Entry → Type 0
IsRun conf log = RunsFrom (opened_world conf) [] log

-- ---- a world with its history

pub record History : Type 0 where
  pub conf : Conf
  pub log : List Entry
  pub ended : Bool  -- an earlier step ran out of memory

abbrev pub opened_history : Conf → History
opened_history conf = record { conf = conf; log = []; ended = false }

-- the state of the machine after the log
abbrev pub world_of : History → PlainWorld
world_of h = after (opened_world h.conf) h.log

-- the event is the delivery of a packet that was not sent
abbrev pub is_unsent : PlainWorld → Event → Bool
is_unsent w (events.Call id ctx request) = false
is_unsent w (events.Return id task) = false
is_unsent w (events.Begin id) = false
is_unsent w (events.Finish id) = false
is_unsent w (events.Tick id) = false
is_unsent w (events.Deliver number) = not (is_sent w.packets number)
is_unsent w events.Stop = false

-- the tests that refuse an event, in their order
abbrev pub refusals : History → Event → List (Bool × WErr)
refusals h event =
    (h.ended, Ended) ∷ (ends_with_stop h.log, Stopped) ∷ (is_full h.log, Long) ∷ (is_unsent (world_of h) event, NoPacket) ∷ (not (is_admitted (world_of h) event), NotAdmitted) ∷ []

-- why an event is refused, if it is
abbrev pub refusal : History → Event → Option WErr
refusal h event = first_refusal (refusals h event)

-- the history with the one entry more that the machine gives for the event
abbrev pub stepped : History → Event → History
stepped h event = record h { log = h.log ++ (step (world_of h) event).1 ∷ [] }
