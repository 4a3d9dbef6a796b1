-- What the link keeps of the deliveries that are left, whatever the events are.
use Rattle.std.proofs.Common.{ℕ, ◌+◌, List, [], ◌∷◌, length}
use Rattle.it_types.specs.declared.id.PackNo.{PackNo}
use Rattle.it_types.specs.declared.event.Event.{Event}
use Rattle.it_types.specs.declared.event.Event.TheVariants as events
use Rattle.spec_script.specs.declared.script.Script.{Script}
use Rattle.spec_link.specs.Deliveries.{IsInTurn, copies}
use Rattle.spec_link.specs.Link.{PlainLink, next_fate, sent}
use Rattle.spec_link.proofs.Sendings.{in_turn_without}
use Rattle.spec_link.proofs.Turns.{with_all_in_turn}
use Rattle.spec_world.specs.PlainWorld.{step}
use Rattle.spec_sim.specs.Schedule.{Plan, PlainPlay, AreSent, after, all_sent, clock_of, link_asked, opening}
use Rattle.spec_sim.proofs.Sent.{after_sent}

-- each is of a packet that was sent, and no later one comes before an earlier one
pub record IsLinked (p : PlainPlay) : Type 0 where
  pub sent_before : AreSent (length p.world.packets) p.link
  pub turns : IsInTurn p.link.waiting

sent_in_turn : (packet : PackNo) (now : ℕ) (l : PlainLink) → IsInTurn l.waiting → IsInTurn (sent packet now l).waiting
unfolding sent
sent_in_turn packet now l turns = with_all_in_turn (copies packet now (next_fate l)) l.waiting turns

all_in_turn : (number : ℕ) (packets : List (List ℕ)) (now : ℕ) (l : PlainLink) → IsInTurn l.waiting → IsInTurn (all_sent number packets now l).waiting
all_in_turn number [] now l turns = turns
all_in_turn number (packet ∷ packets) now l turns = all_in_turn (number + 1) packets now (sent (record { 0 = number }) now l) (sent_in_turn (record { 0 = number }) now l turns)

asked_in_turn : (event : Event) (now : ℕ) (l : PlainLink) → IsInTurn l.waiting → IsInTurn (link_asked event now l).waiting
asked_in_turn (events.Deliver number) now l turns = in_turn_without now l.waiting turns
asked_in_turn (events.Call id ctx request) now l turns = turns
asked_in_turn (events.Return id task) now l turns = turns
asked_in_turn (events.Begin id) now l turns = turns
asked_in_turn (events.Finish id) now l turns = turns
asked_in_turn (events.Tick id) now l turns = turns
asked_in_turn events.Stop now l turns = turns

after_in_turn : (plan : Plan) (p : PlainPlay) (event : Event) → IsInTurn p.link.waiting → IsInTurn (after plan p event).0.link.waiting
unfolding after
after_in_turn plan p event turns =
    all_in_turn (length p.world.packets) (step p.world event).1.packs (clock_of (step p.world event).0) (link_asked event (clock_of p.world) p.link) (asked_in_turn event (clock_of p.world) p.link turns)

pub after_linked : (plan : Plan) (p : PlainPlay) (event : Event) → IsLinked p → IsLinked (after plan p event).0
after_linked plan p event h = record { sent_before = after_sent plan p event h.sent_before; turns = after_in_turn plan p event h.turns }

pub opening_linked : (s : Script) → IsLinked (opening s)
opening_linked s = record { sent_before = tt; turns = tt }
