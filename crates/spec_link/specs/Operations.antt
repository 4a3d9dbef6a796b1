-- What may be done to a link, and what holds after any of it, in whatever order.
use Rattle.std.specs.Prelude.{◌≡◌, ℕ, ◌<◌, ◌↔◌, List, [], ◌∷◌, Some, None}
use Rattle.std.specs.List.{AllByRecursion, Contains}
use Rattle.it_types.specs.declared.id.PackNo.{PackNo}
use Rattle.spec_link.specs.Deliveries.{IsInTurn}
use Rattle.spec_link.specs.Link.{PlainLink, sent, taken, first_due}

-- each at a tick of the link's clock
pub data Operation : Type 0 where
  Send : PackNo → ℕ → Operation
  Take : ℕ → Operation

abbrev pub done : PlainLink → Operation → PlainLink
done l (Send packet now) = sent packet now l
done l (Take now) = taken now l

-- after all of them, one after another
abbrev pub after : PlainLink → List Operation → PlainLink
after l [] = l
after l (o ∷ os) = after (done l o) os

-- the packets that were sent
abbrev pub sent_packets : List Operation → List PackNo
sent_packets [] = []
sent_packets (Send packet now ∷ os) = packet ∷ sent_packets os
sent_packets (Take now ∷ os) = sent_packets os

-- what holds of a link after these operations
pub record Delivers (operations : List Operation) (l : PlainLink) : Type 0 where
  -- what is delivered was sent
  pub sent_before : (now : ℕ) (packet : PackNo) → first_due now l ≡ Some packet → Contains (sent_packets operations) packet
  -- nothing is delivered exactly where nothing is due
  pub none_due : (now : ℕ) → (first_due now l ≡ None) ↔ AllByRecursion (λ d. now < d.due) l.waiting
  -- deliveries come by the tick at which they are due, then by packet, then by copy
  pub in_order : IsInTurn l.waiting
