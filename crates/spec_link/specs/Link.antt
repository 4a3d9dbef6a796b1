-- The link between the nodes: it takes packets and gives each as often and as late as its fate says. Its clock is handed in. It is
-- this project's own.
use Rattle.std.specs.Prelude.{ℕ, Bool, true, false, List, [], ◌∷◌, Option}
use Rattle.it_types.specs.declared.id.PackNo.{PackNo}
use Rattle.rand_pcg.specs.Lcg.{Lcg}
use Rattle.spec_link.specs.declared.delivery.Delivery.{Delivery}
use Rattle.spec_link.specs.declared.fate.Fate.{Fate}
use Rattle.spec_link.specs.Fates.{generator_of, words, after_words, fate_of}
use Rattle.spec_link.specs.Deliveries.{copies, packet_due, with_deliveries, without_due}

pub record PlainLink : Type 0 where
  pub generator : Lcg
  pub lose : ℕ  -- so many packets of sixteen are lost
  pub twice : ℕ  -- and so many delivered twice
  pub delay : ℕ  -- the most ticks from the sending to a delivery
  pub waiting : List Delivery  -- in the order in which they come

abbrev pub opened_link : ℕ → ℕ → ℕ → ℕ → PlainLink
opened_link key lose twice delay = record { generator = generator_of key; lose = lose; twice = twice; delay = delay; waiting = [] }

-- the fate of the packet that is sent next
abbrev pub next_fate : PlainLink → Fate
next_fate l = fate_of l.lose l.twice l.delay (words l.generator)

-- after a packet was sent at the tick `now`
unfoldable pub sent : PackNo → ℕ → PlainLink → PlainLink
sent packet now l = record l { generator = after_words l.generator; waiting = with_deliveries (copies packet now (next_fate l)) l.waiting }

-- the packet of the first delivery that is due at or before the tick `now`
abbrev pub first_due : ℕ → PlainLink → Option PackNo
first_due now l = packet_due now l.waiting

-- after that delivery was taken, where there is one
abbrev pub taken : ℕ → PlainLink → PlainLink
taken now l = record l { waiting = without_due now l.waiting }

abbrev pub is_none_left : List Delivery → Bool
is_none_left [] = true
is_none_left (d ∷ ds) = false

-- no delivery is left
abbrev pub is_idle : PlainLink → Bool
is_idle l = is_none_left l.waiting
