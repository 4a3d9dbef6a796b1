-- The deliveries that are under way, in the order in which they come.
use Rattle.std.specs.Prelude.{◌≡◌, ℕ, ◌+◌, false, List, [], ◌∷◌, Option, Some, None, nat_le, if◌then◌else◌}
use Rattle.std.specs.List.{AllByRecursion}
use Rattle.std.specs.Ordering.{is_lt, nat_cmp, on, then_cmp}
use Rattle.std.specs.declared.cmp.Ordering.{Ordering}
use Rattle.it_types.specs.declared.id.PackNo.{PackNo}
use Rattle.spec_link.specs.declared.delivery.Delivery.{Delivery}
use Rattle.spec_link.specs.declared.fate.Fate.{Fate}
use Rattle.spec_link.specs.declared.fate.Fate.TheVariants.{Lost, Once, Twice}

-- by the tick at which they are due, then by packet, then by copy
abbrev pub in_turn : Delivery → Delivery → Ordering
in_turn = then_cmp (on (λ d. d.due) nat_cmp) (then_cmp (on (λ d. d.packet.0) nat_cmp) (on (λ d. d.copy) nat_cmp))

-- no later one comes before an earlier one
abbrev pub IsInTurn : List Delivery → Type 0
IsInTurn [] = Unit {0}
IsInTurn (d ∷ ds) = AllByRecursion (λ e. is_lt (in_turn e d) ≡ false) ds × IsInTurn ds

-- a delivery more, behind those that come before it
abbrev pub with_delivery : Delivery → List Delivery → List Delivery
with_delivery d [] = d ∷ []
with_delivery d (e ∷ es) = if is_lt (in_turn e d) then e ∷ with_delivery d es else d ∷ e ∷ es

-- several more, one after another
abbrev pub with_deliveries : List Delivery → List Delivery → List Delivery
with_deliveries [] ds = ds
with_deliveries (n ∷ ns) ds = with_deliveries ns (with_delivery n ds)

-- the copies of a packet that was sent at the tick `now`
abbrev pub copies : PackNo → ℕ → Fate → List Delivery
copies packet now Lost = []
copies packet now (Once after) = record { due = now + after; packet = packet; copy = 1 } ∷ []
copies packet now (Twice first second) = record { due = now + first; packet = packet; copy = 1 } ∷ record { due = now + second; packet = packet; copy = 2 } ∷ []

-- the packet of the first, where that one is due at or before the tick `now`
abbrev pub packet_due : ℕ → List Delivery → Option PackNo
packet_due now [] = None
packet_due now (d ∷ ds) = if nat_le d.due now then Some d.packet else None

-- and the deliveries without it
abbrev pub without_due : ℕ → List Delivery → List Delivery
without_due now [] = []
without_due now (d ∷ ds) = if nat_le d.due now then ds else d ∷ ds
