-- The deliveries that a heap holds, in the order in which they come.
use Rattle.std.specs.Prelude.{List, [], ◌∷◌}
use Rattle.std.specs.declared.cmp.Ordering.{Ordering}
use Rattle.std.specs.declared.cmp.Reverse.{Reverse}
use Rattle.spec_link.specs.declared.delivery.Delivery.{Delivery}
use Rattle.spec_link.specs.Deliveries.{in_turn, with_delivery}

-- the first is the greatest
abbrev pub reversed : Reverse Delivery → Reverse Delivery → Ordering
reversed x y = in_turn y.0 x.0

abbrev pub in_order : List (Reverse Delivery) → List Delivery
in_order [] = []
in_order (r ∷ rs) = with_delivery r.0 (in_order rs)
