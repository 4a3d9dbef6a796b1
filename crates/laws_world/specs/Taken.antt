-- Any list of events: those that are admitted are taken, and the others change nothing. It is this project's own.
use Rattle.std.specs.Prelude.{true, false, List, [], ◌∷◌}
use Rattle.it_types.specs.declared.event.Event.{Event}
use Rattle.it_types.specs.declared.node_conf.Conf.{Conf}
use Rattle.it_types.specs.Configuration.{kernel_conf, first_conf, second_conf}
use Rattle.spec_kernel.specs.Opening.{IsDeclarable}
use Rattle.spec_node.specs.PlainNode.{PlainNode}
use Rattle.spec_world.specs.PlainWorld.{PlainWorld, step}
use Rattle.spec_world.specs.Admitted.{is_admitted}

-- what the kernels of both nodes begin with can be declared
pub record CanOpen (conf : Conf) : Type 0 where
  pub first : IsDeclarable (kernel_conf (first_conf conf))
  pub second : IsDeclarable (kernel_conf (second_conf conf))

-- the world after an event
abbrev pub taken : PlainWorld → Event → PlainWorld
taken w event = elim (is_admitted w event) [ true ↦ (step w event).0 | false ↦ w ]

-- what holds of a node holds of both nodes
pub record OfBoth (P : PlainNode → Type 0) (w : PlainWorld) : Type 0 where
  pub first : P w.nodes.first
  pub second : P w.nodes.second

-- so it is before and after each of the events
abbrev pub OfBothAlong : (PlainNode → Type 0) → PlainWorld → List Event → Type 0
OfBothAlong P w [] = OfBoth P w
OfBothAlong P w (event ∷ events) = OfBoth P w × OfBothAlong P (taken w event) events
