-- What an event at a world comes to, by the node at which it happens and what that node gives.
use Rattle.std.specs.Prelude.{◌≡◌, [], ◌++◌, map}
use Rattle.it_types.specs.declared.answer.Ans.TheVariants.{Quiet}
use Rattle.it_types.specs.declared.id.NodeId.{NodeId}
use Rattle.it_types.specs.declared.event.Event.{Event}
use Rattle.it_types.specs.declared.entry.Out.{Out}
use Rattle.spec_world.specs.PlainWorld.{Nodes, PlainWorld, packet_from, entry_of, step}

-- the step of the event leaves these nodes; the packets of what it gives go out by this node
pub record Takes (w : PlainWorld) (event : Event) (nodes : Nodes) (by : NodeId) (out : Out) : Type 0 where
  pub is : step w event ≡ (record { nodes = nodes; packets = w.packets ++ map (packet_from by) out.packs }, entry_of event out)

-- nothing is answered, and nothing brought about
abbrev pub nothing : Out
nothing = record { ans = Quiet; ends = []; marks = []; packs = [] }
