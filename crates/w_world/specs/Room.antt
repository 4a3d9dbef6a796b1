-- The numbers of a node leave room for one event more.
use Rattle.std.specs.Prelude.{◌<◌, ◌-◌, ◌^◌}
use Rattle.spec_node.specs.PlainNode.{PlainNode}
use Rattle.spec_world.specs.PlainWorld.{Nodes}

pub record HasRoom (n : PlainNode) : Type 0 where
  pub calls : n.calls < 2 ^ 31 - 1
  pub now : n.kernel.clock.now < 2 ^ 59
  pub ranks : n.kernel.next_rank < 2 ^ 59

pub record HaveRoom (nodes : Nodes) : Type 0 where
  pub first : HasRoom nodes.first
  pub second : HasRoom nodes.second
