-- A node with handlers at rest: no call that waits is ready, in its kernel or at an end point, or has a deadline at or before now, or
-- names an end point that isn't there; and at most one waits in each place. It is this project's own.
use Rattle.spec_kernel.specs.Settle.{AtRest}
use Rattle.spec_kernel.specs.Time.{NoneIsPast}
use Rattle.spec_udp.specs.Settling.{UdpAtRest}
use Rattle.spec_node.specs.PlainNode.{PlainNode}
use Rattle.laws_node.specs.EndPoints.{PointsAreKept}

pub record NodeRests (n : PlainNode) : Type 0 where
  pub none_ready : AtRest n.kernel
  pub none_past : NoneIsPast n.kernel
  pub none_met : UdpAtRest n.net
  -- no call that waits names an end point that isn't there, and at most one waits at each (its field `receives`)
  pub points : PointsAreKept n.net
