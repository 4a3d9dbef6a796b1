-- What holds of the UDP end points of a node and of the calls that wait at them. It is this project's own.
use Rattle.std.specs.Prelude.{◌≡◌, ◌≢◌, ℕ, ◌≤◌, true, List, length, is_some, ◌==◌}
use Rattle.std.specs.List.{list_any, AllByRecursion}
use Rattle.it_types.specs.declared.id.TaskId.{TaskId}
use Rattle.it_types.specs.declared.id.ObjId.{ObjId}
use Rattle.it_types.specs.declared.id.CepId.{CepId}
use Rattle.it_types.specs.declared.handler.FnCode.TheVariants.{UdpRcv}
use Rattle.spec_lists.specs.Tables.{get}
use Rattle.spec_lists.specs.Counting.{one_if}
use Rattle.spec_pend.specs.declared.call.Who.TheVariants.{Callback}
use Rattle.spec_pend.specs.declared.call.NetCall.{NetCall}
use Rattle.spec_pend.specs.Slots.{is_at}
use Rattle.spec_udp.specs.PlainUdps.{PlainUdps, UdpSide, queue_limit}
use Rattle.spec_udp.specs.Points.{has_port, queue_of, routine_at}
use Rattle.spec_udp.specs.Rows.{slot_of}
use Rattle.spec_node.specs.PlainNode.{PlainNode}
use Rattle.laws_node.specs.Agreement.{times}

-- the call is a receive at a UDP end point
abbrev pub IsReceive : NetCall → Type 0
IsReceive c = c.slot ≡ slot_of c.slot.cep UdpRcv

-- the routine is one of these, and isn't none
pub record IsDeclared (routines : List ObjId) (routine : ObjId) : Type 0 where
  pub some : routine.0 ≢ 0
  pub listed : list_any (λ r. r.0 == routine.0) routines ≡ true

-- the routine of the end point at which the call waits
abbrev pub routine_of : PlainUdps → NetCall → ObjId
routine_of u c = routine_at (get u.points c.slot.cep.0)

-- the routine that is told of the call, if one is, is that of its end point, and is declared
pub record IsToldRightly (u : PlainUdps) (c : NetCall) : Type 0 where
  pub same : (t : TaskId) (routine : ObjId) → c.who ≡ Callback t routine → routine_of u c ≡ routine
  pub declared : (t : TaskId) (routine : ObjId) → c.who ≡ Callback t routine → IsDeclared u.routines routine

-- No two end points have the same port; at most 8 datagrams are in a queue; only receives wait, at end points that are there, at most
-- one at each; and a routine that is told of one is that of its end point, which is declared.
pub record PointsAreKept (s : UdpSide) : Type 0 where
  pub ports : (port : ℕ) → times (has_port port) s.udps.points ≤ 1
  pub queues : (id : ℕ) → length (queue_of (get s.udps.points id)) ≤ queue_limit
  pub only : AllByRecursion IsReceive s.pend.calls
  pub receives : (cep : CepId) → times (is_at true cep) s.pend.calls ≤ one_if (is_some (get s.udps.points cep.0))
  pub routines : AllByRecursion (IsToldRightly s.udps) s.pend.calls

-- the end points of a node are as they are to be
abbrev pub HasKeptPoints : PlainNode → Type 0
HasKeptPoints n = PointsAreKept n.net
