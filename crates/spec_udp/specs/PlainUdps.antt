-- The UDP end points of a node as a plain list, which is this project's own; they are those of the ITRON TCP/IP API
-- specification, chapter on UDP.
use Rattle.std.specs.Prelude.{ℕ, List, [], Option}
use Rattle.it_types.specs.declared.id.ObjId.{ObjId}
use Rattle.spec_lists.specs.Tables.{empty_table}
use Rattle.spec_pend.specs.declared.answer.NetAnswer.{NetAnswer}
use Rattle.spec_pend.specs.declared.answer.NetAnswer.TheVariants.{Quiet}
use Rattle.spec_pend.specs.PlainPend.{PlainPend, Endings, no_endings}
use Rattle.spec_udp.specs.declared.point.UdpPoint.{UdpPoint}

pub record PlainUdps : Type 0 where
  pub addr : ℕ  -- the node's IPv4 address
  pub routines : List ObjId  -- the declared callback routines
  pub points : List (Option UdpPoint)  -- by id

-- the UDP end points, and what the node lends to them
pub record UdpSide : Type 0 where
  pub udps : PlainUdps
  pub pend : PlainPend

-- what an event at them gives: their state after it, what has ended and is told, its answer, and the packets that go out
pub record UdpOutcome : Type 0 where
  pub udps : PlainUdps
  pub endings : Endings
  pub answer : NetAnswer
  pub packets : List (List ℕ)

-- the state after an event
abbrev pub side_after : UdpOutcome → UdpSide
side_after o = record { udps = o.udps; pend = o.endings.pend }

-- an event that changes nothing, is answered nothing and sends nothing
abbrev pub quiet : UdpSide → UdpOutcome
quiet s = record { udps = s.udps; endings = no_endings s.pend; answer = Quiet; packets = [] }

-- the greatest id of a UDP end point
abbrev pub greatest_point : ℕ
greatest_point = 16

-- how many datagrams wait at an end point, at most
abbrev pub queue_limit : ℕ
queue_limit = 8

-- the end points of a node with this address and these callback routines at its opening
abbrev pub opened_udps : ℕ → List ObjId → PlainUdps
opened_udps addr routines = record { addr = addr; routines = routines; points = empty_table greatest_point }
