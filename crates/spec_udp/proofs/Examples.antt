-- Words for worked examples of the UDP end points: a node with two of them and with callback routine 1, and its calls.
use Rattle.std.proofs.Common.{ℕ, List, [], ◌∷◌, Option, Some, None, replicate}
use Rattle.std.specs.Prelude.{ℤ, pos, neg_ℤ}
use Rattle.it_types.specs.declared.id.EndPt.{EndPt}
use Rattle.it_types.specs.declared.id.CallNo.{CallNo}
use Rattle.it_types.specs.declared.handler.FnCode.TheVariants.{UdpRcv}
use Rattle.it_types.specs.declared.context.Ctx.{Ctx}
use Rattle.it_types.specs.declared.context.Ctx.TheVariants as contexts
use Rattle.spec_pend.specs.declared.call.NetCall.{NetCall}
use Rattle.spec_pend.specs.declared.call.Who.TheVariants as whos
use Rattle.spec_pend.specs.declared.answer.NetEnd.{NetEnd}
use Rattle.spec_udp.specs.declared.point.Received.{Received}
use Rattle.spec_udp.specs.declared.point.UdpPoint.{UdpPoint}
use Rattle.spec_udp.specs.PlainUdps.{UdpSide, UdpOutcome}
use Rattle.spec_udp.specs.Rows.{slot_of, answered}

-- 10.0.0.1 and 10.0.0.2
abbrev pub first_addr : ℕ
first_addr = 0x0a000001

abbrev pub second_addr : ℕ
second_addr = 0x0a000002

abbrev pub end_point : ℕ → ℕ → EndPt
end_point addr port = record { addr = addr; port = port }

-- an end point without a routine, at which a receive for so many bytes waits or waited last
abbrev pub point : ℕ → ℕ → List Received → Option UdpPoint
point port wanted queue = Some (record { port = port; routine = record { 0 = 0 }; queue = queue; wanted = wanted; sending = None })

abbrev pub datagram : EndPt → List ℕ → Received
datagram from load = record { from = from; load = load }

-- the end points 1 and 2 are there
abbrev pub two_points : Option UdpPoint → Option UdpPoint → List (Option UdpPoint)
two_points first second = None ∷ first ∷ second ∷ replicate 14 None

-- these calls wait, of which the last was accepted under this number
abbrev pub side_of : ℕ → List (Option UdpPoint) → List NetCall → ℕ → UdpSide
side_of addr points calls last = record { udps = record { addr = addr; routines = record { 0 = 1 } ∷ []; points = points }; pend = record { last = last; calls = calls; due = [] } }

-- task 3 waits in a receive at an end point
abbrev pub receiving : ℕ → ℕ → NetCall
receiving number cep = record { call = record { 0 = number }; who = whos.Task (record { 0 = 3 }); slot = slot_of (record { 0 = cep }) UdpRcv }

abbrev pub task_3 : Ctx
task_3 = contexts.Task (record { 0 = 3 })

abbrev pub number : ℕ → CallNo
number n = record { 0 = n }

-- an error's code, by its number in the standards
abbrev pub minus : ℕ → ℤ
minus n = neg_ℤ (pos n)

-- answered at once, with nothing beside
abbrev pub answers : UdpSide → ℤ → List ℕ → UdpOutcome
answers side code bytes = answered side (record { 0 = code }) bytes

abbrev pub end : ℕ → ℤ → List ℕ → NetEnd
end call code bytes = record { call = record { 0 = call }; who = whos.Task (record { 0 = 3 }); code = record { 0 = code }; bytes = bytes }
