-- Datagrams: sent, arriving, received and dropped, by computation.
use Rattle.std.proofs.Common.{◌≡◌, ℕ, false, List, [], ◌∷◌, ◌++◌, None, replicate, refl}
use Rattle.std.specs.Prelude.{pos}
use Rattle.it_types.specs.declared.er.TheConstants.{E_TMOUT}
use Rattle.it_types.specs.declared.id.EndPt.{EndPt}
use Rattle.it_types.specs.declared.context.Ctx.TheVariants.{Handler}
use Rattle.it_types.specs.declared.timeout.Tmo.{Tmo}
use Rattle.it_types.specs.declared.timeout.Tmo.TheVariants.{Pol, Nblk, Fevr, Ms}
use Rattle.it_types.specs.Callers.{is_nblk}
use Rattle.it_types.proofs.CallWords.{creates, sends, receives}
use Rattle.spec_wire.specs.Sum.{ones_sum}
use Rattle.spec_wire.specs.Ipv4 as ipv4
use Rattle.spec_wire.specs.Udp as udp
use Rattle.spec_pend.specs.declared.answer.NetAnswer.TheVariants.{Pends, Quiet}
use Rattle.spec_pend.specs.declared.answer.NetEnd.{NetEnd}
use Rattle.spec_pend.specs.PlainPend.{no_endings, opened_pend}
use Rattle.spec_udp.specs.declared.point.Received.{Received}
use Rattle.spec_udp.specs.PlainUdps.{UdpSide, UdpOutcome, side_after, opened_udps}
use Rattle.spec_udp.specs.Ports.{first_free}
use Rattle.spec_udp.specs.Packets.{arrived_in}
use Rattle.spec_udp.specs.Settling.{settle, settled}
use Rattle.spec_udp.specs.Rows.{udp_call}
use Rattle.spec_udp.specs.Arrival.{arrive}
use Rattle.spec_udp.specs.Outside.{ended}
use Rattle.spec_udp.proofs.Examples.{first_addr, second_addr, end_point, point, datagram, two_points, side_of, receiving, task_3, number, minus, answers, end}

-- ---- end points

abbrev bare : UdpSide
bare = record { udps = opened_udps second_addr (record { 0 = 1 } ∷ []); pend = opened_pend }

-- the first of two end points was asked for with this port
abbrev one_made : ℕ → UdpSide
one_made port = side_after (udp_call bare task_3 (creates 1 port 0) (number 1))

-- the second is made under port 0 beside the first
abbrev two_made : UdpOutcome
two_made = answers (side_of second_addr (two_points (point 49152 0 []) (point 49153 0 [])) [] 0) (pos 0) []

-- port 0 gets the least free port from 49,152, and then the next
pub two_free_ports : udp_call (one_made 0) task_3 (creates 2 0 0) (number 1) ≡ two_made
unfolding udp_call settled settle first_free
two_free_ports = refl

-- a port that was asked for is left out
pub free_port_beside : udp_call (one_made 49152) task_3 (creates 2 0 0) (number 1) ≡ two_made
unfolding udp_call settled settle first_free
free_port_beside = refl

-- ---- sending

abbrev sender : UdpSide
sender = side_of first_addr (two_points (point 1000 0 []) None) [] 0

abbrev peer : EndPt
peer = end_point second_addr 2000

-- "hi" from 10.0.0.1:1000 to 10.0.0.2:2000
abbrev hi_packet : List ℕ
hi_packet = 0x45 ∷ 0x00 ∷ 0x00 ∷ 0x1e ∷ 0x00 ∷ 0x00 ∷ 0x40 ∷ 0x00 ∷ 0x40 ∷ 0x11 ∷ 0x26 ∷ 0xcd ∷ 0x0a ∷ 0x00 ∷ 0x00 ∷ 0x01 ∷ 0x0a ∷ 0x00 ∷ 0x00 ∷ 0x02 ∷ 0x03 ∷ 0xe8 ∷ 0x07 ∷ 0xd0 ∷ 0x00 ∷ 0x0a ∷ 0x77 ∷ 0xb6 ∷ 0x68 ∷ 0x69 ∷ []

-- no data
abbrev empty_packet : List ℕ
empty_packet = 0x45 ∷ 0x00 ∷ 0x00 ∷ 0x1c ∷ 0x00 ∷ 0x00 ∷ 0x40 ∷ 0x00 ∷ 0x40 ∷ 0x11 ∷ 0x26 ∷ 0xcf ∷ 0x0a ∷ 0x00 ∷ 0x00 ∷ 0x01 ∷ 0x0a ∷ 0x00 ∷ 0x00 ∷ 0x02 ∷ 0x03 ∷ 0xe8 ∷ 0x07 ∷ 0xd0 ∷ 0x00 ∷ 0x08 ∷ 0xe0 ∷ 0x23 ∷ []

-- "bye"
abbrev bye_packet : List ℕ
bye_packet = 0x45 ∷ 0x00 ∷ 0x00 ∷ 0x1f ∷ 0x00 ∷ 0x00 ∷ 0x40 ∷ 0x00 ∷ 0x40 ∷ 0x11 ∷ 0x26 ∷ 0xcc ∷ 0x0a ∷ 0x00 ∷ 0x00 ∷ 0x01 ∷ 0x0a ∷ 0x00 ∷ 0x00 ∷ 0x02 ∷ 0x03 ∷ 0xe8 ∷ 0x07 ∷ 0xd0 ∷ 0x00 ∷ 0x0b ∷ 0x18 ∷ 0xa4 ∷ 0x62 ∷ 0x79 ∷ 0x65 ∷ []

abbrev sends_one : List ℕ → ℕ → UdpOutcome
sends_one packet count = record (answers sender (pos count) []) { packets = packet ∷ [] }

-- a send answers the length of its data at once, under each time-out, and gives one packet
pub send_hi : (tmo : Tmo) → is_nblk tmo ≡ false → udp_call sender task_3 (sends 1 peer (0x68 ∷ 0x69 ∷ []) tmo) (number 1) ≡ sends_one hi_packet 2
unfolding udp_call settled settle ipv4.written udp.written ones_sum
send_hi Pol e = refl
send_hi Fevr e = refl
send_hi (Ms ticks) e = refl
send_hi Nblk e = absurd cc

pub send_nothing : udp_call sender task_3 (sends 1 peer [] Fevr) (number 1) ≡ sends_one empty_packet 0
unfolding udp_call settled settle ipv4.written udp.written ones_sum
send_nothing = refl

-- ---- receiving

-- 10.0.0.2 with end point 1 at port 2000, and what has come there; no call waits
abbrev receiver : List Received → UdpSide
receiver queue = side_of second_addr (two_points (point 2000 0 queue) None) [] 0

-- the call 7 waits there for so many bytes
abbrev waiting_for : ℕ → UdpSide
waiting_for len = side_of second_addr (two_points (point 2000 len []) None) (receiving 7 1 ∷ []) 7

-- and has ended
abbrev waited_for : ℕ → UdpSide
waited_for len = side_of second_addr (two_points (point 2000 len []) None) [] 7

-- where the packets above are from
abbrev from : EndPt
from = end_point first_addr 1000

abbrev hi : Received
hi = datagram from (0x68 ∷ 0x69 ∷ [])

abbrev nothing : Received
nothing = datagram from []

abbrev bye : Received
bye = datagram from (0x62 ∷ 0x79 ∷ 0x65 ∷ [])

-- the sender's address and port
abbrev from_bytes : List ℕ
from_bytes = 0x0a ∷ 0x00 ∷ 0x00 ∷ 0x01 ∷ 0x03 ∷ 0xe8 ∷ []

abbrev outcome : UdpSide → List NetEnd → UdpOutcome
outcome side ends = record { udps = side.udps; endings = record { pend = side.pend; ends = ends; marks = [] }; answer = Quiet; packets = [] }

abbrev pends : UdpSide → UdpOutcome
pends side = record { udps = side.udps; endings = no_endings side.pend; answer = Pends; packets = [] }

-- a receive before its datagram waits
pub receive_waits : udp_call (receiver []) task_3 (receives 1 5 Fevr) (number 7) ≡ pends (waiting_for 5)
unfolding udp_call settled settle
receive_waits = refl

pub receive_waits_ticks : udp_call (receiver []) task_3 (receives 1 5 (Ms 3)) (number 7) ≡ pends (waiting_for 5)
unfolding udp_call settled settle
receive_waits_ticks = refl

-- and ends when it comes
pub datagram_ends_it : arrive (waiting_for 5) hi_packet ≡ outcome (waited_for 5) (end 7 (pos 2) (from_bytes ++ 0x68 ∷ 0x69 ∷ []) ∷ [])
unfolding arrive arrived_in ipv4.refusal udp.refusal ones_sum settled settle
datagram_ends_it = refl

-- without a receive it joins the queue, last
pub datagram_joins : arrive (receiver (bye ∷ [])) hi_packet ≡ outcome (receiver (bye ∷ hi ∷ [])) []
unfolding arrive arrived_in ipv4.refusal udp.refusal ones_sum settled settle
datagram_joins = refl

-- a receive after it is met at once by the oldest
pub receive_after : udp_call (receiver (hi ∷ bye ∷ [])) task_3 (receives 1 5 Fevr) (number 7) ≡ answers (receiver (bye ∷ [])) (pos 2) (from_bytes ++ 0x68 ∷ 0x69 ∷ [])
unfolding udp_call settled settle
receive_after = refl

-- so is a poll in a handler
pub poll_after : udp_call (receiver (hi ∷ bye ∷ [])) Handler (receives 1 2 Pol) (number 7) ≡ answers (receiver (bye ∷ [])) (pos 2) (from_bytes ++ 0x68 ∷ 0x69 ∷ [])
unfolding udp_call settled settle
poll_after = refl

-- a poll with nothing there is over
pub poll_of_nothing : udp_call (receiver []) task_3 (receives 1 5 Pol) (number 7) ≡ answers (receiver []) (minus 50) []
unfolding udp_call settled settle
poll_of_nothing = refl

-- a longer datagram gives its first bytes with E_BOVR, and the rest is lost: at once, and to a receive that waits
pub longer_at_once : udp_call (receiver (bye ∷ hi ∷ [])) task_3 (receives 1 2 Fevr) (number 7) ≡ answers (receiver (hi ∷ [])) (minus 58) (from_bytes ++ 0x62 ∷ 0x79 ∷ [])
unfolding udp_call settled settle
longer_at_once = refl

pub longer_for_one_that_waits : arrive (waiting_for 2) bye_packet ≡ outcome (waited_for 2) (end 7 (minus 58) (from_bytes ++ 0x62 ∷ 0x79 ∷ []) ∷ [])
unfolding arrive arrived_in ipv4.refusal udp.refusal ones_sum settled settle
longer_for_one_that_waits = refl

-- an empty datagram gives 0 and the sender, also where no bytes are asked for
pub empty_at_once : udp_call (receiver (nothing ∷ [])) task_3 (receives 1 0 Pol) (number 7) ≡ answers (receiver []) (pos 0) from_bytes
unfolding udp_call settled settle
empty_at_once = refl

pub empty_for_one_that_waits : arrive (waiting_for 0) empty_packet ≡ outcome (waited_for 0) (end 7 (pos 0) from_bytes ∷ [])
unfolding arrive arrived_in ipv4.refusal udp.refusal ones_sum settled settle
empty_for_one_that_waits = refl

-- a longer one, where no bytes are asked for, gives E_BOVR and the sender
pub longer_than_nothing : udp_call (receiver (hi ∷ [])) task_3 (receives 1 0 Fevr) (number 7) ≡ answers (receiver []) (minus 58) from_bytes
unfolding udp_call settled settle
longer_than_nothing = refl

-- ---- what is dropped

-- the eighth datagram joins the queue, and the ninth is dropped
pub eighth_joins : arrive (receiver (replicate 7 hi)) bye_packet ≡ outcome (receiver (hi ∷ hi ∷ hi ∷ hi ∷ hi ∷ hi ∷ hi ∷ bye ∷ [])) []
unfolding arrive arrived_in ipv4.refusal udp.refusal ones_sum settled settle
eighth_joins = refl

pub ninth_is_dropped : arrive (receiver (replicate 8 hi)) bye_packet ≡ outcome (receiver (replicate 8 hi)) []
unfolding arrive arrived_in ipv4.refusal udp.refusal ones_sum settled settle
ninth_is_dropped = refl

-- no end point has the port
pub no_such_port : arrive (side_of second_addr (two_points (point 2001 0 []) None) [] 0) hi_packet ≡ outcome (side_of second_addr (two_points (point 2001 0 []) None) [] 0) []
unfolding arrive arrived_in ipv4.refusal udp.refusal ones_sum settled settle
no_such_port = refl

-- another address: the packet for 10.0.0.2 at 10.0.0.1
pub other_address : arrive (side_of first_addr (two_points (point 2000 0 []) None) [] 0) hi_packet ≡ outcome (side_of first_addr (two_points (point 2000 0 []) None) [] 0) []
unfolding arrive arrived_in ipv4.refusal udp.refusal ones_sum settled settle
other_address = refl

-- another protocol: 16 in place of 17, with a header checksum that is right
pub other_protocol : arrive (receiver []) (0x45 ∷ 0x00 ∷ 0x00 ∷ 0x1e ∷ 0x00 ∷ 0x00 ∷ 0x40 ∷ 0x00 ∷ 0x40 ∷ 0x10 ∷ 0x26 ∷ 0xce ∷ 0x0a ∷ 0x00 ∷ 0x00 ∷ 0x01 ∷ 0x0a ∷ 0x00 ∷ 0x00 ∷ 0x02 ∷ 0x03 ∷ 0xe8 ∷ 0x07 ∷ 0xd0 ∷ 0x00 ∷ 0x0a ∷ 0x77 ∷ 0xb6 ∷ 0x68 ∷ 0x69 ∷ []) ≡ outcome (receiver []) []
unfolding arrive arrived_in ipv4.refusal udp.refusal ones_sum settled settle
other_protocol = refl

-- a wrong header checksum, a wrong checksum of the user datagram, and no bytes
pub wrong_header : arrive (receiver []) (0x45 ∷ 0x00 ∷ 0x00 ∷ 0x1e ∷ 0x00 ∷ 0x00 ∷ 0x40 ∷ 0x00 ∷ 0x40 ∷ 0x11 ∷ 0x26 ∷ 0xce ∷ 0x0a ∷ 0x00 ∷ 0x00 ∷ 0x01 ∷ 0x0a ∷ 0x00 ∷ 0x00 ∷ 0x02 ∷ 0x03 ∷ 0xe8 ∷ 0x07 ∷ 0xd0 ∷ 0x00 ∷ 0x0a ∷ 0x77 ∷ 0xb6 ∷ 0x68 ∷ 0x69 ∷ []) ≡ outcome (receiver []) []
unfolding arrive arrived_in ipv4.refusal udp.refusal ones_sum settled settle
wrong_header = refl

pub wrong_data : arrive (receiver []) (0x45 ∷ 0x00 ∷ 0x00 ∷ 0x1e ∷ 0x00 ∷ 0x00 ∷ 0x40 ∷ 0x00 ∷ 0x40 ∷ 0x11 ∷ 0x26 ∷ 0xcd ∷ 0x0a ∷ 0x00 ∷ 0x00 ∷ 0x01 ∷ 0x0a ∷ 0x00 ∷ 0x00 ∷ 0x02 ∷ 0x03 ∷ 0xe8 ∷ 0x07 ∷ 0xd0 ∷ 0x00 ∷ 0x0a ∷ 0x77 ∷ 0xb6 ∷ 0x68 ∷ 0x6a ∷ []) ≡ outcome (receiver []) []
unfolding arrive arrived_in ipv4.refusal udp.refusal ones_sum settled settle
wrong_data = refl

pub no_bytes : arrive (receiver []) [] ≡ outcome (receiver []) []
unfolding arrive arrived_in ipv4.refusal udp.refusal ones_sum settled settle
no_bytes = refl

-- ---- ends from outside

-- by its time-out the call leaves
pub timed_out : ended (waiting_for 5) (number 7) E_TMOUT ≡ outcome (waited_for 5) (end 7 (minus 50) [] ∷ [])
unfolding ended settled settle
timed_out = refl

-- where none has that number, nothing happens
pub no_such_number : ended (waiting_for 5) (number 8) E_TMOUT ≡ outcome (waiting_for 5) []
unfolding ended settled settle
no_such_number = refl
