-- What stands at a UDP end point, if there is one, and how it changes (ITRON TCP/IP API, chapter on UDP).
use Rattle.std.specs.Prelude.{ℕ, Bool, true, false, ◌||◌, List, [], ◌∷◌, ◌++◌, Option, Some, None, nat_lt, ◌==◌}
use Rattle.it_types.specs.declared.id.ObjId.{ObjId}
use Rattle.spec_udp.specs.declared.point.Received.{Received}
use Rattle.spec_udp.specs.declared.point.Sending.{Sending}
use Rattle.spec_udp.specs.declared.point.UdpPoint.{UdpPoint}
use Rattle.spec_udp.specs.PlainUdps.{greatest_point}

-- the id is none of a UDP end point
abbrev pub is_wrong_id : ℕ → Bool
is_wrong_id id = (id == 0) || nat_lt greatest_point id

abbrev pub has_port : ℕ → Option UdpPoint → Bool
has_port port None = false
has_port port (Some p) = p.port == port

abbrev pub local_port : Option UdpPoint → ℕ
local_port None = 0
local_port (Some p) = p.port

-- its callback routine, or none
abbrev pub routine_at : Option UdpPoint → ObjId
routine_at None = record { 0 = 0 }
routine_at (Some p) = p.routine

abbrev pub queue_of : Option UdpPoint → List Received
queue_of None = []
queue_of (Some p) = p.queue

abbrev pub has_some : List Received → Bool
has_some [] = false
has_some (d ∷ ds) = true

-- how many bytes the receive wants that waits there
abbrev pub wanted_at : Option UdpPoint → ℕ
wanted_at None = 0
wanted_at (Some p) = p.wanted

-- what the send is to send that waits there
abbrev pub sending_at : Option UdpPoint → Option Sending
sending_at None = None
sending_at (Some p) = p.sending

-- ---- changes

abbrev pub new_point : ℕ → ObjId → UdpPoint
new_point port cbr = record { port = port; routine = cbr; queue = []; wanted = 0; sending = None }

abbrev pub with_wanted : ℕ → Option UdpPoint → Option UdpPoint
with_wanted len None = None
with_wanted len (Some p) = Some (record p { wanted = len })

abbrev pub with_sending : Option Sending → Option UdpPoint → Option UdpPoint
with_sending s None = None
with_sending s (Some p) = Some (record p { sending = s })

abbrev pub joined : Received → Option UdpPoint → Option UdpPoint
joined d None = None
joined d (Some p) = Some (record p { queue = p.queue ++ d ∷ [] })

abbrev pub rest_of : List Received → List Received
rest_of [] = []
rest_of (d ∷ ds) = ds

-- after its oldest datagram was taken
abbrev pub without_oldest : Option UdpPoint → Option UdpPoint
without_oldest None = None
without_oldest (Some p) = Some (record p { queue = rest_of p.queue })
