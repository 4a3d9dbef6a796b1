-- The segments of the histories by name, and a connection in each of its states. This side's ISS is 1,000 and the peer's 5,000,
-- so that the first bytes stand at 1,001 and 5,001. Both windows are 1,024 bytes long.
use Rattle.std.proofs.Common.{ℕ, List, [], Some, None}
use Rattle.spec_tcp.specs.Connection.{Connection}
use Rattle.spec_tcp.specs.Opening.{open_active, open_passive}
use Rattle.spec_tcp.specs.Acts.{Act, Opens, Arrives, Shuts, at, after}
use Rattle.spec_tcp.proofs.Play.{Sent, goes, seg, mine, peer}

-- ---- the peer's segments: sequence number, acknowledgement, and window or data

abbrev pub gets_ack : ℕ → ℕ → ℕ → Act
gets_ack seq ack wnd = Arrives (seg seq ack 16 wnd None [])

abbrev pub gets_data : ℕ → ℕ → List ℕ → Act
gets_data seq ack load = Arrives (seg seq ack 24 1024 None load)

abbrev pub gets_fin : ℕ → ℕ → Act
gets_fin seq ack = Arrives (seg seq ack 17 1024 None [])

abbrev pub gets_data_and_fin : ℕ → ℕ → List ℕ → Act
gets_data_and_fin seq ack load = Arrives (seg seq ack 25 1024 None load)

abbrev pub gets_reset : ℕ → Act
gets_reset seq = Arrives (seg seq 0 4 0 None [])

abbrev pub gets_reset_and_ack : ℕ → ℕ → Act
gets_reset_and_ack seq ack = Arrives (seg seq ack 20 0 None [])

abbrev pub gets_syn : ℕ → Act
gets_syn seq = Arrives (seg seq 0 2 1024 (Some 1460) [])

abbrev pub gets_syn_and_ack : ℕ → ℕ → Act
gets_syn_and_ack seq ack = Arrives (seg seq ack 18 1024 (Some 1460) [])

-- ---- this side's segments: sequence number, acknowledgement, and window and data

abbrev pub syn : Sent
syn = goes 1000 0 2 1024 (Some 1460) []

abbrev pub syn_and_ack : Sent
syn_and_ack = goes 1000 5001 18 1024 (Some 1460) []

abbrev pub ack : ℕ → ℕ → ℕ → Sent
ack seq number wnd = goes seq number 16 wnd None []

-- data before the last byte that was committed
abbrev pub part_data : ℕ → ℕ → ℕ → List ℕ → Sent
part_data seq number wnd load = goes seq number 16 wnd None load

-- data up to it
abbrev pub last_data : ℕ → ℕ → ℕ → List ℕ → Sent
last_data seq number wnd load = goes seq number 24 wnd None load

abbrev pub fin : ℕ → ℕ → ℕ → Sent
fin seq number wnd = goes seq number 17 wnd None []

-- a reset that a segment has drawn
abbrev pub reset : ℕ → Sent
reset seq = goes seq 0 4 0 None []

-- the reset of a connection that this side gives up
abbrev pub abort_reset : ℕ → ℕ → ℕ → Sent
abort_reset seq number wnd = goes seq number 20 wnd None []

-- ---- connections

abbrev pub active : Connection
active = open_active mine peer 1000 1024 1024

abbrev pub passive : Connection
passive = open_passive mine peer 1000 (seg 5000 0 2 1024 (Some 1460) []) 1024 1024

abbrev pub in_syn_sent : Connection
in_syn_sent = after (at 0 Opens) active

abbrev pub in_syn_received : Connection
in_syn_received = after (at 0 Opens) passive

abbrev pub in_established : Connection
in_established = after (at 0 (gets_syn_and_ack 5000 1001)) in_syn_sent

abbrev pub in_fin_wait_1 : Connection
in_fin_wait_1 = after (at 0 Shuts) in_established

abbrev pub in_fin_wait_2 : Connection
in_fin_wait_2 = after (at 0 (gets_ack 5001 1002 1024)) in_fin_wait_1

abbrev pub in_close_wait : Connection
in_close_wait = after (at 0 (gets_fin 5001 1001)) in_established

abbrev pub in_closing : Connection
in_closing = after (at 0 (gets_fin 5001 1001)) in_fin_wait_1

abbrev pub in_last_ack : Connection
in_last_ack = after (at 0 Shuts) in_close_wait

abbrev pub in_time_wait : Connection
in_time_wait = after (at 0 (gets_fin 5001 1002)) in_fin_wait_2

abbrev pub in_closed : Connection
in_closed = after (at 0 (gets_ack 5002 1002 1024)) in_last_ack

abbrev pub in_broken : Connection
in_broken = after (at 0 (gets_reset 5001)) in_established
