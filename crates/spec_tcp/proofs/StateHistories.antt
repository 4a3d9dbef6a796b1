-- The events with which each state begins and ends, with what goes out then.
use Rattle.std.proofs.Common.{◌≡◌, true, [], ◌∷◌, None, refl}
use Rattle.spec_tcp.specs.declared.state.State.TheVariants.{SynSent, SynReceived, Established, FinWait1, FinWait2, CloseWait, Closing, LastAck, TimeWait, Closed, Broken}
use Rattle.spec_tcp.specs.Arrival.{arrive}
use Rattle.spec_tcp.specs.Emission.{emitted, after_emission}
use Rattle.spec_tcp.specs.Acts.{Opens, Ticks, Commits, Shuts, at}
use Rattle.spec_tcp.proofs.Play.{play, told, shown, passes}
use Rattle.spec_tcp.proofs.SegmentWords.{gets_ack, gets_data, gets_fin, gets_reset, gets_syn_and_ack, syn, syn_and_ack, ack, last_data, fin, active, passive, in_established, in_fin_wait_1, in_fin_wait_2, in_close_wait, in_time_wait, in_closed, in_broken}

-- ---- before the connection is open

-- SYN-SENT: from the opening to the peer's SYN with ACK.
pub syn_sent : passes (at 0 Opens ∷ at 0 (gets_syn_and_ack 5000 1001) ∷ []) active
    ≡ (SynSent, syn ∷ []) ∷ (Established, ack 1001 5001 1024 ∷ []) ∷ []
unfolding arrive emitted after_emission
syn_sent = refl

-- SYN-RECEIVED: from the peer's SYN to the ACK of this side's.
pub syn_received : passes (at 0 Opens ∷ at 0 (gets_ack 5001 1001 1024) ∷ []) passive
    ≡ (SynReceived, syn_and_ack ∷ []) ∷ (Established, []) ∷ []
unfolding arrive emitted after_emission
syn_received = refl

-- ---- this side closes first

-- FIN-WAIT-1: from this side's FIN to its ACK. FIN-WAIT-2: from there to the peer's FIN.
pub fin_wait_1_and_2 : passes (at 1 Shuts ∷ at 2 (gets_ack 5001 1002 1024) ∷ at 3 (gets_fin 5001 1002) ∷ []) in_established
    ≡ (FinWait1, fin 1001 5001 1024 ∷ []) ∷ (FinWait2, []) ∷ (TimeWait, ack 1002 5002 1024 ∷ []) ∷ []
unfolding arrive emitted after_emission
fin_wait_1_and_2 = refl

-- FIN-WAIT-1 goes on while the data before the FIN is acknowledged, and the FIN isn't.
pub fin_wait_1_goes_on : passes (at 1 (Commits (7 ∷ [])) ∷ at 1 Shuts ∷ at 2 (gets_ack 5001 1002 1024) ∷ at 3 (gets_ack 5001 1003 1024)
    ∷ []) in_established
    ≡ (Established, last_data 1001 5001 1024 (7 ∷ []) ∷ []) ∷ (FinWait1, fin 1002 5001 1024 ∷ []) ∷ (FinWait1, []) ∷ (FinWait2, []) ∷ []
unfolding arrive emitted after_emission
fin_wait_1_goes_on = refl

-- The peer's FIN acknowledges this side's, and FIN-WAIT-1 ends in TIME-WAIT.
pub fin_wait_1_to_time_wait : passes (at 1 (gets_fin 5001 1002) ∷ []) in_fin_wait_1 ≡ (TimeWait, ack 1002 5002 1024 ∷ []) ∷ []
unfolding arrive emitted after_emission
fin_wait_1_to_time_wait = refl

-- FIN-WAIT-2 takes data, and ends with the FIN past it.
pub fin_wait_2_takes_data : shown (play (at 1 (gets_data 5001 1002 (1 ∷ 2 ∷ [])) ∷ at 2 (gets_fin 5003 1002) ∷ []) in_fin_wait_2)
    ≡ told TimeWait 2 2 1024 (1 ∷ 2 ∷ []) 4 1022 None true ((ack 1002 5003 1022 ∷ []) ∷ (ack 1002 5004 1022 ∷ []) ∷ [])
unfolding arrive emitted after_emission
fin_wait_2_takes_data = refl

-- CLOSING: from a FIN that came before the ACK of this side's, to that ACK.
pub closing : passes (at 1 (gets_fin 5001 1001) ∷ at 2 (gets_ack 5002 1002 1024) ∷ []) in_fin_wait_1
    ≡ (Closing, ack 1002 5002 1024 ∷ []) ∷ (TimeWait, []) ∷ []
unfolding arrive emitted after_emission
closing = refl

-- TIME-WAIT goes on: the peer's FIN is acknowledged again, and a reset and the time change nothing.
pub time_wait : passes (at 1 (gets_fin 5001 1002) ∷ at 2 (gets_reset 5002) ∷ at 5000 Ticks ∷ []) in_time_wait
    ≡ (TimeWait, ack 1002 5002 1024 ∷ []) ∷ (TimeWait, []) ∷ (TimeWait, []) ∷ []
unfolding arrive emitted after_emission
time_wait = refl

-- ---- the peer closes first

-- CLOSE-WAIT: from the peer's FIN to this side's. LAST-ACK: from there to its ACK, with which CLOSED begins.
pub close_wait_and_last_ack : passes (at 1 (gets_fin 5001 1001) ∷ at 2 Shuts ∷ at 3 (gets_ack 5002 1002 1024) ∷ []) in_established
    ≡ (CloseWait, ack 1001 5002 1024 ∷ []) ∷ (LastAck, fin 1001 5002 1024 ∷ []) ∷ (Closed, []) ∷ []
unfolding arrive emitted after_emission
close_wait_and_last_ack = refl

-- CLOSE-WAIT sends data, and LAST-ACK goes on until the FIN past it is acknowledged.
pub close_wait_sends_data : passes (at 1 (Commits (7 ∷ 8 ∷ [])) ∷ at 2 Shuts ∷ at 3 (gets_ack 5002 1003 1024) ∷ at 4 (gets_ack 5002 1004 1024)
    ∷ []) in_close_wait
    ≡ (CloseWait, last_data 1001 5002 1024 (7 ∷ 8 ∷ []) ∷ []) ∷ (LastAck, fin 1003 5002 1024 ∷ []) ∷ (LastAck, []) ∷ (Closed, []) ∷ []
unfolding arrive emitted after_emission
close_wait_sends_data = refl

-- CLOSED goes on, whatever comes.
pub closed : passes (at 1 (gets_fin 5001 1001) ∷ at 2 (gets_data 5002 1002 (1 ∷ [])) ∷ at 3 (gets_reset 5002) ∷ at 5000 Ticks ∷ []) in_closed
    ≡ (Closed, []) ∷ (Closed, []) ∷ (Closed, []) ∷ (Closed, []) ∷ []
unfolding arrive emitted after_emission
closed = refl

-- ---- ESTABLISHED and BROKEN

-- ESTABLISHED ends with this side's FIN, with the peer's, or with a reset.
pub established_to_fin_wait_1 : passes (at 1 Shuts ∷ []) in_established ≡ (FinWait1, fin 1001 5001 1024 ∷ []) ∷ []
unfolding arrive emitted after_emission
established_to_fin_wait_1 = refl

pub established_to_close_wait : passes (at 1 (gets_fin 5001 1001) ∷ []) in_established ≡ (CloseWait, ack 1001 5002 1024 ∷ []) ∷ []
unfolding arrive emitted after_emission
established_to_close_wait = refl

pub established_to_broken : passes (at 1 (gets_reset 5001) ∷ []) in_established ≡ (Broken, []) ∷ []
unfolding arrive emitted after_emission
established_to_broken = refl

-- BROKEN goes on, whatever comes.
pub broken : passes (at 1 (gets_fin 5001 1001) ∷ at 2 (gets_data 5001 1001 (1 ∷ [])) ∷ at 3 (gets_reset 5001) ∷ at 5000 Ticks ∷ []) in_broken
    ≡ (Broken, []) ∷ (Broken, []) ∷ (Broken, []) ∷ (Broken, []) ∷ []
unfolding arrive emitted after_emission
broken = refl
