-- Resets in every state: at exactly RCV.NXT, and beside it.
use Rattle.std.proofs.Common.{◌≡◌, false, [], ◌∷◌, None, replicate, refl}
use Rattle.spec_tcp.specs.declared.state.State.TheVariants.{SynSent, SynReceived, Established, FinWait1, FinWait2, CloseWait, Closing, LastAck, TimeWait, Closed, Broken}
use Rattle.spec_tcp.specs.Connection.{Connection}
use Rattle.spec_tcp.specs.Arrival.{arrive}
use Rattle.spec_tcp.specs.Emission.{emitted, after_emission}
use Rattle.spec_tcp.specs.Opening.{open_active}
use Rattle.spec_tcp.specs.Acts.{Opens, Commits, at, after, after_all}
use Rattle.spec_tcp.proofs.Play.{play, told, shown, passes, mine, peer}
use Rattle.spec_tcp.proofs.SegmentWords.{gets_data, gets_reset, gets_reset_and_ack, gets_syn_and_ack, ack, in_syn_sent, in_syn_received, in_established, in_fin_wait_1, in_fin_wait_2, in_close_wait, in_closing, in_last_ack, in_time_wait, in_closed, in_broken}

-- ---- SYN-SENT

-- A reset without ACK is dropped, and so is one that acknowledges something other than the SYN.
pub reset_without_ack_in_syn_sent : passes (at 1 (gets_reset 5001) ∷ at 1 (gets_reset 0) ∷ []) in_syn_sent ≡ (SynSent, []) ∷ (SynSent, []) ∷ []
unfolding arrive emitted after_emission
reset_without_ack_in_syn_sent = refl

pub reset_with_a_wrong_ack_in_syn_sent : passes (at 1 (gets_reset_and_ack 0 1000) ∷ at 1 (gets_reset_and_ack 0 1002) ∷ []) in_syn_sent
    ≡ (SynSent, []) ∷ (SynSent, []) ∷ []
unfolding arrive emitted after_emission
reset_with_a_wrong_ack_in_syn_sent = refl

-- A reset that acknowledges the SYN breaks the connection.
pub reset_with_ack_in_syn_sent : shown (play (at 1 (gets_reset_and_ack 0 1001) ∷ []) in_syn_sent) ≡ told Broken 0 1 0 [] 0 1024 None false ([] ∷ [])
unfolding arrive emitted after_emission
reset_with_ack_in_syn_sent = refl

-- ---- at RCV.NXT a reset breaks the connection; one further it is challenged, and before the window it is dropped

pub reset_in_syn_received : passes (at 1 (gets_reset 5001) ∷ []) in_syn_received ≡ (Broken, []) ∷ []
unfolding arrive emitted after_emission
reset_in_syn_received = refl

pub reset_beside_in_syn_received : passes (at 1 (gets_reset 5002) ∷ at 1 (gets_reset 5000) ∷ []) in_syn_received
    ≡ (SynReceived, ack 1001 5001 1024 ∷ []) ∷ (SynReceived, []) ∷ []
unfolding arrive emitted after_emission
reset_beside_in_syn_received = refl

pub reset_in_established : passes (at 1 (gets_reset 5001) ∷ []) in_established ≡ (Broken, []) ∷ []
unfolding arrive emitted after_emission
reset_in_established = refl

pub reset_beside_in_established : passes (at 1 (gets_reset 5002) ∷ at 1 (gets_reset 5000) ∷ []) in_established
    ≡ (Established, ack 1001 5001 1024 ∷ []) ∷ (Established, []) ∷ []
unfolding arrive emitted after_emission
reset_beside_in_established = refl

pub reset_in_fin_wait_1 : passes (at 1 (gets_reset 5001) ∷ []) in_fin_wait_1 ≡ (Broken, []) ∷ []
unfolding arrive emitted after_emission
reset_in_fin_wait_1 = refl

pub reset_beside_in_fin_wait_1 : passes (at 1 (gets_reset 5002) ∷ at 1 (gets_reset 5000) ∷ []) in_fin_wait_1
    ≡ (FinWait1, ack 1002 5001 1024 ∷ []) ∷ (FinWait1, []) ∷ []
unfolding arrive emitted after_emission
reset_beside_in_fin_wait_1 = refl

pub reset_in_fin_wait_2 : passes (at 1 (gets_reset 5001) ∷ []) in_fin_wait_2 ≡ (Broken, []) ∷ []
unfolding arrive emitted after_emission
reset_in_fin_wait_2 = refl

pub reset_beside_in_fin_wait_2 : passes (at 1 (gets_reset 5002) ∷ at 1 (gets_reset 5000) ∷ []) in_fin_wait_2
    ≡ (FinWait2, ack 1002 5001 1024 ∷ []) ∷ (FinWait2, []) ∷ []
unfolding arrive emitted after_emission
reset_beside_in_fin_wait_2 = refl

pub reset_in_close_wait : passes (at 1 (gets_reset 5002) ∷ []) in_close_wait ≡ (Broken, []) ∷ []
unfolding arrive emitted after_emission
reset_in_close_wait = refl

pub reset_beside_in_close_wait : passes (at 1 (gets_reset 5003) ∷ at 1 (gets_reset 5001) ∷ []) in_close_wait
    ≡ (CloseWait, ack 1001 5002 1024 ∷ []) ∷ (CloseWait, []) ∷ []
unfolding arrive emitted after_emission
reset_beside_in_close_wait = refl

pub reset_in_closing : passes (at 1 (gets_reset 5002) ∷ []) in_closing ≡ (Broken, []) ∷ []
unfolding arrive emitted after_emission
reset_in_closing = refl

pub reset_beside_in_closing : passes (at 1 (gets_reset 5003) ∷ at 1 (gets_reset 5001) ∷ []) in_closing
    ≡ (Closing, ack 1002 5002 1024 ∷ []) ∷ (Closing, []) ∷ []
unfolding arrive emitted after_emission
reset_beside_in_closing = refl

pub reset_in_last_ack : passes (at 1 (gets_reset 5002) ∷ []) in_last_ack ≡ (Broken, []) ∷ []
unfolding arrive emitted after_emission
reset_in_last_ack = refl

pub reset_beside_in_last_ack : passes (at 1 (gets_reset 5003) ∷ at 1 (gets_reset 5001) ∷ []) in_last_ack
    ≡ (LastAck, ack 1002 5002 1024 ∷ []) ∷ (LastAck, []) ∷ []
unfolding arrive emitted after_emission
reset_beside_in_last_ack = refl

-- ---- no reset breaks the others

pub reset_in_time_wait : passes (at 1 (gets_reset 5002) ∷ at 1 (gets_reset 5003) ∷ at 1 (gets_reset 5001) ∷ []) in_time_wait
    ≡ (TimeWait, []) ∷ (TimeWait, ack 1002 5002 1024 ∷ []) ∷ (TimeWait, []) ∷ []
unfolding arrive emitted after_emission
reset_in_time_wait = refl

pub reset_in_closed : passes (at 1 (gets_reset 5002) ∷ at 1 (gets_reset 5003) ∷ []) in_closed ≡ (Closed, []) ∷ (Closed, []) ∷ []
unfolding arrive emitted after_emission
reset_in_closed = refl

pub reset_in_broken : passes (at 1 (gets_reset 5001) ∷ at 1 (gets_reset 5002) ∷ []) in_broken ≡ (Broken, []) ∷ (Broken, []) ∷ []
unfolding arrive emitted after_emission
reset_in_broken = refl

-- ---- more of ESTABLISHED

-- The last place of the window, and the one past it.
pub reset_at_the_end_of_the_window : passes (at 1 (gets_reset 6024) ∷ at 1 (gets_reset 6025) ∷ []) in_established
    ≡ (Established, ack 1001 5001 1024 ∷ []) ∷ (Established, []) ∷ []
unfolding arrive emitted after_emission
reset_at_the_end_of_the_window = refl

-- The window is 0: RCV.NXT alone is looked at.
abbrev with_a_full_window : Connection
with_a_full_window = after_all (at 0 Opens ∷ at 0 (gets_syn_and_ack 5000 1001) ∷ at 1 (gets_data 5001 1001 (replicate 8 7))
    ∷ []) (open_active mine peer 1000 1024 8)

pub reset_at_a_full_window : shown (play (at 2 (gets_reset 5010) ∷ at 2 (gets_reset 5008) ∷ at 2 (gets_reset 5009) ∷ []) with_a_full_window)
    ≡ told Broken 1 1 1024 (replicate 8 7) 9 0 None false ([] ∷ [] ∷ [] ∷ [])
unfolding arrive emitted after_emission
reset_at_a_full_window = refl

-- Bytes in order stay when the connection breaks, and early ones go. The timer stands.
abbrev before_a_break : Connection
before_a_break = after_all (at 1 (Commits (7 ∷ [])) ∷ at 1 (gets_data 5001 1001 (1 ∷ 2 ∷ [])) ∷ at 1 (gets_data 5005 1001 (9 ∷ []))
    ∷ []) in_established

pub bytes_in_order_stay : shown (play (at 2 (gets_reset 5003) ∷ []) before_a_break) ≡ told Broken 1 2 1024 (1 ∷ 2 ∷ []) 3 1022 None false ([] ∷ [])
unfolding arrive emitted after_emission
bytes_in_order_stay = refl

pub early_bytes_go : (after (at 2 (gets_reset 5003)) before_a_break).rcv.ahead ≡ replicate 1022 None
unfolding arrive emitted after_emission
early_bytes_go = refl
