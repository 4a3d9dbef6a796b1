-- Connections that this side gives up.
use Rattle.std.proofs.Common.{◌≡◌, [], ◌∷◌, Some, None, refl}
use Rattle.spec_tcp.specs.Arrival.{arrive}
use Rattle.spec_tcp.specs.Emission.{emitted, after_emission}
use Rattle.spec_tcp.specs.Acts.{Commits, Aborts, at}
use Rattle.spec_tcp.proofs.Play.{play, expiries}
use Rattle.spec_tcp.proofs.SegmentWords.{gets_ack, gets_data, ack, last_data, abort_reset, in_syn_sent, in_syn_received, in_established, in_fin_wait_1, in_fin_wait_2, in_close_wait, in_closing, in_last_ack}

-- In SYN-SENT nothing goes out.
pub abort_in_syn_sent : (play (at 1 Aborts ∷ []) in_syn_sent).sent ≡ [] ∷ []
unfolding arrive emitted after_emission
abort_in_syn_sent = refl

-- In the other states one reset goes out, at SND.NXT and with ACK.
pub abort_in_syn_received : (play (at 1 Aborts ∷ []) in_syn_received).sent ≡ (abort_reset 1001 5001 1024 ∷ []) ∷ []
unfolding arrive emitted after_emission
abort_in_syn_received = refl

pub abort_in_established : (play (at 1 Aborts ∷ []) in_established).sent ≡ (abort_reset 1001 5001 1024 ∷ []) ∷ []
unfolding arrive emitted after_emission
abort_in_established = refl

pub abort_in_fin_wait_1 : (play (at 1 Aborts ∷ []) in_fin_wait_1).sent ≡ (abort_reset 1002 5001 1024 ∷ []) ∷ []
unfolding arrive emitted after_emission
abort_in_fin_wait_1 = refl

pub abort_in_fin_wait_2 : (play (at 1 Aborts ∷ []) in_fin_wait_2).sent ≡ (abort_reset 1002 5001 1024 ∷ []) ∷ []
unfolding arrive emitted after_emission
abort_in_fin_wait_2 = refl

pub abort_in_close_wait : (play (at 1 Aborts ∷ []) in_close_wait).sent ≡ (abort_reset 1001 5002 1024 ∷ []) ∷ []
unfolding arrive emitted after_emission
abort_in_close_wait = refl

pub abort_in_closing : (play (at 1 Aborts ∷ []) in_closing).sent ≡ (abort_reset 1002 5002 1024 ∷ []) ∷ []
unfolding arrive emitted after_emission
abort_in_closing = refl

pub abort_in_last_ack : (play (at 1 Aborts ∷ []) in_last_ack).sent ≡ (abort_reset 1002 5002 1024 ∷ []) ∷ []
unfolding arrive emitted after_emission
abort_in_last_ack = refl

-- Data is in flight: the reset stands past it, nothing more is sent, and the timer stands.
pub abort_past_data : (play (at 1 (Commits (1 ∷ 2 ∷ 3 ∷ [])) ∷ at 2 Aborts ∷ []) in_established).sent
    ≡ (last_data 1001 5001 1024 (1 ∷ 2 ∷ 3 ∷ []) ∷ []) ∷ (abort_reset 1004 5001 1024 ∷ []) ∷ []
unfolding arrive emitted after_emission
abort_past_data = refl

pub no_timer_after_an_abort : expiries (at 1 (Commits (1 ∷ 2 ∷ 3 ∷ [])) ∷ at 2 Aborts ∷ []) in_established ≡ Some 1001 ∷ None ∷ []
unfolding arrive emitted after_emission
no_timer_after_an_abort = refl

-- Data waits for the window: the reset stands before it.
pub abort_before_data : (play (at 1 (gets_ack 5001 1001 0) ∷ at 2 (Commits (1 ∷ 2 ∷ 3 ∷ [])) ∷ at 3 Aborts ∷ []) in_established).sent
    ≡ [] ∷ [] ∷ (abort_reset 1001 5001 1024 ∷ []) ∷ []
unfolding arrive emitted after_emission
abort_before_data = refl

-- The reset tells the window that is left.
pub abort_with_unread_bytes : (play (at 1 (gets_data 5001 1001 (1 ∷ 2 ∷ 3 ∷ [])) ∷ at 2 Aborts ∷ []) in_established).sent
    ≡ (ack 1001 5004 1021 ∷ []) ∷ (abort_reset 1001 5004 1021 ∷ []) ∷ []
unfolding arrive emitted after_emission
abort_with_unread_bytes = refl
