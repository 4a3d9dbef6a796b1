-- Histories of the handshake: what is sent again, and what comes that is wrong.
use Rattle.std.proofs.Common.{◌≡◌, true, false, [], ◌∷◌, Some, None, refl}
use Rattle.spec_tcp.specs.declared.state.State.TheVariants.{SynSent, SynReceived, Established, CloseWait}
use Rattle.spec_tcp.specs.Arrival.{arrive}
use Rattle.spec_tcp.specs.Emission.{emitted, after_emission}
use Rattle.spec_tcp.specs.Opening.{open_passive}
use Rattle.spec_tcp.specs.Acts.{Opens, Arrives, Ticks, at}
use Rattle.spec_tcp.proofs.Play.{play, told, shown, passes, mine, peer, seg}
use Rattle.spec_tcp.proofs.SegmentWords.{gets_ack, gets_data_and_fin, gets_syn, gets_syn_and_ack, syn, syn_and_ack, ack, reset, active, passive, in_syn_sent, in_syn_received}

-- ---- SYN-SENT

-- The SYN goes out again when the time expires.
pub syn_again : shown (play (at 0 Opens ∷ at 999 Ticks ∷ at 1000 Ticks ∷ []) active)
    ≡ told SynSent 0 1 0 [] 0 1024 (Some 3000) false ((syn ∷ []) ∷ [] ∷ (syn ∷ []) ∷ [])
unfolding arrive emitted after_emission
syn_again = refl

-- The answer to the second SYN opens the connection, and the timer stands.
pub opened_by_the_second_syn : shown (play (at 0 Opens ∷ at 1000 Ticks ∷ at 1200 (gets_syn_and_ack 5000 1001) ∷ []) active)
    ≡ told Established 1 1 1024 [] 1 1024 None false ((syn ∷ []) ∷ (syn ∷ []) ∷ (ack 1001 5001 1024 ∷ []) ∷ [])
unfolding arrive emitted after_emission
opened_by_the_second_syn = refl

-- Acknowledgements of something other than the SYN draw a reset, with SYN or without.
pub wrong_ack_of_a_syn : passes (at 1 (gets_ack 5000 1002 1024) ∷ at 1 (gets_syn_and_ack 5000 1000) ∷ at 1 (gets_syn_and_ack 5000 77)
    ∷ []) in_syn_sent
    ≡ (SynSent, reset 1002 ∷ []) ∷ (SynSent, reset 1000 ∷ []) ∷ (SynSent, reset 77 ∷ []) ∷ []
unfolding arrive emitted after_emission
wrong_ack_of_a_syn = refl

-- An ACK without SYN, a SYN without ACK, and a segment with neither are dropped.
pub half_a_syn_and_ack : passes (at 1 (gets_ack 5000 1001 1024) ∷ at 1 (gets_syn 5000) ∷ at 1 (Arrives (seg 5000 0 8 1024 None (1 ∷ [])))
    ∷ []) in_syn_sent
    ≡ (SynSent, []) ∷ (SynSent, []) ∷ (SynSent, []) ∷ []
unfolding arrive emitted after_emission
half_a_syn_and_ack = refl

-- Data that comes with SYN and ACK is not taken.
pub data_with_syn_and_ack : shown (play (at 1 (Arrives (seg 5000 1001 18 1024 (Some 1460) (1 ∷ 2 ∷ []))) ∷ []) in_syn_sent)
    ≡ told Established 1 1 1024 [] 1 1024 None false ((ack 1001 5001 1024 ∷ []) ∷ [])
unfolding arrive emitted after_emission
data_with_syn_and_ack = refl

-- ---- SYN-RECEIVED

-- SYN with ACK goes out again when the time expires.
pub syn_and_ack_again : shown (play (at 0 Opens ∷ at 999 Ticks ∷ at 1000 Ticks ∷ []) passive)
    ≡ told SynReceived 0 1 1024 [] 1 1024 (Some 3000) false ((syn_and_ack ∷ []) ∷ [] ∷ (syn_and_ack ∷ []) ∷ [])
unfolding arrive emitted after_emission
syn_and_ack_again = refl

-- Acknowledgements of something other than the SYN draw a reset.
pub wrong_ack_of_syn_and_ack : passes (at 1 (gets_ack 5001 1002 1024) ∷ at 1 (gets_ack 5001 1000 1024) ∷ []) in_syn_received
    ≡ (SynReceived, reset 1002 ∷ []) ∷ (SynReceived, reset 1000 ∷ []) ∷ []
unfolding arrive emitted after_emission
wrong_ack_of_syn_and_ack = refl

-- The SYN comes once more: it lies before the window, and is acknowledged.
pub syn_comes_again : passes (at 1 (gets_syn 5000) ∷ []) in_syn_received ≡ (SynReceived, ack 1001 5001 1024 ∷ []) ∷ []
unfolding arrive emitted after_emission
syn_comes_again = refl

-- The ACK that ends the handshake brings data and the FIN.
pub opened_by_data_and_fin : shown (play (at 1 (gets_data_and_fin 5001 1001 (1 ∷ 2 ∷ [])) ∷ []) in_syn_received)
    ≡ told CloseWait 1 1 1024 (1 ∷ 2 ∷ []) 4 1022 None true ((ack 1001 5004 1022 ∷ []) ∷ [])
unfolding arrive emitted after_emission
opened_by_data_and_fin = refl

-- Data and FIN of the SYN itself are ignored.
pub data_and_fin_of_a_syn : shown (play (at 0 Opens ∷ at 1 (gets_ack 5001 1001 700)
    ∷ []) (open_passive mine peer 1000 (seg 5000 0 3 1024 None (1 ∷ 2 ∷ [])) 1024 1024))
    ≡ told Established 1 1 700 [] 1 1024 None false ((syn_and_ack ∷ []) ∷ [] ∷ [])
unfolding arrive emitted after_emission
data_and_fin_of_a_syn = refl
