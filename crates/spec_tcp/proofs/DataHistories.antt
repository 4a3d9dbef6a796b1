-- Histories of data and FIN: what is kept, what is challenged, and how much goes out in an event.
use Rattle.std.proofs.Common.{◌≡◌, ℕ, true, false, [], ◌∷◌, Some, None, replicate, refl}
use Rattle.spec_tcp.specs.declared.state.State.TheVariants.{Established, FinWait1, CloseWait}
use Rattle.spec_tcp.specs.Connection.{Connection}
use Rattle.spec_tcp.specs.Arrival.{arrive}
use Rattle.spec_tcp.specs.Emission.{emitted, after_emission}
use Rattle.spec_tcp.specs.Opening.{open_active}
use Rattle.spec_tcp.specs.Acts.{Opens, Arrives, Ticks, Commits, Takes, Shuts, Closes, at, after_all}
use Rattle.spec_tcp.proofs.Play.{Sent, play, told, shown, passes, mine, peer, seg}
use Rattle.spec_tcp.proofs.SegmentWords.{gets_ack, gets_data, gets_fin, gets_data_and_fin, gets_syn, gets_syn_and_ack, ack, part_data, last_data, fin, in_established}

-- ---- early data

-- An early byte is replaced by a later one of its place, and read once the gap is filled.
pub early_byte_is_replaced : shown (play (at 1 (gets_data 5003 1001 (30 ∷ [])) ∷ at 2 (gets_data 5003 1001 (31 ∷ 40 ∷ []))
    ∷ at 3 (gets_data 5001 1001 (10 ∷ 20 ∷ [])) ∷ []) in_established)
    ≡ told Established 1 1 1024 (10 ∷ 20 ∷ 31 ∷ 40 ∷ []) 5 1020 None false ((ack 1001 5001 1024 ∷ []) ∷ (ack 1001 5001 1024 ∷ [])
    ∷ (ack 1001 5005 1020 ∷ []) ∷ [])
unfolding arrive emitted after_emission
early_byte_is_replaced = refl

-- A byte in order is not replaced; what stands past it in the same segment is kept.
pub byte_in_order_is_not_replaced : shown (play (at 1 (gets_data 5001 1001 (10 ∷ 20 ∷ [])) ∷ at 2 (gets_data 5002 1001 (21 ∷ 30 ∷ []))
    ∷ []) in_established)
    ≡ told Established 1 1 1024 (10 ∷ 20 ∷ 30 ∷ []) 4 1021 None false ((ack 1001 5003 1022 ∷ []) ∷ (ack 1001 5004 1021 ∷ []) ∷ [])
unfolding arrive emitted after_emission
byte_in_order_is_not_replaced = refl

-- ---- the FIN

-- a window of 8 bytes
abbrev with_a_small_window : Connection
with_a_small_window = after_all (at 0 Opens ∷ at 0 (gets_syn_and_ack 5000 1001) ∷ []) (open_active mine peer 1000 1024 8)

-- A FIN past the window is not kept, and is taken when it comes again.
pub fin_past_the_window : passes (at 1 (gets_data_and_fin 5001 1001 (replicate 8 7)) ∷ at 2 (Takes 8) ∷ at 3 (gets_fin 5009 1001)
    ∷ []) with_a_small_window
    ≡ (Established, ack 1001 5009 0 ∷ []) ∷ (Established, ack 1001 5009 8 ∷ []) ∷ (CloseWait, ack 1001 5010 8 ∷ []) ∷ []
unfolding arrive emitted after_emission
fin_past_the_window = refl

-- A FIN at the last place of the window is.
pub fin_at_the_last_place : passes (at 1 (gets_data_and_fin 5001 1001 (replicate 7 7))
    ∷ []) with_a_small_window ≡ (CloseWait, ack 1001 5009 1 ∷ []) ∷ []
unfolding arrive emitted after_emission
fin_at_the_last_place = refl

-- A FIN that came is replaced by a later one of another place; what stands past it is never read.
pub fin_is_replaced : shown (play (at 1 (gets_fin 5005 1001) ∷ at 2 (gets_data 5003 1001 (3 ∷ 4 ∷ [])) ∷ at 3 (gets_fin 5003 1001)
    ∷ at 4 (gets_data 5001 1001 (1 ∷ 2 ∷ [])) ∷ []) in_established)
    ≡ told CloseWait 1 1 1024 (1 ∷ 2 ∷ []) 4 1022 None true ((ack 1001 5001 1024 ∷ []) ∷ (ack 1001 5001 1024 ∷ []) ∷ (ack 1001 5001 1024 ∷ [])
    ∷ (ack 1001 5004 1022 ∷ []) ∷ [])
unfolding arrive emitted after_emission
fin_is_replaced = refl

-- ---- what comes after a close counts as taken

pub after_a_close : shown (play (at 1 (gets_data 5001 1001 (1 ∷ 2 ∷ 3 ∷ [])) ∷ at 2 Closes ∷ at 2 Shuts ∷ at 3 (gets_data 5004 1001 (4 ∷ 5 ∷ []))
    ∷ []) in_established)
    ≡ told FinWait1 1 2 1024 [] 6 1024 (Some 1002) false ((ack 1001 5004 1021 ∷ []) ∷ [] ∷ (fin 1001 5004 1024 ∷ []) ∷ (ack 1002 5006 1024 ∷ []) ∷ [])
unfolding arrive emitted after_emission
after_a_close = refl

-- A close of more than half a window alone is not told; the FIN after it tells the window.
pub close_of_many_bytes : passes (at 1 (gets_data 5001 1001 (replicate 600 7)) ∷ at 2 Closes ∷ at 3 Shuts ∷ []) in_established
    ≡ (Established, ack 1001 5601 424 ∷ []) ∷ (Established, []) ∷ (FinWait1, fin 1001 5601 1024 ∷ []) ∷ []
unfolding arrive emitted after_emission
close_of_many_bytes = refl

-- ---- challenges

-- A SYN is answered by an acknowledgement, within the window and outside it.
pub syn_in_established : passes (at 1 (gets_syn 5001) ∷ at 2 (gets_syn 9000) ∷ at 3 (gets_syn_and_ack 5000 1001) ∷ []) in_established
    ≡ (Established, ack 1001 5001 1024 ∷ []) ∷ (Established, ack 1001 5001 1024 ∷ []) ∷ (Established, ack 1001 5001 1024 ∷ []) ∷ []
unfolding arrive emitted after_emission
syn_in_established = refl

-- So is an acknowledgement above SND.NXT, whose data and window are dropped.
pub ack_above_snd_nxt : shown (play (at 1 (Commits (7 ∷ 8 ∷ [])) ∷ at 2 (Arrives (seg 5001 1004 24 5 None (1 ∷ [])))
    ∷ at 3 (gets_ack 5001 1003 600) ∷ []) in_established)
    ≡ told Established 3 3 600 [] 1 1024 None false ((last_data 1001 5001 1024 (7 ∷ 8 ∷ []) ∷ []) ∷ (ack 1003 5001 1024 ∷ []) ∷ [] ∷ [])
unfolding arrive emitted after_emission
ack_above_snd_nxt = refl

-- A segment without ACK is dropped.
pub data_without_ack : passes (at 1 (Arrives (seg 5001 0 8 1024 None (1 ∷ []))) ∷ []) in_established ≡ (Established, []) ∷ []
unfolding arrive emitted after_emission
data_without_ack = refl

-- Data at a full window, and data before it, is challenged, and its acknowledgement is dropped with it.
pub data_at_a_full_window : shown (play (at 1 (gets_data 5001 1001 (replicate 8 7)) ∷ at 2 (Commits (9 ∷ []))
    ∷ at 3 (gets_data 5009 1002 (1 ∷ [])) ∷ at 4 (gets_data 5001 1002 (7 ∷ [])) ∷ []) with_a_small_window)
    ≡ told Established 1 2 1024 (replicate 8 7) 9 0 (Some 1002) false ((ack 1001 5009 0 ∷ []) ∷ (last_data 1001 5009 0 (9 ∷ []) ∷ [])
    ∷ (ack 1002 5009 0 ∷ []) ∷ (ack 1002 5009 0 ∷ []) ∷ [])
unfolding arrive emitted after_emission
data_at_a_full_window = refl

-- ---- data that goes out

-- a peer that takes segments of 100 bytes, and a send window of 2,000
abbrev in_hundreds : Connection
in_hundreds = after_all (at 0 Opens ∷ at 0 (Arrives (seg 5000 1001 18 1000 (Some 100) [])) ∷ []) (open_active mine peer 1000 2000 1024)

abbrev hundred : ℕ → Sent
hundred seq = part_data seq 5001 1024 (replicate 100 7)

-- Four data segments go out in an event and no more; the rest and the FIN follow in the next one.
pub four_segments_an_event : passes (at 1 (Commits (replicate 450 7)) ∷ at 1 Shuts ∷ []) in_hundreds
    ≡ (Established, hundred 1001 ∷ hundred 1101 ∷ hundred 1201 ∷ hundred 1301 ∷ [])
    ∷ (FinWait1, last_data 1401 5001 1024 (replicate 50 7) ∷ fin 1451 5001 1024 ∷ []) ∷ []
unfolding arrive emitted after_emission
four_segments_an_event = refl

-- The time expires: one segment goes out again, and three new ones.
pub three_after_one_again : passes (at 0 (Commits (replicate 900 7)) ∷ at 1000 Ticks ∷ []) in_hundreds
    ≡ (Established, hundred 1001 ∷ hundred 1101 ∷ hundred 1201 ∷ hundred 1301 ∷ [])
    ∷ (Established, hundred 1001 ∷ hundred 1401 ∷ hundred 1501 ∷ hundred 1601 ∷ []) ∷ []
unfolding arrive emitted after_emission
three_after_one_again = refl

-- The peer's window ends within the second segment.
pub cut_at_the_window : passes (at 1 (gets_ack 5001 1001 150) ∷ at 2 (Commits (replicate 300 7)) ∷ []) in_hundreds
    ≡ (Established, []) ∷ (Established, hundred 1001 ∷ part_data 1101 5001 1024 (replicate 50 7) ∷ []) ∷ []
unfolding arrive emitted after_emission
cut_at_the_window = refl
