-- Histories of the windows: the peer's window of 0 and its probe, and when a take is told.
use Rattle.std.proofs.Common.{◌≡◌, false, List, [], ◌∷◌, Some, replicate, refl}
use Rattle.spec_tcp.specs.declared.state.State.TheVariants.{SynSent, Established, FinWait1, CloseWait}
use Rattle.spec_tcp.specs.Arrival.{arrive}
use Rattle.spec_tcp.specs.Emission.{emitted, after_emission}
use Rattle.spec_tcp.specs.Opening.{open_active}
use Rattle.spec_tcp.specs.Acts.{Moment, Opens, Ticks, Commits, Takes, Shuts, at, after_all}
use Rattle.spec_tcp.proofs.Play.{Sent, goes, play, told, shown, passes, mine, peer}
use Rattle.spec_tcp.proofs.SegmentWords.{gets_ack, gets_data, gets_data_and_fin, gets_syn_and_ack, ack, part_data, last_data, fin, in_established}

-- ---- the peer's window is 0

-- Three bytes wait: one goes out past the window when the time expires, and that one again when it expires anew.
abbrev probing : List Moment
probing = at 1 (gets_ack 5001 1001 0) ∷ at 2 (Commits (7 ∷ 8 ∷ 9 ∷ [])) ∷ at 1002 Ticks ∷ at 3002 Ticks ∷ []

abbrev probe : Sent
probe = part_data 1001 5001 1024 (7 ∷ [])

pub probe_twice : shown (play probing in_established)
    ≡ told Established 1 2 0 [] 1 1024 (Some 7002) false ([] ∷ [] ∷ (probe ∷ []) ∷ (probe ∷ []) ∷ [])
unfolding arrive emitted after_emission
probe_twice = refl

-- The peer took the byte and opens its window: the others go out.
pub window_opens : shown (play (at 3003 (gets_ack 5001 1001 0) ∷ at 4000 (gets_ack 5001 1002 100) ∷ []) (after_all probing in_established))
    ≡ told Established 2 4 100 [] 1 1024 (Some 5000) false ([] ∷ (last_data 1002 5001 1024 (8 ∷ 9 ∷ []) ∷ []) ∷ [])
unfolding arrive emitted after_emission
window_opens = refl

-- The peer didn't take it: the others go out, and the timer goes on for the byte.
pub window_opens_without_the_byte : shown (play (at 4000 (gets_ack 5001 1001 100) ∷ []) (after_all probing in_established))
    ≡ told Established 1 4 100 [] 1 1024 (Some 7002) false ((last_data 1002 5001 1024 (8 ∷ 9 ∷ []) ∷ []) ∷ [])
unfolding arrive emitted after_emission
window_opens_without_the_byte = refl

-- A FIN waits too, and is its own probe.
pub fin_past_the_window : shown (play (at 1 (gets_ack 5001 1001 0) ∷ at 2 Shuts ∷ at 1002 Ticks ∷ []) in_established)
    ≡ told FinWait1 1 2 0 [] 1 1024 (Some 3002) false ([] ∷ [] ∷ (fin 1001 5001 1024 ∷ []) ∷ [])
unfolding arrive emitted after_emission
fin_past_the_window = refl

-- An older segment doesn't set the send window, and the same one again does.
pub older_window : shown (play (at 1 (Commits (1 ∷ 2 ∷ 3 ∷ [])) ∷ at 2 (gets_ack 5001 1003 500) ∷ at 3 (gets_ack 5001 1002 900) ∷ []) in_established)
    ≡ told Established 3 4 500 [] 1 1024 (Some 1002) false ((last_data 1001 5001 1024 (1 ∷ 2 ∷ 3 ∷ []) ∷ []) ∷ [] ∷ [] ∷ [])
unfolding arrive emitted after_emission
older_window = refl

pub same_place_again : (after_all (at 1 (gets_ack 5001 1001 500) ∷ at 2 (gets_ack 5001 1001 900) ∷ []) in_established).snd.wnd ≡ 900
unfolding arrive emitted after_emission
same_place_again = refl

-- ---- takes

-- The update is owed at exactly half a window past the edge that was told, and not one byte earlier.
pub take_of_half_a_window : passes (at 1 (gets_data 5001 1001 (replicate 600 7)) ∷ at 2 (Takes 511) ∷ at 3 (Takes 1) ∷ at 4 (Takes 88)
    ∷ []) in_established
    ≡ (Established, ack 1001 5601 424 ∷ []) ∷ (Established, []) ∷ (Established, ack 1001 5601 936 ∷ []) ∷ (Established, []) ∷ []
unfolding arrive emitted after_emission
take_of_half_a_window = refl

pub take_of_half_a_window_at_once : passes (at 1 (gets_data 5001 1001 (replicate 600 7)) ∷ at 2 (Takes 512) ∷ []) in_established
    ≡ (Established, ack 1001 5601 424 ∷ []) ∷ (Established, ack 1001 5601 936 ∷ []) ∷ []
unfolding arrive emitted after_emission
take_of_half_a_window_at_once = refl

-- Data that goes out tells the window, and the next update is owed half a window past that.
pub edge_told_by_data : passes (at 1 (gets_data 5001 1001 (replicate 1024 7)) ∷ at 2 (Takes 511) ∷ at 3 (Commits (1 ∷ [])) ∷ at 4 (Takes 511)
    ∷ at 5 (Takes 1) ∷ []) in_established
    ≡ (Established, ack 1001 6025 0 ∷ []) ∷ (Established, []) ∷ (Established, last_data 1001 6025 511 (1 ∷ []) ∷ []) ∷ (Established, [])
    ∷ (Established, ack 1002 6025 1023 ∷ []) ∷ []
unfolding arrive emitted after_emission
edge_told_by_data = refl

-- Of a great window 1,460 bytes are enough.
pub take_of_1460 : passes (at 0 Opens ∷ at 0 (gets_syn_and_ack 5000 1001) ∷ at 1 (gets_data 5001 1001 (replicate 1500 7)) ∷ at 2 (Takes 1459)
    ∷ at 3 (Takes 1) ∷ []) (open_active mine peer 1000 1024 4096)
    ≡ (SynSent, goes 1000 0 2 4096 (Some 1460) [] ∷ []) ∷ (Established, ack 1001 5001 4096 ∷ []) ∷ (Established, ack 1001 6501 2596 ∷ [])
    ∷ (Established, []) ∷ (Established, ack 1001 6501 4056 ∷ []) ∷ []
unfolding arrive emitted after_emission
take_of_1460 = refl

-- Past the peer's FIN no update is owed.
pub take_in_close_wait : passes (at 1 (gets_data_and_fin 5001 1001 (replicate 600 7)) ∷ at 2 (Takes 600) ∷ []) in_established
    ≡ (CloseWait, ack 1001 5602 424 ∷ []) ∷ (CloseWait, []) ∷ []
unfolding arrive emitted after_emission
take_in_close_wait = refl
