-- Histories in which the sequence numbers of both sides pass 2^32.
use Rattle.std.proofs.Common.{◌≡◌, true, false, [], ◌∷◌, Some, None, refl}
use Rattle.spec_tcp.specs.declared.state.State.TheVariants.{Established, CloseWait}
use Rattle.spec_tcp.specs.Connection.{Connection}
use Rattle.spec_tcp.specs.Arrival.{arrive}
use Rattle.spec_tcp.specs.Emission.{emitted, after_emission}
use Rattle.spec_tcp.specs.Opening.{open_active}
use Rattle.spec_tcp.specs.Acts.{Opens, Ticks, Commits, at, after_all}
use Rattle.spec_tcp.proofs.Play.{goes, play, told, shown, mine, peer}
use Rattle.spec_tcp.proofs.SegmentWords.{gets_ack, gets_data, gets_fin, gets_syn_and_ack, ack, last_data}

-- this side's first bytes have the last two numbers, and the peer's first byte the last one
abbrev before_the_turn : Connection
before_the_turn = after_all (at 0 Opens ∷ at 0 (gets_syn_and_ack 4294967294 4294967294) ∷ []) (open_active mine peer 4294967293 1024 1024)

-- Data goes out over the turn, the number 0 acknowledges two bytes, and the rest goes out again from there.
pub data_out_over_the_turn : shown (play (at 0 (Commits (1 ∷ 2 ∷ 3 ∷ 4 ∷ 5 ∷ [])) ∷ at 1 (gets_ack 4294967295 0 1024)
    ∷ at 1001 Ticks ∷ []) before_the_turn)
    ≡ told Established 3 6 1024 [] 1 1024 (Some 3001) false ((last_data 4294967294 4294967295 1024 (1 ∷ 2 ∷ 3 ∷ 4 ∷ 5 ∷ []) ∷ []) ∷ []
    ∷ (last_data 0 4294967295 1024 (3 ∷ 4 ∷ 5 ∷ []) ∷ []) ∷ [])
unfolding arrive emitted after_emission
data_out_over_the_turn = refl

-- Data comes over the turn, in one segment.
pub data_in_over_the_turn : shown (play (at 1 (gets_data 4294967295 4294967294 (10 ∷ 11 ∷ 12 ∷ [])) ∷ []) before_the_turn)
    ≡ told Established 1 1 1024 (10 ∷ 11 ∷ 12 ∷ []) 4 1021 None false ((ack 4294967294 2 1021 ∷ []) ∷ [])
unfolding arrive emitted after_emission
data_in_over_the_turn = refl

-- What stands past the turn comes early, and then what stands before it.
pub early_data_over_the_turn : shown (play (at 1 (gets_data 0 4294967294 (11 ∷ 12 ∷ [])) ∷ at 2 (gets_data 4294967295 4294967294 (10 ∷ []))
    ∷ at 3 (gets_fin 2 4294967294) ∷ []) before_the_turn)
    ≡ told CloseWait 1 1 1024 (10 ∷ 11 ∷ 12 ∷ []) 5 1021 None true ((ack 4294967294 4294967295 1024 ∷ []) ∷ (ack 4294967294 2 1021 ∷ [])
    ∷ (ack 4294967294 3 1021 ∷ []) ∷ [])
unfolding arrive emitted after_emission
early_data_over_the_turn = refl

-- The SYN itself has the last number, and 0 acknowledges it.
pub syn_before_the_turn : shown (play (at 0 Opens ∷ at 0 (gets_syn_and_ack 4294967295 0) ∷ at 1 (Commits (7 ∷ [])) ∷ at 2 (gets_ack 0 1 1024)
    ∷ []) (open_active mine peer 4294967295 1024 1024))
    ≡ told Established 2 2 1024 [] 1 1024 None false ((goes 4294967295 0 2 1024 (Some 1460) [] ∷ []) ∷ (ack 0 0 1024 ∷ [])
    ∷ (last_data 0 0 1024 (7 ∷ []) ∷ []) ∷ [] ∷ [])
unfolding arrive emitted after_emission
syn_before_the_turn = refl
