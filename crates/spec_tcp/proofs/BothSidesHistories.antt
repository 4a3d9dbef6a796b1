-- Histories of two connections, each of which gets what the other one sends. The passive one's ISS is 5,000.
use Rattle.std.proofs.Common.{◌≡◌, ℕ, true, false, List, [], ◌∷◌, Some, None, refl}
use Rattle.spec_tcp.specs.declared.state.State.TheVariants.{Established, FinWait1, FinWait2, CloseWait, Closing, TimeWait}
use Rattle.spec_tcp.specs.Connection.{Connection}
use Rattle.spec_tcp.specs.Arrival.{arrive}
use Rattle.spec_tcp.specs.Emission.{emitted, after_emission}
use Rattle.spec_tcp.specs.Opening.{open_passive}
use Rattle.spec_tcp.specs.Acts.{Act, Opens, Arrives, Commits, Takes, Shuts, at, after_all}
use Rattle.spec_tcp.proofs.Play.{Sent, goes, play, told, shown, passes, mine, peer, seg}
use Rattle.spec_tcp.proofs.SegmentWords.{syn, ack, last_data, fin, active}

-- what the other side sent arrives; the ports are looked at before
abbrev arriving : Sent → Act
arriving s = Arrives (seg s.seq s.ack s.flags s.wnd s.mss s.load)

abbrev other_side : Connection
other_side = open_passive peer mine 5000 (seg syn.seq syn.ack syn.flags syn.wnd syn.mss syn.load) 1024 1024

abbrev other_syn_and_ack : Sent
other_syn_and_ack = goes 5000 1001 18 1024 (Some 1460) []

-- ---- the handshake

abbrev handshake_ack : Sent
handshake_ack = ack 1001 5001 1024

-- A SYN goes out, and the SYN with ACK that comes back is acknowledged.
pub active_side_opens : shown (play (at 0 Opens ∷ at 0 (arriving other_syn_and_ack) ∷ []) active)
    ≡ told Established 1 1 1024 [] 1 1024 None false ((syn ∷ []) ∷ (handshake_ack ∷ []) ∷ [])
unfolding arrive emitted after_emission
active_side_opens = refl

-- A SYN that came is answered by SYN with ACK, and the ACK of that one ends the handshake.
pub passive_side_opens : shown (play (at 0 Opens ∷ at 0 (arriving handshake_ack) ∷ []) other_side)
    ≡ told Established 1 1 1024 [] 1 1024 None false ((other_syn_and_ack ∷ []) ∷ [] ∷ [])
unfolding arrive emitted after_emission
passive_side_opens = refl

-- ---- a FIN that comes before its data

abbrev hello : List ℕ
hello = 0x68 ∷ 0x65 ∷ 0x6c ∷ 0x6c ∷ 0x6f ∷ []

abbrev hello_data : Sent
hello_data = last_data 1001 5001 1024 hello

abbrev fin_past_hello : Sent
fin_past_hello = fin 1006 5001 1024

-- the receiver's answers to the FIN, and to the data
abbrev ack_of_nothing : Sent
ack_of_nothing = ack 5001 1001 1024

abbrev ack_of_all : Sent
ack_of_all = ack 5001 1007 1019

abbrev opened_here : Connection
opened_here = after_all (at 0 Opens ∷ at 0 (arriving other_syn_and_ack) ∷ []) active

abbrev opened_there : Connection
opened_there = after_all (at 0 Opens ∷ at 0 (arriving handshake_ack) ∷ []) other_side

-- The sender gets two acknowledgements: the first one tells nothing new, and the second one that all has come.
pub sender_of_an_early_fin : shown (play (at 0 (Commits hello) ∷ at 0 Shuts ∷ at 0 (arriving ack_of_nothing) ∷ at 0 (arriving ack_of_all)
    ∷ []) opened_here)
    ≡ told FinWait2 7 7 1019 [] 1 1024 None false ((hello_data ∷ []) ∷ (fin_past_hello ∷ []) ∷ [] ∷ [] ∷ [])
unfolding arrive emitted after_emission
sender_of_an_early_fin = refl

-- The receiver keeps the FIN and acknowledges nothing; once the data has come, it acknowledges the FIN too.
pub receiver_of_an_early_fin : shown (play (at 0 (arriving fin_past_hello) ∷ at 0 (arriving hello_data) ∷ at 0 (Takes 5) ∷ []) opened_there)
    ≡ told CloseWait 1 1 1024 [] 7 1024 None true ((ack_of_nothing ∷ []) ∷ (ack_of_all ∷ []) ∷ [] ∷ [])
unfolding arrive emitted after_emission
receiver_of_an_early_fin = refl

-- Between the two it is in ESTABLISHED, and no byte can be read.
pub receiver_with_a_gap : shown (play (at 0 (arriving fin_past_hello) ∷ []) opened_there)
    ≡ told Established 1 1 1024 [] 1 1024 None false ((ack_of_nothing ∷ []) ∷ [])
unfolding arrive emitted after_emission
receiver_with_a_gap = refl

-- ---- both sides close at once

abbrev fin_here : Sent
fin_here = fin 1001 5001 1024

abbrev fin_there : Sent
fin_there = fin 5001 1001 1024

abbrev ack_here : Sent
ack_here = ack 1002 5002 1024

abbrev ack_there : Sent
ack_there = ack 5002 1002 1024

-- The FINs cross, each is acknowledged, and both sides end in TIME-WAIT.
pub both_close_here : passes (at 0 Shuts ∷ at 0 (arriving fin_there) ∷ at 0 (arriving ack_there) ∷ []) opened_here
    ≡ (FinWait1, fin_here ∷ []) ∷ (Closing, ack_here ∷ []) ∷ (TimeWait, []) ∷ []
unfolding arrive emitted after_emission
both_close_here = refl

pub both_close_there : passes (at 0 Shuts ∷ at 0 (arriving fin_here) ∷ at 0 (arriving ack_here) ∷ []) opened_there
    ≡ (FinWait1, fin_there ∷ []) ∷ (Closing, ack_there ∷ []) ∷ (TimeWait, []) ∷ []
unfolding arrive emitted after_emission
both_close_there = refl
