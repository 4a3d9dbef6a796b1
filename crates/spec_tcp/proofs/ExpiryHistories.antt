-- Histories of the retransmission timer.
use Rattle.std.proofs.Common.{◌≡◌, ℕ, false, List, [], ◌∷◌, ◌++◌, Some, None, replicate, refl}
use Rattle.spec_tcp.specs.declared.state.State.TheVariants.{SynSent, SynReceived, Established, FinWait1, Broken}
use Rattle.spec_tcp.specs.Connection.{Connection}
use Rattle.spec_tcp.specs.Arrival.{arrive}
use Rattle.spec_tcp.specs.Emission.{emitted, after_emission}
use Rattle.spec_tcp.specs.Acts.{Moment, Opens, Arrives, Ticks, Commits, Shuts, at, after, after_all}
use Rattle.spec_tcp.proofs.Play.{Sent, play, told, shown, passes, expiries, seg}
use Rattle.spec_tcp.proofs.SegmentWords.{gets_ack, syn, syn_and_ack, ack, last_data, fin, active, passive, in_established}

abbrev hello : List ℕ
hello = 0x68 ∷ 0x65 ∷ 0x6c ∷ 0x6c ∷ 0x6f ∷ []

-- five bytes go out at tick 0
abbrev sent_hello : Connection
sent_hello = after (at 0 (Commits hello)) in_established

abbrev hello_data : Sent
hello_data = last_data 1001 5001 1024 hello

-- eight expiries of a timer that was started at 0
abbrev eight_expiries : List Moment
eight_expiries = at 1000 Ticks ∷ at 3000 Ticks ∷ at 7000 Ticks ∷ at 15000 Ticks ∷ at 31000 Ticks ∷ at 63000 Ticks ∷ at 123000 Ticks
    ∷ at 183000 Ticks ∷ []

-- ---- nine expiries

-- Each time is twice the one before, up to 60,000 ticks, and after the ninth the timer stands.
pub times_of_the_expiries : expiries (at 0 (Commits hello) ∷ eight_expiries ++ at 243000 Ticks ∷ []) in_established
    ≡ Some 1000 ∷ Some 3000 ∷ Some 7000 ∷ Some 15000 ∷ Some 31000 ∷ Some 63000 ∷ Some 123000 ∷ Some 183000 ∷ Some 243000 ∷ None ∷ []
unfolding arrive emitted after_emission
times_of_the_expiries = refl

-- Eight times the data goes out again.
pub data_eight_times : shown (play eight_expiries sent_hello)
    ≡ told Established 1 6 1024 [] 1 1024 (Some 243000) false (replicate 8 (hello_data ∷ []))
unfolding arrive emitted after_emission
data_eight_times = refl

-- At the ninth expiry the connection breaks, and nothing goes out.
pub ninth_expiry : shown (play (at 242999 Ticks ∷ at 243000 Ticks ∷ []) (after_all eight_expiries sent_hello))
    ≡ told Broken 1 6 1024 [] 1 1024 None false ([] ∷ [] ∷ [])
unfolding arrive emitted after_emission
ninth_expiry = refl

-- So it is with a SYN, with SYN and ACK, and with a FIN.
pub syn_nine_times : passes (at 0 Opens ∷ eight_expiries ++ at 243000 Ticks ∷ []) active
    ≡ replicate 9 (SynSent, syn ∷ []) ++ (Broken, []) ∷ []
unfolding arrive emitted after_emission
syn_nine_times = refl

pub syn_and_ack_nine_times : passes (at 0 Opens ∷ eight_expiries ++ at 243000 Ticks ∷ []) passive
    ≡ replicate 9 (SynReceived, syn_and_ack ∷ []) ++ (Broken, []) ∷ []
unfolding arrive emitted after_emission
syn_and_ack_nine_times = refl

pub fin_nine_times : passes (at 0 Shuts ∷ eight_expiries ++ at 243000 Ticks ∷ []) in_established
    ≡ replicate 9 (FinWait1, fin 1001 5001 1024 ∷ []) ++ (Broken, []) ∷ []
unfolding arrive emitted after_emission
fin_nine_times = refl

-- ---- something is heard in between

-- nine expiries from the ninth on, each 60,000 ticks after the one before
abbrev nine_more : List Moment
nine_more = at 243000 Ticks ∷ at 303000 Ticks ∷ at 363000 Ticks ∷ at 423000 Ticks ∷ at 483000 Ticks ∷ at 543000 Ticks ∷ at 603000 Ticks
    ∷ at 663000 Ticks ∷ at 723000 Ticks ∷ []

-- An acknowledgement that tells nothing new comes before the ninth expiry: nine more follow, each after 60,000 ticks.
pub heard_before_the_ninth : expiries (at 200000 (gets_ack 5001 1001 1024) ∷ nine_more) (after_all eight_expiries sent_hello)
    ≡ Some 243000 ∷ Some 303000 ∷ Some 363000 ∷ Some 423000 ∷ Some 483000 ∷ Some 543000 ∷ Some 603000 ∷ Some 663000 ∷ Some 723000 ∷ None ∷ []
unfolding arrive emitted after_emission
heard_before_the_ninth = refl

pub states_after_it : passes (at 200000 (gets_ack 5001 1001 1024) ∷ nine_more) (after_all eight_expiries sent_hello)
    ≡ (Established, []) ∷ replicate 8 (Established, hello_data ∷ []) ++ (Broken, []) ∷ []
unfolding arrive emitted after_emission
states_after_it = refl

-- A segment before the window, and one without ACK, are not heard.
pub not_heard_before_the_ninth : passes (at 200000 (gets_ack 4999 1001 1024) ∷ at 200000 (Arrives (seg 5001 0 8 1024 None (1 ∷ [])))
    ∷ at 243000 Ticks ∷ []) (after_all eight_expiries sent_hello)
    ≡ (Established, ack 1006 5001 1024 ∷ []) ∷ (Established, []) ∷ (Broken, []) ∷ []
unfolding arrive emitted after_emission
not_heard_before_the_ninth = refl

-- An acknowledgement above SND.NXT is heard.
pub wrong_ack_is_heard : passes (at 200000 (gets_ack 5001 1007 1024) ∷ at 243000 Ticks ∷ []) (after_all eight_expiries sent_hello)
    ≡ (Established, ack 1006 5001 1024 ∷ []) ∷ (Established, hello_data ∷ []) ∷ []
unfolding arrive emitted after_emission
wrong_ack_is_heard = refl

-- ---- more is acknowledged

-- The time is 1,000 ticks again, from the acknowledgement on, for what is left; it stands once nothing is left.
pub time_anew : expiries (at 0 (Commits hello) ∷ at 1000 Ticks ∷ at 1500 (gets_ack 5001 1003 1024) ∷ at 2500 Ticks
    ∷ at 2600 (gets_ack 5001 1006 1024) ∷ at 2700 (Commits (1 ∷ [])) ∷ []) in_established
    ≡ Some 1000 ∷ Some 3000 ∷ Some 2500 ∷ Some 4500 ∷ None ∷ Some 3700 ∷ []
unfolding arrive emitted after_emission
time_anew = refl

-- Only what is left goes out again.
pub the_rest_again : passes (at 1500 (gets_ack 5001 1003 1024) ∷ at 2500 Ticks ∷ []) sent_hello
    ≡ (Established, []) ∷ (Established, last_data 1003 5001 1024 (0x6c ∷ 0x6c ∷ 0x6f ∷ []) ∷ []) ∷ []
unfolding arrive emitted after_emission
the_rest_again = refl

-- A timer that runs goes on when more is sent.
pub more_is_sent : expiries (at 0 (Commits hello) ∷ at 500 (Commits hello) ∷ []) in_established ≡ Some 1000 ∷ Some 1000 ∷ []
unfolding arrive emitted after_emission
more_is_sent = refl
