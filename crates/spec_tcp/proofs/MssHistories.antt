-- Histories of the MSS option: how the data is cut that goes out.
use Rattle.std.proofs.Common.{◌≡◌, ℕ, List, [], ◌∷◌, ◌+◌, Option, Some, None, replicate, refl}
use Rattle.spec_tcp.specs.declared.state.State.TheVariants.{SynReceived, Established}
use Rattle.spec_tcp.specs.Connection.{Connection}
use Rattle.spec_tcp.specs.Arrival.{arrive}
use Rattle.spec_tcp.specs.Emission.{emitted, after_emission}
use Rattle.spec_tcp.specs.Opening.{open_active, open_passive}
use Rattle.spec_tcp.specs.Acts.{Opens, Arrives, Commits, at, after_all}
use Rattle.spec_tcp.proofs.Play.{Sent, passes, mine, peer, seg}
use Rattle.spec_tcp.proofs.SegmentWords.{syn_and_ack, part_data, last_data}

-- a connection to a peer with this MSS option and a great window
abbrev with_mss : Option ℕ → Connection
with_mss mss = after_all (at 0 Opens ∷ at 0 (Arrives (seg 5000 1001 18 65535 mss [])) ∷ []) (open_active mine peer 1000 4096 1024)

-- the first so many bytes of one more, and then the last one
abbrev cut_at : ℕ → List Sent
cut_at n = part_data 1001 5001 1024 (replicate n 7) ∷ last_data (1001 + n) 5001 1024 (7 ∷ []) ∷ []

-- With no option a segment has 536 bytes of data.
pub no_option : passes (at 1 (Commits (replicate 537 7)) ∷ []) (with_mss None) ≡ (Established, cut_at 536) ∷ []
unfolding arrive emitted after_emission
no_option = refl

-- Between 64 and 1,460 the option counts.
pub option_of_64 : passes (at 1 (Commits (replicate 65 7)) ∷ []) (with_mss (Some 64)) ≡ (Established, cut_at 64) ∷ []
unfolding arrive emitted after_emission
option_of_64 = refl

pub option_of_65 : passes (at 1 (Commits (replicate 66 7)) ∷ []) (with_mss (Some 65)) ≡ (Established, cut_at 65) ∷ []
unfolding arrive emitted after_emission
option_of_65 = refl

pub option_of_1459 : passes (at 1 (Commits (replicate 1460 7)) ∷ []) (with_mss (Some 1459)) ≡ (Established, cut_at 1459) ∷ []
unfolding arrive emitted after_emission
option_of_1459 = refl

pub option_of_1460 : passes (at 1 (Commits (replicate 1461 7)) ∷ []) (with_mss (Some 1460)) ≡ (Established, cut_at 1460) ∷ []
unfolding arrive emitted after_emission
option_of_1460 = refl

-- Less counts as 64, and more as 1,460.
pub option_of_63 : passes (at 1 (Commits (replicate 65 7)) ∷ []) (with_mss (Some 63)) ≡ (Established, cut_at 64) ∷ []
unfolding arrive emitted after_emission
option_of_63 = refl

pub option_of_0 : passes (at 1 (Commits (replicate 65 7)) ∷ []) (with_mss (Some 0)) ≡ (Established, cut_at 64) ∷ []
unfolding arrive emitted after_emission
option_of_0 = refl

pub option_of_1461 : passes (at 1 (Commits (replicate 1461 7)) ∷ []) (with_mss (Some 1461)) ≡ (Established, cut_at 1460) ∷ []
unfolding arrive emitted after_emission
option_of_1461 = refl

pub option_of_65535 : passes (at 1 (Commits (replicate 1461 7)) ∷ []) (with_mss (Some 65535)) ≡ (Established, cut_at 1460) ∷ []
unfolding arrive emitted after_emission
option_of_65535 = refl

-- At a passive open the option of the SYN counts, and that of a later segment doesn't.
pub option_of_a_syn : passes (at 0 Opens ∷ at 0 (Arrives (seg 5001 1001 16 65535 (Some 200) [])) ∷ at 1 (Commits (replicate 101 7)) ∷ [])
    (open_passive mine peer 1000 (seg 5000 0 2 65535 (Some 100) []) 4096 1024)
    ≡ (SynReceived, syn_and_ack ∷ []) ∷ (Established, []) ∷ (Established, cut_at 100) ∷ []
unfolding arrive emitted after_emission
option_of_a_syn = refl
