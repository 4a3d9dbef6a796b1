-- An arrival keeps what a connection keeps.
use Rattle.std.proofs.Common.{◌≡◌, ℕ, ◌+◌, Bool, true, false, not, ◌&&◌, refl, sym, ap, arith, nat_lt, ◌==◌, if◌then◌else◌}
use Rattle.std.proofs.lemmas.Bool.{and_parts}
use Rattle.std.proofs.lemmas.Bool.Decides.{nat_tests}
use Rattle.spec_wire.specs.Segment.{Segment, has, syn_flag, rst_flag, ack_flag, seg_len}
use Rattle.spec_tcp.specs.declared.state.State.{State}
use Rattle.spec_tcp.specs.declared.state.State.TheVariants.{SynSent, SynReceived, Established, FinWait1, FinWait2, CloseWait, Closing, LastAck, TimeWait, Closed, Broken}
use Rattle.spec_tcp.specs.Connection.{Connection}
use Rattle.spec_tcp.specs.Arrival.{broken, drawing, una_from, window_from, fin_acked, text_from, established, owing, ack_of, seq_of, in_syn_sent, is_acceptable, acknowledged_in, accepted, heard_if, otherwise, arrived_in, arrive}
use Rattle.laws_tcp.proofs.States.{is_opening, is_before_syn}
use Rattle.laws_tcp.proofs.Sides.{IsKept, Goes, kept_after}
use Rattle.laws_tcp.proofs.Sender.{ge_of}
use Rattle.laws_tcp.proofs.Steps.{goes_same, goes_then, goes_if, goes_broken, goes_broken_in, goes_window, goes_una, goes_fin_acked, goes_text, goes_opened, goes_established}

stays : (c : Connection) → IsKept c → Goes c c
stays c h = goes_same c c refl refl refl h

owes : (c : Connection) → IsKept c → Goes c (owing c)
owes c h = goes_same c (owing c) refl refl refl h

-- ---- in SYN-SENT

is_acked : (ack syn : Bool) (position at : ℕ) → (ack && not (position == at)) ≡ false → (syn && ack) ≡ true → position ≡ at
is_acked ack syn position at e f = by_ack ack (and_parts syn ack f).1 e
  where
    by_ack : (ack : Bool) → ack ≡ true → (ack && not (position == at)) ≡ false → position ≡ at
    by_ack false g e = absurd cc
    by_ack true g e = grind (arith, nat_tests)

goes_syn_sent : (c : Connection) (s : Segment) (now : ℕ) → SynSent ≡ c.state → IsKept c → Goes c (in_syn_sent c s now)
goes_syn_sent c s now e h =
    goes_if c (has ack_flag s && not (ack_of c s == c.snd.iss + 1)) _ _
    (λ g. goes_if c (has rst_flag s) c (drawing c s.ack) (λ r. stays c h) (λ r. goes_same c _ refl refl refl h))
    (λ g. goes_if c (has rst_flag s) _ _
    (λ r. goes_if c (has ack_flag s) (broken c) c (λ a. goes_broken c h) (λ a. stays c h))
    (λ r. goes_if c (has syn_flag s && has ack_flag s) _ c (λ b. goes_opened c s now e (is_acked (has ack_flag s) (has syn_flag s) (ack_of c s) (c.snd.iss + 1) g b) h) (λ b. stays c h)))

-- ---- otherwise

goes_risen : (c : Connection) (seq : ℕ) (s : Segment) (now : ℕ) → is_opening c.state ≡ false → IsKept c
    → Goes c (if nat_lt c.snd.nxt (ack_of c s) then owing c else text_from (fin_acked (window_from (una_from c (ack_of c s) now) s.wnd seq (ack_of c s))) seq s)
goes_risen c seq s now o h =
    goes_if c (nat_lt c.snd.nxt (ack_of c s)) _ _ (λ g. owes c h)
    (λ g.
    let d = una_from c (ack_of c s) now in
    let to_d = goes_una c (ack_of c s) now o (ge_of c.snd.nxt (ack_of c s) g) h in
    let e = window_from d s.wnd seq (ack_of c s) in
    let to_e = goes_window d s.wnd seq (ack_of c s) (kept_after c d to_d) in
    let to_f = goes_fin_acked e (kept_after d e to_e) in
    let to_g = goes_text (fin_acked e) seq s (kept_after e (fin_acked e) to_f) in
    goes_then c d _ to_d (goes_then d e _ to_e (goes_then e (fin_acked e) _ to_f to_g)))

goes_syn_acked : (c : Connection) (seq : ℕ) (s : Segment) (now : ℕ) → SynReceived ≡ c.state → IsKept c → Goes c (acknowledged_in SynReceived c seq s now)
goes_syn_acked c seq s now is h =
    goes_if c (ack_of c s == c.snd.iss + 1) _ _
    (λ g.
    let at : ack_of c s ≡ c.snd.iss + 1 = grind (arith, nat_tests) in
    let d = established c (ack_of c s) now in
    let to_d = goes_established c (ack_of c s) now is at h in
    let e = window_from d s.wnd seq (ack_of c s) in
    let to_e = goes_window d s.wnd seq (ack_of c s) (kept_after c d to_d) in
    let to_f = goes_text e seq s (kept_after d e to_e) in
    goes_then c d _ to_d (goes_then d e _ to_e to_f))
    (λ g. goes_same c _ refl refl refl h)

goes_acknowledged : (a : State) (c : Connection) (seq : ℕ) (s : Segment) (now : ℕ) → a ≡ c.state → is_before_syn a ≡ false → IsKept c → Goes c (acknowledged_in a c seq s now)
goes_acknowledged SynSent c seq s now is e h = absurd cc
goes_acknowledged SynReceived c seq s now is e h = goes_syn_acked c seq s now is h
goes_acknowledged Established c seq s now is e h = goes_risen c seq s now (ap is_opening (sym is)) h
goes_acknowledged FinWait1 c seq s now is e h = goes_risen c seq s now (ap is_opening (sym is)) h
goes_acknowledged FinWait2 c seq s now is e h = goes_risen c seq s now (ap is_opening (sym is)) h
goes_acknowledged CloseWait c seq s now is e h = goes_risen c seq s now (ap is_opening (sym is)) h
goes_acknowledged Closing c seq s now is e h = goes_risen c seq s now (ap is_opening (sym is)) h
goes_acknowledged LastAck c seq s now is e h = goes_risen c seq s now (ap is_opening (sym is)) h
goes_acknowledged TimeWait c seq s now is e h = goes_risen c seq s now (ap is_opening (sym is)) h
goes_acknowledged Closed c seq s now is e h = goes_risen c seq s now (ap is_opening (sym is)) h
goes_acknowledged Broken c seq s now is e h = goes_risen c seq s now (ap is_opening (sym is)) h

goes_accepted : (c : Connection) (seq : ℕ) (s : Segment) (now : ℕ) → is_before_syn c.state ≡ false → IsKept c → Goes c (accepted c seq s now)
goes_accepted c seq s now e h =
    goes_if c (has rst_flag s) _ _
    (λ r. goes_if c (seq == c.rcv.nxt) _ _ (λ g. goes_broken_in c.state c h) (λ g. owes c h))
    (λ r. goes_if c (has syn_flag s) _ _ (λ g. owes c h)
    (λ g. goes_if c (has ack_flag s) _ c (λ a. goes_acknowledged c.state c seq s now refl e h) (λ a. stays c h)))

goes_otherwise : (c : Connection) (s : Segment) (now : ℕ) → is_before_syn c.state ≡ false → IsKept c → Goes c (otherwise c s now)
goes_otherwise c s now e h =
    let d = heard_if (has ack_flag s) c in
    let to_d = goes_same c d refl refl refl h in
    goes_if c (is_acceptable c.rcv (seq_of c s) (seg_len s)) _ _
    (λ g. goes_then c d _ to_d (goes_accepted d (seq_of c s) s now e (kept_after c d to_d)))
    (λ g. goes_if c (has rst_flag s) c (owing c) (λ r. stays c h) (λ r. owes c h))

goes_arrived : (a : State) (c : Connection) (s : Segment) (now : ℕ) → a ≡ c.state → IsKept c → Goes c (arrived_in a c s now)
goes_arrived SynSent c s now is h = goes_syn_sent c s now is h
goes_arrived Closed c s now is h = stays c h
goes_arrived Broken c s now is h = stays c h
goes_arrived SynReceived c s now is h = goes_otherwise c s now (ap is_before_syn (sym is)) h
goes_arrived Established c s now is h = goes_otherwise c s now (ap is_before_syn (sym is)) h
goes_arrived FinWait1 c s now is h = goes_otherwise c s now (ap is_before_syn (sym is)) h
goes_arrived FinWait2 c s now is h = goes_otherwise c s now (ap is_before_syn (sym is)) h
goes_arrived CloseWait c s now is h = goes_otherwise c s now (ap is_before_syn (sym is)) h
goes_arrived Closing c s now is h = goes_otherwise c s now (ap is_before_syn (sym is)) h
goes_arrived LastAck c s now is h = goes_otherwise c s now (ap is_before_syn (sym is)) h
goes_arrived TimeWait c s now is h = goes_otherwise c s now (ap is_before_syn (sym is)) h

pub goes_arrive : (c : Connection) (s : Segment) (now : ℕ) → IsKept c → Goes c (arrive c s now)
unfolding arrive
goes_arrive c s now h = goes_arrived c.state c s now refl h
