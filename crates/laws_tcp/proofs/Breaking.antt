-- A connection that breaks by an arrival was reset at exactly RCV.NXT.
use Rattle.std.proofs.Common.{◌≡◌, ◌≢◌, ℕ, ◌+◌, Bool, true, false, refl, sym, ap, ◌∙◌, nat_lt, ◌==◌, if◌then◌else◌}
use Rattle.std.proofs.lemmas.Bool.{eqb-true, eq-eqb}
use Rattle.spec_wire.specs.Segment.{Segment, has, syn_flag, rst_flag, ack_flag, seg_len}
use Rattle.spec_tcp.specs.declared.state.State.{State}
use Rattle.spec_tcp.specs.declared.state.State.TheVariants.{SynSent, SynReceived, Established, FinWait1, FinWait2, CloseWait, Closing, LastAck, TimeWait, Closed, Broken}
use Rattle.spec_tcp.specs.Connection.{Connection}
use Rattle.spec_tcp.specs.Arrival.{broken_in, after_fin_acked, after_fin, is_fin_acked, fin_acked, takes_data, text_from, texted, text_in, una_from, window_from, established, drawing, owing, ack_of, seq_of, is_acceptable, acknowledged_in, accepted, heard_if, otherwise, arrived_in, arrive}
use Rattle.spec_tcp.specs.Emission.{is_broken}
use Rattle.laws_tcp.specs.Laws.{is_resettable}
use Rattle.laws_tcp.proofs.States.{is_before_syn}

whole_if : (g : Bool) (a b : State) → is_broken a ≡ false → is_broken b ≡ false → is_broken (if g then a else b) ≡ false
whole_if true a b h k = h
whole_if false a b h k = k

whole_fin : (a : State) → is_broken a ≡ false → is_broken (after_fin a) ≡ false
whole_fin SynSent h = refl
whole_fin SynReceived h = refl
whole_fin Established h = refl
whole_fin FinWait1 h = refl
whole_fin FinWait2 h = refl
whole_fin CloseWait h = refl
whole_fin Closing h = refl
whole_fin LastAck h = refl
whole_fin TimeWait h = refl
whole_fin Closed h = refl
whole_fin Broken h = h

whole_fin_acked : (a : State) → is_broken a ≡ false → is_broken (after_fin_acked a) ≡ false
whole_fin_acked SynSent h = refl
whole_fin_acked SynReceived h = refl
whole_fin_acked Established h = refl
whole_fin_acked FinWait1 h = refl
whole_fin_acked FinWait2 h = refl
whole_fin_acked CloseWait h = refl
whole_fin_acked Closing h = refl
whole_fin_acked LastAck h = refl
whole_fin_acked TimeWait h = refl
whole_fin_acked Closed h = refl
whole_fin_acked Broken h = h

-- the connection is not broken
abbrev IsWhole : Connection → Type 0
IsWhole c = is_broken c.state ≡ false

if_whole : (g : Bool) (c d : Connection) → (g ≡ true → IsWhole c) → (g ≡ false → IsWhole d) → IsWhole (if g then c else d)
if_whole true c d h k = h refl
if_whole false c d h k = k refl

whole_text : (c : Connection) (seq : ℕ) (s : Segment) → IsWhole c → IsWhole (text_from c seq s)
whole_text c seq s h =
    if_whole (takes_data c.state) (texted c seq s) c
    (λ e. whole_if (text_in c.rcv seq s).ended (after_fin c.state) c.state (whole_fin c.state h) h)
    (λ e. h)

whole_acked : (c : Connection) → IsWhole c → IsWhole (fin_acked c)
whole_acked c h = whole_if (is_fin_acked c.snd) (after_fin_acked c.state) c.state (whole_fin_acked c.state h) h

whole_risen : (c : Connection) (seq : ℕ) (s : Segment) (now : ℕ) → IsWhole c
    → IsWhole (if nat_lt c.snd.nxt (ack_of c s) then owing c else text_from (fin_acked (window_from (una_from c (ack_of c s) now) s.wnd seq (ack_of c s))) seq s)
whole_risen c seq s now h =
    let d = window_from (una_from c (ack_of c s) now) s.wnd seq (ack_of c s) in
    if_whole (nat_lt c.snd.nxt (ack_of c s)) (owing c) _ (λ e. h) (λ e. whole_text (fin_acked d) seq s (whole_acked d h))

whole_acknowledged : (a : State) (c : Connection) (seq : ℕ) (s : Segment) (now : ℕ) → IsWhole c → IsWhole (acknowledged_in a c seq s now)
whole_acknowledged SynReceived c seq s now h =
    if_whole (ack_of c s == c.snd.iss + 1) _ (drawing c s.ack)
    (λ e. whole_text (window_from (established c (ack_of c s) now) s.wnd seq (ack_of c s)) seq s refl)
    (λ e. h)
whole_acknowledged SynSent c seq s now h = whole_risen c seq s now h
whole_acknowledged Established c seq s now h = whole_risen c seq s now h
whole_acknowledged FinWait1 c seq s now h = whole_risen c seq s now h
whole_acknowledged FinWait2 c seq s now h = whole_risen c seq s now h
whole_acknowledged CloseWait c seq s now h = whole_risen c seq s now h
whole_acknowledged Closing c seq s now h = whole_risen c seq s now h
whole_acknowledged LastAck c seq s now h = whole_risen c seq s now h
whole_acknowledged TimeWait c seq s now h = whole_risen c seq s now h
whole_acknowledged Closed c seq s now h = whole_risen c seq s now h
whole_acknowledged Broken c seq s now h = whole_risen c seq s now h

-- ---- it breaks by a reset at RCV.NXT alone

abbrev BreaksBy : Connection → Segment → Connection → Type 0
BreaksBy c s d = is_broken d.state ≡ true → (has rst_flag s ≡ true) × (seq_of c s ≡ c.rcv.nxt)

by_none : (c : Connection) (s : Segment) (d : Connection) → IsWhole d → BreaksBy c s d
by_none c s d whole e = absurd (let f : false ≡ true = sym whole ∙ e in cc)

by_if : (c : Connection) (s : Segment) (g : Bool) (d e : Connection) → (g ≡ true → BreaksBy c s d) → (g ≡ false → BreaksBy c s e) → BreaksBy c s (if g then d else e)
by_if c s true d e h k = h refl
by_if c s false d e h k = k refl

by_otherwise : (c : Connection) (s : Segment) (now : ℕ) → IsWhole c → BreaksBy c s (otherwise c s now)
by_otherwise c s now h =
    let d = heard_if (has ack_flag s) c in
    let acked = if has ack_flag s then acknowledged_in d.state d (seq_of c s) s now else d in
    let whole_else : IsWhole acked = if_whole (has ack_flag s) (acknowledged_in d.state d (seq_of c s) s now) d (λ k. whole_acknowledged d.state d (seq_of c s) s now h) (λ k. h) in
    let challenged = if has syn_flag s then owing d else acked in
    let refused = if has rst_flag s then c else owing c in
    by_if c s (is_acceptable c.rcv (seq_of c s) (seg_len s)) (accepted d (seq_of c s) s now) refused
    (λ a. by_if c s (has rst_flag s) (if seq_of c s == c.rcv.nxt then broken_in d.state d else owing d) challenged
    (λ r. by_if c s (seq_of c s == c.rcv.nxt) (broken_in d.state d) (owing d) (λ at e. (r, eqb-true _ _ at)) (λ at. by_none c s (owing d) h))
    (λ r. by_none c s challenged (if_whole (has syn_flag s) (owing d) acked (λ y. h) (λ y. whole_else))))
    (λ a. by_none c s refused (if_whole (has rst_flag s) c (owing c) (λ r. h) (λ r. h)))

by_state : (a : State) (c : Connection) (s : Segment) (now : ℕ) → a ≡ c.state → is_before_syn a ≡ false → is_broken a ≡ false → BreaksBy c s (arrived_in a c s now)
by_state SynSent c s now is e h = absurd cc
by_state Closed c s now is e h = by_none c s c (ap is_broken (sym is) ∙ h)
by_state Broken c s now is e h = absurd cc
by_state SynReceived c s now is e h = by_otherwise c s now (ap is_broken (sym is))
by_state Established c s now is e h = by_otherwise c s now (ap is_broken (sym is))
by_state FinWait1 c s now is e h = by_otherwise c s now (ap is_broken (sym is))
by_state FinWait2 c s now is e h = by_otherwise c s now (ap is_broken (sym is))
by_state CloseWait c s now is e h = by_otherwise c s now (ap is_broken (sym is))
by_state Closing c s now is e h = by_otherwise c s now (ap is_broken (sym is))
by_state LastAck c s now is e h = by_otherwise c s now (ap is_broken (sym is))
by_state TimeWait c s now is e h = by_otherwise c s now (ap is_broken (sym is))

state_whole : (a : State) → a ≢ Broken → is_broken a ≡ false
state_whole SynSent h = refl
state_whole SynReceived h = refl
state_whole Established h = refl
state_whole FinWait1 h = refl
state_whole FinWait2 h = refl
state_whole CloseWait h = refl
state_whole Closing h = refl
state_whole LastAck h = refl
state_whole TimeWait h = refl
state_whole Closed h = refl
state_whole Broken h = absurd (h refl)

state_begun : (a : State) → a ≢ SynSent → is_before_syn a ≡ false
state_begun SynSent h = absurd (h refl)
state_begun SynReceived h = refl
state_begun Established h = refl
state_begun FinWait1 h = refl
state_begun FinWait2 h = refl
state_begun CloseWait h = refl
state_begun Closing h = refl
state_begun LastAck h = refl
state_begun TimeWait h = refl
state_begun Closed h = refl
state_begun Broken h = refl

pub breaks_by_reset : (c : Connection) (s : Segment) (now : ℕ) → c.state ≢ SynSent → c.state ≢ Broken
    → (arrive c s now).state ≡ Broken
    → (has rst_flag s ≡ true) × (seq_of c s ≡ c.rcv.nxt)
unfolding arrive
breaks_by_reset c s now begun whole breaks =
    by_state c.state c s now refl (state_begun c.state begun) (state_whole c.state whole) (ap is_broken breaks)

-- ---- and such a reset breaks it

broken_by : (a : State) (c : Connection) → is_resettable a ≡ true → (broken_in a c).state ≡ Broken
broken_by SynSent c e = absurd cc
broken_by SynReceived c e = refl
broken_by Established c e = refl
broken_by FinWait1 c e = refl
broken_by FinWait2 c e = refl
broken_by CloseWait c e = refl
broken_by Closing c e = refl
broken_by LastAck c e = refl
broken_by TimeWait c e = absurd cc
broken_by Closed c e = absurd cc
broken_by Broken c e = absurd cc

reset_otherwise : (c : Connection) (s : Segment) (now : ℕ) → is_resettable c.state ≡ true
    → is_acceptable c.rcv (seq_of c s) (seg_len s) ≡ true
    → has rst_flag s ≡ true
    → (seq_of c s == c.rcv.nxt) ≡ true
    → (otherwise c s now).state ≡ Broken
reset_otherwise c s now may acceptable rst at = rw (acceptable, rst, at) (broken_by c.state (heard_if (has ack_flag s) c) may)

reset_by : (a : State) (c : Connection) (s : Segment) (now : ℕ) → a ≡ c.state → is_resettable a ≡ true → (otherwise c s now).state ≡ Broken → (arrived_in a c s now).state ≡ Broken
reset_by SynSent c s now is may h = absurd cc
reset_by SynReceived c s now is may h = h
reset_by Established c s now is may h = h
reset_by FinWait1 c s now is may h = h
reset_by FinWait2 c s now is may h = h
reset_by CloseWait c s now is may h = h
reset_by Closing c s now is may h = h
reset_by LastAck c s now is may h = h
reset_by TimeWait c s now is may h = absurd cc
reset_by Closed c s now is may h = absurd cc
reset_by Broken c s now is may h = absurd cc

pub reset_breaks : (c : Connection) (s : Segment) (now : ℕ) → is_resettable c.state ≡ true
    → is_acceptable c.rcv (seq_of c s) (seg_len s) ≡ true
    → has rst_flag s ≡ true
    → seq_of c s ≡ c.rcv.nxt
    → (arrive c s now).state ≡ Broken
unfolding arrive
reset_breaks c s now may acceptable rst at = reset_by c.state c s now refl may (reset_otherwise c s now may acceptable rst (eq-eqb _ _ at))
