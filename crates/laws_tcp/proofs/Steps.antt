-- Each step of an arrival keeps what a connection keeps.
use Rattle.std.proofs.Common.{◌≡◌, ℕ, ◌+◌, ◌<◌, ◌≤◌, Bool, true, false, Option, Some, None, refl, sym, ap, ◌∙◌, arith, if◌then◌else◌}
use Rattle.spec_wire.specs.Segment.{Segment}
use Rattle.spec_wire.specs.Positions.{initial}
use Rattle.spec_tcp.specs.declared.state.State.{State}
use Rattle.spec_tcp.specs.declared.state.State.TheVariants.{SynSent, SynReceived, Established, FinWait1, FinWait2, CloseWait, Closing, LastAck, TimeWait, Closed, Broken}
use Rattle.spec_tcp.specs.Connection.{Connection}
use Rattle.spec_tcp.specs.Arrival.{broken, broken_in, una_from, window_from, after_fin_acked, is_fin_acked, fin_acked, takes_data, after_fin, text_in, texted, text_from, send_mss, established, synchronized, owing, ack_of}
use Rattle.laws_tcp.proofs.States.{Follows, follows_self, follows_fin, follows_fin_acked, is_before_syn, is_opening, has_syn, is_before_fin, takes_before_fin}
use Rattle.laws_tcp.proofs.Sides.{IsKept, Goes}
use Rattle.laws_tcp.proofs.Sender.{side_in, side_broken, side_told, side_established, side_risen, window_kept, sends_stay}
use Rattle.laws_tcp.proofs.Receiver.{Comes, comes_text, receiver_in, receiver_broken, receiver_synchronized, receives_stay}

-- nothing changes but the timer and the facts
pub goes_same : (c d : Connection) → d.state ≡ c.state → d.snd ≡ c.snd → d.rcv ≡ c.rcv → IsKept c → Goes c d
goes_same c d state snd rcv h = rw (state, snd, rcv) (record { snd = h.snd; rcv = h.rcv; sends = sends_stay c.snd; receives = receives_stay c.rcv })

pub goes_then : (c d e : Connection) → Goes c d → Goes d e → Goes c e
goes_then c d e g h = record {
  snd = h.snd;
  rcv = h.rcv;
  sends = record { una = omega (arith, g.sends.una, h.sends.una); nxt = omega (arith, g.sends.nxt, h.sends.nxt) };
  receives = record { nxt = omega (arith, g.receives.nxt, h.receives.nxt); edge = omega (arith, g.receives.edge, h.receives.edge) };
}

pub goes_if : (c : Connection) (g : Bool) (d e : Connection) → (g ≡ true → Goes c d) → (g ≡ false → Goes c e) → Goes c (if g then d else e)
goes_if c true d e h k = h refl
goes_if c false d e h k = k refl

-- ---- breaking

pub goes_broken : (c : Connection) → IsKept c → Goes c (broken c)
goes_broken c h = let r = receiver_broken c.state c.rcv h.rcv in record { snd = side_broken c.state c.snd h.snd; rcv = r.0; sends = sends_stay c.snd; receives = r.1 }

pub goes_broken_in : (a : State) (c : Connection) → IsKept c → Goes c (broken_in a c)
goes_broken_in TimeWait c h = goes_same c c refl refl refl h
goes_broken_in SynSent c h = goes_broken c h
goes_broken_in SynReceived c h = goes_broken c h
goes_broken_in Established c h = goes_broken c h
goes_broken_in FinWait1 c h = goes_broken c h
goes_broken_in FinWait2 c h = goes_broken c h
goes_broken_in CloseWait c h = goes_broken c h
goes_broken_in Closing c h = goes_broken c h
goes_broken_in LastAck c h = goes_broken c h
goes_broken_in Closed c h = goes_broken c h
goes_broken_in Broken c h = goes_broken c h

-- ---- acknowledgements

pub goes_window : (c : Connection) (wnd seq position : ℕ) → IsKept c → Goes c (window_from c wnd seq position)
goes_window c wnd seq position h = let s = window_kept c.state c.snd wnd seq position h.snd in record { snd = s.0; rcv = h.rcv; sends = s.1; receives = receives_stay c.rcv }

pub goes_una : (c : Connection) (position now : ℕ) → is_opening c.state ≡ false → position ≤ c.snd.nxt → IsKept c → Goes c (una_from c position now)
goes_una c position now o within h = let s = side_risen c.state c.snd position o within h.snd in record { snd = s.0; rcv = h.rcv; sends = s.1; receives = receives_stay c.rcv }

goes_in : (c : Connection) (b : State) → Follows c.state b → IsKept c → Goes c (record c { state = b })
goes_in c b f h = record { snd = side_in c.state b c.snd f h.snd; rcv = receiver_in c.state b c.rcv f h.rcv; sends = sends_stay c.snd; receives = receives_stay c.rcv }

follows_if : (a b : State) (g : Bool) → Follows a b → Follows a (if g then b else a)
follows_if a b true f = f
follows_if a b false f = follows_self a

pub goes_fin_acked : (c : Connection) → IsKept c → Goes c (fin_acked c)
goes_fin_acked c h = goes_in c _ (follows_if c.state (after_fin_acked c.state) (is_fin_acked c.snd) (follows_fin_acked c.state)) h

-- ---- data and FIN

goes_texted : (c : Connection) (seq : ℕ) (s : Segment) → takes_data c.state ≡ true → IsKept c → Goes c (texted c seq s)
goes_texted c seq s takes h =
    let a = c.state in
    let q = text_in c.rcv seq s in
    let kind = takes_before_fin a takes in
    let t : Comes c.rcv q = comes_text c.rcv seq s (h.rcv.not_ended kind.before) h.rcv.counted in
    let f : Follows a (if q.ended then after_fin a else a) = follows_if a (after_fin a) q.ended (follows_fin a) in
    record {
      snd = side_in a _ c.snd f h.snd;
      rcv = record {
        counted = t.counted;
        told = omega (arith, h.rcv.told, t.edge, t.on.edge);
        empty = λ e. absurd (let g : false ≡ true = sym kind.before_syn ∙ sym f.before_syn ∙ e in cc);
        placed = λ e. let low = h.rcv.placed (sym f.syn ∙ e) in omega (arith, low, t.irs);
        not_ended = λ e. by_test q.ended a kind.after e;
      };
      sends = sends_stay c.snd;
      receives = t.on;
    }
  where
    by_test : (g : Bool) (a : State) → is_before_fin (after_fin a) ≡ false → is_before_fin (if g then after_fin a else a) ≡ true → g ≡ false
    by_test true a e f = sym f ∙ e
    by_test false a e f = refl

pub goes_text : (c : Connection) (seq : ℕ) (s : Segment) → IsKept c → Goes c (text_from c seq s)
goes_text c seq s h = goes_if c (takes_data c.state) (texted c seq s) c (λ e. goes_texted c seq s e h) (λ e. goes_same c c refl refl refl h)

-- ---- opening

pub some_mss : (m : Option ℕ) → 0 < send_mss m
some_mss None = omega arith
some_mss (Some m) = omega arith

-- an acknowledgement of the SYN comes with the peer's
pub goes_opened : (c : Connection) (s : Segment) (now : ℕ) → SynSent ≡ c.state → ack_of c s ≡ c.snd.iss + 1 → IsKept c → Goes c (owing (established (synchronized c s) (ack_of c s) now))
goes_opened c s now e at h =
    let t = side_told c.state c.snd s.wnd (initial s.seq) (ack_of c s) (send_mss s.mss) (some_mss s.mss) h.snd in
    let o = side_established c.state _ (ack_of c s) (ap is_opening (sym e)) at t in
    let r = receiver_synchronized c.state c.rcv s.seq (ap is_before_syn (sym e)) h.rcv in
    record { snd = o.0; rcv = r.0; sends = record { una = o.1.una; nxt = o.1.nxt }; receives = r.1 }

-- or after it
pub goes_established : (c : Connection) (position now : ℕ) → SynReceived ≡ c.state → position ≡ c.snd.iss + 1 → IsKept c → Goes c (established c position now)
goes_established c position now e at h =
    let o = side_established c.state c.snd position (ap is_opening (sym e)) at h.snd in
    record {
      snd = o.0;
      rcv = record {
        counted = h.rcv.counted;
        told = h.rcv.told;
        empty = λ f. absurd (let g : false ≡ true = f in cc);
        placed = λ f. h.rcv.placed (ap has_syn (sym e));
        not_ended = λ f. h.rcv.not_ended (ap is_before_fin (sym e));
      };
      sends = o.1;
      receives = receives_stay c.rcv;
    }
