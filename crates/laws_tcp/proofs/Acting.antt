-- Each act, and the emission that ends it, keep what a connection keeps.
use Rattle.std.proofs.Common.{◌≡◌, ℕ, ◌≤◌, Bool, true, false, not, ◌&&◌, List, refl, arith, if◌then◌else◌}
use Rattle.std.proofs.lemmas.Bool.{and_parts}
use Rattle.spec_tcp.specs.declared.state.State.{State}
use Rattle.spec_tcp.specs.declared.state.State.TheVariants.{SynSent, SynReceived, Established, FinWait1, FinWait2, CloseWait, Closing, LastAck, TimeWait, Closed, Broken}
use Rattle.spec_tcp.specs.Connection.{Sending, Receiving, Connection}
use Rattle.spec_tcp.specs.Timing.{is_due, is_last}
use Rattle.spec_tcp.specs.Arrival.{broken_in}
use Rattle.spec_tcp.specs.Emission.{sends_data, sent, sent_nxt, tells, edge_after, after_emission}
use Rattle.spec_tcp.specs.Opening.{after_shut, commit, take_bytes, shut_down, drop_unread, abort, tick}
use Rattle.spec_tcp.specs.Acts.{Act, Opens, Arrives, Ticks, Commits, Takes, Shuts, Closes, Aborts, Moment, done, after, may_happen, sends_more}
use Rattle.laws_tcp.specs.Laws.{right_edge}
use Rattle.laws_tcp.proofs.States.{follows_shut, is_live, is_opening, more_live, sends_live}
use Rattle.laws_tcp.proofs.Sides.{SendSide, ReceiveSide, SendsOn, IsKept, Goes, kept_after}
use Rattle.laws_tcp.proofs.Sender.{sends_stay, side_committed, side_in, side_sent, side_shut}
use Rattle.laws_tcp.proofs.Receiver.{receiver_closed, receiver_in, receiver_taken, receives_stay}
use Rattle.laws_tcp.proofs.Parts.{Sends, goes_out}
use Rattle.laws_tcp.proofs.Steps.{goes_broken_in, goes_if, goes_same, goes_then}
use Rattle.laws_tcp.proofs.Arriving.{goes_arrive}

goes_tick : (c : Connection) (now : ℕ) → IsKept c → Goes c (tick c now)
goes_tick c now h =
    goes_if c (is_due c.timer.expires now) _ c
    (λ g. goes_if c (is_last c.timer) (broken_in c.state c) _ (λ l. goes_broken_in c.state c h) (λ l. goes_same c _ refl refl refl h))
    (λ g. goes_same c c refl refl refl h)

goes_commit : (c : Connection) (load : List ℕ) → sends_more c.state ≡ true → IsKept c → Goes c (commit c load)
goes_commit c load more h = record {
  snd = side_committed c.state c.snd load (more_live c.state more) h.snd;
  rcv = h.rcv;
  sends = record { una = omega arith; nxt = omega arith };
  receives = receives_stay c.rcv;
}

goes_take : (c : Connection) (n : ℕ) → IsKept c → Goes c (take_bytes c n)
goes_take c n h = let r = receiver_taken c.state c.rcv n h.rcv in record { snd = h.snd; rcv = r.0; sends = sends_stay c.snd; receives = r.1 }

goes_shut : (c : Connection) → IsKept c → Goes c (shut_down c)
goes_shut c h = record {
  snd = side_in c.state (after_shut c.state) _ (follows_shut c.state) (side_shut c.state c.snd h.snd);
  rcv = receiver_in c.state (after_shut c.state) c.rcv (follows_shut c.state) h.rcv;
  sends = record { una = omega arith; nxt = omega arith };
  receives = receives_stay c.rcv;
}

goes_close : (c : Connection) → IsKept c → Goes c (drop_unread c)
goes_close c h = let r = receiver_closed c.state c.rcv h.rcv in record { snd = h.snd; rcv = r.0; sends = sends_stay c.snd; receives = r.1 }

pub goes_done : (act : Act) (c : Connection) (now : ℕ) → may_happen act c ≡ true → IsKept c → Goes c (done act c now)
goes_done Opens c now may h = goes_same c c refl refl refl h
goes_done (Arrives s) c now may h = goes_arrive c s now h
goes_done Ticks c now may h = goes_tick c now h
goes_done (Commits load) c now may h = goes_commit c load may h
goes_done (Takes n) c now may h = goes_take c n h
goes_done Shuts c now may h = goes_shut c h
goes_done Closes c now may h = goes_close c h
goes_done Aborts c now may h = goes_same c (abort c) refl refl refl h

-- ---- the emission

live_open : (a : State) → is_live a ≡ true → is_opening a ≡ false
live_open SynSent e = absurd cc
live_open SynReceived e = absurd cc
live_open Established e = refl
live_open FinWait1 e = refl
live_open FinWait2 e = refl
live_open CloseWait e = refl
live_open Closing e = refl
live_open LastAck e = refl
live_open TimeWait e = refl
live_open Closed e = refl
live_open Broken e = refl

pub sends_of : (a : State) (s : Sending) → sends_data a ≡ true → SendSide a s → Sends s
sends_of a s sends h = let l = h.live (sends_live a sends) in record { opened = l.opened; order = h.order; last = l.last; some = h.some }

nxt_rises : (a : State) (s : Sending) (expired goes : Bool) → (goes ≡ true → sends_data a ≡ true) → SendSide a s
    → SendSide a (record s { nxt = if goes then sent_nxt s expired else s.nxt }) × SendsOn s (record s { nxt = if goes then sent_nxt s expired else s.nxt })
nxt_rises a s expired false sends h = (h, sends_stay s)
nxt_rises a s expired true sends h =
    let out = goes_out s expired (sends_of a s (sends refl) h) in
    (side_sent a s (sent_nxt s expired) (live_open a (sends_live a (sends refl))) out.above out.last h, record { una = omega arith; nxt = out.above })

told_at : (tells : Bool) (a b : ℕ) → b ≤ a → (if tells then a else b) ≤ a
told_at true a b h = omega arith
told_at false a b h = h

edge_told : (a : State) (r : Receiving) (edge : ℕ) → edge ≤ right_edge r → ReceiveSide a r → ReceiveSide a (record r { edge = edge })
edge_told a r edge within h = record {
  counted = h.counted;
  told = within;
  empty = λ e. let none = h.empty e in record { nxt = none.nxt; unread = none.unread; taken = none.taken; ended = none.ended };
  placed = h.placed;
  not_ended = h.not_ended;
}

pub goes_emission : (c : Connection) (now : ℕ) → IsKept c → Goes c (after_emission c now)
unfolding after_emission
goes_emission c now h =
    let s = nxt_rises c.state c.snd c.facts.expired (not c.facts.aborted && sends_data c.state) (λ e. (and_parts (not c.facts.aborted) (sends_data c.state) e).1) h.snd in
    record {
      snd = s.0;
      rcv = edge_told c.state c.rcv (edge_after c) (told_at (tells c.state (sent c)) (right_edge c.rcv) c.rcv.edge h.rcv.told) h.rcv;
      sends = s.1;
      receives = record { nxt = omega arith; edge = omega arith };
    }

pub goes_after : (m : Moment) (c : Connection) → may_happen m.act c ≡ true → IsKept c → Goes c (after m c)
goes_after m c may h =
    let d = done m.act c m.now in
    let to_d = goes_done m.act c m.now may h in
    goes_then c d (after m c) to_d (goes_emission d m.now (kept_after c d to_d))
