-- The send side: what each change of it keeps.
use Rattle.std.proofs.Common.{◌≡◌, ℕ, ◌+◌, ◌<◌, ◌≤◌, Bool, true, false, List, length, take, refl, sym, ap, ◌∙◌, arith, nat_lt, if◌then◌else◌, length-drop, length-append}
use Rattle.std.proofs.lemmas.Bool.Decides.{nat_tests}
use Rattle.spec_wire.specs.Segment.{one_if}
use Rattle.spec_tcp.specs.declared.state.State.{State}
use Rattle.spec_tcp.specs.declared.state.State.TheVariants.{Established, Broken}
use Rattle.spec_tcp.specs.Connection.{Sending, data_end, room}
use Rattle.spec_tcp.specs.Windows.{committed, una_at, newly_acked}
use Rattle.spec_tcp.specs.Arrival.{una_after, is_newer, window_set, window_after}
use Rattle.laws_tcp.proofs.States.{Follows, is_opening}
use Rattle.laws_tcp.proofs.Sides.{IsSender, SendSide, SendsOn}

pub lt_of : (a b : ℕ) → nat_lt a b ≡ true → a < b
lt_of a b h = grind (arith, nat_tests)

pub ge_of : (a b : ℕ) → nat_lt a b ≡ false → b ≤ a
ge_of a b h = grind (arith, nat_tests)

pub one_bound : (b : Bool) → one_if b ≤ 1
one_bound true = omega arith
one_bound false = omega arith

pub sends_stay : (s : Sending) → SendsOn s s
sends_stay s = record { una = omega arith; nxt = omega arith }

-- only the state changes
pub side_in : (a b : State) (s : Sending) → Follows a b → SendSide a s → SendSide b s
side_in a b s f h = record { order = h.order; some = h.some; fresh = λ e. h.fresh (sym f.opening ∙ e); live = λ e. h.live (sym f.live ∙ e) }

-- a connection breaks
pub side_broken : (a : State) (s : Sending) → SendSide a s → SendSide Broken s
side_broken a s h = record { order = h.order; some = h.some; fresh = λ e. absurd (let f : false ≡ true = e in cc); live = λ e. absurd (let f : false ≡ true = e in cc) }

-- the peer's window and size of segments
pub side_told : (a : State) (s : Sending) (wnd wl1 wl2 mss : ℕ) → 0 < mss → SendSide a s → SendSide a (record s { wnd = wnd; wl1 = wl1; wl2 = wl2; mss = mss })
side_told a s wnd wl1 wl2 mss some h = record {
  order = h.order;
  some = some;
  fresh = λ e. let f = h.fresh e in record { una = f.una; nxt = f.nxt; acked = f.acked; bytes = f.bytes };
  live = λ e. let l = h.live e in record { opened = l.opened; last = l.last };
}

pub window_kept : (a : State) (s : Sending) (wnd seq position : ℕ) → SendSide a s → SendSide a (window_after s wnd seq position) × SendsOn s (window_after s wnd seq position)
window_kept a s wnd seq position h = by_test (is_newer s seq position)
  where
    by_test : (g : Bool) → SendSide a (if g then window_set s wnd seq position else s) × SendsOn s (if g then window_set s wnd seq position else s)
    by_test true = (side_told a s wnd seq position s.mss h.some h, record { una = omega arith; nxt = omega arith })
    by_test false = (h, sends_stay s)

-- the SYN is acknowledged
pub side_established : (a : State) (s : Sending) (position : ℕ) → is_opening a ≡ true → position ≡ s.iss + 1 → SendSide a s → SendSide Established (una_at s position) × SendsOn s (una_at s position)
side_established a s position o at h =
    let f = h.fresh o in
    let none : length s.bytes ≡ 0 = ap length f.bytes in (
      record {
        order = omega (arith, at, f.nxt);
        some = h.some;
        fresh = λ e. absurd (let g : false ≡ true = e in cc);
        live = λ e. record {
          opened = omega (arith, at, f.acked, none);
          last = omega (arith, f.nxt, f.acked, none, length-drop (newly_acked s position) s.bytes);
        };
      },
      record { una = omega (arith, at, f.una); nxt = omega arith },
    )

-- SND.UNA rises
risen_live : (s : Sending) (position : ℕ) → s.una < position → IsSender s → IsSender (una_at s position)
risen_live s position above h =
    let few : newly_acked s position ≤ length s.bytes = omega arith in
    record {
      opened = omega (arith, h.opened, above);
      last = omega (arith, h.last, few, length-drop (newly_acked s position) s.bytes);
    }

pub side_risen : (a : State) (s : Sending) (position : ℕ) → is_opening a ≡ false → position ≤ s.nxt → SendSide a s → SendSide a (una_after s position) × SendsOn s (una_after s position)
side_risen a s position o within h = by_test (nat_lt s.una position) refl
  where
    by_test : (g : Bool) → g ≡ nat_lt s.una position → SendSide a (if g then una_at s position else s) × SendsOn s (if g then una_at s position else s)
    by_test false e = (h, sends_stay s)
    by_test true e =
        let above : s.una < position = lt_of s.una position (sym e) in (
          record {
            order = within;
            some = h.some;
            fresh = λ f. absurd (let g : false ≡ true = sym o ∙ f in cc);
            live = λ l. risen_live s position above (h.live l);
          },
          record { una = omega (arith, above); nxt = omega arith },
        )

-- more is committed
pub side_committed : (a : State) (s : Sending) (load : List ℕ) → is_opening a ≡ false → SendSide a s → SendSide a (committed s load)
side_committed a s load o h = record {
  order = h.order;
  some = h.some;
  fresh = λ f. absurd (let g : false ≡ true = sym o ∙ f in cc);
  live = λ e. let l = h.live e in record { opened = l.opened; last = omega (arith, l.last, length-append s.bytes (take (room s) load)) };
}

-- the stream is shut
pub side_shut : (a : State) (s : Sending) → SendSide a s → SendSide a (record s { shut = true })
side_shut a s h = record {
  order = h.order;
  some = h.some;
  fresh = λ e. let f = h.fresh e in record { una = f.una; nxt = f.nxt; acked = f.acked; bytes = f.bytes };
  live = λ e. let l = h.live e in record { opened = l.opened; last = omega (arith, l.last, one_bound s.shut) };
}

-- SND.NXT rises
pub side_sent : (a : State) (s : Sending) (nxt : ℕ) → is_opening a ≡ false → s.nxt ≤ nxt → nxt ≤ data_end s + one_if s.shut → SendSide a s → SendSide a (record s { nxt = nxt })
side_sent a s nxt o above last h = record {
  order = omega (arith, h.order, above);
  some = h.some;
  fresh = λ f. absurd (let g : false ≡ true = sym o ∙ f in cc);
  live = λ e. record { opened = (h.live e).opened; last = last };
}
