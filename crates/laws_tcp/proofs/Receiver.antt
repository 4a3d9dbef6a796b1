-- The receive side: what each change of it keeps.
use Rattle.std.proofs.Common.{◌≡◌, ℕ, zero, suc, ◌+◌, ◌-◌, ◌≤◌, min, Bool, true, false, List, [], ◌∷◌, ◌++◌, length, take, drop, Option, Some, None, refl, sym, ap, ◌∙◌, arith, if◌then◌else◌, length-drop, length-append}
use Rattle.std.proofs.lemmas.List.{nil_from_length}
use Rattle.spec_wire.specs.Segment.{Segment, one_if}
use Rattle.spec_wire.specs.Positions.{initial}
use Rattle.spec_tcp.specs.declared.state.State.{State}
use Rattle.spec_tcp.specs.declared.state.State.TheVariants.{Established, Broken}
use Rattle.spec_tcp.specs.Connection.{Receiving, window}
use Rattle.spec_tcp.specs.Windows.{put_ahead, run, widened, with_data, before_fin, next_run, is_at, moved_over, over_fin, with_taken, closed, without_early}
use Rattle.spec_tcp.specs.Arrival.{fin_after, text_in}
use Rattle.laws_tcp.specs.Laws.{IsCounted}
use Rattle.laws_tcp.proofs.States.{Follows, is_before_syn}
use Rattle.laws_tcp.proofs.Sides.{IsEmpty, ReceiveSide, ReceivesOn}

-- ---- places

-- so many places at which nothing has come
empty_length : (n : ℕ) → length (widened n []) ≡ n
empty_length zero = refl
empty_length (suc n) = ap (λ m. suc m) (empty_length n)

widened_length : (n : ℕ) (xs : List (Option ℕ)) → length (widened n xs) ≡ length xs + n
widened_length n xs = omega (arith, length-append xs (widened n []), empty_length n)

put_length : (n : ℕ) (load : List ℕ) (xs : List (Option ℕ)) → length (put_ahead n load xs) ≡ length xs
put_length n load [] = refl
put_length zero [] (x ∷ xs) = refl
put_length zero (b ∷ bs) (x ∷ xs) = ap (λ m. suc m) (put_length zero bs xs)
put_length (suc n) load (x ∷ xs) = ap (λ m. suc m) (put_length n load xs)

run_length : (xs : List (Option ℕ)) → length (run xs) ≤ length xs
run_length [] = omega arith
run_length (None ∷ xs) = omega arith
run_length (Some b ∷ xs) = omega (arith, run_length xs)

take_length : (n : ℕ) (bs : List ℕ) → length (take n bs) ≤ length bs
take_length zero bs = omega arith
take_length (suc n) [] = omega arith
take_length (suc n) (b ∷ bs) = omega (arith, take_length n bs)

front_length : (nxt : ℕ) (fin : Option ℕ) (bs : List ℕ) → length (before_fin nxt fin bs) ≤ length bs
front_length nxt None bs = omega arith
front_length nxt (Some p) bs = take_length (p - nxt) bs

next_length : (r : Receiving) → length (next_run r) ≤ window r
next_length r = omega (arith, front_length r.nxt r.fin (run r.ahead), run_length r.ahead)

-- ---- only the state changes

pub receives_stay : (r : Receiving) → ReceivesOn r r
receives_stay r = record { nxt = omega arith; edge = omega arith }

pub receiver_in : (a b : State) (r : Receiving) → Follows a b → ReceiveSide a r → ReceiveSide b r
receiver_in a b r f h = record {
  counted = h.counted;
  told = h.told;
  empty = λ e. h.empty (sym f.before_syn ∙ e);
  placed = λ e. h.placed (sym f.syn ∙ e);
  not_ended = λ e. h.not_ended (f.fin e);
}

-- a connection breaks
pub receiver_broken : (a : State) (r : Receiving) → ReceiveSide a r → ReceiveSide Broken (without_early r) × ReceivesOn r (without_early r)
receiver_broken a r h =
    let same : window (without_early r) ≡ window r = empty_length (window r) in (
      record {
        counted = h.counted;
        told = omega (arith, h.told, same);
        empty = λ e. absurd (let f : false ≡ true = e in cc);
        placed = λ e. absurd (let f : false ≡ true = e in cc);
        not_ended = λ e. absurd (let f : false ≡ true = e in cc);
      },
      record { nxt = omega arith; edge = omega (arith, same) },
    )

-- the peer's SYN comes
pub receiver_synchronized : (a : State) (r : Receiving) (number : ℕ) → is_before_syn a ≡ true → ReceiveSide a r
    → ReceiveSide Established (record r { irs = initial number; nxt = initial number + 1 }) × ReceivesOn r (record r { irs = initial number; nxt = initial number + 1 })
receiver_synchronized a r number e h =
    let none = h.empty e in
    let unread : length r.unread ≡ 0 = ap length none.unread in
    let ended : one_if r.ended ≡ 0 = ap one_if none.ended in (
      record {
        counted = λ lt. omega (arith, none.taken, unread, ended);
        told = omega (arith, h.told, none.nxt);
        empty = λ f. absurd (let g : false ≡ true = f in cc);
        placed = λ f. omega arith;
        not_ended = λ f. none.ended;
      },
      record { nxt = omega (arith, none.nxt); edge = omega (arith, none.nxt) },
    )

-- ---- bytes come

pub record Comes (r q : Receiving) : Type 0 where
  pub counted : IsCounted q
  pub irs : q.irs ≡ r.irs
  pub edge : q.edge ≡ r.edge
  pub on : ReceivesOn r q

-- RCV.NXT moves over bytes
abbrev moved_if : Bool → Receiving → List ℕ → Receiving
moved_if closing r bs = record r {
  nxt = r.nxt + length bs;
  unread = if closing then r.unread else r.unread ++ bs;
  taken = if closing then r.taken + length bs else r.taken;
  ahead = if closing then widened (length bs) (drop (length bs) r.ahead) else drop (length bs) r.ahead;
}

comes_over : (r : Receiving) (n : ℕ) (bs : List ℕ) → length bs ≡ n → n ≤ window r → r.ended ≡ false → IsCounted r → Comes r (moved_over r bs)
comes_over r n bs size few ended counted = by_test r.closing
  where
    by_test : (closing : Bool) → Comes r (moved_if closing r bs)
    by_test true = record {
      counted = λ lt. omega (arith, counted lt);
      irs = refl;
      edge = refl;
      on = record { nxt = omega arith; edge = omega (arith, size, few, widened_length (length bs) (drop (length bs) r.ahead), length-drop (length bs) r.ahead) };
    }
    by_test false = record {
      counted = λ lt. omega (arith, counted lt, length-append r.unread bs);
      irs = refl;
      edge = refl;
      on = record { nxt = omega arith; edge = omega (arith, size, few, length-drop (length bs) r.ahead) };
    }

-- the FIN is reached
comes_fin : (r : Receiving) → r.ended ≡ false → IsCounted r → Comes r (over_fin r)
comes_fin r ended counted = by_test (is_at r.fin r.nxt)
  where
    none : one_if r.ended ≡ 0
    none = ap one_if ended

    by_test : (g : Bool) → Comes r (if g then record r { nxt = r.nxt + 1; ended = true } else r)
    by_test false = record { counted = counted; irs = refl; edge = refl; on = receives_stay r }
    by_test true = record { counted = λ lt. omega (arith, counted lt, none); irs = refl; edge = refl; on = record { nxt = omega arith; edge = omega arith } }

pub comes_text : (r : Receiving) (seq : ℕ) (s : Segment) → r.ended ≡ false → IsCounted r → Comes r (text_in r seq s)
comes_text r seq s ended counted =
    let kept = record (with_data r seq s.load) { fin = fin_after r seq s } in
    let same : window kept ≡ window r = put_length (seq - r.nxt) (drop (r.nxt - seq) s.load) r.ahead in
    let over = comes_over kept (length (next_run kept)) (next_run kept) refl (next_length kept) ended counted in
    let past = comes_fin (moved_over kept (next_run kept)) ended over.counted in
    record {
      counted = past.counted;
      irs = past.irs ∙ over.irs;
      edge = past.edge ∙ over.edge;
      on = record { nxt = omega (arith, over.on.nxt, past.on.nxt); edge = omega (arith, over.on.edge, past.on.edge, same) };
    }

-- ---- bytes are taken

pub receiver_taken : (a : State) (r : Receiving) (n : ℕ) → ReceiveSide a r → ReceiveSide a (with_taken r n) × ReceivesOn r (with_taken r n)
receiver_taken a r n h =
    let m = min n (length r.unread) in
    let left : length (drop m r.unread) ≡ length r.unread - m = length-drop m r.unread in
    let wide : length (widened m r.ahead) ≡ window r + m = widened_length m r.ahead in (
      record {
        counted = λ lt. omega (arith, h.counted lt, left);
        told = omega (arith, h.told, wide);
        empty = λ e. empty_taken (h.empty e);
        placed = h.placed;
        not_ended = h.not_ended;
      },
      record { nxt = omega arith; edge = omega (arith, wide) },
    )
  where
    empty_taken : IsEmpty r → IsEmpty (with_taken r n)
    empty_taken e =
        let none : length r.unread ≡ 0 = ap length e.unread in
        record {
          nxt = e.nxt;
          unread = nil_from_length _ (omega (arith, none, length-drop (min n (length r.unread)) r.unread));
          taken = omega (arith, e.taken, none);
          ended = e.ended;
        }

-- and what comes from now on counts as taken
pub receiver_closed : (a : State) (r : Receiving) → ReceiveSide a r → ReceiveSide a (closed r) × ReceivesOn r (closed r)
receiver_closed a r h =
    let t = receiver_taken a r (length r.unread) h in (
      record {
        counted = t.0.counted;
        told = t.0.told;
        empty = λ e. let none = t.0.empty e in record { nxt = none.nxt; unread = none.unread; taken = none.taken; ended = none.ended };
        placed = t.0.placed;
        not_ended = t.0.not_ended;
      },
      record { nxt = t.1.nxt; edge = t.1.edge },
    )
