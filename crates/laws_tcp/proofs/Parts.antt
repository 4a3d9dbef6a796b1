-- The parts of the send sequence space that go out: they are committed and not acknowledged, and SND.NXT rises past them.
use Rattle.std.proofs.Common.{◌≡◌, ℕ, zero, suc, ◌+◌, ◌-◌, ◌<◌, ◌≤◌, min, max, Bool, true, false, ◌&&◌, List, [], ◌∷◌, ◌++◌, refl, sym, ap, arith, nat_lt, ◌==◌, if◌then◌else◌}
use Rattle.std.proofs.lemmas.Bool.{and_parts}
use Rattle.std.proofs.lemmas.Bool.Decides.{nat_tests}
use Rattle.std.proofs.lemmas.List.Elements.{All-nil, All-cons, All-append, All-head, All-tail}
use Rattle.std.specs.List.{All}
use Rattle.spec_wire.specs.Segment.{one_if}
use Rattle.spec_tcp.specs.declared.part.Part.{Part}
use Rattle.spec_tcp.specs.Connection.{Sending, data_end}
use Rattle.spec_tcp.specs.Emission.{again, again_if, bound, data_part, fin_part, fin_new, fin_waits, follow, from_here, new_parts, parts, past, sent_parts, sent_nxt}
use Rattle.laws_tcp.specs.Laws.{PartWasCommitted, first_unacked}
use Rattle.laws_tcp.proofs.Sender.{lt_of, ge_of}

all_if : (s : Sending) (g : Bool) (ps qs : List Part) → (g ≡ true → All (PartWasCommitted s) ps) → (g ≡ false → All (PartWasCommitted s) qs) → All (PartWasCommitted s) (if g then ps else qs)
all_if s true ps qs h k = h refl
all_if s false ps qs h k = k refl

only : (s : Sending) (p : Part) → PartWasCommitted s p → All (PartWasCommitted s) (p ∷ [])
only s p h = All-cons (PartWasCommitted s) p [] h (All-nil (PartWasCommitted s))

-- ---- they are committed

-- what the proofs go by
pub record Sends (s : Sending) : Type 0 where
  pub opened : first_unacked s ≤ s.una
  pub order : s.una ≤ s.nxt
  pub last : s.nxt ≤ data_end s + one_if s.shut
  pub some : 0 < s.mss

fin_is : (s : Sending) (at : ℕ) → first_unacked s ≤ at → s.una ≤ at → fin_waits s at ≡ true → PartWasCommitted s (fin_part at)
fin_is s at from una h =
    let both = and_parts s.shut (at == data_end s) h in
    let end : at ≡ data_end s = grind (arith, nat_tests, both.1) in
    record { from = from; una = una; to = omega (arith, end); fin = λ e. (both.0, end) }

shut_of : (b : Bool) (n m : ℕ) → n < m → m ≤ n + one_if b → b ≡ true
shut_of true n m lt le = refl
shut_of false n m lt le = absurd (omega arith)

again_parts : (s : Sending) → Sends s → All (PartWasCommitted s) (again s)
again_parts s h =
    all_if s (nat_lt s.una s.nxt) _ _
    (λ g. let lt = lt_of s.una s.nxt g in
    all_if s (nat_lt s.una (data_end s)) _ _
    (λ k. let before = lt_of s.una (data_end s) k in
    only s _ (record { from = h.opened; una = omega arith; to = omega (arith, before); fin = λ e. absurd (omega (arith, e, h.some, before, lt)) }))
    (λ k. let past_end = ge_of s.una (data_end s) k in
    let is_shut : s.shut ≡ true = shut_of s.shut (data_end s) s.nxt (omega (arith, past_end, lt)) h.last in
    let one : one_if s.shut ≡ 1 = ap one_if is_shut in
    let at : s.una ≡ data_end s = omega (arith, past_end, lt, h.last, one) in
    only s _ (record { from = h.opened; una = omega arith; to = omega (arith, at); fin = λ e. (is_shut, at) })))
    (λ g.
    all_if s (nat_lt s.nxt (data_end s)) _ _
    (λ k. let before = lt_of s.nxt (data_end s) k in
    only s _ (record { from = omega (arith, h.opened, h.order); una = h.order; to = omega (arith, before); fin = λ e. absurd (omega (arith, e)) }))
    (λ k. all_if s (fin_waits s s.nxt) _ _ (λ w. only s _ (fin_is s s.nxt (omega (arith, h.opened, h.order)) h.order w)) (λ w. All-nil (PartWasCommitted s))))

new_data : (s : Sending) (n at stop : ℕ) → 0 < s.mss → first_unacked s ≤ at → s.una ≤ at → stop ≤ data_end s → All (PartWasCommitted s) (parts n s.mss at stop)
new_data s zero at stop some from una high = All-nil (PartWasCommitted s)
new_data s (suc n) at stop some from una high = by_test (nat_lt at stop) refl (new_data s n (at + min s.mss (stop - at)) stop some (omega arith) (omega arith) high)
  where
    by_test : (g : Bool) → g ≡ nat_lt at stop → All (PartWasCommitted s) (parts n s.mss (at + min s.mss (stop - at)) stop)
        → All (PartWasCommitted s) (elim g [ true ↦ data_part at (min s.mss (stop - at)) ∷ parts n s.mss (at + min s.mss (stop - at)) stop | false ↦ [] ])
    by_test false e h = All-nil (PartWasCommitted s)
    by_test true e h =
        let lt = lt_of at stop (sym e) in
        All-cons (PartWasCommitted s) _ _ (record { from = from; una = una; to = omega (arith, lt, high); fin = λ z. absurd (omega (arith, z, some, lt)) }) h

-- ---- the positions past them rise

-- each part ends before the position that the FIN has, or has it
part_end : (s : Sending) (p : Part) → PartWasCommitted s p → p.at + max 1 p.len ≤ data_end s + one_if s.shut
part_end s p h = by_len p.len refl
  where
    by_len : (n : ℕ) → n ≡ p.len → p.at + max 1 p.len ≤ data_end s + one_if s.shut
    by_len zero e =
        let f = h.fin (sym e) in
        let one : one_if s.shut ≡ 1 = ap one_if f.0 in
        omega (arith, e, f.1, one)
    by_len (suc n) e = omega (arith, e, h.to)

-- each begins at the position at which the one before it ends, or later
abbrev Rise : ℕ → List Part → Type 0
Rise at [] = Unit {0}
Rise at (p ∷ ps) = (at ≤ p.at) × Rise (p.at + max 1 p.len) ps

past_rises : (at : ℕ) (ps : List Part) → Rise at ps → at ≤ past at ps
past_rises at [] h = omega arith
past_rises at (p ∷ ps) h = omega (arith, h.0, past_rises (p.at + max 1 p.len) ps h.1)

data_rises : (mss n at stop : ℕ) → 0 < mss → Rise at (parts n mss at stop)
data_rises mss zero at stop some = tt
data_rises mss (suc n) at stop some = by_test (nat_lt at stop) refl (data_rises mss n (at + min mss (stop - at)) stop some)
  where
    by_test : (g : Bool) → g ≡ nat_lt at stop → Rise (at + min mss (stop - at)) (parts n mss (at + min mss (stop - at)) stop)
        → Rise at (elim g [ true ↦ data_part at (min mss (stop - at)) ∷ parts n mss (at + min mss (stop - at)) stop | false ↦ [] ])
    by_test false e h = tt
    by_test true e h =
        let lt = lt_of at stop (sym e) in
        let len : at + max 1 (min mss (stop - at)) ≡ at + min mss (stop - at) = omega (arith, lt, some) in
        (omega arith, rw len h)

past_le : (s : Sending) (at : ℕ) (ps : List Part) → at ≤ data_end s + one_if s.shut → All (PartWasCommitted s) ps → past at ps ≤ data_end s + one_if s.shut
past_le s at [] le h = le
past_le s at (p ∷ ps) le h = past_le s (p.at + max 1 p.len) ps (part_end s p (All-head (PartWasCommitted s) p ps h)) (All-tail (PartWasCommitted s) p ps h)

-- ---- all that go out

past_append : (at : ℕ) (ps qs : List Part) → past at (ps ++ qs) ≡ past (past at ps) qs
past_append at [] qs = refl
past_append at (p ∷ ps) qs = past_append (p.at + max 1 p.len) ps qs

record FinGoes (s : Sending) (at : ℕ) : Type 0 where
  committed : All (PartWasCommitted s) (fin_new s at)
  rises : at ≤ past at (fin_new s at)

fin_goes : (s : Sending) (at : ℕ) → first_unacked s ≤ at → s.una ≤ at → FinGoes s at
fin_goes s at from una = by_test (fin_waits s at && nat_lt at (bound s)) refl
  where
    by_test : (g : Bool) → g ≡ (fin_waits s at && nat_lt at (bound s)) → FinGoes s at
    by_test true e = record {
      committed = rw (sym e) (only s (fin_part at) (fin_is s at from una (and_parts (fin_waits s at) (nat_lt at (bound s)) (sym e)).0));
      rises = rw (sym e) (omega arith);
    }
    by_test false e = record { committed = rw (sym e) (All-nil (PartWasCommitted s)); rises = rw (sym e) (omega arith) }

-- what an event sends: what goes out again, new data, and then perhaps the FIN
pub record GoesOut (s : Sending) (expired : Bool) : Type 0 where
  pub committed : All (PartWasCommitted s) (sent_parts s expired)
  pub above : s.nxt ≤ sent_nxt s expired
  pub last : sent_nxt s expired ≤ data_end s + one_if s.shut

pub goes_out : (s : Sending) (expired : Bool) → Sends s → GoesOut s expired
goes_out s expired h =
    let first = again_if expired s in
    let firsts : All (PartWasCommitted s) first = all_if s expired (again s) [] (λ g. again_parts s h) (λ g. All-nil (PartWasCommitted s)) in
    let here = from_here s first in
    let data_parts = parts (follow first) s.mss here (min (data_end s) (bound s)) in
    let news : All (PartWasCommitted s) data_parts = new_data s (follow first) here (min (data_end s) (bound s)) h.some (omega (arith, h.opened, h.order)) (omega (arith, h.order)) (omega arith) in
    let rise : here ≤ past here data_parts = past_rises here data_parts (data_rises s.mss (follow first) here (min (data_end s) (bound s)) h.some) in
    let end = past here data_parts in
    let fin : FinGoes s end = fin_goes s end (omega (arith, rise, h.opened, h.order)) (omega (arith, rise, h.order)) in
    let all_new : All (PartWasCommitted s) (new_parts s (follow first) here) = All-append (PartWasCommitted s) data_parts (fin_new s end) news fin.committed in
    let here_last : here ≤ data_end s + one_if s.shut = omega (arith, h.last, past_le s s.nxt first h.last firsts) in
    record {
      committed = All-append (PartWasCommitted s) first _ firsts all_new;
      above = omega (arith, rise, fin.rises, past_append here data_parts (fin_new s end));
      last = past_le s here (new_parts s (follow first) here) here_last all_new;
    }
