-- End points that differ in their queues and in what waits there alone, and calls of which one may be gone.
use Rattle.std.proofs.Common.{◌≡◌, ℕ, zero, suc, ◌≤◌, Bool, true, false, List, [], ◌∷◌, length, Option, Some, None, is_some, refl, ap, inl, inr, arith}
use Rattle.std.specs.List.{AllByRecursion, list_any}
use Rattle.std.proofs.lemmas.Bool.{cases_Bool}
use Rattle.spec_lists.specs.Tables.{get, change}
use Rattle.spec_lists.specs.First.{take_first}
use Rattle.spec_lists.specs.Counting.{one_if}
use Rattle.spec_udp.specs.declared.point.Received.{Received}
use Rattle.spec_pend.specs.declared.slot.Part.{Part}
use Rattle.spec_pend.specs.declared.slot.Part.TheVariants.{Conn, Send, Recv}
use Rattle.spec_pend.specs.declared.call.NetCall.{NetCall}
use Rattle.spec_pend.proofs.Found.{all_found}
use Rattle.spec_udp.specs.declared.point.Sending.{Sending}
use Rattle.spec_udp.specs.declared.point.UdpPoint.{UdpPoint}
use Rattle.spec_udp.specs.PlainUdps.{queue_limit}
use Rattle.spec_udp.specs.Points.{has_port, routine_at, queue_of, rest_of, with_wanted, with_sending, without_oldest}
use Rattle.spec_udp.specs.Settling.{point_after}
use Rattle.laws_node.specs.Agreement.{times}
use Rattle.laws_node.proofs.Times.{times_found}

-- ---- end points

pub record AlikePoint (o p : Option UdpPoint) : Type 0 where
  pub port : (n : ℕ) → has_port n p ≡ has_port n o
  pub there : is_some p ≡ is_some o
  pub routine : routine_at p ≡ routine_at o
  pub room : length (queue_of o) ≤ queue_limit → length (queue_of p) ≤ queue_limit

abbrev pub Alike : List (Option UdpPoint) → List (Option UdpPoint) → Type 0
Alike [] [] = Unit {0}
Alike [] (p ∷ ps) = ⊥
Alike (o ∷ os) [] = ⊥
Alike (o ∷ os) (p ∷ ps) = AlikePoint o p × Alike os ps

same_point : (o : Option UdpPoint) → AlikePoint o o
same_point o = record { port = λ n. refl; there = refl; routine = refl; room = λ h. h }

pub same_points : (points : List (Option UdpPoint)) → Alike points points
same_points [] = tt
same_points (o ∷ os) = (same_point o, same_points os)

-- one end point changes into one that is alike
pub alike_change : (points : List (Option UdpPoint)) (i : ℕ) (f : Option UdpPoint → Option UdpPoint) → AlikePoint (get points i) (f (get points i)) → Alike points (change points i f)
alike_change [] zero f alike = tt
alike_change [] (suc i) f alike = tt
alike_change (o ∷ os) zero f alike = (alike, same_points os)
alike_change (o ∷ os) (suc i) f alike = (same_point o, alike_change os i f alike)

pub alike_ports : (n : ℕ) (os ps : List (Option UdpPoint)) → Alike os ps → times (has_port n) ps ≡ times (has_port n) os
alike_ports n [] [] h = refl
alike_ports n [] (p ∷ ps) h = absurd h
alike_ports n (o ∷ os) [] h = absurd h
alike_ports n (o ∷ os) (p ∷ ps) h = omega (arith, ap one_if (h.0.port n), alike_ports n os ps h.1)

pub alike_at : (os ps : List (Option UdpPoint)) (i : ℕ) → Alike os ps → AlikePoint (get os i) (get ps i)
alike_at [] [] i h = same_point (get [] i)
alike_at [] (p ∷ ps) i h = absurd h
alike_at (o ∷ os) [] i h = absurd h
alike_at (o ∷ os) (p ∷ ps) zero h = h.0
alike_at (o ∷ os) (p ∷ ps) (suc i) h = alike_at os ps i h.1

-- ---- each change

pub wanted_alike : (len : ℕ) (o : Option UdpPoint) → AlikePoint o (with_wanted len o)
wanted_alike len None = same_point None
wanted_alike len (Some p) = record { port = λ n. refl; there = refl; routine = refl; room = λ h. h }

pub sending_alike : (w : Option Sending) (o : Option UdpPoint) → AlikePoint o (with_sending w o)
sending_alike w None = same_point None
sending_alike w (Some p) = record { port = λ n. refl; there = refl; routine = refl; room = λ h. h }

rest_le : (queue : List Received) → length (rest_of queue) ≤ length queue
rest_le [] = omega arith
rest_le (d ∷ ds) = omega arith

pub oldest_alike : (o : Option UdpPoint) → AlikePoint o (without_oldest o)
oldest_alike None = same_point None
oldest_alike (Some p) = record { port = λ n. refl; there = refl; routine = refl; room = λ h. omega (arith, h, rest_le p.queue) }

-- after a call at this part has ended
pub after_alike : (part : Part) (o : Option UdpPoint) → AlikePoint o (point_after part o)
after_alike Conn o = same_point o
after_alike Send o = sending_alike None o
after_alike Recv o = oldest_alike o

-- ---- calls

-- the same calls, or all but one that was found
pub data Shrinks (before : List NetCall) : List NetCall → Type 0 where
  none_ends : Shrinks before before
  one_ends : (f : NetCall → Bool) (z : NetCall × List NetCall) → take_first f before ≡ Some z → Shrinks before z.1

pub shrinks_all : (P : NetCall → Type 0) (before after : List NetCall) → Shrinks before after → AllByRecursion P before → AllByRecursion P after
shrinks_all P before _ Shrinks.none_ends h = h
shrinks_all P before _ (Shrinks.one_ends f z e) h = (all_found P f before z e h).1

pub shrinks_times : (p : NetCall → Bool) (before after : List NetCall) → Shrinks before after → times p after ≤ times p before
shrinks_times p before _ Shrinks.none_ends = omega arith
shrinks_times p before _ (Shrinks.one_ends f z e) = omega (arith, times_found p f before z e)

-- where none passes a test
pub all_none : (P : NetCall → Type 0) (p : NetCall → Bool) (cs : List NetCall) → times p cs ≡ 0 → AllByRecursion P cs → AllByRecursion (λ c. P c × (p c ≡ false)) cs
all_none P p [] none h = tt
all_none P p (c ∷ cs) none h = elim (cases_Bool (p c)) [
  | inl t ↦ absurd (omega (arith, none, ap one_if t))
  | inr t ↦ ((h.0, t), all_none P p cs (omega (arith, none)) h.1)
]

pub none_times : {X : Type 0} (p : X → Bool) (xs : List X) → list_any p xs ≡ false → times p xs ≡ 0
none_times p [] e = refl
none_times p (x ∷ xs) e = elim (cases_Bool (p x)) [
  | inl t ↦ absurd (let f : true ≡ false = rw t at e in cc)
  | inr t ↦ rw t (omega (arith, none_times p xs (rw t at e)))
]
