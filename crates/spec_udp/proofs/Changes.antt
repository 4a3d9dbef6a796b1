-- What a change of one end point makes of what is met there.
use Rattle.std.proofs.Common.{◌≡◌, ℕ, ◌<◌, ◌≤◌, true, false, List, [], ◌∷◌, length, Option, Some, None, refl, sym, ap, subst, ◌∙◌, inl, inr}
use mathlib.Core.Logic.{◌⊎◌}
use Rattle.std.proofs.lemmas.Bool.{cases_Bool, cases_eq, cases_lt}
use Rattle.std.proofs.lemmas.List.{get_or-set_same, get_or_past, length-set, set-get_or}
use Rattle.std.specs.Prelude.{slice_set}
use Rattle.it_types.specs.declared.id.ObjId.{ObjId}
use Rattle.spec_lists.specs.Tables.{get, change}
use Rattle.spec_lists.proofs.Changes.{get-change_other}
use Rattle.spec_udp.specs.declared.point.Received.{Received}
use Rattle.spec_udp.specs.Points.{has_some, queue_of, rest_of, new_point, with_wanted, with_sending, without_oldest}
use Rattle.spec_udp.specs.declared.point.Sending.{Sending}
use Rattle.spec_udp.specs.declared.point.UdpPoint.{UdpPoint}
use Rattle.spec_udp.proofs.Settling.{NoMore}

-- where the end point that is changed has nothing that it hadn't
pub change_no_more : (points : List (Option UdpPoint)) (at : ℕ) (f : Option UdpPoint → Option UdpPoint)
    → (has_some (queue_of (f (get points at))) ≡ true → has_some (queue_of (get points at)) ≡ true)
    → NoMore points (change points at f)
change_no_more points at f less i e = elim (cases_eq i at) [
  | inr other ↦ sym (ap (λ o. has_some (queue_of o)) (get-change_other points at i f other)) ∙ e
  | inl same ↦ (
      let there : has_some (queue_of (get (change points at f) at)) ≡ true = subst (λ j. has_some (queue_of (get (change points at f) j)) ≡ true) same e in
      subst (λ j. has_some (queue_of (get points j)) ≡ true) (sym same) (at_place (cases_lt at (length points)) there)
      )
]
  where
    at_place : (at < length points) ⊎ (length points ≤ at) → has_some (queue_of (get (change points at f) at)) ≡ true → has_some (queue_of (get points at)) ≡ true
    at_place (inl inside) h = less (sym (ap (λ o. has_some (queue_of o)) (get_or-set_same points at (f (get points at)) None inside)) ∙ h)
    at_place (inr past) h = absurd (
        let nothing : get (change points at f) at ≡ None = get_or_past (change points at f) at None (subst (λ n. n ≤ at) (sym (length-set points at (f (get points at)))) past) in
        let none : false ≡ true = sym (ap (λ o. has_some (queue_of o)) nothing) ∙ h in
        cc
        )

pub no_more_twice : (before between after : List (Option UdpPoint)) → NoMore before between → NoMore between after → NoMore before after
no_more_twice before between after first second i e = first i (second i e)

-- what isn't met isn't after it
pub not_met : (before after : List (Option UdpPoint)) (i : ℕ) → NoMore before after → has_some (queue_of (get before i)) ≡ false → has_some (queue_of (get after i)) ≡ false
not_met before after i no_more none = elim (cases_Bool (has_some (queue_of (get after i)))) [
  | inl e ↦ absurd (let some = no_more i e in cc)
  | inr e ↦ e
]

-- ---- each change

some_before : (o : Option UdpPoint) → has_some (queue_of (without_oldest o)) ≡ true → has_some (queue_of o) ≡ true
some_before None e = e
some_before (Some p) e = of_queue p.queue e
  where
    of_queue : (queue : List Received) → has_some (rest_of queue) ≡ true → has_some queue ≡ true
    of_queue [] h = h
    of_queue (d ∷ ds) h = refl

wanted_before : (len : ℕ) (o : Option UdpPoint) → has_some (queue_of (with_wanted len o)) ≡ true → has_some (queue_of o) ≡ true
wanted_before len None e = e
wanted_before len (Some p) e = e

sending_before : (w : Option Sending) (o : Option UdpPoint) → has_some (queue_of (with_sending w o)) ≡ true → has_some (queue_of o) ≡ true
sending_before w None e = e
sending_before w (Some p) e = e

-- the oldest datagram is taken
pub taken_no_more : (points : List (Option UdpPoint)) (at : ℕ) → NoMore points (change points at without_oldest)
taken_no_more points at = change_no_more points at without_oldest (some_before (get points at))

-- a receive wants so many bytes
pub wanted_no_more : (points : List (Option UdpPoint)) (at len : ℕ) → NoMore points (change points at (with_wanted len))
wanted_no_more points at len = change_no_more points at (with_wanted len) (wanted_before len (get points at))

-- what is to be sent
pub sends_no_more : (points : List (Option UdpPoint)) (at : ℕ) (w : Option Sending) → NoMore points (change points at (with_sending w))
sends_no_more points at w = change_no_more points at (with_sending w) (sending_before w (get points at))

-- an end point is made
pub made_no_more : (points : List (Option UdpPoint)) (at port : ℕ) (cbr : ObjId) → NoMore points (change points at (λ _. Some (new_point port cbr)))
made_no_more points at port cbr = change_no_more points at (λ _. Some (new_point port cbr)) (λ e. absurd (let none : false ≡ true = e in cc))

-- an end point is deleted
pub deleted_no_more : (points : List (Option UdpPoint)) (at : ℕ) → NoMore points (change points at (λ _. None))
deleted_no_more points at = change_no_more points at (λ _. None) (λ e. absurd (let none : false ≡ true = e in cc))

-- ---- nothing is taken from an empty queue

nothing_taken : (o : Option UdpPoint) → queue_of o ≡ [] → without_oldest o ≡ o
nothing_taken None e = refl
nothing_taken (Some p) e = ap (λ q. Some (record p { queue = q })) (ap rest_of e ∙ sym e)

pub taken_nowhere : (points : List (Option UdpPoint)) (at : ℕ) → queue_of (get points at) ≡ [] → change points at without_oldest ≡ points
taken_nowhere points at e = ap (λ o. slice_set points at o) (nothing_taken (get points at) e) ∙ set-get_or points at None

-- what a change leaves alone at its end point is there as before
pub same_at : {V : Type 0} (view : Option UdpPoint → V) (points : List (Option UdpPoint)) (at : ℕ) (f : Option UdpPoint → Option UdpPoint)
    → view (f (get points at)) ≡ view (get points at)
    → view (get (change points at f) at) ≡ view (get points at)
same_at view points at f same = elim (cases_lt at (length points)) [
  | inl inside ↦ ap view (get_or-set_same points at (f (get points at)) None inside) ∙ same
  | inr past ↦ (
      let after : get (change points at f) at ≡ None = get_or_past (change points at f) at None (subst (λ n. n ≤ at) (sym (length-set points at (f (get points at)))) past) in
      ap view (after ∙ sym (get_or_past points at None past))
      )
]
