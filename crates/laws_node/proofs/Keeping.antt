-- Each event of the UDP end points keeps them, and the calls that wait at them, as they are to be.
use Rattle.std.proofs.Common.{◌≡◌, ◌≢◌, ℕ, ◌≤◌, Bool, true, false, not, ◌&&◌, List, [], ◌∷◌, ◌++◌, length, Option, Some, None, is_some, is_none, refl, sym, ap, subst, ◌∙◌, inl, inr, arith}
use mathlib.Core.Logic.{◌⊎◌}
use Rattle.std.specs.Prelude.{◌==◌, if◌then◌else◌}
use Rattle.std.specs.List.{list_any, AllByRecursion}
use Rattle.std.specs.Bool.{beq}
use Rattle.std.proofs.lemmas.Bool.{cases_Bool, eqb-true, eq-eqb, and_parts, and_cases, not_from_false, not-false}
use Rattle.it_types.specs.declared.id.TaskId.{TaskId}
use Rattle.it_types.specs.declared.id.ObjId.{ObjId}
use Rattle.it_types.specs.declared.id.CepId.{CepId}
use Rattle.it_types.specs.declared.id.CallNo.{CallNo}
use Rattle.it_types.specs.declared.timeout.Tmo.{Tmo}
use Rattle.it_types.specs.declared.handler.FnCode.TheVariants as functions
use Rattle.it_types.specs.Callers.{is_nblk}
use Rattle.spec_lists.specs.Tables.{get}
use Rattle.spec_lists.specs.Counting.{one_if}
use Rattle.spec_lists.proofs.Counting.{one_if-at_most}
use Rattle.spec_pend.specs.declared.slot.Slot.{Slot}
use Rattle.spec_pend.specs.declared.call.Who.TheVariants as whos
use Rattle.spec_pend.specs.declared.call.NetCall.{NetCall}
use Rattle.spec_pend.specs.Slots.{part_number, is_at}
use Rattle.spec_pend.specs.Kept.{IsCep}
use Rattle.spec_pend.proofs.Found.{all_end, all_more}
use Rattle.spec_udp.specs.declared.point.UdpPoint.{UdpPoint}
use Rattle.spec_udp.specs.PlainUdps.{PlainUdps, queue_limit}
use Rattle.spec_udp.specs.Points.{has_port, routine_at, queue_of}
use Rattle.spec_udp.specs.Rows.{is_untold, is_unknown, slot_of, who_is_told}
use Rattle.laws_node.specs.Agreement.{times}
use Rattle.laws_node.proofs.Times.{times_end}
use Rattle.laws_node.specs.EndPoints.{IsDeclared, IsToldRightly}
use Rattle.laws_node.proofs.Alike.{Alike, alike_ports, alike_at, Shrinks, shrinks_all, shrinks_times}

-- the call is a send or a receive at a UDP end point
abbrev pub IsUdpCall : NetCall → Type 0
IsUdpCall c = (c.slot ≡ slot_of c.slot.cep functions.UdpRcv) ⊎ (c.slot ≡ slot_of c.slot.cep functions.UdpSnd)

-- the call waits at this part of the UDP end point of this id
abbrev pub is_in : ℕ → ℕ → NetCall → Bool
is_in cep part c = is_at true (record { 0 = cep }) c && (part_number c.slot.part == part)

-- its end point has an id of one
abbrev pub HasCep : NetCall → Type 0
HasCep c = IsCep c.slot.cep

-- what holds also while an event goes on
pub record Kept (u : PlainUdps) (calls : List NetCall) : Type 0 where
  pub ports : (port : ℕ) → times (has_port port) u.points ≤ 1
  pub queues : (id : ℕ) → length (queue_of (get u.points id)) ≤ queue_limit
  pub known : (id : ℕ) → is_unknown u.routines (routine_at (get u.points id)) ≡ false
  pub kinds : AllByRecursion IsUdpCall calls
  pub ceps : AllByRecursion HasCep calls
  pub places : (cep part : ℕ) → times (is_in cep part) calls ≤ one_if (is_some (get u.points cep))
  pub routines : AllByRecursion (IsToldRightly u) calls

-- ---- changes of end points that are alike, and ends of calls

still_told : (u v : PlainUdps) (c : NetCall) → Alike u.points v.points → v.routines ≡ u.routines → IsToldRightly u c → IsToldRightly v c
still_told u v c alike same h = record {
  same = λ t routine is. (alike_at u.points v.points c.slot.cep.0 alike).routine ∙ h.same t routine is;
  declared = λ t routine is. subst (λ rs. IsDeclared rs routine) (sym same) (h.declared t routine is);
}

pub alike_kept : (u v : PlainUdps) (before after : List NetCall) → Kept u before → Alike u.points v.points → v.routines ≡ u.routines → Shrinks before after → Kept v after
alike_kept u v before after h alike same shrinks = record {
  ports = λ n. omega (arith, h.ports n, alike_ports n u.points v.points alike);
  queues = λ i. (alike_at u.points v.points i alike).room (h.queues i);
  known = λ i. subst (λ rs. is_unknown rs (routine_at (get v.points i)) ≡ false) (sym same) (subst (λ r. is_unknown u.routines r ≡ false) (sym (alike_at u.points v.points i alike).routine) (h.known i));
  kinds = shrinks_all IsUdpCall before after shrinks h.kinds;
  ceps = shrinks_all HasCep before after shrinks h.ceps;
  places = λ cep part. omega (arith, h.places cep part, shrinks_times (is_in cep part) before after shrinks, ap one_if (alike_at u.points v.points cep alike).there);
  routines = all_more (IsToldRightly u) (IsToldRightly v) after (λ c g. still_told u v c alike same g) (shrinks_all (IsToldRightly u) before after shrinks h.routines);
}

-- ---- a call that is accepted

there_one : (o : Option UdpPoint) → is_none o ≡ false → one_if (is_some o) ≡ 1
there_one None e = absurd cc
there_one (Some p) e = refl

-- what stands where a call is in a place
in_place : (cep part : ℕ) (c : NetCall) → is_in cep part c ≡ true → (c.slot.cep.0 ≡ cep) × (part_number c.slot.part ≡ part)
in_place cep part c e =
    let outer = and_parts (is_at true (record { 0 = cep }) c) (part_number c.slot.part == part) e in
    (eqb-true c.slot.cep.0 cep (and_parts (beq c.slot.udp true) (c.slot.cep.0 == cep) outer.0).1, eqb-true (part_number c.slot.part) part outer.1)

-- at an end point that is there, at a part at which none waits
pub joined_kept : (u : PlainUdps) (calls : List NetCall) (new : NetCall)
    → Kept u calls
    → IsUdpCall new
    → IsCep new.slot.cep
    → is_none (get u.points new.slot.cep.0) ≡ false
    → times (is_in new.slot.cep.0 (part_number new.slot.part)) calls ≡ 0
    → IsToldRightly u new
    → Kept u (calls ++ new ∷ [])
joined_kept u calls new h kind cep there none told = record {
  ports = h.ports;
  queues = h.queues;
  known = h.known;
  kinds = all_end IsUdpCall calls new h.kinds kind;
  ceps = all_end HasCep calls new h.ceps cep;
  places = places;
  routines = all_end (IsToldRightly u) calls new h.routines told;
}
  where
    places : (cep part : ℕ) → times (is_in cep part) (calls ++ new ∷ []) ≤ one_if (is_some (get u.points cep))
    places cep part = elim (cases_Bool (is_in cep part new)) [
      | inr e ↦ omega (arith, times_end (is_in cep part) calls new, ap one_if e, h.places cep part)
      | inl e ↦ (
          let at = in_place cep part new e in
          let zero : times (is_in cep part) calls ≡ 0 = subst (λ i. times (is_in i part) calls ≡ 0) at.0 (subst (λ p. times (is_in new.slot.cep.0 p) calls ≡ 0) at.1 none) in
          let one : one_if (is_some (get u.points cep)) ≡ 1 = subst (λ i. one_if (is_some (get u.points i)) ≡ 1) at.0 (there_one (get u.points new.slot.cep.0) there) in
          omega (arith, times_end (is_in cep part) calls new, zero, one, one_if-at_most (is_in cep part new))
          )
    ]

-- who is told of a call at an end point that is there: a routine only where it has one
pub told_rightly : (u : PlainUdps) (calls : List NetCall) (cep : CepId) (by : TaskId) (tmo : Tmo) (number : CallNo) (slot : Slot)
    → Kept u calls
    → slot.cep ≡ cep
    → is_untold (get u.points cep.0) tmo ≡ false
    → IsToldRightly u (record { call = number; who = who_is_told by (routine_at (get u.points cep.0)) tmo; slot = slot })
told_rightly u calls cep by tmo number slot h at told = record { same = same; declared = declared }
  where
    routine : ObjId
    routine = routine_at (get u.points cep.0)

    is_it : (later : Bool) (t : TaskId) (r : ObjId) → (if later then whos.Callback by routine else whos.Task by) ≡ whos.Callback t r → (later ≡ true) × (routine ≡ r)
    is_it true t r is = (refl, cc)
    is_it false t r is = absurd cc

    same : (t : TaskId) (r : ObjId) → who_is_told by routine tmo ≡ whos.Callback t r → routine_at (get u.points slot.cep.0) ≡ r
    same t r is = ap (λ (c : CepId). routine_at (get u.points c.0)) at ∙ (is_it (is_nblk tmo) t r is).1

    some : is_nblk tmo ≡ true → (routine.0 == 0) ≡ false
    some later = elim (and_cases (is_nblk tmo) (routine.0 == 0) told) [
      | inl e ↦ absurd (let f : true ≡ false = sym later ∙ e in cc)
      | inr e ↦ e
    ]

    isnt_none : (routine.0 == 0) ≡ false → routine.0 ≢ 0
    isnt_none e z = absurd (let f : true ≡ false = sym (eq-eqb routine.0 0 z) ∙ e in cc)

    listed : (routine.0 == 0) ≡ false → list_any (λ r. r.0 == routine.0) u.routines ≡ true
    listed e = elim (and_cases (not (routine.0 == 0)) (not (list_any (λ r. r.0 == routine.0) u.routines)) (h.known cep.0)) [
      | inl n ↦ absurd (let f : true ≡ false = sym (not_from_false (routine.0 == 0) e) ∙ n in cc)
      | inr n ↦ not-false (list_any (λ r. r.0 == routine.0) u.routines) n
    ]

    declared : (t : TaskId) (r : ObjId) → who_is_told by routine tmo ≡ whos.Callback t r → IsDeclared u.routines r
    declared t r is =
        let it = is_it (is_nblk tmo) t r is in
        subst (IsDeclared u.routines) it.1 (record { some = isnt_none (some it.0); listed = listed (some it.0) })
