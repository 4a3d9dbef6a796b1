-- End points that are made and deleted, where no call is ready: then only receives wait, at most one at each.
use Rattle.std.proofs.Common.{◌≡◌, ◌≢◌, ℕ, zero, suc, ◌+◌, ◌≤◌, Bool, true, false, not, ◌&&◌, List, [], ◌∷◌, length, Option, Some, None, is_some, refl, sym, ap, subst, ◌∙◌, inl, inr, arith}
use mathlib.Core.Logic.{◌⊎◌}
use Rattle.std.specs.Prelude.{◌==◌, nat_lt}
use Rattle.std.specs.Bool.{beq}
use Rattle.std.specs.List.{list_any, AllByRecursion}
use Rattle.std.proofs.lemmas.Bool.{cases_eq, eq-eqb, ne_eqb, and_parts, and_from, and_right, or_from}
use Rattle.it_types.specs.declared.id.TaskId.{TaskId}
use Rattle.it_types.specs.declared.id.ObjId.{ObjId}
use Rattle.it_types.specs.declared.id.CepId.{CepId}
use Rattle.it_types.specs.declared.er.Er.{Er}
use Rattle.it_types.specs.declared.handler.FnCode.TheVariants as functions
use Rattle.spec_lists.specs.Tables.{get, change}
use Rattle.spec_lists.specs.First.{take_first, is_least}
use Rattle.spec_lists.specs.Counting.{one_if}
use Rattle.spec_lists.proofs.Counting.{one_if-at_most}
use Rattle.spec_lists.proofs.Changes.{get-change_other}
use Rattle.spec_lists.proofs.Firsts.{none_parts}
use Rattle.spec_pend.specs.declared.slot.Slot.{Slot}
use Rattle.spec_pend.specs.declared.slot.Part.{Part}
use Rattle.spec_pend.specs.declared.slot.Part.TheVariants.{Conn, Send, Recv}
use Rattle.spec_pend.specs.declared.call.Who.TheVariants as whos
use Rattle.spec_pend.specs.declared.call.NetCall.{NetCall}
use Rattle.spec_pend.specs.PlainPend.{PlainPend, no_endings}
use Rattle.spec_pend.specs.Slots.{part_number, part_of, is_at, is_named}
use Rattle.spec_pend.specs.Ends.{ended_where}
use Rattle.spec_pend.proofs.Found.{all_more}
use Rattle.spec_udp.specs.declared.point.UdpPoint.{UdpPoint}
use Rattle.spec_udp.specs.PlainUdps.{PlainUdps, queue_limit}
use Rattle.spec_udp.specs.Points.{has_port, routine_at, queue_of}
use Rattle.spec_udp.specs.Ports.{is_taken}
use Rattle.spec_udp.specs.Rows.{is_unknown, slot_of}
use Rattle.spec_udp.specs.Settling.{is_met, is_ready}
use Rattle.laws_kernel.proofs.Lists.{found_passes}
use Rattle.laws_node.specs.Agreement.{times}
use Rattle.laws_node.proofs.Times.{times_found, times_none}
use Rattle.laws_node.specs.EndPoints.{IsReceive, IsToldRightly}
use Rattle.laws_node.proofs.Alike.{Shrinks, shrinks_all, shrinks_times, all_none, none_times}
use Rattle.laws_node.proofs.Keeping.{IsUdpCall, HasCep, is_in, Kept}

-- ---- where no call is ready

send_ready : (u : PlainUdps) (c : NetCall) → c.slot ≡ slot_of c.slot.cep functions.UdpSnd → is_ready u c ≡ true
send_ready u c e = ap (λ (slot : Slot). slot.udp && is_met (get u.points slot.cep.0) slot.part) e

-- only receives wait
pub all_receives : (u : PlainUdps) (cs : List NetCall) → take_first (is_ready u) cs ≡ None → AllByRecursion IsUdpCall cs → AllByRecursion IsReceive cs
all_receives u [] rest h = tt
all_receives u (c ∷ cs) rest h = (one h.0, all_receives u cs parts.1 h.1)
  where
    parts : (is_ready u c ≡ false) × (take_first (is_ready u) cs ≡ None)
    parts = none_parts (is_ready u) c cs rest

    one : IsUdpCall c → IsReceive c
    one (inl receive) = receive
    one (inr send) = absurd (let f : true ≡ false = sym (send_ready u c send) ∙ parts.0 in cc)

receives_last : (c : NetCall) → IsReceive c → part_number c.slot.part ≡ 2
receives_last c e = ap (λ (slot : Slot). part_number slot.part) e

-- so none waits at another part
pub none_elsewhere : (cep part : ℕ) (cs : List NetCall) → part ≢ 2 → AllByRecursion IsReceive cs → times (is_in cep part) cs ≡ 0
none_elsewhere cep part [] other h = refl
none_elsewhere cep part (c ∷ cs) other h =
    omega (arith, none_elsewhere cep part cs other h.1, ap one_if (and_right (is_at true (record { 0 = cep }) c) (part_number c.slot.part == part) (ne_eqb (part_number c.slot.part) part (λ e. other (sym e ∙ receives_last c h.0)))))

-- those at an end point are those at its part for receives
pub receives_at : (cep : ℕ) (cs : List NetCall) → AllByRecursion IsReceive cs → times (is_at true (record { 0 = cep })) cs ≡ times (is_in cep 2) cs
receives_at cep [] h = refl
receives_at cep (c ∷ cs) h = omega (arith, receives_at cep cs h.1, ap one_if (same (is_at true (record { 0 = cep }) c) (part_number c.slot.part) (receives_last c h.0)))
  where
    same : (b : Bool) (part : ℕ) → part ≡ 2 → (b && (part == 2)) ≡ b
    same true part e = eq-eqb part 2 e
    same false part e = refl

-- ---- one end point is made or deleted

-- in its place
times_made : (p : Option UdpPoint → Bool) (points : List (Option UdpPoint)) (i : ℕ) (new : Option UdpPoint) → times p (change points i (λ _. new)) ≤ times p points + one_if (p new)
times_made p [] zero new = omega arith
times_made p [] (suc i) new = omega arith
times_made p (o ∷ os) zero new = omega arith
times_made p (o ∷ os) (suc i) new = omega (arith, times_made p os i new)

-- what stands under its id then
made_at : (points : List (Option UdpPoint)) (i : ℕ) (new : Option UdpPoint) → (get (change points i (λ _. new)) i ≡ new) ⊎ (get (change points i (λ _. new)) i ≡ None)
made_at [] zero new = inr refl
made_at [] (suc i) new = inr refl
made_at (o ∷ os) zero new = inl refl
made_at (o ∷ os) (suc i) new = made_at os i new

-- what holds of the new end point, of none, and of all before holds of all after
at_all : (P : Option UdpPoint → Type 0) (points : List (Option UdpPoint)) (i : ℕ) (new : Option UdpPoint) → P new → P None → ((j : ℕ) → P (get points j)) → (j : ℕ) → P (get (change points i (λ _. new)) j)
at_all P points i new holds none before j = elim (cases_eq j i) [
  | inr other ↦ subst P (sym (get-change_other points i j (λ _. new) other)) (before j)
  | inl same ↦ subst (λ k. P (get (change points i (λ _. new)) k)) (sym same) (elim (made_at points i new) [
    | inl e ↦ subst P (sym e) holds
    | inr e ↦ subst P (sym e) none
  ])
]

nothing_under : (o : Option UdpPoint) → is_some o ≡ false → o ≡ None
nothing_under None e = refl
nothing_under (Some p) e = absurd cc

-- a new end point under an id that has none
pub made_kept : (u : PlainUdps) (calls : List NetCall) (cep : CepId) (p : UdpPoint)
    → Kept u calls
    → is_some (get u.points cep.0) ≡ false
    → is_taken u.points p.port ≡ false
    → is_unknown u.routines p.routine ≡ false
    → p.queue ≡ []
    → Kept (record u { points = change u.points cep.0 (λ _. Some p) }) calls
made_kept u calls cep p h none free known empty = record {
  ports = ports;
  queues = at_all (λ o. length (queue_of o) ≤ queue_limit) u.points cep.0 (Some p) (omega (arith, ap length empty)) (omega arith) h.queues;
  known = at_all (λ o. is_unknown u.routines (routine_at o) ≡ false) u.points cep.0 (Some p) known refl h.known;
  kinds = h.kinds;
  ceps = h.ceps;
  places = places;
  routines = all_more (IsToldRightly u) (IsToldRightly after) calls told h.routines;
}
  where
    after : PlainUdps
    after = record u { points = change u.points cep.0 (λ _. Some p) }

    nothing : get u.points cep.0 ≡ None
    nothing = nothing_under (get u.points cep.0) none

    ports : (n : ℕ) → times (has_port n) after.points ≤ 1
    ports n = elim (cases_eq p.port n) [
      | inl same ↦ (
          let zero : times (has_port n) u.points ≡ 0 = ap (λ m. times (has_port m) u.points) (sym same) ∙ none_times (has_port p.port) u.points free in
          omega (arith, times_made (has_port n) u.points cep.0 (Some p), zero, one_if-at_most (p.port == n))
          )
      | inr other ↦ (
          let zero : one_if (p.port == n) ≡ 0 = ap one_if (ne_eqb p.port n other) in
          omega (arith, times_made (has_port n) u.points cep.0 (Some p), zero, h.ports n)
          )
    ]

    places : (at part : ℕ) → times (is_in at part) calls ≤ one_if (is_some (get after.points at))
    places at part = elim (cases_eq at cep.0) [
      | inl same ↦ omega (arith, h.places at part, ap (λ i. one_if (is_some (get u.points i))) same, ap (λ o. one_if (is_some o)) nothing)
      | inr other ↦ omega (arith, h.places at part, ap (λ o. one_if (is_some o)) (get-change_other u.points cep.0 at (λ _. Some p) other))
    ]

    told : (c : NetCall) → IsToldRightly u c → IsToldRightly after c
    told c g = record { same = same; declared = g.declared }
      where
        same : (t : TaskId) (routine : ObjId) → c.who ≡ whos.Callback t routine → routine_at (get after.points c.slot.cep.0) ≡ routine
        same t routine is = elim (cases_eq c.slot.cep.0 cep.0) [
          | inl at ↦ absurd ((g.declared t routine is).some (ap (λ (r : ObjId). r.0) (sym (g.same t routine is)) ∙ ap (λ i. (routine_at (get u.points i)).0) at ∙ ap (λ o. (routine_at o).0) nothing))
          | inr other ↦ ap routine_at (get-change_other u.points cep.0 c.slot.cep.0 (λ _. Some p) other) ∙ g.same t routine is
        ]

-- ---- the end of the receive that waits at an end point

below_receives : (part : Part) → nat_lt 2 (part_number part) ≡ false
below_receives Conn = refl
below_receives Send = refl
below_receives Recv = refl

none_lower : (cep : CepId) (x : NetCall) (cs : List NetCall) → AllByRecursion IsReceive cs → list_any (λ v. is_named true cep functions.All v && nat_lt (part_of v) (part_of x)) cs ≡ false
none_lower cep x [] h = refl
none_lower cep x (c ∷ cs) h =
    let lower : nat_lt (part_of c) (part_of x) ≡ false = subst (λ n. nat_lt n (part_of x) ≡ false) (sym (receives_last c h.0)) (below_receives x.slot.part) in
    or_from _ _ (and_right (is_named true cep functions.All c) (nat_lt (part_of c) (part_of x)) lower) (none_lower cep x cs h.1)

-- each call that waits there is one that is to end first
is_first : (cep : CepId) (x : NetCall) (cs : List NetCall) → AllByRecursion IsReceive cs → is_at true cep x ≡ true → is_least (is_named true cep functions.All) part_of cs x ≡ true
is_first cep x cs h e = and_from _ _ (and_from (is_at true cep x) true e refl) (ap not (none_lower cep x cs h))

first_is_at : (cep : CepId) (x : NetCall) (cs : List NetCall) → is_least (is_named true cep functions.All) part_of cs x ≡ true → is_at true cep x ≡ true
first_is_at cep x cs e = (and_parts (is_at true cep x) true (and_parts (is_named true cep functions.All x) _ e).0).0

-- after it none waits there
pub none_left : (p : PlainPend) (cep : CepId) (x : Option (NetCall × List NetCall)) (code : Er)
    → AllByRecursion IsReceive p.calls
    → times (is_at true cep) p.calls ≤ 1
    → take_first (is_least (is_named true cep functions.All) part_of p.calls) p.calls ≡ x
    → times (is_at true cep) (ended_where (no_endings p) x code).pend.calls ≡ 0
none_left p cep None code h le e = times_none (is_at true cep) (is_least (is_named true cep functions.All) part_of p.calls) p.calls (λ c at. is_first cep c p.calls h at) e
none_left p cep (Some z) code h le e =
    let one : one_if (is_at true cep z.0) ≡ 1 = ap one_if (first_is_at cep z.0 p.calls (found_passes (is_least (is_named true cep functions.All) part_of p.calls) p.calls z e)) in
    omega (arith, le, one, times_found (is_at true cep) (is_least (is_named true cep functions.All) part_of p.calls) p.calls z e)

pub where_shrinks : (p : PlainPend) (f : NetCall → Bool) (x : Option (NetCall × List NetCall)) (code : Er) → take_first f p.calls ≡ x → Shrinks p.calls (ended_where (no_endings p) x code).pend.calls
where_shrinks p f None code e = Shrinks.none_ends
where_shrinks p f (Some z) code e = Shrinks.one_ends f z e

-- ---- an end point is deleted

both : (P Q : NetCall → Type 0) (cs : List NetCall) → AllByRecursion P cs → AllByRecursion Q cs → AllByRecursion (λ c. P c × Q c) cs
both P Q [] h g = tt
both P Q (c ∷ cs) h g = ((h.0, g.0), both P Q cs h.1 g.1)

udp_call_is : (c : NetCall) → IsUdpCall c → c.slot.udp ≡ true
udp_call_is c (inl e) = ap (λ (slot : Slot). slot.udp) e
udp_call_is c (inr e) = ap (λ (slot : Slot). slot.udp) e

-- a call that isn't at the end point is at another
elsewhere : (cep : CepId) (c : NetCall) → IsUdpCall c → is_at true cep c ≡ false → c.slot.cep.0 ≢ cep.0
elsewhere cep c kind e same = absurd (let f : true ≡ false = sym (and_from (beq c.slot.udp true) (c.slot.cep.0 == cep.0) (ap (λ b. beq b true) (udp_call_is c kind)) (eq-eqb c.slot.cep.0 cep.0 same)) ∙ e in cc)

-- no more wait at a part of an end point than at the end point
pub in_is_at : (cep part : ℕ) (cs : List NetCall) → times (is_in cep part) cs ≤ times (is_at true (record { 0 = cep })) cs
in_is_at cep part [] = omega arith
in_is_at cep part (c ∷ cs) = omega (arith, in_is_at cep part cs, one (is_at true (record { 0 = cep }) c) (part_number c.slot.part == part))
  where
    one : (a b : Bool) → one_if (a && b) ≤ one_if a
    one true b = one_if-at_most b
    one false b = omega arith

-- a call at another end point
abbrev Apart : PlainUdps → CepId → NetCall → Type 0
Apart u cep c = (IsUdpCall c × IsToldRightly u c) × (is_at true cep c ≡ false)

-- where no call waits there afterwards
pub deleted_kept : (u : PlainUdps) (before after : List NetCall) (cep : CepId)
    → Kept u before
    → Shrinks before after
    → times (is_at true cep) after ≡ 0
    → Kept (record u { points = change u.points cep.0 (λ _. None) }) after
deleted_kept u before after cep h shrinks none = record {
  ports = λ n. omega (arith, times_made (has_port n) u.points cep.0 None, h.ports n);
  queues = at_all (λ o. length (queue_of o) ≤ queue_limit) u.points cep.0 None (omega arith) (omega arith) h.queues;
  known = at_all (λ o. is_unknown u.routines (routine_at o) ≡ false) u.points cep.0 None refl refl h.known;
  kinds = kinds;
  ceps = shrinks_all HasCep before after shrinks h.ceps;
  places = places;
  routines = all_more (Apart u cep) (IsToldRightly without) after told (all_none (λ c. IsUdpCall c × IsToldRightly u c) (is_at true cep) after none (both IsUdpCall (IsToldRightly u) after kinds (shrinks_all (IsToldRightly u) before after shrinks h.routines)));
}
  where
    without : PlainUdps
    without = record u { points = change u.points cep.0 (λ _. None) }

    kinds : AllByRecursion IsUdpCall after
    kinds = shrinks_all IsUdpCall before after shrinks h.kinds

    places : (at part : ℕ) → times (is_in at part) after ≤ one_if (is_some (get without.points at))
    places at part = elim (cases_eq at cep.0) [
      | inl same ↦ (let zero : times (is_at true (record { 0 = at })) after ≡ 0 = subst (λ i. times (is_at true (record { 0 = i })) after ≡ 0) (sym same) none in omega (arith, in_is_at at part after, zero))
      | inr other ↦ omega (arith, h.places at part, shrinks_times (is_in at part) before after shrinks, ap (λ o. one_if (is_some o)) (get-change_other u.points cep.0 at (λ _. None) other))
    ]

    told : (c : NetCall) → Apart u cep c → IsToldRightly without c
    told c g = record {
      same = λ t routine is. ap routine_at (get-change_other u.points cep.0 c.slot.cep.0 (λ _. None) (elsewhere cep c g.0.0 g.1)) ∙ g.0.1.same t routine is;
      declared = g.0.1.declared;
    }
