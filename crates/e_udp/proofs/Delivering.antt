-- What the code does with a datagram is what the specification says, for the end points that it began with.
use Rattle.std.proofs.Common.{◌≡◌, ℕ, ◌+◌, true, false, List, [], length, Option, None, Some, refl, ap, sym, ◌∙◌, subst, arith}
use Rattle.std.specs.Prelude.{◌==◌, is_some}
use Rattle.std.specs.List.{position}
use Rattle.std.proofs.lemmas.Bool.{eq-eqb, ne_eqb}
use Rattle.it_types.specs.declared.answer.Ans.TheVariants as answers
use Rattle.it_types.specs.declared.entry.Out.{Out}
use Rattle.it_types.specs.declared.er.Er.{Er}
use Rattle.it_types.specs.declared.handler.FnCode.TheVariants as functions
use Rattle.it_types.specs.declared.id.CepId.{CepId}
use Rattle.it_types.specs.declared.id.ObjId.{ObjId}
use Rattle.spec_lists.specs.Tables.{get, change}
use Rattle.spec_lists.proofs.Places.{no_place, place_found}
use Rattle.spec_udp.specs.declared.point.Received.{Received}
use Rattle.spec_udp.specs.Receiving.{count_code, receive_bytes, receive_code}
use Rattle.spec_pend.specs.declared.call.NetCall.{NetCall}
use Rattle.spec_pend.specs.declared.slot.Slot.{Slot}
use Rattle.spec_pend.specs.PlainPend.{PlainPend, no_endings}
use Rattle.spec_pend.specs.Slots.{at_slot, has_slot, is_taken}
use Rattle.spec_pend.specs.Ends.{told}
use Rattle.spec_udp.specs.declared.point.UdpPoint.{UdpPoint}
use Rattle.spec_udp.specs.PlainUdps.{PlainUdps, UdpSide, UdpOutcome, quiet}
use Rattle.spec_udp.specs.Points.{has_port, joined, routine_at, wanted_at}
use Rattle.spec_udp.specs.Settling.{UdpAtRest, settled}
use Rattle.spec_udp.specs.Rows.{slot_of, with_point}
use Rattle.spec_udp.specs.Arrival.{after_arrival, at_point, has_place, queued, with_event}
use Rattle.spec_udp.proofs.ArrivalCases.{arrival_ends, queued_settles, with_port_at, with_port_nowhere}
use Rattle.spec_udp.proofs.Changes.{same_at}
use Rattle.spec_udp.proofs.Settling.{settled_none}
use Rattle.e_udp.specs.Does.{Does, no_number, side}
use Rattle.e_udp.specs.Shows.{Shows, alone, ended_with}
use Rattle.e_udp.proofs.Doing.{does_same}
use Rattle.e_udp.proofs.Searches.{none_found, some_found}

-- nothing happens
pub quiet_does : {s : UdpSide} {out : Out} (o : UdpOutcome) → UdpAtRest s → o ≡ quiet s → out ≡ alone answers.Quiet → Does s no_number out (settled o)
quiet_does {s} o rest same told = does_same (ap settled same ∙ settled_none (quiet s) rest) (record { state = refl; told = told })

-- ---- which end point

pub nowhere : (s : UdpSide) (port : ℕ) (d : Received) → position (has_port port) s.udps.points ≡ None → after_arrival s (Some (record { port = port; received = d })) ≡ quiet s
nowhere s port d none = ap (at_point s d) (with_port_nowhere port 0 s.udps.points (no_place (has_port port) s.udps.points none))

module _ (s : UdpSide) (port : ℕ) (d : Received) (i : ℕ) (at : position (has_port port) s.udps.points ≡ Some i) where
  pub at_place : after_arrival s (Some (record { port = port; received = d })) ≡ at_point s d (Some (record { 0 = i }))
  at_place =
      let place = place_found (has_port port) s.udps.points i at in
      let same : 0 + i ≡ i = omega arith in
      ap (at_point s d) (with_port_at port 0 s.udps.points i place.inside place.before (place.passes None) ∙ ap (λ n. Some (record { 0 = n })) same)

  pub is_there : is_some (get s.udps.points i) ≡ true
  is_there = has_one (get s.udps.points i) ((place_found (has_port port) s.udps.points i at).passes None)
    where
      has_one : (o : Option UdpPoint) → has_port port o ≡ true → is_some o ≡ true
      has_one None e = e
      has_one (Some p) e = refl

-- ---- what happens there

point_there : (o : Option UdpPoint) → is_some o ≡ true → (p : UdpPoint) × (o ≡ Some p)
point_there None e = cc
point_there (Some p) e = (p, refl)

module _ {before named : PlainUdps} (lent : PlainPend) (same : before ≡ named) (rest : UdpAtRest (side named lent)) (cep : CepId) (d : Received) (there : is_some (get named.points cep.0) ≡ true) where
  at_rest : UdpAtRest (side before lent)
  at_rest = subst (λ u. UdpAtRest (side u lent)) (sym same) rest

  stands : (p : UdpPoint) × (get before.points cep.0 ≡ Some p)
  stands = point_there (get before.points cep.0) (subst (λ u. is_some (get u.points cep.0) ≡ true) (sym same) there)

  does_there : {after : UdpSide} {out : Out} (o : UdpOutcome) → settled (at_point (side before lent) d (Some cep)) ≡ o → Does after no_number out o → Does after no_number out (settled (at_point (side named lent) d (Some cep)))
  does_there {after} {out} o outcome does = subst (λ u. Does after no_number out (settled (at_point (side u lent) d (Some cep)))) same (does_same outcome does)

  -- the receive that waits ends
  pub ends_there : {left : PlainPend} {slot : Slot} {out : Out} (code : Er) (bytes : List ℕ)
      → slot ≡ slot_of cep functions.UdpRcv
      → is_taken lent (slot_of cep functions.UdpRcv) ≡ true
      → code ≡ receive_code (wanted_at (get before.points cep.0)) d
      → bytes ≡ receive_bytes (wanted_at (get before.points cep.0)) d
      → Shows left out answers.Quiet (ended_with (no_endings lent) (at_slot lent slot) code bytes)
      → Does (side named left) no_number out (settled (at_point (side named lent) d (Some cep)))
  ends_there {left} {slot} {out} code bytes at taken c b shows =
      subst (λ u. Does (side u left) no_number out (settled (at_point (side named lent) d (Some cep)))) same
      (does_there (outcome (Some x.0) (receive_code stands.0.wanted d) (receive_bytes stands.0.wanted d)) (arrival_ends (side before lent) cep stands.0 d stands.1 at_rest x.0 x.1)
      (subst (λ (o : UdpOutcome). Does (side before left) no_number out o) with_those (record { state = ap (side before) shows.left; told = shows.told })))
    where
      x : (z : NetCall × List NetCall) × (at_slot lent (slot_of cep functions.UdpRcv) ≡ Some z)
      x = some_found (has_slot (slot_of cep functions.UdpRcv)) lent.calls taken

      outcome : Option (NetCall × List NetCall) → Er → List ℕ → UdpOutcome
      outcome z k bs = record (quiet (side before lent)) { endings = ended_with (no_endings lent) z k bs }

      with_those : outcome (at_slot lent slot) code bytes ≡ outcome (Some x.0) (receive_code stands.0.wanted d) (receive_bytes stands.0.wanted d)
      with_those =
          ap (λ z. outcome z code bytes) (ap (at_slot lent) at ∙ x.1)
          ∙ ap (λ k. outcome (Some x.0) k bytes) (c ∙ ap (λ o. receive_code (wanted_at o) d) stands.1)
          ∙ ap (outcome (Some x.0) (receive_code stands.0.wanted d)) (b ∙ ap (λ o. receive_bytes (wanted_at o) d) stands.1)

  -- it has no place
  pub full_there : {out : Out} → has_place (get before.points cep.0) ≡ false → out ≡ alone answers.Quiet → Does (side named lent) no_number out (settled (at_point (side named lent) d (Some cep)))
  full_there {out} full told =
      subst (λ u. Does (side u lent) no_number out (settled (at_point (side u lent) d (Some cep)))) same
      (quiet_does (at_point (side before lent) d (Some cep)) at_rest (rw full refl) told)

  module _ (room : has_place (get before.points cep.0) ≡ true) (free : is_taken lent (slot_of cep functions.UdpRcv) ≡ false) where
    joins : settled (at_point (side before lent) d (Some cep)) ≡ queued (side before lent) cep d
    joins = rw room (queued_settles (side before lent) cep stands.0 d stands.1 at_rest (none_found (has_slot (slot_of cep functions.UdpRcv)) lent.calls free))

    routine_after : routine_at (get (change before.points cep.0 (joined d)) cep.0) ≡ routine_at (get before.points cep.0)
    routine_after = same_at routine_at before.points cep.0 (joined d) (as_before (get before.points cep.0))
      where
        as_before : (o : Option UdpPoint) → routine_at (joined d o) ≡ routine_at o
        as_before None = refl
        as_before (Some p) = refl

    -- it joins the queue
    pub joins_there : {points : List (Option UdpPoint)} {out : Out} (cbr : ObjId)
        → points ≡ change before.points cep.0 (joined d)
        → cbr ≡ routine_at (get points cep.0)
        → cbr.0 ≡ 0
        → out ≡ alone answers.Quiet
        → Does (side (record before { points = points }) lent) no_number out (settled (at_point (side named lent) d (Some cep)))
    joins_there {points} {out} cbr e routine none told =
        does_there (quiet (with_point (side before lent) cep (joined d))) (joins ∙ rw (free, untold) refl) (record { state = ap (λ w. side (record before { points = w }) lent) e; told = told })
      where
        untold : ((routine_at (get before.points cep.0)).0 == 0) ≡ true
        untold = eq-eqb (routine_at (get before.points cep.0)).0 0 (ap (λ (r : ObjId). r.0) (sym (routine ∙ ap (λ ps. routine_at (get ps cep.0)) e ∙ routine_after)) ∙ none)

    -- and the routine is told of it
    pub tells_there : {points : List (Option UdpPoint)} {left : PlainPend} {slot : Slot} {out : Out} (cbr : ObjId) (code : Er)
        → slot ≡ slot_of cep functions.UdpEvent
        → points ≡ change before.points cep.0 (joined d)
        → cbr ≡ routine_at (get points cep.0)
        → (cbr.0 ≡ 0 → ⊥)
        → code ≡ count_code (length d.load)
        → Shows left out answers.Quiet (told (no_endings lent) cbr slot code [])
        → Does (side (record before { points = points }) left) no_number out (settled (at_point (side named lent) d (Some cep)))
    tells_there {points} {left} {slot} {out} cbr code at e routine some c shows =
        does_there (with_event (quiet (with_point (side before lent) cep (joined d))) cep (length d.load)) (joins ∙ rw (free, is_told) refl)
        (subst (λ (o : UdpOutcome). Does (side (record before { points = points }) left) no_number out o) with_those (record { state = ap (side (record before { points = points })) shows.left; told = shows.told }))
      where
        outcome : List (Option UdpPoint) → Slot → ObjId → Er → UdpOutcome
        outcome ps w r k = record (quiet (side (record before { points = ps }) lent)) { endings = told (no_endings lent) r w k [] }

        with_those : outcome points slot cbr code ≡ with_event (quiet (with_point (side before lent) cep (joined d))) cep (length d.load)
        with_those =
            ap (λ ps. outcome ps slot cbr code) e
            ∙ ap (λ w. outcome (change before.points cep.0 (joined d)) w cbr code) at
            ∙ ap (λ r. outcome (change before.points cep.0 (joined d)) (slot_of cep functions.UdpEvent) r code) (routine ∙ ap (λ ps. routine_at (get ps cep.0)) e)
            ∙ ap (outcome (change before.points cep.0 (joined d)) (slot_of cep functions.UdpEvent) (routine_at (get (change before.points cep.0 (joined d)) cep.0))) c

        is_told : ((routine_at (get before.points cep.0)).0 == 0) ≡ false
        is_told = ne_eqb (routine_at (get before.points cep.0)).0 0 (λ zero_is. some (ap (λ (r : ObjId). r.0) (routine ∙ ap (λ ps. routine_at (get ps cep.0)) e ∙ routine_after) ∙ zero_is))
