-- Who is told of the ends of each event of the network part, by the calls that it may end.
use Rattle.std.proofs.Common.{◌≡◌, ℕ, zero, suc, true, List, [], ◌∷◌, ◌++◌, length, Option, Some, None, refl, sym, ap, ◌∙◌, subst, inl, inr}
use Rattle.std.specs.List.{AllByRecursion}
use Rattle.std.proofs.lemmas.Bool.{cases_Bool, eq-eqb}
use Rattle.std.proofs.lemmas.List.{append-nil}
use Rattle.it_types.specs.declared.id.TaskId.{TaskId}
use Rattle.it_types.specs.declared.id.CepId.{CepId}
use Rattle.it_types.specs.declared.id.CallNo.{CallNo}
use Rattle.it_types.specs.declared.er.Er.{Er}
use Rattle.it_types.specs.declared.er.TheConstants.{E_NOSPT, E_TMOUT}
use Rattle.it_types.specs.declared.timeout.Tmo.{Tmo}
use Rattle.it_types.specs.declared.context.Ctx.{Ctx}
use Rattle.it_types.specs.declared.handler.FnCode.{FnCode}
use Rattle.it_types.specs.declared.handler.FnCode.TheVariants as functions
use Rattle.it_types.specs.declared.request.Req.{Req}
use Rattle.it_types.specs.declared.request.Req.TheVariants.{UdpCreCep, UdpDelCep, UdpSndDat, UdpRcvDat, UdpCanCep}
use Rattle.it_types.specs.Callers.{caller, is_nblk, is_poll}
use Rattle.spec_lists.specs.First.{take_first}
use Rattle.spec_lists.specs.Refusal.{first_refusal}
use Rattle.spec_lists.specs.Tables.{get, change}
use Rattle.spec_lists.proofs.Firsts.{cases_of_first, found_past, none_append, none_from_parts}
use Rattle.spec_pend.specs.declared.call.NetCall.{NetCall}
use Rattle.spec_pend.specs.declared.answer.NetEnd.{NetEnd}
use Rattle.spec_pend.specs.declared.slot.Part.{Part}
use Rattle.spec_pend.specs.declared.slot.Part.TheVariants.{Conn, Send, Recv}
use Rattle.spec_pend.specs.PlainPend.{PlainPend, no_endings}
use Rattle.spec_pend.specs.Slots.{named, numbered}
use Rattle.spec_pend.specs.Ends.{end_of, ended_where}
use Rattle.spec_pend.proofs.Found.{all_found}
use Rattle.spec_udp.specs.declared.point.Received.{Received}
use Rattle.spec_udp.specs.declared.point.UdpPoint.{UdpPoint}
use Rattle.spec_udp.specs.PlainUdps.{UdpSide, UdpOutcome, quiet, side_after}
use Rattle.spec_udp.specs.Points.{joined, queue_of, routine_at, with_sending, with_wanted}
use Rattle.spec_udp.specs.Settling.{first_ready, is_ready, met, point_after, settle, settled, UdpAtRest}
use Rattle.spec_udp.specs.Packets.{Arrived, arrived_in}
use Rattle.spec_udp.specs.Arrival.{after_arrival, arrive, at_point, has_place, is_event, queued, with_event, with_port}
use Rattle.spec_udp.specs.Rows.{answered, accepted, carried_out, received, refusals, sent, slot_of, udp_call, waiting, who_is_told, with_point}
use Rattle.spec_udp.specs.Outside.{ended}
use Rattle.spec_udp.proofs.Changes.{change_no_more, no_more_twice, sends_no_more, taken_no_more, wanted_no_more}
use Rattle.spec_udp.proofs.Settling.{NoMore, settled_none, settles_one, still_rests}
use Rattle.spec_udp.proofs.RowCases.{udp_call_refused, udp_call_carried_out, made_settles, taken_settles, deleted_settles, cancelled_settles, ended_settles, waiting_settles}
use Rattle.laws_node.proofs.RowActs.{either}
use Rattle.n_node.specs.Callers.{call_found, listed, ended_by, task_told, task_by, TellWho}

-- ---- the end of a call that was found

itself : (c : NetCall) → task_by (c ∷ []) c.call ≡ task_told c.who
itself c = rw (eq-eqb c.call.0 c.call.0 refl) refl

found_told : (p : PlainPend) (x : Option (NetCall × List NetCall)) (code : Er) → TellWho (listed (call_found x)) (ended_where (no_endings p) x code).ends
found_told p None code = tt
found_told p (Some z) code = (itself z.0, tt)

-- the end from outside
pub ended_told : (s : UdpSide) (number : CallNo) (code : Er) → UdpAtRest s → TellWho (listed (call_found (numbered s.pend number))) (ended s number code).endings.ends
ended_told s number code rest = rw (ended_settles s number code rest) (found_told s.pend (numbered s.pend number) code)

-- ---- calls that are accepted

after_no_more : (part : Part) (points : List (Option UdpPoint)) (at : ℕ) → NoMore points (change points at (point_after part))
after_no_more Conn points at = change_no_more points at (point_after Conn) (λ e. e)
after_no_more Send points at = sends_no_more points at None
after_no_more Recv points at = taken_no_more points at

-- a call that is accepted, and of which a routine is told: its end is the only one, if it ends
module _ (s : UdpSide) (by : TaskId) (cep : CepId) (func : FnCode) (tmo : Tmo) (number : CallNo) (changed : Option UdpPoint → Option UdpPoint) (rest : UdpAtRest s) (less : NoMore s.udps.points (change s.udps.points cep.0 changed)) (later : is_nblk tmo ≡ true) where
  abbrev joins : UdpOutcome
  joins = accepted (with_point s cep changed) by cep func tmo number

  abbrev new : NetCall
  new = record { call = number; who = who_is_told by (routine_at (get (change s.udps.points cep.0 changed) cep.0)) tmo; slot = slot_of cep func }

  by_routine : None ≡ task_told new.who
  by_routine = rw later refl

  still : take_first (is_ready joins.udps) s.pend.calls ≡ None
  still = still_rests s.udps joins.udps s.pend.calls less rest

  pub accepted_told : TellWho [] (settled joins).endings.ends
  accepted_told = elim (cases_Bool (is_ready joins.udps new)) [
    | inl ready ↦ rw (settles_one s.udps joins (new, s.pend.calls) (found_past (is_ready joins.udps) s.pend.calls new [] still ready ∙ ap (λ (cs : List NetCall). Some (new, cs)) (append-nil s.pend.calls)) rest
        (no_more_twice s.udps.points joins.udps.points (change joins.udps.points new.slot.cep.0 (point_after new.slot.part)) less (after_no_more new.slot.part joins.udps.points new.slot.cep.0))) (by_routine, tt)
    | inr unready ↦ rw (settled_none joins (none_append (is_ready joins.udps) s.pend.calls (new ∷ []) still (none_from_parts (is_ready joins.udps) new [] unready refl))) tt
  ]

-- ---- the calls

module _ (s : UdpSide) (ctx : Ctx) (number : CallNo) (rest : UdpAtRest s) where
  abbrev Untold : UdpOutcome → Type 0
  Untold o = TellWho [] (settled o).endings.ends

  waits_untold : (cep : CepId) (len : ℕ) (tmo : Tmo) → queue_of (get s.udps.points cep.0) ≡ [] → Untold (waiting s (caller ctx) cep len tmo number)
  waits_untold cep len tmo empty = rw (waiting_settles s (caller ctx) cep len tmo number empty rest) tt

  answered_untold : (code : Er) → Untold (answered s code [])
  answered_untold code = rw (settled_none (answered s code []) rest) tt

  received_untold : (cep : CepId) (len : ℕ) (tmo : Tmo) (queue : List Received) → queue_of (get s.udps.points cep.0) ≡ queue → Untold (received s (caller ctx) cep len tmo number queue)
  received_untold cep len tmo [] empty =
      either Untold (is_poll tmo) (answered s E_TMOUT []) (waiting s (caller ctx) cep len tmo number) (λ poll. answered_untold E_TMOUT) (λ waits. waits_untold cep len tmo empty)
  received_untold cep len tmo (d ∷ ds) queue = rw (taken_settles s cep _ _ rest) tt

  carried_told : (request : Req) → TellWho (listed (ended_by s.pend request)) (settled (carried_out s ctx request number)).endings.ends
  carried_told (UdpCreCep cep port cbr) = rw (made_settles s cep port cbr rest) tt
  carried_told (UdpDelCep cep) = rw (deleted_settles s cep rest) (found_told s.pend (named s.pend true cep functions.All) _)
  carried_told (UdpSndDat cep dest load tmo) =
      either Untold (is_nblk tmo) _ (sent s cep dest load) (accepted_told s (caller ctx) cep functions.UdpSnd tmo number (with_sending (Some (record { dest = dest; load = load }))) rest (sends_no_more s.udps.points cep.0 (Some (record { dest = dest; load = load }))))
      (λ now. rw (settled_none (sent s cep dest load) rest) tt)
  carried_told (UdpRcvDat cep len tmo) =
      let queue : List Received = queue_of (get s.udps.points cep.0) in
      either Untold (is_nblk tmo) _ (received s (caller ctx) cep len tmo number queue) (accepted_told s (caller ctx) cep functions.UdpRcv tmo number (with_wanted len) rest (wanted_no_more s.udps.points cep.0 len))
      (λ now. received_untold cep len tmo queue refl)
  carried_told (UdpCanCep cep func) = rw (cancelled_settles s cep func rest) (found_told s.pend (named s.pend true cep func) _)
  carried_told _ = answered_untold E_NOSPT

  told_nothing : (callers : List NetCall) (code : Er) → TellWho callers (answered s code []).endings.ends
  told_nothing callers code = tt

  pub call_told : (request : Req) → TellWho (listed (ended_by s.pend request)) (udp_call s ctx request number).endings.ends
  call_told request = elim (cases_of_first (first_refusal (refusals s ctx request))) [
    | inl none ↦ rw (udp_call_carried_out s ctx request number none) (carried_told request)
    | inr code ↦ rw (udp_call_refused s ctx request number code.0 rest code.1) (told_nothing (listed (ended_by s.pend request)) code.0)
  ]

-- ---- a packet

module _ (callers : List NetCall) where
  abbrev Tells : NetCall → Type 0
  Tells c = task_by callers c.call ≡ task_told c.who

  tell_more : (es ds : List NetEnd) → TellWho callers es → TellWho callers ds → TellWho callers (es ++ ds)
  tell_more [] ds a b = b
  tell_more (e ∷ es) ds a b = (a.0, tell_more es ds a.1 b)

  -- where each call that waits is told, so is each end
  settle_told : (n : ℕ) (o : UdpOutcome) → AllByRecursion Tells o.endings.pend.calls → TellWho callers o.endings.ends → TellWho callers (settle n o).endings.ends
  unfolding settle
  settle_told zero o all told = told
  settle_told (suc n) o all told = elim (cases_of_first (first_ready (side_after o))) [
    | inl none ↦ rw none told
    | inr z ↦ (
        let parts = all_found Tells (is_ready o.udps) o.endings.pend.calls z.0 z.1 all in
        rw z.1 (settle_told n (met o z.0) parts.1 (tell_more o.endings.ends (end_of z.0.0 _ _ ∷ []) told (parts.0, tt)))
        )
  ]

  abbrev NoneEnded : List NetCall → UdpOutcome → Type 0
  NoneEnded calls o = (o.endings.pend.calls ≡ calls) × (o.endings.ends ≡ [])

  settled_told : (calls : List NetCall) (o : UdpOutcome) → NoneEnded calls o → AllByRecursion Tells calls → TellWho callers (settled o).endings.ends
  unfolding settled
  settled_told calls o h all = settle_told (length o.endings.pend.calls) o (subst (AllByRecursion Tells) (sym h.0) all) (subst (TellWho callers) (sym h.1) tt)

  module _ (s : UdpSide) where
    queued_none : (cep : CepId) (d : Received) → NoneEnded s.pend.calls (queued s cep d)
    queued_none cep d = either (NoneEnded s.pend.calls) (is_event s cep) (with_event (quiet (with_point s cep (joined d))) cep _) (quiet (with_point s cep (joined d))) (λ event. (refl, refl)) (λ none. (refl, refl))

    at_point_none : (d : Received) (cep : Option CepId) → NoneEnded s.pend.calls (at_point s d cep)
    at_point_none d None = (refl, refl)
    at_point_none d (Some cep) = either (NoneEnded s.pend.calls) (has_place (get s.udps.points cep.0)) (queued s cep d) (quiet s) (λ place. queued_none cep d) (λ full. (refl, refl))

    arrival_none : (a : Option Arrived) → NoneEnded s.pend.calls (after_arrival s a)
    arrival_none None = (refl, refl)
    arrival_none (Some a) = at_point_none a.received (with_port 0 a.port s.udps.points)

    pub arrival_told : (bytes : List ℕ) → AllByRecursion Tells s.pend.calls → TellWho callers (arrive s bytes).endings.ends
    unfolding arrive
    arrival_told bytes all = settled_told s.pend.calls (after_arrival s (arrived_in s.udps.addr bytes)) (arrival_none (arrived_in s.udps.addr bytes)) all
