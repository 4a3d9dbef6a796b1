-- Each row of the UDP calls is one of a few acts: an answer, an end point made or deleted, a packet, the oldest datagram of an end
-- point, a send or a receive that is accepted, or a cancel. What holds of these acts holds of every row.
use Rattle.std.proofs.Common.{◌≡◌, ℕ, Bool, true, false, not, ◌&&◌, List, [], ◌∷◌, Option, Some, None, is_some, is_none, refl, sym, ◌∙◌, inl, inr}
use Rattle.std.specs.Prelude.{if◌then◌else◌}
use Rattle.std.proofs.lemmas.Bool.{and_cases, not_from_false}
use Rattle.it_types.specs.declared.id.ObjId.{ObjId}
use Rattle.it_types.specs.declared.id.CepId.{CepId}
use Rattle.it_types.specs.declared.id.CallNo.{CallNo}
use Rattle.it_types.specs.declared.id.EndPt.{EndPt}
use Rattle.it_types.specs.declared.er.Er.{Er}
use Rattle.it_types.specs.declared.er.TheConstants.{E_NOSPT, E_TMOUT}
use Rattle.it_types.specs.declared.timeout.Tmo.{Tmo}
use Rattle.it_types.specs.declared.timeout.Tmo.TheVariants as timeouts
use Rattle.it_types.specs.declared.context.Ctx.{Ctx}
use Rattle.it_types.specs.declared.handler.FnCode.{FnCode}
use Rattle.it_types.specs.declared.handler.FnCode.TheVariants as functions
use Rattle.it_types.specs.declared.request.Req.{Req}
use Rattle.it_types.specs.declared.request.Req.TheVariants.{UdpCreCep, UdpDelCep, UdpSndDat, UdpRcvDat, UdpCanCep}
use Rattle.it_types.specs.Callers.{caller, is_handler, is_nblk, is_poll}
use Rattle.spec_lists.specs.Tables.{get}
use Rattle.spec_lists.specs.Refusal.{first_refusal}
use Rattle.spec_lists.proofs.Refusing.{none_holds}
use Rattle.spec_udp.specs.declared.point.Received.{Received}
use Rattle.spec_udp.specs.Receiving.{receive_code, receive_bytes}
use Rattle.spec_udp.specs.Points.{is_wrong_id, queue_of, with_sending, without_oldest}
use Rattle.spec_pend.specs.Slots as slots
use Rattle.spec_udp.specs.declared.point.Sending.{Sending}
use Rattle.spec_udp.specs.PlainUdps.{UdpSide, UdpOutcome}
use Rattle.spec_udp.specs.Ports.{is_taken}
use Rattle.spec_udp.specs.Rows.{is_untold, is_unknown, slot_of, refusals, answered, with_point, accepted, made, deleted, sent, waiting, received, receiving, cancelled, carried_out, unless_refused, row}

-- what stands of a call of a task that is accepted: the id of an end point that is there, with a routine where it is told
pub record IsAllowed (s : UdpSide) (ctx : Ctx) (cep : CepId) (tmo : Tmo) : Type 0 where
  pub by_task : is_handler ctx ≡ false
  pub right : is_wrong_id cep.0 ≡ false
  pub there : is_none (get s.udps.points cep.0) ≡ false
  pub told : is_untold (get s.udps.points cep.0) tmo ≡ false

-- what holds of each act of a call
pub record HoldsOfActs (s : UdpSide) (ctx : Ctx) (number : CallNo) (P : UdpOutcome → Type 0) : Type 0 where
  pub answers : (code : Er) → P (answered s code [])
  -- under an id that has none, with a port that no other has, and with no routine or a declared one
  pub makes : (cep : CepId) (port : ℕ) (cbr : ObjId)
      → is_some (get s.udps.points cep.0) ≡ false
      → is_taken s.udps.points port ≡ false
      → is_unknown s.udps.routines cbr ≡ false
      → P (made s cep port cbr)
  pub deletes : (cep : CepId) → P (deleted s cep)
  pub sends : (cep : CepId) (dest : EndPt) (load : List ℕ) → P (sent s cep dest load)
  pub takes : (cep : CepId) (code : Er) (bytes : List ℕ) → P (answered (with_point s cep without_oldest) code bytes)
  -- a send of which a routine is told
  pub sends_later : (cep : CepId) (what : Sending) (tmo : Tmo)
      → IsAllowed s ctx cep tmo
      → is_nblk tmo ≡ true
      → P (accepted (with_point s cep (with_sending (Some what))) (caller ctx) cep functions.UdpSnd tmo number)
  -- a receive, where no other waits
  pub waits : (cep : CepId) (len : ℕ) (tmo : Tmo)
      → IsAllowed s ctx cep tmo
      → slots.is_taken s.pend (slot_of cep functions.UdpRcv) ≡ false
      → P (waiting s (caller ctx) cep len tmo number)
  pub cancels : (cep : CepId) (func : FnCode) → P (cancelled s cep func)

-- a non-blocking call is no poll
no_poll : (tmo : Tmo) → is_nblk tmo ≡ true → is_poll tmo ≡ false
no_poll timeouts.Pol e = absurd cc
no_poll timeouts.Nblk e = refl
no_poll timeouts.Fevr e = absurd cc
no_poll (timeouts.Ms ticks) e = absurd cc

pub either : {X : Type 0} (P : X → Type 0) (b : Bool) (x y : X) → (b ≡ true → P x) → (b ≡ false → P y) → P (if b then x else y)
either P true x y on off = on refl
either P false x y on off = off refl

module _ {s : UdpSide} {ctx : Ctx} {number : CallNo} (P : UdpOutcome → Type 0) (acts : HoldsOfActs s ctx number P) where
  received_acts : (cep : CepId) (len : ℕ) (tmo : Tmo) (queue : List Received) → (is_poll tmo ≡ false → P (waiting s (caller ctx) cep len tmo number)) → P (received s (caller ctx) cep len tmo number queue)
  received_acts cep len tmo [] wait = either P (is_poll tmo) (answered s E_TMOUT []) (waiting s (caller ctx) cep len tmo number) (λ poll. acts.answers E_TMOUT) wait
  received_acts cep len tmo (d ∷ ds) wait = acts.takes cep (receive_code len d) (receive_bytes len d)

  receiving_acts : (cep : CepId) (len : ℕ) (tmo : Tmo)
      → (is_handler ctx && not (is_poll tmo)) ≡ false
      → (is_handler ctx ≡ false → P (waiting s (caller ctx) cep len tmo number))
      → P (receiving s (caller ctx) cep len tmo number)
  receiving_acts cep len tmo allowed wait =
      let queue : List Received = queue_of (get s.udps.points cep.0) in
      either P (is_nblk tmo) (waiting s (caller ctx) cep len tmo number) (received s (caller ctx) cep len tmo number queue) later
      (λ none. received_acts cep len tmo queue (λ none. wait (by_task none)))
    where
      by_task : is_poll tmo ≡ false → is_handler ctx ≡ false
      by_task none = elim (and_cases (is_handler ctx) (not (is_poll tmo)) allowed) [
        | inl e ↦ e
        | inr e ↦ absurd (let poll : true ≡ false = sym (not_from_false (is_poll tmo) none) ∙ e in cc)
      ]

      later : is_nblk tmo ≡ true → P (waiting s (caller ctx) cep len tmo number)
      later nblk = wait (by_task (no_poll tmo nblk))

  carried_out_acts : (request : Req) → first_refusal (refusals s ctx request) ≡ None → P (carried_out s ctx request number)
  carried_out_acts (UdpCreCep cep port cbr) allowed =
      let tests = none_holds (refusals s ctx (UdpCreCep cep port cbr)) allowed in acts.makes cep port cbr tests.1.1.0 tests.1.1.1.0 tests.1.1.1.1.0
  carried_out_acts (UdpDelCep cep) allowed = acts.deletes cep
  carried_out_acts (UdpSndDat cep dest load tmo) allowed =
      let tests = none_holds (refusals s ctx (UdpSndDat cep dest load tmo)) allowed in
      either P (is_nblk tmo) _ (sent s cep dest load)
      (acts.sends_later cep (record { dest = dest; load = load }) tmo (record { by_task = tests.0; right = tests.1.0; there = tests.1.1.0; told = tests.1.1.1.1.1.1.1.0 })) (λ now. acts.sends cep dest load)
  carried_out_acts (UdpRcvDat cep len tmo) allowed =
      let tests = none_holds (refusals s ctx (UdpRcvDat cep len tmo)) allowed in
      receiving_acts cep len tmo tests.0 (λ task. acts.waits cep len tmo (record { by_task = task; right = tests.1.0; there = tests.1.1.0; told = tests.1.1.1.1.0 }) tests.1.1.1.1.1.0)
  carried_out_acts (UdpCanCep cep func) allowed = acts.cancels cep func
  carried_out_acts _ allowed = acts.answers E_NOSPT

  unless_refused_acts : (o : UdpOutcome) (refusal : Option Er) → (refusal ≡ None → P o) → P (unless_refused refusal s o)
  unless_refused_acts o None carried = carried refl
  unless_refused_acts o (Some code) carried = acts.answers code

  -- what holds of each act holds of each row
  pub row_acts : (request : Req) → P (row s ctx request number)
  row_acts request = unless_refused_acts (carried_out s ctx request number) (first_refusal (refusals s ctx request)) (carried_out_acts request)
