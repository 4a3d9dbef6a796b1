-- The answers of the network part: a call pends only where a task waits for it, and under the next number.
use Rattle.std.proofs.Common.{◌≡◌, ◌≢◌, ℕ, ◌+◌, true, false, not, ◌&&◌, List, [], ◌∷◌, length, Option, Some, None, refl, sym, ap, ◌∙◌, inl, inr}
use Rattle.std.proofs.lemmas.Bool.{and_cases, ne_eqb, not_from_false}
use Rattle.it_types.specs.declared.id.TaskId.{TaskId}
use Rattle.it_types.specs.declared.id.CallNo.{CallNo}
use Rattle.it_types.specs.declared.id.CepId.{CepId}
use Rattle.it_types.specs.declared.id.ObjId.{ObjId}
use Rattle.it_types.specs.declared.id.EndPt.{EndPt}
use Rattle.it_types.specs.declared.er.Er.{Er}
use Rattle.it_types.specs.declared.er.TheConstants.{E_CTX, E_NOSPT, E_TMOUT}
use Rattle.it_types.specs.declared.answer.Ans.{Ans}
use Rattle.it_types.specs.declared.answer.Ans.TheVariants as shown_answers
use Rattle.it_types.specs.declared.entry.Out.{Out}
use Rattle.it_types.specs.declared.context.Ctx.{Ctx}
use Rattle.it_types.specs.declared.context.Ctx.TheVariants.{Task, Handler}
use Rattle.it_types.specs.declared.handler.FnCode.{FnCode}
use Rattle.it_types.specs.declared.handler.FnCode.TheVariants as functions
use Rattle.it_types.specs.declared.request.Req.{Req}
use Rattle.it_types.specs.declared.request.Req.TheVariants.{UdpCreCep, UdpDelCep, UdpSndDat, UdpRcvDat, UdpCanCep}
use Rattle.it_types.specs.declared.timeout.Tmo.{Tmo}
use Rattle.it_types.specs.declared.timeout.Tmo.TheVariants as timeouts
use Rattle.it_types.specs.Callers.{caller, is_handler, is_nblk, is_poll}
use Rattle.it_types.specs.Requests.{timeout_of}
use Rattle.k_core.specs.Kernel.{may_wait}
use Rattle.spec_lists.specs.Refusal.{first_refusal}
use Rattle.spec_lists.specs.Tables.{get}
use Rattle.spec_lists.proofs.Refusing.{none_holds}
use Rattle.spec_kernel.specs.PlainKernel.{PlainKernel}
use Rattle.spec_kernel.specs.Time.{blocked}
use Rattle.spec_pend.specs.declared.answer.NetAnswer.{NetAnswer}
use Rattle.spec_pend.specs.declared.answer.NetAnswer.TheVariants as answers
use Rattle.spec_pend.specs.Outs.{shown_answer}
use Rattle.spec_udp.specs.declared.point.Received.{Received}
use Rattle.spec_udp.specs.Packets.{Arrived, arrived_in}
use Rattle.spec_udp.specs.Arrival.{after_arrival, arrive, at_point, has_place, is_event, queued, with_event, with_port}
use Rattle.spec_udp.specs.PlainUdps.{UdpSide, UdpOutcome, quiet}
use Rattle.spec_udp.specs.Points.{joined, queue_of, with_sending, with_wanted}
use Rattle.spec_udp.specs.Rows.{accepted, answered, carried_out, received, refusals, row, sent, udp_call, unless_refused, waiting, with_point}
use Rattle.spec_udp.specs.Settling.{settled, UdpAtRest}
use Rattle.spec_udp.proofs.RowCases.{udp_call_refused}
use Rattle.laws_node.proofs.NetMoves.{settle_left}
use Rattle.laws_node.proofs.RowActs.{either}
use Rattle.e_udp.specs.Contexts.{context_of}
use Rattle.e_udp.specs.Does.{Does}
use Rattle.e_udp.specs.Shows.{alone}
use Rattle.spec_node.specs.NodeStep.{blocked_where, drawn}
use Rattle.n_node.specs.declared.parts.Parts.{Parts}
use Rattle.n_node.specs.Plain.{plain}
use Rattle.n_node.specs.Contexts.{needs_task, is_udp}
use Rattle.n_node.specs.Coming.{blocked_at}

-- ---- who calls

-- the task of a context, which is none in a handler, is that context
pub context_is : (ctx : Ctx) → ((t : TaskId) → ctx ≡ Task t → t.0 ≢ 0) → context_of (caller ctx) ≡ ctx
context_is Handler some = refl
context_is (Task t) some = rw (ne_eqb t.0 0 (some t refl)) refl

-- a call that needs a task is refused in a handler before all else
pub handler_refused : (s : UdpSide) (request : Req) → needs_task request ≡ true → first_refusal (refusals s Handler request) ≡ Some E_CTX
handler_refused s (UdpCreCep cep port cbr) e = refl
handler_refused s (UdpDelCep cep) e = refl
handler_refused s (UdpSndDat cep dest load tmo) e = refl
handler_refused s (UdpRcvDat cep len tmo) e = rw e refl
handler_refused s _ e = absurd cc

-- so it is answered that it may not be made
pub refused_does : (s : UdpSide) (ctx : Ctx) (request : Req) (number : CallNo) (out : Out)
    → UdpAtRest s
    → is_handler ctx ≡ true
    → needs_task request ≡ true
    → out ≡ alone (shown_answers.Now E_CTX [])
    → Does s number out (udp_call s ctx request number)
refused_does s Handler request number out rest h n told = rw (udp_call_refused s Handler request number E_CTX rest (handler_refused s request n)) (record { state = refl; told = told })
refused_does s (Task t) request number out rest h n told = absurd cc

-- a call of another part isn't supported
pub unsupported_does : (s : UdpSide) (ctx : Ctx) (request : Req) (number : CallNo) (out : Out)
    → UdpAtRest s
    → is_udp request ≡ false
    → out ≡ alone (shown_answers.Now E_NOSPT [])
    → Does s number out (udp_call s ctx request number)
unsupported_does s ctx request number out rest u told = rw (udp_call_refused s ctx request number E_NOSPT rest (other_refused request u)) (record { state = refl; told = told })
  where
    other_refused : (request : Req) → is_udp request ≡ false → first_refusal (refusals s ctx request) ≡ Some E_NOSPT
    other_refused (UdpCreCep cep port cbr) e = absurd cc
    other_refused (UdpDelCep cep) e = absurd cc
    other_refused (UdpSndDat cep dest load tmo) e = absurd cc
    other_refused (UdpRcvDat cep len tmo) e = absurd cc
    other_refused (UdpCanCep cep func) e = absurd cc
    other_refused _ e = refl

-- a request that is no UDP call
pub no_udp : (request : Req)
    → ((cep : CepId) (port : ℕ) (cbr : ObjId) → request ≢ UdpCreCep cep port cbr)
    → ((cep : CepId) → request ≢ UdpDelCep cep)
    → ((cep : CepId) (dest : EndPt) (load : List ℕ) (tmo : Tmo) → request ≢ UdpSndDat cep dest load tmo)
    → ((cep : CepId) (len : ℕ) (tmo : Tmo) → request ≢ UdpRcvDat cep len tmo)
    → ((cep : CepId) (func : FnCode) → request ≢ UdpCanCep cep func)
    → is_udp request ≡ false
no_udp (UdpCreCep cep port cbr) a b c d e = absurd (a cep port cbr refl)
no_udp (UdpDelCep cep) a b c d e = absurd (b cep refl)
no_udp (UdpSndDat cep dest load tmo) a b c d e = absurd (c cep dest load tmo refl)
no_udp (UdpRcvDat cep len tmo) a b c d e = absurd (d cep len tmo refl)
no_udp (UdpCanCep cep func) a b c d e = absurd (e cep func refl)
no_udp _ a b c d e = refl

-- ---- which calls pend

-- a call that pends is one of a task that may wait
abbrev Waits : Ctx → Tmo → UdpOutcome → Type 0
Waits ctx tmo o = o.answer ≡ answers.Pends → (is_handler ctx ≡ false) × (may_wait tmo ≡ true)

may_wait_so : (tmo : Tmo) → is_nblk tmo ≡ false → is_poll tmo ≡ false → may_wait tmo ≡ true
may_wait_so timeouts.Pol n p = absurd cc
may_wait_so timeouts.Nblk n p = absurd cc
may_wait_so timeouts.Fevr n p = refl
may_wait_so (timeouts.Ms ticks) n p = refl

module _ (s : UdpSide) (ctx : Ctx) (number : CallNo) where
  received_waits : (cep : CepId) (len : ℕ) (tmo : Tmo) (queue : List Received)
      → (is_handler ctx && not (is_poll tmo)) ≡ false
      → is_nblk tmo ≡ false
      → Waits ctx tmo (received s (caller ctx) cep len tmo number queue)
  received_waits cep len tmo (d ∷ ds) task n = λ e. absurd cc
  received_waits cep len tmo [] task n =
      either (Waits ctx tmo) (is_poll tmo) (answered s E_TMOUT []) (waiting s (caller ctx) cep len tmo number) (λ poll e. absurd cc) (λ none e. (by_task none, may_wait_so tmo n none))
    where
      by_task : is_poll tmo ≡ false → is_handler ctx ≡ false
      by_task none = elim (and_cases (is_handler ctx) (not (is_poll tmo)) task) [
        | inl e ↦ e
        | inr e ↦ absurd (let poll : true ≡ false = sym (not_from_false (is_poll tmo) none) ∙ e in cc)
      ]

  -- a non-blocking call goes on
  later_waits : (func : FnCode) (at : UdpSide) (cep : CepId) (tmo : Tmo) → is_nblk tmo ≡ true → Waits ctx tmo (accepted at (caller ctx) cep func tmo number)
  later_waits func at cep tmo later e = absurd (let f : answers.Later ≡ answers.Pends = rw later at e in cc)

  carried_waits : (request : Req) → first_refusal (refusals s ctx request) ≡ None → Waits ctx (timeout_of request) (carried_out s ctx request number)
  carried_waits (UdpCreCep cep port cbr) allowed = λ e. absurd cc
  carried_waits (UdpDelCep cep) allowed = λ e. absurd cc
  carried_waits (UdpSndDat cep dest load tmo) allowed =
      either (Waits ctx tmo) (is_nblk tmo) _ (sent s cep dest load) (later_waits functions.UdpSnd (with_point s cep (with_sending (Some (record { dest = dest; load = load })))) cep tmo) (λ now e. absurd cc)
  carried_waits (UdpRcvDat cep len tmo) allowed =
      let queue : List Received = queue_of (get s.udps.points cep.0) in
      either (Waits ctx tmo) (is_nblk tmo) _ (received s (caller ctx) cep len tmo number queue) (later_waits functions.UdpRcv (with_point s cep (with_wanted len)) cep tmo)
      (received_waits cep len tmo queue (none_holds (refusals s ctx (UdpRcvDat cep len tmo)) allowed).0)
  carried_waits (UdpCanCep cep func) allowed = λ e. absurd cc
  carried_waits _ allowed = λ e. absurd cc

  row_waits : (request : Req) (o : UdpOutcome) (refusal : Option Er) → (refusal ≡ None → Waits ctx (timeout_of request) o) → Waits ctx (timeout_of request) (unless_refused refusal s o)
  row_waits request o None h = h refl
  row_waits request o (Some code) h = λ e. absurd cc

  call_waits : (request : Req) → Waits ctx (timeout_of request) (udp_call s ctx request number)
  unfolding udp_call settled
  call_waits request e =
      row_waits request (carried_out s ctx request number) (first_refusal (refusals s ctx request)) (carried_waits request)
      (sym (settle_left (length (row s ctx request number).endings.pend.calls) (row s ctx request number)).answer ∙ e)

-- ---- shown answers

shown_pends : (number shown : CallNo) (answer : NetAnswer) → shown_answer number answer ≡ shown_answers.Pends shown → (answer ≡ answers.Pends) × (shown ≡ number)
shown_pends number shown (answers.Now code bytes) e = absurd cc
shown_pends number shown answers.Pends e = (refl, cc)
shown_pends number shown answers.Later e = absurd cc
shown_pends number shown answers.Quiet e = absurd cc

-- a call that is shown as pending is one of a task that may wait, and has the number that it was made under
pub pends_so : (s : UdpSide) (ctx : Ctx) (request : Req) (number shown : CallNo) (answer : Ans)
    → answer ≡ shown_answer number (udp_call s ctx request number).answer
    → answer ≡ shown_answers.Pends shown
    → (is_handler ctx ≡ false) × (may_wait (timeout_of request) ≡ true) × (shown.0 ≡ number.0)
pends_so s ctx request number shown answer a e =
    let parts = shown_pends number shown (udp_call s ctx request number).answer (sym a ∙ e) in
    let waits = call_waits s ctx number request parts.0 in
    (waits.0, waits.1, ap (λ (n : CallNo). n.0) parts.1)

-- the kernel waits by the answer that is shown
pub blocked_same : (answer : NetAnswer) (k : PlainKernel) (ctx : Ctx) (request : Req) (number : CallNo)
    → blocked_where answer k ctx request number ≡ blocked_at (shown_answer number answer) k (caller ctx) (timeout_of request)
blocked_same (answers.Now code bytes) k ctx request number = refl
blocked_same answers.Pends k ctx request number = refl
blocked_same answers.Later k ctx request number = refl
blocked_same answers.Quiet k ctx request number = refl

-- ---- a packet

-- nothing is answered to it
module _ (s : UdpSide) where
  abbrev IsQuiet : UdpOutcome → Type 0
  IsQuiet o = o.answer ≡ answers.Quiet

  queued_quiet : (cep : CepId) (d : Received) → IsQuiet (queued s cep d)
  queued_quiet cep d = either IsQuiet (is_event s cep) (with_event (quiet (with_point s cep (joined d))) cep (length d.load)) (quiet (with_point s cep (joined d))) (λ event. refl) (λ none. refl)

  at_point_quiet : (d : Received) (cep : Option CepId) → IsQuiet (at_point s d cep)
  at_point_quiet d None = refl
  at_point_quiet d (Some cep) = either IsQuiet (has_place (get s.udps.points cep.0)) (queued s cep d) (quiet s) (λ place. queued_quiet cep d) (λ full. refl)

  arrival_quiet : (a : Option Arrived) → IsQuiet (after_arrival s a)
  arrival_quiet None = refl
  arrival_quiet (Some a) = at_point_quiet a.received (with_port 0 a.port s.udps.points)

  pub arrive_quiet : (bytes : List ℕ) → IsQuiet (arrive s bytes)
  unfolding arrive settled
  arrive_quiet bytes =
      let o : UdpOutcome = after_arrival s (arrived_in s.udps.addr bytes) in
      (settle_left (length o.endings.pend.calls) o).answer ∙ arrival_quiet (arrived_in s.udps.addr bytes)

-- ---- the parts after an answer

-- a task waits
pub answered_pends : (start middle : Parts) (kernel : PlainKernel) (ctx : Ctx) (tmo : Tmo) (answer : Ans) (number : CallNo) (by : TaskId) (calls : ℕ)
    → answer ≡ shown_answers.Pends number
    → by ≡ caller ctx
    → kernel ≡ blocked start.kernel by tmo number
    → middle ≡ record start { kernel = kernel }
    → calls ≡ middle.calls + drawn answer
    → plain (record middle { calls = calls }) ≡ record (plain start) { kernel = blocked_at answer start.kernel (caller ctx) tmo; calls = start.calls + drawn answer }
answered_pends start middle kernel ctx tmo answer number by calls a b k m c = rw (c, m, k, b, a) refl

-- no task waits
pub answered_else : (start middle : Parts) (ctx : Ctx) (tmo : Tmo) (answer : Ans) (calls : ℕ)
    → ((number : CallNo) → answer ≢ shown_answers.Pends number)
    → middle ≡ start
    → calls ≡ middle.calls + drawn answer
    → plain (record middle { calls = calls }) ≡ record (plain start) { kernel = blocked_at answer start.kernel (caller ctx) tmo; calls = start.calls + drawn answer }
answered_else start middle ctx tmo answer calls none m c = rw (c, m) (same answer none)
  where
    same : (answer : Ans) → ((number : CallNo) → answer ≢ shown_answers.Pends number) → record (plain start) { calls = start.calls + drawn answer } ≡ record (plain start) { kernel = blocked_at answer start.kernel (caller ctx) tmo; calls = start.calls + drawn answer }
    same (shown_answers.Now code bytes) n = refl
    same (shown_answers.Pends number) n = absurd (n number refl)
    same (shown_answers.Later number) n = refl
    same shown_answers.Quiet n = refl
