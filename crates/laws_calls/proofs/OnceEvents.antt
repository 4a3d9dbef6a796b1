-- Each event keeps the books, and each return is right.
use Rattle.std.proofs.Common.{◌≡◌, ◌≢◌, ℕ, ◌+◌, ◌≤◌, true, false, not, List, [], ◌∷◌, ◌++◌, Option, Some, None, is_some, refl, sym, ap, ◌∙◌, subst, inl, inr, arith}
use mathlib.Core.Logic.{◌⊎◌}
use Rattle.std.specs.Prelude.{◌==◌}
use Rattle.std.specs.List.{list_any}
use Rattle.std.proofs.lemmas.Bool.{cases_Bool, cases_eq, eqb-true, eq-eqb, ne_eqb, and_parts, not-true}
use Rattle.it_types.specs.declared.id.TaskId.{TaskId}
use Rattle.it_types.specs.declared.id.CallNo.{CallNo}
use Rattle.it_types.specs.declared.context.Ctx.{Ctx}
use Rattle.it_types.specs.declared.context.Ctx.TheVariants as contexts
use Rattle.it_types.specs.declared.answer.Ans.{Ans}
use Rattle.it_types.specs.declared.answer.Ans.TheVariants as answers
use Rattle.it_types.specs.declared.handler.Handler.{Handler}
use Rattle.it_types.specs.declared.kernel_request.KReq.{KReq}
use Rattle.it_types.specs.declared.request.Req.{Req}
use Rattle.it_types.specs.declared.entry.Out.{Out}
use Rattle.it_types.specs.Callers.{caller, nobody}
use Rattle.it_types.specs.Requests.{kernel_of, timeout_of}
use Rattle.spec_lists.specs.Tables.{get}
use Rattle.spec_lists.specs.Counting.{one_if}
use Rattle.spec_kernel.specs.declared.reason.WaitReason.TheVariants as reasons
use Rattle.spec_kernel.specs.declared.reason.WaitingCall.{WaitingCall}
use Rattle.spec_kernel.specs.declared.outcome.KAns.{KAns}
use Rattle.spec_kernel.specs.declared.outcome.KAns.TheVariants as kernel_answers
use Rattle.spec_kernel.specs.Settle.{Outcome, is_outside, settled}
use Rattle.spec_kernel.specs.Rows.{waiting_call, row, call, tick}
use Rattle.spec_kernel.specs.Standing.{IsStanding}
use Rattle.spec_pend.specs.declared.call.Who.{Who}
use Rattle.spec_pend.specs.declared.call.Who.TheVariants as whos
use Rattle.spec_pend.specs.declared.call.NetCall.{NetCall}
use Rattle.spec_pend.specs.declared.answer.NetAnswer.{NetAnswer}
use Rattle.spec_pend.specs.declared.answer.NetAnswer.TheVariants as net_answers
use Rattle.spec_pend.specs.Ends.{first_due}
use Rattle.spec_pend.specs.Outs.{shown_answer}
use Rattle.spec_udp.specs.PlainUdps.{UdpOutcome}
use Rattle.spec_udp.specs.Rows.{udp_call}
use Rattle.spec_udp.specs.Arrival.{arrive}
use Rattle.spec_node.specs.declared.held.Held.{Held}
use Rattle.spec_node.specs.declared.event.NodeEv.{NodeEv}
use Rattle.spec_node.specs.declared.event.NodeEv.TheVariants.{Call, Return, Begin, Finish, Tick, Arrive}
use Rattle.spec_node.specs.PlainNode.{PlainNode, holds_answer}
use Rattle.spec_node.specs.Progress.{Progress, after_net, after_kernel, timed_out}
use Rattle.spec_node.specs.Handlers.{entered_marks}
use Rattle.spec_node.specs.NodeStep.{next_number, kernel_answer, beginning, told_only, blocked_where, kernel_called, network_called, called_as, arrived, tick_beginning, ticked, held_answer, returned, begun, finished, node_step}
use Rattle.spec_node.specs.Admitted.{is_free, is_admitted}
use Rattle.laws_kernel.specs.Calling.{Calls}
use Rattle.laws_kernel.proofs.Callers.{caller_waits_not}
use Rattle.laws_kernel.proofs.Lists.{waiting_none}
use Rattle.laws_node.specs.Agreement.{times, times_waiting, is_outside_call, tells}
use Rattle.laws_node.specs.Agreement as agreement
use Rattle.laws_node.proofs.Times.{times_end}
use Rattle.laws_node.proofs.KernelMoves.{call_moves}
use Rattle.laws_node.proofs.Holders.{nobody_waits, HoldsNone}
use Rattle.laws_node.proofs.TakingOver.{kernel_taken}
use Rattle.laws_node.proofs.Along.{Holds, calls_itself, step_holds}
use Rattle.laws_calls.specs.Once.{NodeEntry, entry_at, accepts, is_end_of, asked_in, is_return, is_gone, open_call, HasEnded, Returns, ReturnsRightly}
use Rattle.laws_calls.proofs.OnceLists.{all_end, all_more, all_both, IsOfAnother, all_of_others, none_waits}
use Rattle.laws_calls.proofs.OnceGone.{row_free}
use Rattle.laws_calls.proofs.OnceDrawn.{is_own, is_net_call, told_by, OfWaits, OfCalls, Called, settled_drawn, call_drawn, tick_drawn, IsTold, NetCalled, net_call_drawn, arrive_drawn, drawn_none}
use Rattle.laws_calls.proofs.OnceGoing.{Going, after_net_going, after_kernel_going, timed_out_going}
use Rattle.laws_calls.proofs.OnceBooks.{pending, IsOpen, Books, accepted_end, ended_end, open_kept, ended_still, none_held, IsNumbered, WillBeOpen, done_keeps}

-- ---- the calls of the network part are those of tasks that wait outside, or of routines

waiting_has : (P : ℕ → ℕ → Type 0) (number id : ℕ) (ws : List WaitingCall) → OfWaits P ws → 1 ≤ times (is_outside_call number id) ws → P id number
waiting_has P number id [] h le = absurd (omega (arith, le))
waiting_has P number id (w ∷ ws) h le = elim (cases_Bool (is_outside_call number id w)) [
  | inl t ↦ (
      let parts = and_parts (w.call.0 == number) (w.task.0 == id) (and_parts (is_outside w.reason) _ t).1 in
      subst (λ i. P i number) (eqb-true w.task.0 id parts.1) (subst (P w.task.0) (eqb-true w.call.0 number parts.0) h.0)
      )
  | inr t ↦ waiting_has P number id ws h.1 (let fewer : 1 ≤ 0 + times (is_outside_call number id) ws = rw t at le in omega (arith, fewer))
]

calls_told : (P : ℕ → ℕ → Type 0) (ws : List WaitingCall) (cs : List NetCall)
    → ((call : ℕ) → P 0 call)
    → OfWaits P ws
    → ((number id : ℕ) → times (agreement.is_net_call number id) cs ≤ times (is_outside_call number id) ws)
    → OfCalls P cs
calls_told P ws [] none h fewer = tt
calls_told P ws (c ∷ cs) none h fewer = (of c.who refl, calls_told P ws cs none h (λ number id. omega (arith, fewer number id)))
  where
    of : (who : Who) → c.who ≡ who → P (told_by who) c.call.0
    of (whos.Callback t cbr) is = none c.call.0
    of (whos.Task t) is =
        let own : one_if (agreement.is_net_call c.call.0 t.0 c) ≡ 1 = rw (is, eq-eqb c.call.0 c.call.0 refl, eq-eqb t.0 t.0 refl) refl in
        waiting_has P c.call.0 t.0 ws h (omega (arith, own, fewer c.call.0 t.0))

-- ---- who calls

module _ (n : PlainNode) (ctx : Ctx) (h : Holds n) (calls : Calls n.kernel ctx) where
  -- no call of the caller waits
  idle : times_waiting (caller ctx).0 n.kernel.waits ≡ 0
  idle = of ctx refl
    where
      of : (c : Ctx) → ctx ≡ c → times_waiting (caller c).0 n.kernel.waits ≡ 0
      of contexts.Handler is = nobody_waits n.kernel h.sound.stands
      of (contexts.Task t) is = let its = calls t is in waiting_none t.0 n.kernel.waits (caller_waits_not n.kernel t its.0 its.1 h.sound.stands)

  -- the task that ends by a call of the kernel waits for nothing after it
  gone_waits_not : (request : KReq) (number : CallNo) → times_waiting (call n.kernel ctx request number).gone.0 (call n.kernel ctx request number).kernel.waits ≡ 0
  unfolding call settled
  gone_waits_not request number =
      let r : Outcome = row n.kernel ctx request number in
      of r (row_free n.kernel ctx number request h.sound.stands) (call_moves n.kernel ctx request number h.sound.stands calls).stands
    where
      of : (r : Outcome) → (r.gone ≡ nobody) ⊎ (times_waiting r.gone.0 r.kernel.waits ≡ 0) → IsStanding (settled r).kernel → times_waiting r.gone.0 (settled r).kernel.waits ≡ 0
      of r (inl none) s = ap (λ (t : TaskId). times_waiting t.0 (settled r).kernel.waits) none ∙ nobody_waits (settled r).kernel s
      of r (inr free) s =
          let P : ℕ → ℕ → Type 0 = λ task number. task ≢ r.gone.0 in
          let start : Outcome = record r { ends = [] } in
          none_waits r.gone.0 (settled start).kernel.waits ((settled_drawn P r.kernel.waits start (drawn_none P r.kernel.waits)).waits_of (all_of_others r.gone.0 r.kernel.waits free))

-- ---- a call

asked_other : (ctx : Ctx) (request : Req) (a : Ans) (task : ℕ) → task ≢ (caller ctx).0 → asked_in task (Call ctx request) a ≡ None
asked_other contexts.Handler request a task ne = refl
asked_other (contexts.Task t) request (answers.Pends c) task ne = rw (ne_eqb t.0 task (λ e. ne (sym e))) refl
asked_other (contexts.Task t) request (answers.Now code bytes) task ne = refl
asked_other (contexts.Task t) request (answers.Later c) task ne = refl
asked_other (contexts.Task t) request answers.Quiet task ne = refl

unasked : (held : List (Option Held)) (ctx : Ctx) (request : Req) (a : Ans) → HoldsNone held ctx → (task : ℕ) (h : Held) → get held task ≡ Some h → asked_in task (Call ctx request) a ≡ None
unasked held contexts.Handler request a none task h e = refl
unasked held (contexts.Task t) request a none task h e = asked_other (contexts.Task t) request a task (λ same.
    let some : is_some (get held t.0) ≡ true = ap is_some (subst (λ i. get held i ≡ Some h) same e) in
    let f : true ≡ false = sym some ∙ none t refl in
    absurd cc
    )

-- the call of which the caller waits for the end is its open one
opens : (log : List NodeEntry) (ctx : Ctx) (request : Req) (c : CallNo) → WillBeOpen log (Call ctx request) (answers.Pends c) (caller ctx).0 c.0
opens log contexts.Handler request c = inl refl
opens log (contexts.Task t) request c = inr (rw (eq-eqb t.0 t.0 refl) refl)

is_next : (m number : ℕ) → (one_if (m == number) ≡ 0) ⊎ ((number ≡ m) × ((◌≡◌ {A = ℕ} 1 1) × (one_if (m == number) ≡ 1)))
is_next m number = elim (cases_eq m number) [
  | inl e ↦ inr (sym e, (refl, ap one_if (eq-eqb m number e)))
  | inr e ↦ inl (ap one_if (ne_eqb m number e))
]

kernel_numbered : (n : PlainNode) (a : KAns) → IsNumbered n (kernel_answer (n.calls + 1) a)
kernel_numbered n (kernel_answers.Now code bytes) = record { next = λ number. inl refl }
kernel_numbered n kernel_answers.Quiet = record { next = λ number. inl refl }
kernel_numbered n kernel_answers.Pends = record { next = is_next (n.calls + 1) }

net_numbered : (n : PlainNode) (a : NetAnswer) → IsNumbered n (shown_answer (next_number n) a)
net_numbered n (net_answers.Now code bytes) = record { next = λ number. inl refl }
net_numbered n net_answers.Quiet = record { next = λ number. inl refl }
net_numbered n net_answers.Pends = record { next = is_next (n.calls + 1) }
net_numbered n net_answers.Later = record { next = is_next (n.calls + 1) }

quiet_numbered : (n : PlainNode) → IsNumbered n answers.Quiet
quiet_numbered n = record { next = λ number. inl refl }

module _ (n : PlainNode) (log : List NodeEntry) (ctx : Ctx) (request : Req) (b : Books n log) (h : Holds n) (calls : Calls n.kernel ctx) (none : HoldsNone n.held ctx) where
  abbrev Will : Ans → ℕ → ℕ → Type 0
  Will a = WillBeOpen log (Call ctx request) a

  -- how often a call of the number waits or ends at most, with this answer
  abbrev most : Ans → ℕ → ℕ
  most a number = pending number n + one_if (accepts number a)

  -- what the call is answered
  abbrev given : Outcome → Ans
  given o = kernel_answer (n.calls + 1) o.answer

  abbrev net_given : UdpOutcome → Ans
  net_given o = shown_answer (next_number n) o.answer

  -- what is open beside the caller's new call
  old_waits : (a : Ans) → OfWaits (Will a) n.kernel.waits
  old_waits a = all_both (λ w. IsOpen log w.task.0 w.call.0) (IsOfAnother (caller ctx).0) (λ w. Will a w.task.0 w.call.0) n.kernel.waits (λ w. still w.task.0 w.call.0) b.waits (all_of_others (caller ctx).0 n.kernel.waits (idle n ctx h calls))
    where
      still : (task call : ℕ) → IsOpen log task call → task ≢ (caller ctx).0 → Will a task call
      still task call (inl z) ne = inl z
      still task call (inr o) ne = inr (rw (asked_other ctx request a task ne) o)

  old_calls : (a : Ans) → OfCalls (Will a) n.net.pend.calls
  old_calls a = calls_told (Will a) n.kernel.waits n.net.pend.calls (λ call. inl refl) (old_waits a) (λ number id. omega (arith, h.sound.same number id))

  -- a call of the kernel
  kernel_called_keeps : (k : KReq) → Books (kernel_called n ctx k).0 (log ++ record { event = Call ctx request; out = (kernel_called n ctx k).1 } ∷ [])
  unfolding kernel_called after_kernel
  kernel_called_keeps k =
      let o : Outcome = call n.kernel ctx k (next_number n) in
      let a : Ans = given o in
      let p : Progress = after_kernel (beginning n) o in
      let P : ℕ → ℕ → Type 0 = Will a in
      let taken = kernel_taken (beginning n) o n.calls (n.calls + o.kernel.last_call) h.sound (omega arith) (omega arith) tt (call_moves n.kernel ctx k (next_number n) h.sound.stands calls) in
      done_keeps n log (Call ctx request) a o.gone o.begun p b (kernel_numbered n o.answer) (λ task. refl) (unasked n.held ctx request a none)
      (omega (arith, taken.fewer o.gone.0, gone_waits_not n ctx h calls k (next_number n)))
      (going o (call_drawn P n.kernel ctx k (next_number n) h.sound.stands calls))
    where
      its : (w : WaitingCall) → w.call ≡ next_number n → w.task ≡ caller ctx → Will (answers.Pends (next_number n)) w.task.0 w.call.0
      its w number task =
          subst (λ (t : TaskId). Will (answers.Pends (next_number n)) t.0 w.call.0) (sym task)
          (subst (λ (c : CallNo). Will (answers.Pends (next_number n)) (caller ctx).0 c.0) (sym number) (opens log ctx request (next_number n)))

      going : (o : Outcome) → Called (Will (given o)) n.kernel ctx (next_number n) o
          → Going (most (given o)) (Will (given o)) [] (after_kernel (beginning n) o)
      going o (Called.at_once d) =
          let a : Ans = given o in
          after_kernel_going (Will a) (most a) (beginning n) o
          (record { count = λ number. omega arith; waits = old_waits a; calls = old_calls a; ends = tt; told = tt; marks = λ task. refl }) d
      going o (Called.later w number task inside waits d) =
          let a : Ans = given o in
          let is : a ≡ answers.Pends (next_number n) = ap (kernel_answer (n.calls + 1)) waits in
          let P : ℕ → ℕ → Type 0 = Will a in
          after_kernel_going P (most a) (record (beginning n) { kernel = record n.kernel { waits = n.kernel.waits ++ w ∷ [] } }) o
          (record {
            count = λ x. omega (arith, times_end (is_own x) n.kernel.waits w, own w (n.calls + 1) x inside (ap (λ (c : CallNo). c.0) number), ap (λ y. one_if (accepts x y)) is);
            waits = all_end (λ v. P v.task.0 v.call.0) n.kernel.waits w (old_waits a) (subst (λ y. Will y w.task.0 w.call.0) (sym is) (its w number task));
            calls = old_calls a;
            ends = tt;
            told = tt;
            marks = λ t. refl;
          }) d
        where
          own : (w : WaitingCall) (m x : ℕ) → is_outside w.reason ≡ false → w.call.0 ≡ m → one_if (is_own x w) ≡ one_if (m == x)
          own w m x inside e = rw (inside, e) refl

  -- ---- a call of the network part

  -- only a call for which its task waits blocks it
  blocked_waits : (P : ℕ → ℕ → Type 0) (a : NetAnswer) → OfWaits P n.kernel.waits → (a ≡ net_answers.Pends → P (caller ctx).0 (n.calls + 1)) → OfWaits P (blocked_where a n.kernel ctx request (next_number n)).waits
  blocked_waits P (net_answers.Now code bytes) ws new = ws
  blocked_waits P net_answers.Quiet ws new = ws
  blocked_waits P net_answers.Later ws new = ws
  blocked_waits P net_answers.Pends ws new = all_end (λ w. P w.task.0 w.call.0) n.kernel.waits (waiting_call n.kernel (caller ctx) reasons.Outside (timeout_of request) (next_number n)) ws (new refl)

  -- outside the kernel
  blocked_own : (a : NetAnswer) (x : ℕ) → times (is_own x) (blocked_where a n.kernel ctx request (next_number n)).waits ≡ times (is_own x) n.kernel.waits
  blocked_own (net_answers.Now code bytes) x = refl
  blocked_own net_answers.Quiet x = refl
  blocked_own net_answers.Later x = refl
  blocked_own net_answers.Pends x = omega (arith, times_end (is_own x) n.kernel.waits (waiting_call n.kernel (caller ctx) reasons.Outside (timeout_of request) (next_number n)))

  -- who is told of the new call may return from it
  told_opens : (P : ℕ → ℕ → Type 0) (a : NetAnswer) (who : Who) (number : ℕ) → ((call : ℕ) → P 0 call) → IsTold (caller ctx) a who → (a ≡ net_answers.Pends → P (caller ctx).0 number) → P (told_by who) number
  told_opens P net_answers.Pends who number zero told new = rw told (new refl)
  told_opens P net_answers.Later who number zero told new = rw told.1 (zero number)
  told_opens P (net_answers.Now code bytes) who number zero told new = absurd told
  told_opens P net_answers.Quiet who number zero told new = absurd told

  accepted_one : (a : NetAnswer) (who : Who) (x : ℕ) → IsTold (caller ctx) a who → one_if (n.calls + 1 == x) ≡ one_if (accepts x (shown_answer (next_number n) a))
  accepted_one net_answers.Pends who x told = refl
  accepted_one net_answers.Later who x told = refl
  accepted_one (net_answers.Now code bytes) who x told = absurd told
  accepted_one net_answers.Quiet who x told = absurd told

  network_called_keeps : Holds (network_called n ctx request).0 → Books (network_called n ctx request).0 (log ++ record { event = Call ctx request; out = (network_called n ctx request).1 } ∷ [])
  unfolding network_called
  network_called_keeps after =
      let o : UdpOutcome = udp_call n.net ctx request (next_number n) in
      let a : Ans = net_given o in
      let p : Progress = after_net (record (beginning n) { kernel = blocked_where o.answer n.kernel ctx request (next_number n) }) o in
      done_keeps n log (Call ctx request) a nobody nobody p b (net_numbered n o.answer) (λ task. refl) (unasked n.held ctx request a none) (nobody_waits p.kernel after.sound.stands)
      (going o (net_call_drawn (Will a) n.net ctx request (next_number n)))
    where
      going : (o : UdpOutcome) → NetCalled (Will (net_given o)) n.net.pend.calls ctx (next_number n) o
          → Going (most (net_given o)) (Will (net_given o)) [] (after_net (record (beginning n) { kernel = blocked_where o.answer n.kernel ctx request (next_number n) }) o)
      going o called = of called
        where
          a : Ans
          a = net_given o

          P : ℕ → ℕ → Type 0
          P = Will a

          start : Progress
          start = record (beginning n) { kernel = blocked_where o.answer n.kernel ctx request (next_number n) }

          new : o.answer ≡ net_answers.Pends → P (caller ctx).0 (n.calls + 1)
          new is = subst (λ y. Will y (caller ctx).0 (n.calls + 1)) (sym (ap (shown_answer (next_number n)) is)) (opens log ctx request (next_number n))

          ws : OfWaits P start.kernel.waits
          ws = blocked_waits P o.answer (old_waits a) new

          of : NetCalled P n.net.pend.calls ctx (next_number n) o → Going (most a) P [] (after_net start o)
          of (NetCalled.at_once d) = after_net_going P (most a) [] start o (record { count = λ x. omega (arith, blocked_own o.answer x); waits = ws; calls = old_calls a; ends = tt; told = tt; marks = λ task. refl }) d
          of (NetCalled.later c number told d) = after_net_going P (most a) [] (record start { net = record n.net { pend = record n.net.pend { calls = n.net.pend.calls ++ c ∷ [] } } }) o (record {
            count = λ x. omega (arith, blocked_own o.answer x, times_end (is_net_call x) n.net.pend.calls c, ap (λ (y : CallNo). one_if (y.0 == x)) number, accepted_one o.answer c.who x told);
            waits = ws;
            calls = all_end (λ y. P (told_by y.who) y.call.0) n.net.pend.calls c (old_calls a) (rw number (told_opens P o.answer c.who (n.calls + 1) (λ call. inl refl) told new));
            ends = tt;
            told = tt;
            marks = λ task. refl;
          }) d

  called_keeps : (k : Option KReq) → Holds (called_as n ctx request k).0 → Books (called_as n ctx request k).0 (log ++ record { event = Call ctx request; out = (called_as n ctx request k).1 } ∷ [])
  called_keeps (Some k) after = kernel_called_keeps k
  called_keeps None after = network_called_keeps after

-- ---- events that ask nothing

module _ (n : PlainNode) (log : List NodeEntry) (b : Books n log) (h : Holds n) where
  all_calls : OfCalls (IsOpen log) n.net.pend.calls
  all_calls = calls_told (IsOpen log) n.kernel.waits n.net.pend.calls (λ call. inl refl) b.waits (λ number id. omega (arith, h.sound.same number id))

  arrived_keeps : (bytes : List ℕ) → Holds (arrived n bytes).0 → Books (arrived n bytes).0 (log ++ record { event = Arrive bytes; out = (arrived n bytes).1 } ∷ [])
  unfolding arrived
  arrived_keeps bytes after =
      let o : UdpOutcome = arrive n.net bytes in
      let p : Progress = after_net (beginning n) o in
      done_keeps n log (Arrive bytes) answers.Quiet nobody nobody p b (quiet_numbered n) (λ task. refl) (λ task x e. refl) (nobody_waits p.kernel after.sound.stands)
      (after_net_going (IsOpen log) (λ x. pending x n + 0) [] (beginning n) o (record { count = λ x. omega arith; waits = b.waits; calls = all_calls; ends = tt; told = tt; marks = λ task. refl }) (arrive_drawn (IsOpen log) n.net bytes))

  ticked_keeps : Holds (ticked n).0 → Books (ticked n).0 (log ++ record { event = Tick; out = (ticked n).1 } ∷ [])
  unfolding ticked
  ticked_keeps after =
      let o : Outcome = tick n.kernel in
      let p : Progress = timed_out (after_kernel (tick_beginning n) o) in
      let most : ℕ → ℕ = λ x. pending x n + 0 in
      done_keeps n log Tick answers.Quiet nobody nobody p b (quiet_numbered n) (λ task. refl) (λ task x e. refl) (nobody_waits p.kernel after.sound.stands)
      (timed_out_going (IsOpen log) most (after_kernel (tick_beginning n) o) (after_kernel_going (IsOpen log) most (tick_beginning n) o (record { count = λ x. omega arith; waits = b.waits; calls = all_calls; ends = tt; told = tt; marks = λ task. refl }) (tick_drawn (IsOpen log) n.kernel)))

  -- an event after which the same calls wait and the same answers are held
  quiet_keeps : (m : PlainNode) (event : NodeEv) (o : Out)
      → ((task : ℕ) → is_return task event ≡ false)
      → ((task : ℕ) (a : Ans) → asked_in task event a ≡ None)
      → m.kernel ≡ n.kernel
      → m.net.pend.calls ≡ n.net.pend.calls
      → m.held ≡ n.held
      → m.calls ≡ n.calls
      → o.ans ≡ answers.Quiet
      → o.ends ≡ []
      → ((task : ℕ) → list_any (is_gone task) o.marks ≡ false)
      → Books m (log ++ record { event = event; out = o } ∷ [])
  quiet_keeps m event o back asked k c held number quiet unended marks = record {
    fresh = λ x lt. omega (arith, accepted_end x log entry, accepted x, b.fresh x (rw number at lt));
    once = λ x. omega (arith, accepted_end x log entry, accepted x, b.once x);
    balance = λ x. rw (k, c) (omega (arith, accepted_end x log entry, accepted x, ended_end x log entry, ap (times (is_end_of x)) unended, b.balance x));
    waits = rw k (all_more (λ w. IsOpen log w.task.0 w.call.0) (λ w. IsOpen (log ++ entry ∷ []) w.task.0 w.call.0) n.kernel.waits (λ w. still w.task.0 w.call.0) b.waits);
    holders = λ task x some at. (let was = b.holders task x some (rw held at at) in record { call = was.call; last = same task ∙ was.last; ended = ended_still was.call (answers.Now x.code x.bytes) log entry was.ended });
  }
    where
      entry : NodeEntry
      entry = record { event = event; out = o }

      accepted : (x : ℕ) → one_if (accepts x o.ans) ≡ 0
      accepted x = ap (λ (a : Ans). one_if (accepts x a)) quiet

      same : (task : ℕ) → open_call task None (log ++ entry ∷ []) ≡ open_call task None log
      same task = open_kept task log entry (back task) (marks task) ∙ rw (asked task o.ans) refl

      still : (task call : ℕ) → IsOpen log task call → IsOpen (log ++ entry ∷ []) task call
      still task call (inl z) = inl z
      still task call (inr open_one) = inr (same task ∙ open_one)

  begun_keeps : Books (begun n).0 (log ++ record { event = Begin; out = (begun n).1 } ∷ [])
  unfolding begun
  begun_keeps = quiet_keeps (begun n).0 Begin (begun n).1 (λ task. refl) (λ task a. refl) refl refl refl refl refl refl (entered (first_due n.net.pend.due))
    where
      entered : (x : Option Handler) (task : ℕ) → list_any (is_gone task) (entered_marks x) ≡ false
      entered None task = refl
      entered (Some handler) task = refl

  finished_keeps : Books (finished n).0 (log ++ record { event = Finish; out = (finished n).1 } ∷ [])
  unfolding finished
  finished_keeps = quiet_keeps (finished n).0 Finish (finished n).1 (λ task. refl) (λ task a. refl) refl refl refl refl refl refl (λ task. refl)

  -- ---- a return

  held_quiet : (x : ℕ) (held : Option Held) → one_if (accepts x (held_answer held)) ≡ 0
  held_quiet x None = refl
  held_quiet x (Some held) = refl

  returned_keeps : (task : TaskId) → times_waiting task.0 n.kernel.waits ≡ 0 → Books (returned n task).0 (log ++ record { event = Return task; out = (returned n task).1 } ∷ [])
  unfolding returned
  returned_keeps task free = record {
    fresh = λ x lt. omega (arith, accepted_end x log entry, held_quiet x (get n.held task.0), b.fresh x lt);
    once = λ x. omega (arith, accepted_end x log entry, held_quiet x (get n.held task.0), b.once x);
    balance = λ x. omega (arith, accepted_end x log entry, ended_end x log entry, held_quiet x (get n.held task.0), b.balance x);
    waits = all_both (λ w. IsOpen log w.task.0 w.call.0) (IsOfAnother task.0) (λ w. IsOpen (log ++ entry ∷ []) w.task.0 w.call.0) n.kernel.waits (λ w. still w.task.0 w.call.0) b.waits (all_of_others task.0 n.kernel.waits free);
    holders = λ t x some at. (
        let kept = none_held n.held task.0 t x at in
        let was = b.holders t x some kept.1 in
        record { call = was.call; last = same t kept.0 ∙ was.last; ended = ended_still was.call (answers.Now x.code x.bytes) log entry was.ended }
        );
  }
    where
      entry : NodeEntry
      entry = record { event = Return task; out = told_only (held_answer (get n.held task.0)) [] }

      same : (t : ℕ) → t ≢ task.0 → open_call t None (log ++ entry ∷ []) ≡ open_call t None log
      same t other = open_kept t log entry (ne_eqb task.0 t (λ s. other (sym s))) refl

      still : (t call : ℕ) → IsOpen log t call → t ≢ task.0 → IsOpen (log ++ entry ∷ []) t call
      still t call (inl z) other = inl z
      still t call (inr open_one) other = inr (same t other ∙ open_one)

-- ---- any event

-- each admitted event keeps the books
pub step_keeps : (n : PlainNode) (log : List NodeEntry) (event : NodeEv) → is_admitted n event ≡ true → Holds n → Books n log → Books (node_step n event).0 (log ++ entry_at n event ∷ [])
unfolding node_step
step_keeps n log (Call (contexts.Task task) request) e h b =
    let parts = and_parts (is_free n task) (not (holds_answer n task)) e in
    called_keeps n log (contexts.Task task) request b h (calls_itself n task parts.0) (none task (not-true (holds_answer n task) parts.1)) (kernel_of request) (step_holds n (Call (contexts.Task task) request) e h)
  where
    none : (task : TaskId) → is_some (get n.held task.0) ≡ false → HoldsNone n.held (contexts.Task task)
    none task empty t is = subst (λ (u : TaskId). is_some (get n.held u.0) ≡ false) (same t is) empty
      where
        same : (t : TaskId) → contexts.Task task ≡ contexts.Task t → task ≡ t
        same t is = cc
step_keeps n log (Call contexts.Handler request) e h b = called_keeps n log contexts.Handler request b h (λ t is. absurd cc) (λ t is. absurd cc) (kernel_of request) (step_holds n (Call contexts.Handler request) e h)
step_keeps n log (Return task) e h b =
    let parts = and_parts (is_free n task) (holds_answer n task) e in
    returned_keeps n log b h task (idle n (contexts.Task task) h (calls_itself n task parts.0))
step_keeps n log Begin e h b = begun_keeps n log b h
step_keeps n log Finish e h b = finished_keeps n log b h
step_keeps n log Tick e h b = ticked_keeps n log b h (step_holds n Tick e h)
step_keeps n log (Arrive bytes) e h b = arrived_keeps n log b h bytes (step_holds n (Arrive bytes) e h)

-- a return is right
held_there : (o : Option Held) → is_some o ≡ true → (h : Held) × (o ≡ Some h)
held_there None e = absurd cc
held_there (Some h) e = (h, refl)

pub return_is_right : (n : PlainNode) (log : List NodeEntry) (event : NodeEv) → Books n log → is_admitted n event ≡ true → ReturnsRightly log (entry_at n event)
unfolding node_step returned
return_is_right n log (Return t) b e task is =
    let parts = and_parts (is_free n t) (holds_answer n t) e in
    let h = held_there (get n.held t.0) parts.1 in
    let was = b.holders t.0 h.0 (is_somebody n t parts.0) h.1 in
    subst (λ (x : TaskId). Returns x log (held_answer (get n.held t.0))) (same is) (record { call = was.call; last = was.last; ended = subst (λ o. HasEnded was.call (held_answer o) log) (sym h.1) was.ended })
  where
    same : Return t ≡ Return task → t ≡ task
    same is = cc

    is_somebody : (n : PlainNode) (t : TaskId) → is_free n t ≡ true → t.0 ≢ 0
    is_somebody n t free = (calls_itself n t free t refl).0
return_is_right n log (Call ctx request) b e task is = absurd cc
return_is_right n log Begin b e task is = absurd cc
return_is_right n log Finish b e task is = absurd cc
return_is_right n log Tick b e task is = absurd cc
return_is_right n log (Arrive bytes) b e task is = absurd cc
