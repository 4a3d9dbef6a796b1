-- What is left of the calls that wait in each part of a node, and what ended of them: each call that ends waits no longer.
use Rattle.std.proofs.Common.{◌≡◌, ℕ, zero, suc, ◌+◌, ◌≤◌, Bool, true, false, not, ◌&&◌, List, [], ◌∷◌, ◌++◌, length, Option, Some, None, refl, sym, ◌∙◌, subst, inl, inr, arith}
use Rattle.std.specs.Prelude.{◌==◌}
use Rattle.std.specs.List.{AllByRecursion, list_any}
use Rattle.std.proofs.lemmas.List.{append-nil, append_assoc}
use Rattle.std.proofs.lemmas.List.Folds.{list_any-append}
use Rattle.it_types.specs.declared.id.TaskId.{TaskId}
use Rattle.it_types.specs.declared.id.ObjId.{ObjId}
use Rattle.it_types.specs.declared.id.CepId.{CepId}
use Rattle.it_types.specs.declared.id.CallNo.{CallNo}
use Rattle.it_types.specs.declared.er.Er.{Er}
use Rattle.it_types.specs.declared.er.TheConstants.{E_OK, E_DLT, E_RLWAI}
use Rattle.it_types.specs.declared.context.Ctx.{Ctx}
use Rattle.it_types.specs.declared.handler.FnCode.TheVariants as functions
use Rattle.it_types.specs.declared.kernel_request.KReq.{KReq}
use Rattle.it_types.specs.declared.request.Req.{Req}
use Rattle.it_types.specs.declared.mark.Mark.{Mark}
use Rattle.it_types.specs.Callers.{caller, is_nblk}
use Rattle.spec_lists.specs.Tables.{get}
use Rattle.spec_lists.specs.First.{take_first, is_least}
use Rattle.spec_lists.proofs.Firsts.{cases_of_first}
use Rattle.spec_kernel.specs.declared.reason.WaitingCall.{WaitingCall}
use Rattle.spec_kernel.specs.declared.outcome.KAns.TheVariants as kernel_answers
use Rattle.spec_kernel.specs.declared.outcome.KEnd.{KEnd}
use Rattle.spec_kernel.specs.PlainKernel.{PlainKernel}
use Rattle.spec_kernel.specs.Waiting.{bytes_of}
use Rattle.spec_kernel.specs.Settle.{Outcome, is_outside, ending, end_of, comes_next, next_freed, freed, settle, settled}
use Rattle.spec_kernel.specs.Rows.{waiting_call, row, call, quiet, ticked, tick}
use Rattle.spec_kernel.specs.Time.{is_next_past, code_by_time, by_time, due}
use Rattle.spec_kernel.specs.Standing.{IsStanding}
use Rattle.spec_udp.specs.declared.point.Received.{Received}
use Rattle.spec_pend.specs.declared.slot.Slot.{Slot}
use Rattle.spec_pend.specs.declared.call.Who.{Who}
use Rattle.spec_pend.specs.declared.call.Who.TheVariants as whos
use Rattle.spec_pend.specs.declared.call.NetCall.{NetCall}
use Rattle.spec_pend.specs.declared.answer.NetEnd.{NetEnd}
use Rattle.spec_pend.specs.declared.answer.NetAnswer.{NetAnswer}
use Rattle.spec_pend.specs.declared.answer.NetAnswer.TheVariants as net_answers
use Rattle.spec_pend.specs.PlainPend.{PlainPend, Endings, no_endings}
use Rattle.spec_pend.specs.Slots.{is_named, part_of, named, has_number, numbered}
use Rattle.spec_pend.specs.Ends as pend
use Rattle.spec_pend.specs.Ends.{marks_for, told, ended_as, ended_where}
use Rattle.spec_udp.specs.Packets.{Arrived, arrived_in}
use Rattle.spec_udp.specs.PlainUdps.{UdpSide, UdpOutcome, quiet as quiet_side, side_after}
use Rattle.spec_udp.specs.Points.{routine_at, joined, with_wanted, with_sending}
use Rattle.spec_udp.specs.Rows.{slot_of, with_point, row as udp_row, udp_call}
use Rattle.spec_udp.specs.Settling as udp
use Rattle.spec_udp.specs.Settling.{is_ready, first_ready, met}
use Rattle.spec_udp.specs.Arrival.{with_port, has_place, is_event, with_event, queued, at_point, after_arrival, arrive}
use Rattle.spec_udp.specs.Outside.{ended_at, ended}
use Rattle.laws_kernel.specs.Calling.{Calls}
use Rattle.laws_kernel.proofs.Timing.{due_is}
use Rattle.laws_kernel.proofs.OutsideEnds.{RowWaits, row_waits}
use Rattle.laws_kernel.proofs.OutsideEnds.RowWaits.{leaves, begins, moves, ends}
use Rattle.laws_node.specs.Agreement.{times}
use Rattle.laws_node.proofs.Times.{times_end, times_found}
use Rattle.laws_node.proofs.RowActs.{either, row_acts}
use Rattle.laws_node.proofs.NetMoves.{settle_left}
use Rattle.laws_node.proofs.Joining.{joined as joined_call}
use Rattle.laws_calls.specs.Once.{is_gone}
use Rattle.laws_calls.proofs.OnceLists.{all_end, all_found}
use Rattle.laws_calls.proofs.OnceGone.{row_pends}

-- a call of the kernel's own, by its number
abbrev pub is_own : ℕ → WaitingCall → Bool
is_own number w = not (is_outside w.reason) && (w.call.0 == number)

abbrev pub is_own_end : ℕ → KEnd → Bool
is_own_end number e = not e.outside && (e.call.0 == number)

-- a call of the network part
abbrev pub is_net_call : ℕ → NetCall → Bool
is_net_call number c = c.call.0 == number

abbrev pub is_end : ℕ → NetEnd → Bool
is_end number e = e.call.0 == number

-- the task that is told, 0 where a routine is
abbrev pub told_by : Who → ℕ
told_by (whos.Task t) = t.0
told_by (whos.Callback t cbr) = 0

-- what holds of a task and the number of its call, of all that wait and all that end
abbrev pub OfWaits : (ℕ → ℕ → Type 0) → List WaitingCall → Type 0
OfWaits P ws = AllByRecursion (λ w. P w.task.0 w.call.0) ws

abbrev pub OfKernelEnds : (ℕ → ℕ → Type 0) → List KEnd → Type 0
OfKernelEnds P es = AllByRecursion (λ e. P e.task.0 e.call.0) es

abbrev pub OfCalls : (ℕ → ℕ → Type 0) → List NetCall → Type 0
OfCalls P cs = AllByRecursion (λ c. P (told_by c.who) c.call.0) cs

abbrev pub OfEnds : (ℕ → ℕ → Type 0) → List NetEnd → Type 0
OfEnds P es = AllByRecursion (λ e. P (told_by e.who) e.call.0) es

-- ---- the kernel

-- what waits and what has ended was among these, and each once
pub record Drawn (P : ℕ → ℕ → Type 0) (ws waits : List WaitingCall) (es : List KEnd) : Type 0 where
  pub count : (number : ℕ) → times (is_own number) waits + times (is_own_end number) es ≤ times (is_own number) ws
  pub waits_of : OfWaits P ws → OfWaits P waits
  pub ends_of : OfWaits P ws → OfKernelEnds P es

-- a call: the caller's waits where it is accepted
pub data Called (P : ℕ → ℕ → Type 0) (k : PlainKernel) (ctx : Ctx) (number : CallNo) (o : Outcome) : Type 0 where
  at_once : Drawn P k.waits o.kernel.waits o.ends → Called P k ctx number o
  later : (w : WaitingCall) → w.call ≡ number → w.task ≡ caller ctx → is_outside w.reason ≡ false → o.answer ≡ kernel_answers.Pends → Drawn P (k.waits ++ w ∷ []) o.kernel.waits o.ends → Called P k ctx number o

module _ (P : ℕ → ℕ → Type 0) where
  pub drawn_none : (ws : List WaitingCall) → Drawn P ws ws []
  drawn_none ws = record { count = λ number. omega arith; waits_of = λ h. h; ends_of = λ h. tt }

  -- one more ends
  drawn_more : (ws waits : List WaitingCall) (es : List KEnd) (f : WaitingCall → Bool) (z : WaitingCall × List WaitingCall) (code : Er) (bytes : List ℕ)
      → Drawn P ws waits es
      → take_first f waits ≡ Some z
      → Drawn P ws z.1 (es ++ ending z.0 code bytes ∷ [])
  drawn_more ws waits es f z code bytes d e = record {
    count = λ number. omega (arith, d.count number, times_found (is_own number) f waits z e, times_end (is_own_end number) es (ending z.0 code bytes));
    waits_of = λ h. (all_found (λ w. P w.task.0 w.call.0) f waits z e (d.waits_of h)).1;
    ends_of = λ h. all_end (λ x. P x.task.0 x.call.0) es (ending z.0 code bytes) (d.ends_of h) (all_found (λ w. P w.task.0 w.call.0) f waits z e (d.waits_of h)).0;
  }

  -- one goes to the end
  drawn_last : (ws : List WaitingCall) (f : WaitingCall → Bool) (z : WaitingCall × List WaitingCall) (rank : ℕ) → take_first f ws ≡ Some z → Drawn P ws (z.1 ++ record z.0 { rank = rank } ∷ []) []
  drawn_last ws f z rank e = record {
    count = λ number. omega (arith, times_found (is_own number) f ws z e, times_end (is_own number) z.1 (record z.0 { rank = rank }));
    waits_of = λ h. (let both = all_found (λ w. P w.task.0 w.call.0) f ws z e h in all_end (λ w. P w.task.0 w.call.0) z.1 (record z.0 { rank = rank }) both.1 both.0);
    ends_of = λ h. tt;
  }

  settle_drawn : (ws : List WaitingCall) (n : ℕ) (k : PlainKernel) (es : List KEnd) → Drawn P ws k.waits es → Drawn P ws (settle n k).0.waits (es ++ (settle n k).1)
  unfolding settle
  settle_drawn ws zero k es d = rw append-nil d
  settle_drawn ws (suc n) k es d = elim (cases_of_first (next_freed k)) [
    | inl e ↦ rw (e, append-nil) d
    | inr z ↦ (
        let end : KEnd = end_of k z.0.0 in
        let next : PlainKernel = freed k z.0.0 z.0.1 in
        let go = settle_drawn ws n next (es ++ end ∷ []) (drawn_more ws k.waits es (comes_next k) z.0 E_OK (bytes_of k.objects z.0.0.reason) d z.1) in
        let fits : (es ++ end ∷ []) ++ (settle n next).1 ≡ es ++ end ∷ (settle n next).1 = append_assoc es (end ∷ []) (settle n next).1 in
        rw z.1 (subst (λ l. Drawn P ws (settle n next).0.waits l) fits go)
        )
  ]

  pub settled_drawn : (ws : List WaitingCall) (o : Outcome) → Drawn P ws o.kernel.waits o.ends → Drawn P ws (settled o).kernel.waits (settled o).ends
  unfolding settled
  settled_drawn ws o d = settle_drawn ws (length o.kernel.waits) o.kernel o.ends d

  settled_called : (k : PlainKernel) (ctx : Ctx) (number : CallNo) (o : Outcome) → Called P k ctx number o → Called P k ctx number (settled o)
  unfolding settled
  settled_called k ctx number o (Called.at_once d) = Called.at_once (settled_drawn k.waits o d)
  settled_called k ctx number o (Called.later w a b c answer d) = Called.later w a b c answer (settled_drawn (k.waits ++ w ∷ []) o d)

  row_called : (k : PlainKernel) (ctx : Ctx) (number : CallNo) (o : Outcome) → (length k.waits + 1 ≤ length o.kernel.waits → o.answer ≡ kernel_answers.Pends) → RowWaits k ctx number o → Called P k ctx number o
  row_called k ctx number o waits (leaves none same) = Called.at_once (rw (none, same) (drawn_none k.waits))
  row_called k ctx number o waits (begins reason tmo inside none same) =
      let w : WaitingCall = waiting_call k (caller ctx) reason tmo number in
      Called.later w refl refl inside (waits (simp same (one_longer k.waits w))) (rw (none, same) (drawn_none (k.waits ++ w ∷ [])))
    where
      one_longer : (ws : List WaitingCall) (w : WaitingCall) → length ws + 1 ≤ length (ws ++ w ∷ [])
      one_longer [] w = omega arith
      one_longer (v ∷ ws) w = omega (arith, one_longer ws w)
  row_called k ctx number o waits (moves f z rank e none same) = Called.at_once (rw (none, same) (drawn_last k.waits f z rank e))
  row_called k ctx number o waits (ends f z code bytes e one same) = Called.at_once (rw (one, same) (drawn_more k.waits k.waits [] f z code bytes (drawn_none k.waits) e))

  pub call_drawn : (k : PlainKernel) (ctx : Ctx) (request : KReq) (number : CallNo) → IsStanding k → Calls k ctx → Called P k ctx number (call k ctx request number)
  unfolding call
  call_drawn k ctx request number s calls = settled_called k ctx number (row k ctx request number) (row_called k ctx number (row k ctx request number) (row_pends k ctx request number s calls) (row_waits k ctx number request))

  pub tick_drawn : (k : PlainKernel) → Drawn P k.waits (tick k).kernel.waits (tick k).ends
  unfolding tick
  tick_drawn k = settled_drawn k.waits (quiet (ticked k)) (drawn_none k.waits)

  pub due_drawn : (k : PlainKernel) (o : Outcome) → due k ≡ Some o → Drawn P k.waits o.kernel.waits o.ends
  due_drawn k o e =
      let x = due_is k o e in
      subst (λ (p : Outcome). Drawn P k.waits p.kernel.waits p.ends) x.2
      (settled_drawn k.waits (by_time k x.0) (drawn_more k.waits k.waits [] (is_next_past k.clock.now k.waits) x.0 (code_by_time x.0.0.reason) [] (drawn_none k.waits) x.1))

-- ---- the network part

-- no mark of a task's end
abbrev pub NoneIsGone : List Mark → Type 0
NoneIsGone marks = (task : ℕ) → list_any (is_gone task) marks ≡ false

pub none_gone_append : (xs ys : List Mark) → NoneIsGone xs → NoneIsGone ys → NoneIsGone (xs ++ ys)
none_gone_append xs ys h g task = list_any-append (is_gone task) xs ys ∙ rw (h task, g task) refl

-- what waits and what has ended was among these, and each once; and no task is gone by it
pub record NetDrawn (P : ℕ → ℕ → Type 0) (cs : List NetCall) (e : Endings) : Type 0 where
  pub count : (number : ℕ) → times (is_net_call number) e.pend.calls + times (is_end number) e.ends ≤ times (is_net_call number) cs
  pub calls_of : OfCalls P cs → OfCalls P e.pend.calls
  pub ends_of : OfCalls P cs → OfEnds P e.ends
  pub marks : NoneIsGone e.marks

-- who is told of the end of a call that this task made, with this answer
abbrev pub IsTold : TaskId → NetAnswer → Who → Type 0
IsTold by net_answers.Pends who = who ≡ whos.Task by
IsTold by net_answers.Later who = (cbr : ObjId) × (who ≡ whos.Callback by cbr)
IsTold by (net_answers.Now code bytes) who = ⊥
IsTold by net_answers.Quiet who = ⊥

pub data NetCalled (P : ℕ → ℕ → Type 0) (cs : List NetCall) (ctx : Ctx) (number : CallNo) (o : UdpOutcome) : Type 0 where
  at_once : NetDrawn P cs o.endings → NetCalled P cs ctx number o
  later : (c : NetCall) → c.call ≡ number → IsTold (caller ctx) o.answer c.who → NetDrawn P (cs ++ c ∷ []) o.endings → NetCalled P cs ctx number o

module _ (P : ℕ → ℕ → Type 0) where
  net_none : (p : PlainPend) → NetDrawn P p.calls (no_endings p)
  net_none p = record { count = λ number. omega arith; calls_of = λ h. h; ends_of = λ h. tt; marks = λ task. refl }

  none_for : (who : Who) (slot : Slot) (code : Er) → NoneIsGone (marks_for who slot code)
  none_for (whos.Task t) slot code task = refl
  none_for (whos.Callback t cbr) slot code task = refl

  net_more : (cs : List NetCall) (e : Endings) (f : NetCall → Bool) (z : NetCall × List NetCall) (code : Er) (bytes : List ℕ)
      → NetDrawn P cs e
      → take_first f e.pend.calls ≡ Some z
      → NetDrawn P cs (ended_as e z code bytes)
  net_more cs e f z code bytes d is = record {
    count = λ number. omega (arith, d.count number, times_found (is_net_call number) f e.pend.calls z is, times_end (is_end number) e.ends (pend.end_of z.0 code bytes));
    calls_of = λ h. (all_found (λ c. P (told_by c.who) c.call.0) f e.pend.calls z is (d.calls_of h)).1;
    ends_of = λ h. all_end (λ x. P (told_by x.who) x.call.0) e.ends (pend.end_of z.0 code bytes) (d.ends_of h) (all_found (λ c. P (told_by c.who) c.call.0) f e.pend.calls z is (d.calls_of h)).0;
    marks = none_gone_append e.marks (marks_for z.0.who z.0.slot code) d.marks (none_for z.0.who z.0.slot code);
  }

  net_settle : (cs : List NetCall) (n : ℕ) (o : UdpOutcome) → NetDrawn P cs o.endings → NetDrawn P cs (udp.settle n o).endings
  unfolding udp.settle
  net_settle cs zero o d = d
  net_settle cs (suc n) o d = elim (cases_of_first (first_ready (side_after o))) [
    | inl e ↦ rw e d
    | inr z ↦ rw z.1 (net_settle cs n (met o z.0) (net_more cs o.endings (is_ready o.udps) z.0 _ _ d z.1))
  ]

  pub net_settled : (cs : List NetCall) (o : UdpOutcome) → NetDrawn P cs o.endings → NetDrawn P cs (udp.settled o).endings
  unfolding udp.settled
  net_settled cs o d = net_settle cs (length o.endings.pend.calls) o d

  where_drawn : (p : PlainPend) (f : NetCall → Bool) (x : Option (NetCall × List NetCall)) (code : Er) → take_first f p.calls ≡ x → NetDrawn P p.calls (ended_where (no_endings p) x code)
  where_drawn p f None code e = net_none p
  where_drawn p f (Some z) code e = net_more p.calls (no_endings p) f z code [] (net_none p) e

  pub ended_drawn : (s : UdpSide) (number : CallNo) (code : Er) → NetDrawn P s.pend.calls (ended s number code).endings
  unfolding ended
  ended_drawn s number code = net_settled s.pend.calls (ended_at s number code) (where_drawn s.pend (has_number number) (numbered s.pend number) code refl)

  -- ---- its calls

  accepted_called : (ctx : Ctx) (number : CallNo) (s : UdpSide) (later : Bool) (cbr : ObjId) (slot : Slot) → NetCalled P s.pend.calls ctx number (joined_call s later (caller ctx) cbr slot number)
  accepted_called ctx number s true cbr slot =
      NetCalled.later (record { call = number; who = whos.Callback (caller ctx) cbr; slot = slot }) refl (cbr, refl) (record { count = λ m. omega arith; calls_of = λ h. h; ends_of = λ h. tt; marks = λ task. refl })
  accepted_called ctx number s false cbr slot =
      NetCalled.later (record { call = number; who = whos.Task (caller ctx); slot = slot }) refl refl (record { count = λ m. omega arith; calls_of = λ h. h; ends_of = λ h. tt; marks = λ task. refl })

  row_net_called : (ctx : Ctx) (request : Req) (number : CallNo) (s : UdpSide) → NetCalled P s.pend.calls ctx number (udp_row s ctx request number)
  row_net_called ctx request number s = row_acts {s = s} {ctx = ctx} {number = number} (NetCalled P s.pend.calls ctx number) (record {
    answers = λ code. NetCalled.at_once (net_none s.pend);
    makes = λ cep port cbr none free known. NetCalled.at_once (net_none s.pend);
    deletes = λ cep. NetCalled.at_once (where_drawn s.pend (is_least (is_named true cep functions.All) part_of s.pend.calls) (named s.pend true cep functions.All) E_DLT refl);
    sends = λ cep dest load. NetCalled.at_once (net_none s.pend);
    takes = λ cep code bytes. NetCalled.at_once (net_none s.pend);
    sends_later = λ cep what tmo allowed nblk. accepted_called ctx number (with_point s cep (with_sending (Some what))) (is_nblk tmo) (routine_at (get (with_point s cep (with_sending (Some what))).udps.points cep.0)) (slot_of cep functions.UdpSnd);
    waits = λ cep len tmo allowed none. accepted_called ctx number (with_point s cep (with_wanted len)) (is_nblk tmo) (routine_at (get (with_point s cep (with_wanted len)).udps.points cep.0)) (slot_of cep functions.UdpRcv);
    cancels = λ cep func. NetCalled.at_once (where_drawn s.pend (is_least (is_named true cep func) part_of s.pend.calls) (named s.pend true cep func) E_RLWAI refl);
  }) request

  settled_net_called : (cs : List NetCall) (ctx : Ctx) (number : CallNo) (o : UdpOutcome) → NetCalled P cs ctx number o → NetCalled P cs ctx number (udp.settled o)
  unfolding udp.settled
  settled_net_called cs ctx number o (NetCalled.at_once d) = NetCalled.at_once (net_settle cs (length o.endings.pend.calls) o d)
  settled_net_called cs ctx number o (NetCalled.later c is who d) =
      NetCalled.later c is (subst (λ a. IsTold (caller ctx) a c.who) (sym (settle_left (length o.endings.pend.calls) o).answer) who) (net_settle (cs ++ c ∷ []) (length o.endings.pend.calls) o d)

  pub net_call_drawn : (s : UdpSide) (ctx : Ctx) (request : Req) (number : CallNo) → NetCalled P s.pend.calls ctx number (udp_call s ctx request number)
  unfolding udp_call
  net_call_drawn s ctx request number = settled_net_called s.pend.calls ctx number (udp_row s ctx request number) (row_net_called ctx request number s)

  -- ---- arrivals

  module _ (s : UdpSide) where
    abbrev ArrivesSo : UdpOutcome → Type 0
    ArrivesSo o = NetDrawn P s.pend.calls o.endings

    queued_drawn : (cep : CepId) (d : Received) → ArrivesSo (queued s cep d)
    queued_drawn cep d =
        let joins : UdpOutcome = quiet_side (with_point s cep (joined d)) in
        either ArrivesSo (is_event s cep) (with_event joins cep (length d.load)) joins
        (λ event. record { count = λ number. omega arith; calls_of = λ h. h; ends_of = λ h. tt; marks = λ task. refl }) (λ none. net_none s.pend)

    at_point_drawn : (d : Received) (cep : Option CepId) → ArrivesSo (at_point s d cep)
    at_point_drawn d None = net_none s.pend
    at_point_drawn d (Some cep) = either ArrivesSo (has_place (get s.udps.points cep.0)) (queued s cep d) (quiet_side s) (λ place. queued_drawn cep d) (λ full. net_none s.pend)

    arrival_drawn : (a : Option Arrived) → ArrivesSo (after_arrival s a)
    arrival_drawn None = net_none s.pend
    arrival_drawn (Some a) = at_point_drawn a.received (with_port 0 a.port s.udps.points)

    pub arrive_drawn : (bytes : List ℕ) → NetDrawn P s.pend.calls (arrive s bytes).endings
    unfolding arrive
    arrive_drawn bytes = net_settled s.pend.calls (after_arrival s (arrived_in s.udps.addr bytes)) (arrival_drawn (arrived_in s.udps.addr bytes))
