-- What the kernel does, from what its parts do.
use Rattle.std.proofs.Common.{◌≡◌, ◌≢◌, ◌++◌, List, [], length, Some, None, Bool, true, false, refl, sym, ap, subst, ◌∙◌}
use Rattle.it_types.specs.declared.id.TaskId.{TaskId}
use Rattle.it_types.specs.declared.id.CallNo.{CallNo}
use Rattle.it_types.specs.declared.context.Ctx.{Ctx}
use Rattle.it_types.specs.declared.timeout.Tmo.{Tmo}
use Rattle.it_types.specs.declared.kernel_request.KReq.{KReq}
use Rattle.spec_lists.specs.First.{take_first}
use Rattle.spec_kernel.specs.declared.reason.WaitReason.TheVariants as reasons
use Rattle.spec_kernel.specs.declared.reason.WaitingCall.{WaitingCall}
use Rattle.spec_kernel.specs.declared.outcome.KEnd.{KEnd}
use Rattle.spec_kernel.specs.PlainTasks.{running}
use Rattle.spec_kernel.specs.PlainClock.{ticked_clock}
use Rattle.spec_kernel.specs.PlainKernel.{PlainKernel, tasks_of}
use Rattle.spec_kernel.specs.Parts.{PlainParts, parts_of, whole_of}
use Rattle.spec_kernel.specs.Standing.{IsStanding}
use Rattle.spec_kernel.specs.Settle.{AtRest, Outcome, ending, ended, settled}
use Rattle.spec_kernel.specs.Settle.{settle as whole_settle}
use Rattle.spec_kernel.specs.Rows.{call, tick, ticked}
use Rattle.spec_kernel.specs.Rows.{row as whole_row}
use Rattle.spec_kernel.specs.Time.{blocked, code_by_time, due, is_next_past, is_outside_of, next_past, unblocked, unblocked_at}
use Rattle.laws_kernel.specs.Calling.{Calls}
use Rattle.laws_kernel.proofs.Settling.{call_rests}
use Rattle.laws_kernel.proofs.Resting.{blocked_rests, due_alone, ended_rests, tick_alone}
use Rattle.laws_kernel.proofs.Standing.{ended_stands}
use Rattle.laws_kernel.proofs.Stands.{blocked_stands, call_stands, row_stands, ticked_stands}
use Rattle.k_core.specs.declared.done.Done.{Done}
use Rattle.k_core.specs.Callers.{MayCall, MayCallAs}
use Rattle.k_core.specs.Does.{Does}
use Rattle.k_core.specs.Kernel.{DoesWhole, ended_alone}
use Rattle.k_core.specs.PartsRows.{PartsOutcome, row, with_wait}
use Rattle.k_core.specs.PartsSettle.{settle}
use Rattle.k_core.specs.PartsTime.{ended_call}
use Rattle.k_core.specs.Tied.{Tied}
use Rattle.k_core.proofs.RowsAgree.{row_agrees}
use Rattle.k_core.proofs.RowsAgreeSeen.{told}
use Rattle.k_core.proofs.SettleAgrees.{settle_agrees, told_after}
use Rattle.k_core.proofs.EndAgrees.{PartsRest, blocked_agrees, calls_may, ended_agrees, may_call, rests_parts}

-- the parts of a kernel that stands as it ought to, and in which no call is ready
pub tied : {p : PlainParts} (k : PlainKernel) → p ≡ parts_of k → IsStanding k → AtRest k → Tied p
tied k e s r = rw e (record { agree = refl; standing = s; rest = r })

module _ {p : PlainParts} (t : Tied p) where
  -- ---- calls

  pub rests : PartsRest p
  rests = subst PartsRest (sym t.agree) (rests_parts (whole_of p) t.rest)

  pub may : (ctx : Ctx) → Calls (whole_of p) ctx → MayCall p ctx
  may ctx calls = subst (λ q. MayCall q ctx) (sym t.agree) (calls_may (whole_of p) ctx t.standing calls)

  pub may_as : (task : TaskId) → task.0 ≢ 0 → running (tasks_of (whole_of p)) ≡ task → MayCallAs p task
  may_as task some runs = subst (λ q. MayCallAs q task) (sym t.agree) (may_call (whole_of p) task t.standing some runs)

  module _ (ctx : Ctx) (request : KReq) (number : CallNo) (calls : Calls (whole_of p) ctx) {p1 : PlainParts} {done1 : Done} (rows : Does p1 done1 (row p ctx request number)) where
    agrees : row p ctx request number ≡ told (whole_row (whole_of p) ctx request number)
    agrees = ap (λ q. row q ctx request number) t.agree ∙ row_agrees (whole_of p) ctx request number t.standing calls

    after_row : p1 ≡ parts_of (whole_row (whole_of p) ctx request number).kernel
    after_row = rows.parts ∙ ap (λ (r : PartsOutcome). r.parts) agrees

    stands : IsStanding (whole_row (whole_of p) ctx request number).kernel
    stands = row_stands (whole_of p) ctx request number t.standing calls

    as_many : length p1.waits ≡ length (whole_row (whole_of p) ctx request number).kernel.waits
    as_many = ap (λ (q : PlainParts). length q.waits) after_row

    ends_agree : settle (length p1.waits) p1 ≡ told_after (whole_settle (length (whole_row (whole_of p) ctx request number).kernel.waits) (whole_row (whole_of p) ctx request number).kernel)
    ends_agree = ap (λ n. settle n p1) as_many ∙ ap (settle (length (whole_row (whole_of p) ctx request number).kernel.waits)) after_row ∙ settle_agrees (length (whole_row (whole_of p) ctx request number).kernel.waits) (whole_row (whole_of p) ctx request number).kernel stands

    after_call : (q : PlainParts) → q ≡ (settle (length p1.waits) p1).0 → q ≡ parts_of (call (whole_of p) ctx request number).kernel
    unfolding call settled
    after_call q e = e ∙ ap (λ (s : PlainParts × List KEnd). s.0) ends_agree

    pub call_tied : (q : PlainParts) → q ≡ (settle (length p1.waits) p1).0 → Tied q
    call_tied q e = tied (call (whole_of p) ctx request number).kernel (after_call q e) (call_stands (whole_of p) ctx request number t.standing calls) (call_rests (whole_of p) ctx request number)

    pub call_does : (q : PlainParts) (done : Done)
        → q ≡ (settle (length p1.waits) p1).0
        → done.ends.items ≡ done1.ends.items ++ (settle (length p1.waits) p1).1
        → done.ans ≡ done1.ans
        → done.gone ≡ done1.gone
        → done.begun ≡ done1.begun
        → DoesWhole (whole_of q) done (call (whole_of p) ctx request number)
    unfolding call settled
    call_does q done e ends answer gone begun = record {
      kernel = ap whole_of (after_call q e);
      answer = answer ∙ rows.answer ∙ ap (λ (r : PartsOutcome). r.answer) agrees;
      ends = ends ∙ ap (λ es. es ++ (settle (length p1.waits) p1).1) (rows.ends ∙ ap (λ (r : PartsOutcome). r.ends) agrees) ∙ ap (λ (s : PlainParts × List KEnd). (whole_row (whole_of p) ctx request number).ends ++ s.1) ends_agree;
      gone = gone ∙ rows.gone ∙ ap (λ (r : PartsOutcome). r.gone) agrees;
      begun = begun ∙ rows.begun ∙ ap (λ (r : PartsOutcome). r.begun) agrees;
    }

  -- ---- ticks

  pub tick_tied : {p1 : PlainParts} → p1 ≡ record p { clock = ticked_clock p.clock } → Tied p1
  tick_tied e = tied (ticked (whole_of p)) (e ∙ ap (λ (q : PlainParts). record q { clock = ticked_clock q.clock }) t.agree) (ticked_stands (whole_of p) t.standing) t.rest

  pub tick_does : {p1 : PlainParts} → p1 ≡ record p { clock = ticked_clock p.clock } → whole_of p1 ≡ (tick (whole_of p)).kernel
  tick_does e = ap whole_of e ∙ sym (ap (λ (o : Outcome). o.kernel) (tick_alone (whole_of p) t.rest))

  pub tick_ends : (tick (whole_of p)).ends ≡ []
  tick_ends = ap (λ (o : Outcome). o.ends) (tick_alone (whole_of p) t.rest)

  -- ---- ends from outside

  module _ (f : WaitingCall → Bool) (w : WaitingCall) (others : List WaitingCall) (found : take_first f p.waits ≡ Some (w, others)) {p1 : PlainParts} (over : p1 ≡ ended_call p w others) where
    after_end : p1 ≡ parts_of (ended (whole_of p) w others)
    after_end = over ∙ ap (λ q. ended_call q w others) t.agree ∙ ended_agrees (whole_of p) f w others found t.standing t.rest

    pub end_tied : Tied p1
    end_tied = tied (ended (whole_of p) w others) after_end (ended_stands (whole_of p) f w others found t.standing) (ended_rests (whole_of p) f w others found t.rest)

    pub end_is : whole_of p1 ≡ ended (whole_of p) w others
    end_is = ap whole_of after_end

  pub due_does : (w : WaitingCall) (others : List WaitingCall) (q : PlainParts) (e : KEnd)
      → next_past (whole_of p) ≡ Some (w, others)
      → q ≡ ended_call p w others
      → e ≡ ending w (code_by_time w.reason) []
      → due (whole_of p) ≡ Some (ended_alone (whole_of q) e)
  due_does w others q e found over is =
      due_alone (whole_of p) (w, others) t.rest found ∙ ap (λ k. Some (ended_alone k (ending w (code_by_time w.reason) []))) (sym (end_is (is_next_past p.clock.now p.waits) w others found over)) ∙ ap (λ end. Some (ended_alone (whole_of q) end)) (sym is)

  -- ---- waits for calls of the network part

  module _ (task : TaskId) (tmo : Tmo) (number : CallNo) (some : task.0 ≢ 0) (runs : running (tasks_of (whole_of p)) ≡ task) {p1 : PlainParts} (waits : p1 ≡ with_wait p task reasons.Outside tmo number) where
    after_block : p1 ≡ parts_of (blocked (whole_of p) task tmo number)
    after_block = waits ∙ ap (λ q. with_wait q task reasons.Outside tmo number) t.agree ∙ blocked_agrees (whole_of p) task tmo number some runs t.standing

    pub block_tied : Tied p1
    block_tied = tied (blocked (whole_of p) task tmo number) after_block (blocked_stands (whole_of p) task tmo number some runs t.standing) (blocked_rests (whole_of p) task tmo number t.rest)

    pub block_does : whole_of p1 ≡ blocked (whole_of p) task tmo number
    block_does = ap whole_of after_block

  pub unblock_some : (task : TaskId) (w : WaitingCall) (others : List WaitingCall) {p1 : PlainParts}
      → take_first (is_outside_of task) p.waits ≡ Some (w, others)
      → p1 ≡ ended_call p w others
      → unblocked (whole_of p) task ≡ (whole_of p1, true)
  unfolding unblocked
  unblock_some task w others found over = ap (unblocked_at (whole_of p)) found ∙ ap (λ k. (k, true)) (sym (end_is (is_outside_of task) w others found over))

  pub unblock_none : (task : TaskId) → take_first (is_outside_of task) p.waits ≡ None → unblocked (whole_of p) task ≡ (whole_of p, false)
  unfolding unblocked
  unblock_none task none = ap (unblocked_at (whole_of p)) none
