-- A kernel call after which a call more waits is answered that it waits; and a task that ends by a call waits for nothing after it.
use Rattle.std.proofs.Common.{◌≡◌, ℕ, zero, suc, ◌+◌, ◌-◌, ◌≤◌, Bool, true, false, not, ◌&&◌, List, [], ◌∷◌, length, slice_set, Option, Some, None, is_some, refl, sym, ◌∙◌, ap, inl, inr, arith}
use Rattle.std.specs.Prelude.{if◌then◌else◌, nat_lt}
use mathlib.Core.Logic.{◌⊎◌}
use Rattle.std.proofs.lemmas.Bool.{cases_Bool}
use Rattle.std.proofs.lemmas.List.{length-append}
use Rattle.it_types.specs.declared.id.TaskId.{TaskId}
use Rattle.it_types.specs.declared.id.CallNo.{CallNo}
use Rattle.it_types.specs.declared.er.Er.{Er}
use Rattle.it_types.specs.declared.er.TheConstants.{E_OK, E_CTX}
use Rattle.it_types.specs.declared.timeout.Tmo.{Tmo}
use Rattle.it_types.specs.declared.context.Ctx.{Ctx}
use Rattle.it_types.specs.declared.synced.Synced.{Synced}
use Rattle.it_types.specs.declared.synced.Synced.TheVariants.{Took, MustWait, Refused}
use Rattle.it_types.specs.declared.kernel_request.KReq.{KReq}
use Rattle.it_types.specs.declared.kernel_request.KReq.TheVariants.{ActTsk, CanAct, ExtTsk, TerTsk, ChgPri, GetPri, TslpTsk, WupTsk, CanWup, RelWai, SusTsk, RsmTsk, FrsmTsk, DlyTsk, RotRdq, GetTid, SigSem, TwaiSem, SetFlg, ClrFlg, TwaiFlg, TsndDtq, FsndDtq, TrcvDtq, SetTim, GetTim, StaCyc, StpCyc}
use Rattle.it_types.specs.Callers.{caller, nobody, is_handler, is_poll}
use Rattle.spec_lists.specs.Tables.{get}
use Rattle.spec_lists.specs.First.{take_first}
use Rattle.spec_lists.specs.Refusal.{first_refusal}
use Rattle.spec_lists.proofs.Firsts.{take_first-shorter}
use Rattle.spec_kernel.specs.declared.handed.Handed.{Handed}
use Rattle.spec_kernel.specs.declared.outcome.KAns.{KAns}
use Rattle.spec_kernel.specs.declared.outcome.KAns.TheVariants as answers
use Rattle.spec_kernel.specs.declared.reason.WaitReason.{WaitReason}
use Rattle.spec_kernel.specs.declared.reason.WaitingCall.{WaitingCall}
use Rattle.spec_kernel.specs.TaskBlocks.{is_active, priority_of, wakeups_of, suspensions_of, one_suspension_more}
use Rattle.spec_kernel.specs.PlainTasks.{PlainTasks, block_of, is_waiting, with_task, leaving, has_priority, last_in_order, released}
use Rattle.spec_kernel.specs.TaskRows.{TaskDone, with_value, with_freed, answered as answered_task, refused_or, unless_refused, named, has_activation, only_if, after_end, ending as ending_task, activated, activations_cancelled, reprioritised as reprioritised_tasks, rotated_priority, sleeping, waking, wakeups_cancelled, resumed, act_tsk_refusals, can_act_refusals, ter_tsk_refusals, chg_pri_refusals, get_pri_refusals, rot_rdq_refusals, tslp_tsk_refusals, wup_tsk_refusals, can_wup_refusals, rel_wai_refusals, sus_tsk_refusals, rsm_tsk_refusals}
use Rattle.spec_kernel.specs.PlainQueues.{handed_bytes}
use Rattle.spec_kernel.specs.PlainKernel.{PlainKernel, is_of, tasks_of, queues_of}
use Rattle.spec_kernel.specs.Settle.{Outcome}
use Rattle.spec_kernel.specs.Calls.{Row, row_of, is_a_handlers}
use Rattle.spec_kernel.specs.Calls.Row.{TasksAtOnce, TasksInTime, NewPriority, OnSemaphores, OnFlags, OnQueues, OnClock}
use Rattle.spec_kernel.specs.Rows.{answered, or_nobody, accepted, ended_call, the_others, done_at_once, done_by_tasks, moved, done_by_objects, handed_to, with_handed, priority_in, done_as, carried_out, row}
use Rattle.spec_kernel.specs.Standing.{IsStanding}
use Rattle.laws_kernel.specs.Calling.{Calls}
use Rattle.laws_kernel.specs.Acting.{Act}
use Rattle.laws_kernel.specs.Acting.Act.{stays, wakes, lies_down, begins, suspends, resumes, goes_last, waits_last}
use Rattle.laws_kernel.proofs.Lists.{waiting_none, left_same}
use Rattle.laws_kernel.proofs.Standing.{act_stands, block_stands, sees_its_wait}
use Rattle.laws_kernel.proofs.RowActs.{pends, Keeps}
use Rattle.laws_kernel.proofs.EachCall.{row_holds}
use Rattle.laws_node.specs.Agreement.{times_waiting}

-- ---- a call more waits

others_shorter : (f : WaitingCall → Bool) (ws : List WaitingCall) (o : Option (WaitingCall × List WaitingCall)) → take_first f ws ≡ o → length (the_others ws o) ≤ length ws
others_shorter f ws None e = omega arith
others_shorter f ws (Some z) e = omega (arith, take_first-shorter f ws z e)

moved_shorter : (k : PlainKernel) (f : WaitingCall → Bool) (o : Option (WaitingCall × List WaitingCall)) → take_first f k.waits ≡ o → length (moved k o).waits ≤ length k.waits
moved_shorter k f None e = omega arith
moved_shorter k f (Some z) e = omega (arith, take_first-shorter f k.waits z e, length-append z.1 (record z.0 { rank = k.next_rank } ∷ []))

-- acts make no call wait
act_shorter : (k l : PlainKernel) → Act k l → length l.waits ≤ length k.waits
act_shorter k l (stays same r w n last now) = omega (arith, ap (λ (ws : List WaitingCall). length ws) w)
act_shorter k l (wakes f z e is) = omega (arith, ap (λ (m : PlainKernel). length m.waits) is, take_first-shorter f k.waits z e)
act_shorter k l (lies_down t is) = omega (arith, ap (λ (m : PlainKernel). length m.waits) is, others_shorter (is_of t.0) k.waits (take_first (is_of t.0) k.waits) refl)
act_shorter k l (begins t x e inactive is) = omega (arith, ap (λ (m : PlainKernel). length m.waits) is)
act_shorter k l (suspends t is) = omega (arith, ap (λ (m : PlainKernel). length m.waits) is)
act_shorter k l (resumes t left active suspended is) = omega (arith, ap (λ (m : PlainKernel). length m.waits) is)
act_shorter k l (goes_last f is) = omega (arith, ap (λ (m : PlainKernel). length m.waits) is)
act_shorter k l (waits_last f is) = omega (arith, ap (λ (m : PlainKernel). length m.waits) is, moved_shorter k f (take_first f k.waits) refl)

module _ (k : PlainKernel) (ctx : Ctx) (request : KReq) (number : CallNo) (s : IsStanding k) (calls : Calls k ctx) where
  -- where the call doesn't wait, no more wait than before
  NoLonger : Bool → PlainKernel → Type 0
  NoLonger waits l = IsStanding l × (waits ≡ false → length l.waits ≤ length k.waits)

  longer_kept : Keeps number NoLonger
  unfolding NoLonger
  longer_kept = record {
    act = λ b m l a p. (act_stands m l a p.0, λ e. omega (arith, p.1 e, act_shorter m l a));
    block = λ m l a p. (block_stands number m l a p.0, λ e. absurd cc);
    stands = λ b m p. p.0;
  }

  -- so a call after which one more waits waits
  pub row_pends : length k.waits + 1 ≤ length (row k ctx request number).kernel.waits → (row k ctx request number).answer ≡ answers.Pends
  unfolding NoLonger
  row_pends longer = of (row k ctx request number).answer refl
    where
      no_longer : pends (row k ctx request number).answer ≡ false → length (row k ctx request number).kernel.waits ≤ length k.waits
      no_longer = (row_holds NoLonger longer_kept k ctx calls (s, λ e. omega arith) request).1

      of : (a : KAns) → (row k ctx request number).answer ≡ a → a ≡ answers.Pends
      of answers.Pends e = refl
      of (answers.Now code bytes) e = absurd (omega (arith, longer, no_longer (ap pends e)))
      of answers.Quiet e = absurd (omega (arith, longer, no_longer (ap pends e)))

-- ---- the task that ends

-- by most calls none ends
abbrev EndsNone : Row → Type 0
EndsNone (TasksAtOnce done) = (d : PlainTasks) → (done d).did.gone ≡ None
EndsNone (TasksInTime done reason tmo) = (d : PlainTasks) → (done d).did.gone ≡ None
EndsNone (NewPriority task done) = (d : PlainTasks) → (done d).did.gone ≡ None
EndsNone _ = Unit {0}

refused_none : (tests : List (Bool × Er)) (d : PlainTasks) (done : TaskDone) → done.did.gone ≡ None → (refused_or tests d done).did.gone ≡ None
refused_none tests d done e = of (first_refusal tests)
  where
    of : (o : Option Er) → (unless_refused o d done).did.gone ≡ None
    of None = e
    of (Some code) = refl

activated_none : (d : PlainTasks) (t : TaskId) → (activated d t).did.gone ≡ None
activated_none d t = elim (cases_Bool (is_active (block_of d t))) [
  | inl e ↦ rw e refl
  | inr e ↦ rw e refl
]

sleeping_none : (d : PlainTasks) (t : TaskId) (tmo : Tmo) → (sleeping d t tmo).did.gone ≡ None
sleeping_none d t tmo = elim (cases_Bool (nat_lt 0 (wakeups_of (block_of d t)))) [
  | inl e ↦ rw e refl
  | inr e ↦ rw e refl
]

module _ (k : PlainKernel) (ctx : Ctx) (number : CallNo) where
  accepted_gone : (reason : WaitReason) (tmo : Tmo) → (accepted k (caller ctx) reason tmo number).gone ≡ nobody
  accepted_gone reason tmo = elim (cases_Bool (is_poll tmo)) [
    | inl e ↦ rw e refl
    | inr e ↦ rw e refl
  ]

  by_tasks_gone : (done : TaskDone) (reason : WaitReason) (tmo : Tmo) → done.did.gone ≡ None → (done_by_tasks k ctx done reason tmo number).gone ≡ nobody
  by_tasks_gone done reason tmo none = elim (cases_Bool done.did.wait) [
    | inl e ↦ rw e (accepted_gone reason tmo)
    | inr e ↦ rw e (ap or_nobody none)
  ]

  objects_gone : (after : PlainKernel) (synced : Synced) (reason : WaitReason) (tmo : Tmo) → (done_by_objects k after ctx synced reason tmo number).gone ≡ nobody
  objects_gone after (Took code bytes) reason tmo = refl
  objects_gone after MustWait reason tmo = accepted_gone reason tmo
  objects_gone after (Refused code) reason tmo = refl

  handed_gone : (o : Outcome) (h : Option Handed) → o.gone ≡ nobody → (with_handed o h).gone ≡ nobody
  handed_gone o None none = none
  handed_gone o (Some h) none = of (take_first (is_of h.task.0) o.kernel.waits)
    where
      of : (z : Option (WaitingCall × List WaitingCall)) → (handed_to o (handed_bytes h.item) z).gone ≡ nobody
      of None = none
      of (Some z) = none

  done_gone : (r : Row) → EndsNone r → (done_as k ctx r number).gone ≡ nobody
  done_gone (TasksAtOnce done) none = ap or_nobody (none (tasks_of k))
  done_gone (TasksInTime done reason tmo) none = by_tasks_gone (done (tasks_of k)) reason tmo (none (tasks_of k))
  done_gone (NewPriority task done) none = ap or_nobody (none (tasks_of k))
  done_gone (OnSemaphores done reason tmo) none = objects_gone _ _ reason tmo
  done_gone (OnFlags done reason tmo) none = objects_gone _ _ reason tmo
  done_gone (OnQueues done reason tmo) none = handed_gone _ (done (queues_of k) (priority_in k ctx) k.next_rank).dtqs.handed (objects_gone _ _ reason tmo)
  done_gone (OnClock after code bytes) none = refl

  -- nobody ends, or the task that ends waits for nothing
  abbrev pub EndsFree : Outcome → Type 0
  EndsFree o = (o.gone ≡ nobody) ⊎ (times_waiting o.gone.0 o.kernel.waits ≡ 0)

  cleared : {X : Type 0} (xs : List (Option X)) (i : ℕ) → is_some (get (slice_set xs i None) i) ≡ false
  cleared [] zero = refl
  cleared [] (suc i) = refl
  cleared (x ∷ xs) zero = refl
  cleared (x ∷ xs) (suc i) = cleared xs i

  ending_free : (t : TaskId) → IsStanding k → EndsFree (done_at_once k ctx (ending_task (tasks_of k) t))
  ending_free t s = inr (of (is_waiting (tasks_of k) t) refl)
    where
      no_wait : (b : Bool) → has_activation (tasks_of k) t ≡ b → is_waiting (after_end (tasks_of k) t) t ≡ false
      no_wait true e = rw e (cleared (tasks_of k).waits t.0)
      no_wait false e = rw e (cleared (tasks_of k).waits t.0)

      of : (b : Bool) → is_waiting (tasks_of k) t ≡ b → times_waiting t.0 (the_others k.waits (ended_call k.waits (after_end (tasks_of k) t) (only_if b t))) ≡ 0
      of true e = rw (no_wait (has_activation (tasks_of k) t) refl) (left_same t.0 k.waits (take_first (is_of t.0) k.waits) refl (s.once t.0))
      of false e = waiting_none t.0 k.waits (sym (sees_its_wait k s t) ∙ e)

  carried_out_free : (request : KReq) → IsStanding k → EndsFree (carried_out k ctx request number)
  carried_out_free ExtTsk s = ending_free (caller ctx) s
  carried_out_free (TerTsk t) s = of (first_refusal (ter_tsk_refusals (tasks_of k) ctx t))
    where
      of : (o : Option Er) → EndsFree (done_at_once k ctx (unless_refused o (tasks_of k) (ending_task (tasks_of k) (named ctx t))))
      of None = ending_free (named ctx t) s
      of (Some code) = inl refl
  carried_out_free (ActTsk t) s = inl (done_gone (row_of ctx (ActTsk t)) (λ d. refused_none (act_tsk_refusals d ctx t) d (activated d (named ctx t)) (activated_none d (named ctx t))))
  carried_out_free (CanAct t) s = inl (done_gone (row_of ctx (CanAct t)) (λ d. refused_none (can_act_refusals d ctx t) d (activations_cancelled d (named ctx t)) refl))
  carried_out_free (ChgPri t p) s = inl (done_gone (row_of ctx (ChgPri t p)) (λ d. refused_none (chg_pri_refusals d ctx t p) d (reprioritised_tasks d (named ctx t) p) refl))
  carried_out_free (GetPri t) s = inl (done_gone (row_of ctx (GetPri t)) (λ d. refused_none (get_pri_refusals d ctx t) d (record { tasks = d; did = with_value (priority_of (block_of d (named ctx t))) }) refl))
  carried_out_free (TslpTsk tmo) s = inl (done_gone (row_of ctx (TslpTsk tmo)) (λ d. refused_none (tslp_tsk_refusals tmo) d (sleeping d (caller ctx) tmo) (sleeping_none d (caller ctx) tmo)))
  carried_out_free (WupTsk t) s = inl (done_gone (row_of ctx (WupTsk t)) (λ d. refused_none (wup_tsk_refusals d ctx t) d (waking d (named ctx t)) refl))
  carried_out_free (CanWup t) s = inl (done_gone (row_of ctx (CanWup t)) (λ d. refused_none (can_wup_refusals d ctx t) d (wakeups_cancelled d (named ctx t)) refl))
  carried_out_free (RelWai t) s = inl (done_gone (row_of ctx (RelWai t)) (λ d. refused_none (rel_wai_refusals d ctx t) d (record { tasks = released d (named ctx t); did = with_freed (Some (named ctx t)) }) refl))
  carried_out_free (SusTsk t) s = inl (done_gone (row_of ctx (SusTsk t)) (λ d. refused_none (sus_tsk_refusals d ctx t) d (answered_task (leaving (with_task d (named ctx t) one_suspension_more) (named ctx t)) E_OK) refl))
  carried_out_free (RsmTsk t) s = inl (done_gone (row_of ctx (RsmTsk t)) (λ d. refused_none (rsm_tsk_refusals d ctx t) d (answered_task (resumed d (named ctx t) (suspensions_of (block_of d (named ctx t)) - 1)) E_OK) refl))
  carried_out_free (FrsmTsk t) s = inl (done_gone (row_of ctx (FrsmTsk t)) (λ d. refused_none (rsm_tsk_refusals d ctx t) d (answered_task (resumed d (named ctx t) 0) E_OK) refl))
  carried_out_free (DlyTsk ticks) s = inl (done_gone (row_of ctx (DlyTsk ticks)) (λ d. refl))
  carried_out_free (RotRdq p) s = inl (done_gone (row_of ctx (RotRdq p)) (λ d. refused_none (rot_rdq_refusals ctx p) d (answered_task (last_in_order (has_priority d.tasks (rotated_priority d ctx p)) d) E_OK) refl))
  carried_out_free GetTid s = inl (done_gone (row_of ctx GetTid) (λ d. refl))
  carried_out_free (SigSem a) s = inl (done_gone (row_of ctx (SigSem a)) tt)
  carried_out_free (TwaiSem a tmo) s = inl (done_gone (row_of ctx (TwaiSem a tmo)) tt)
  carried_out_free (SetFlg f bits) s = inl (done_gone (row_of ctx (SetFlg f bits)) tt)
  carried_out_free (ClrFlg f bits) s = inl (done_gone (row_of ctx (ClrFlg f bits)) tt)
  carried_out_free (TwaiFlg f bits all tmo) s = inl (done_gone (row_of ctx (TwaiFlg f bits all tmo)) tt)
  carried_out_free (TsndDtq q item tmo) s = inl (done_gone (row_of ctx (TsndDtq q item tmo)) tt)
  carried_out_free (FsndDtq q item) s = inl (done_gone (row_of ctx (FsndDtq q item)) tt)
  carried_out_free (TrcvDtq q tmo) s = inl (done_gone (row_of ctx (TrcvDtq q tmo)) tt)
  carried_out_free (SetTim ms) s = inl refl
  carried_out_free GetTim s = inl refl
  carried_out_free (StaCyc c) s = inl refl
  carried_out_free (StpCyc c) s = inl refl

  pub row_free : (request : KReq) → IsStanding k → EndsFree (row k ctx request number)
  row_free request s = of (is_handler ctx && not (is_a_handlers request))
    where
      of : (b : Bool) → EndsFree (if b then answered k E_CTX else carried_out k ctx request number)
      of true = inl refl
      of false = carried_out_free request s
