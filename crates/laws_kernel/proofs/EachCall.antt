-- The kernel calls, a line each in each of two lists: that its row is a few acts and perhaps one new wait, and what else laws need to know of
-- it. Other laws go by acts, or by the kinds of rows.
use Rattle.std.proofs.Common.{◌≡◌, ◌-◌, ◌≤◌, Bool, true, false, not, ◌&&◌, Option, Some, None, refl, inl}
use Rattle.std.specs.Prelude.{if◌then◌else◌}
use Rattle.it_types.specs.declared.id.CallNo.{CallNo}
use Rattle.it_types.specs.declared.er.Er.{Er}
use Rattle.it_types.specs.declared.er.TheConstants.{E_CTX}
use Rattle.it_types.specs.declared.timeout.Tmo.{Tmo}
use Rattle.it_types.specs.declared.timeout.Tmo.TheVariants as timeouts
use Rattle.it_types.specs.declared.context.Ctx.{Ctx}
use Rattle.it_types.specs.declared.kernel_request.KReq.{KReq}
use Rattle.it_types.specs.declared.kernel_request.KReq.TheVariants.{ActTsk, CanAct, ExtTsk, TerTsk, ChgPri, GetPri, TslpTsk, WupTsk, CanWup, RelWai, SusTsk, RsmTsk, FrsmTsk, DlyTsk, RotRdq, GetTid, SigSem, TwaiSem, SetFlg, ClrFlg, TwaiFlg, TsndDtq, FsndDtq, TrcvDtq, SetTim, GetTim, StaCyc, StpCyc}
use Rattle.it_types.specs.Callers.{is_handler, caller, is_poll}
use Rattle.spec_lists.specs.Tables.{get}
use Rattle.spec_lists.specs.Counting.{times}
use Rattle.spec_lists.proofs.Refusing.{none_holds}
use Rattle.spec_kernel.specs.declared.reason.WaitReason.TheVariants as reasons
use Rattle.spec_kernel.specs.TaskBlocks.{suspensions_of, without_activations, without_wakeups}
use Rattle.spec_kernel.specs.PlainTasks.{has_priority}
use Rattle.spec_kernel.specs.TaskRows.{chg_pri, activated, reprioritised, rotated_priority, sleeping, named, act_tsk_refusals, can_act_refusals, ter_tsk_refusals, chg_pri_refusals, get_pri_refusals, rot_rdq_refusals, tslp_tsk_refusals, wup_tsk_refusals, can_wup_refusals, rel_wai_refusals, sus_tsk_refusals, rsm_tsk_refusals}
use Rattle.spec_kernel.specs.PlainClock.{PlainClock, set_tim, sta_cyc, stp_cyc, unless_refused as unless_clock_refused}
use Rattle.spec_kernel.specs.PlainKernel.{PlainKernel, tasks_of}
use Rattle.spec_kernel.specs.Calls.{is_a_handlers, row_of}
use Rattle.spec_kernel.specs.Rows.{answered, carried_out, row}
use Rattle.spec_kernel.specs.Standing.{task_number}
use Rattle.laws_kernel.specs.Calling.{Calls}
use Rattle.laws_kernel.specs.Acting.Act.{suspends}
use Rattle.spec_kernel.specs.declared.task_wait.TaskWait.TheVariants.{Other}
use Rattle.laws_kernel.proofs.RowActs.{caller_listed, not_handler, not_false, Keeps, Holds, task_act, clock_act, accepted_holds, refused_holds, activated_holds, ending_holds, reprioritised_holds, moved_after, order_holds, waking_holds, released_holds, resumed_holds, sleeping_holds, objects_hold, handed_holds}
use Rattle.laws_kernel.proofs.RowKinds.{refused_none, activated_none, sleeping_none, after_end-next_rank, released-next_rank, joining-next_rank, waiting-next_rank, refused_frees_none, refused_alone, sent_alone, received_alone, IsLawful}
use Rattle.spec_kernel.specs.QueueRows.{tsnd_dtq_refusals, fsnd_dtq_refusals, trcv_dtq_refusals, forced, other_side}

clock_kept : (c : PlainClock) (o : Option Er) (after : PlainClock) → after.now ≡ c.now → (unless_clock_refused o c after).now ≡ c.now
clock_kept c None after e = e
clock_kept c (Some code) after e = refl

-- ---- each row is acts

module _ {number : CallNo} (P : Bool → PlainKernel → Type 0) (keeps : Keeps number P) (k : PlainKernel) (ctx : Ctx) (calls : Calls k ctx) (p : P false k) where
  -- a handler doesn't wait
  waiter_listed : (request : KReq) (tmo : Tmo) → (is_handler ctx && not (is_a_handlers request)) ≡ false → (is_poll tmo ≡ false → is_a_handlers request ≡ false) → is_poll tmo ≡ false → 1 ≤ times task_number (caller ctx).0 k.runnable
  waiter_listed request tmo e tasks_alone waits = caller_listed k ctx calls (not_handler (is_handler ctx) (is_a_handlers request) e (tasks_alone waits))

  carried_out_holds : (request : KReq) → (is_handler ctx && not (is_a_handlers request)) ≡ false → Holds P keeps (carried_out k ctx request number)
  carried_out_holds (ActTsk t) e = refused_holds P keeps k ctx (act_tsk_refusals (tasks_of k) ctx t) _ p (λ n. activated_holds P keeps k ctx (named ctx t) (none_holds (act_tsk_refusals (tasks_of k) ctx t) n).1.0 p)
  carried_out_holds (CanAct t) e = refused_holds P keeps k ctx (can_act_refusals (tasks_of k) ctx t) _ p (λ n. task_act P keeps false k (named ctx t) without_activations (λ x. refl) (λ x. refl) p)
  carried_out_holds ExtTsk e = ending_holds P keeps k ctx (caller ctx) p
  carried_out_holds (TerTsk t) e = refused_holds P keeps k ctx (ter_tsk_refusals (tasks_of k) ctx t) _ p (λ n. ending_holds P keeps k ctx (named ctx t) p)
  carried_out_holds (ChgPri t n) e = moved_after P keeps k ctx t (chg_pri (tasks_of k) ctx t n) (refused_holds P keeps k ctx (chg_pri_refusals (tasks_of k) ctx t n) (reprioritised (tasks_of k) (named ctx t) n) p (λ a. reprioritised_holds P keeps k ctx (named ctx t) n p))
  carried_out_holds (GetPri t) e = refused_holds P keeps k ctx (get_pri_refusals (tasks_of k) ctx t) _ p (λ n. p)
  carried_out_holds (TslpTsk tmo) e = sleeping_holds P keeps k ctx tmo (waiter_listed (TslpTsk tmo) tmo e (λ f. refl)) p
  carried_out_holds (WupTsk t) e = refused_holds P keeps k ctx (wup_tsk_refusals (tasks_of k) ctx t) _ p (λ n. waking_holds P keeps k ctx (named ctx t) p)
  carried_out_holds (CanWup t) e = refused_holds P keeps k ctx (can_wup_refusals (tasks_of k) ctx t) _ p (λ n. task_act P keeps false k (named ctx t) without_wakeups (λ x. refl) (λ x. refl) p)
  carried_out_holds (RelWai t) e = refused_holds P keeps k ctx (rel_wai_refusals (tasks_of k) ctx t) _ p (λ n. released_holds P keeps k ctx (named ctx t) (not_false _ (none_holds (rel_wai_refusals (tasks_of k) ctx t) n).1.1.0) p)
  carried_out_holds (SusTsk t) e = refused_holds P keeps k ctx (sus_tsk_refusals (tasks_of k) ctx t) _ p (λ n. keeps.act false k _ (suspends (named ctx t) refl) p)
  carried_out_holds (RsmTsk t) e = refused_holds P keeps k ctx (rsm_tsk_refusals (tasks_of k) ctx t) _ p (λ n. resumed_holds P keeps k ctx (named ctx t) (suspensions_of (get k.tasks (named ctx t).0) - 1) (none_holds (rsm_tsk_refusals (tasks_of k) ctx t) n).1.1.0 p)
  carried_out_holds (FrsmTsk t) e = refused_holds P keeps k ctx (rsm_tsk_refusals (tasks_of k) ctx t) _ p (λ n. resumed_holds P keeps k ctx (named ctx t) 0 (none_holds (rsm_tsk_refusals (tasks_of k) ctx t) n).1.1.0 p)
  carried_out_holds (DlyTsk ticks) e = accepted_holds P keeps k (caller ctx) reasons.Delay (timeouts.Ms ticks) (waiter_listed (DlyTsk ticks) (timeouts.Ms ticks) e (λ f. refl)) p
  carried_out_holds (RotRdq n) e = refused_holds P keeps k ctx (rot_rdq_refusals ctx n) _ p (λ a. order_holds P keeps k ctx (has_priority k.tasks (rotated_priority (tasks_of k) ctx n)) p)
  carried_out_holds GetTid e = p
  carried_out_holds (SigSem s) e = objects_hold P keeps k _ ctx _ (reasons.Semaphore s) timeouts.Pol (waiter_listed (SigSem s) timeouts.Pol e (λ f. absurd cc)) p
  carried_out_holds (TwaiSem s tmo) e = objects_hold P keeps k _ ctx _ (reasons.Semaphore s) tmo (waiter_listed (TwaiSem s tmo) tmo e (λ f. refl)) p
  carried_out_holds (SetFlg f bits) e = objects_hold P keeps k _ ctx _ _ timeouts.Pol (waiter_listed (SetFlg f bits) timeouts.Pol e (λ f. absurd cc)) p
  carried_out_holds (ClrFlg f bits) e = objects_hold P keeps k _ ctx _ _ timeouts.Pol (waiter_listed (ClrFlg f bits) timeouts.Pol e (λ f. absurd cc)) p
  carried_out_holds (TwaiFlg f bits all tmo) e = objects_hold P keeps k _ ctx _ _ tmo (waiter_listed (TwaiFlg f bits all tmo) tmo e (λ f. refl)) p
  carried_out_holds (TsndDtq q item tmo) e = handed_holds P keeps _ _ (objects_hold P keeps k _ ctx _ (reasons.Send q item) tmo (waiter_listed (TsndDtq q item tmo) tmo e (λ f. f)) p)
  carried_out_holds (FsndDtq q item) e = handed_holds P keeps _ _ (objects_hold P keeps k _ ctx _ (reasons.Send q item) timeouts.Pol (waiter_listed (FsndDtq q item) timeouts.Pol e (λ f. absurd cc)) p)
  carried_out_holds (TrcvDtq q tmo) e = handed_holds P keeps _ _ (objects_hold P keeps k _ ctx _ (reasons.Receive q) tmo (waiter_listed (TrcvDtq q tmo) tmo e (λ f. refl)) p)
  carried_out_holds (SetTim ms) e = clock_act P keeps false k (set_tim k.clock ms) (clock_kept k.clock _ _ refl) p
  carried_out_holds GetTim e = p
  carried_out_holds (StaCyc c) e = clock_act P keeps false k (sta_cyc k.clock c) (clock_kept k.clock _ _ refl) p
  carried_out_holds (StpCyc c) e = clock_act P keeps false k (stp_cyc k.clock c) (clock_kept k.clock _ _ refl) p

  -- each row keeps what acts keep
  pub row_holds : (request : KReq) → Holds P keeps (row k ctx request number)
  row_holds request = of (is_handler ctx && not (is_a_handlers request)) refl
    where
      of : (b : Bool) → (is_handler ctx && not (is_a_handlers request)) ≡ b → Holds P keeps (if b then answered k E_CTX else carried_out k ctx request number)
      of true e = p
      of false e = carried_out_holds request e

-- ---- what else laws need

pub each_lawful : (ctx : Ctx) (request : KReq) → IsLawful (row_of ctx request)
each_lawful ctx (ActTsk t) = λ d. refused_none (act_tsk_refusals d ctx t) d (activated d (named ctx t)) (activated_none d (named ctx t))
each_lawful ctx (CanAct t) = λ d. refused_none (can_act_refusals d ctx t) d _ refl
each_lawful ctx ExtTsk = λ d. after_end-next_rank d (caller ctx)
each_lawful ctx (TerTsk t) = λ d. refused_none (ter_tsk_refusals d ctx t) d _ (after_end-next_rank d (named ctx t))
each_lawful ctx (ChgPri t n) = λ d. (refused_none (chg_pri_refusals d ctx t n) d (reprioritised d (named ctx t) n) refl, refused_frees_none (chg_pri_refusals d ctx t n) d (reprioritised d (named ctx t) n) refl)
each_lawful ctx (GetPri t) = λ d. refused_none (get_pri_refusals d ctx t) d _ refl
each_lawful ctx (TslpTsk tmo) = (λ d. refused_none (tslp_tsk_refusals tmo) d (sleeping d (caller ctx) tmo) (sleeping_none d (caller ctx) tmo), refl)
each_lawful ctx (WupTsk t) = λ d. refused_none (wup_tsk_refusals d ctx t) d _ refl
each_lawful ctx (CanWup t) = λ d. refused_none (can_wup_refusals d ctx t) d _ refl
each_lawful ctx (RelWai t) = λ d. refused_none (rel_wai_refusals d ctx t) d _ (released-next_rank d (named ctx t))
each_lawful ctx (SusTsk t) = λ d. refused_none (sus_tsk_refusals d ctx t) d _ refl
each_lawful ctx (RsmTsk t) = λ d. refused_none (rsm_tsk_refusals d ctx t) d _ (joining-next_rank _ _ (named ctx t))
each_lawful ctx (FrsmTsk t) = λ d. refused_none (rsm_tsk_refusals d ctx t) d _ (joining-next_rank _ _ (named ctx t))
each_lawful ctx (DlyTsk ticks) = (λ d. waiting-next_rank d (caller ctx) Other, refl)
each_lawful ctx (RotRdq n) = λ d. refused_none (rot_rdq_refusals ctx n) d _ refl
each_lawful ctx GetTid = λ d. refl
each_lawful ctx (SigSem s) = refl
each_lawful ctx (TwaiSem s tmo) = refl
each_lawful ctx (SetFlg f bits) = refl
each_lawful ctx (ClrFlg f bits) = refl
each_lawful ctx (TwaiFlg f bits all tmo) = refl
each_lawful ctx (TsndDtq q item tmo) = (refl, λ d pri rank none. refused_alone (tsnd_dtq_refusals d q tmo) d _ none (sent_alone d none q item tmo (caller ctx) pri rank (other_side d q (reasons.Receive q))))
each_lawful ctx (FsndDtq q item) = (refl, λ d pri rank none. refused_alone (fsnd_dtq_refusals d q) d (forced d q item) none (inl none))
each_lawful ctx (TrcvDtq q tmo) = (refl, λ d pri rank none. refused_alone (trcv_dtq_refusals d q tmo) d _ none (received_alone d none q tmo (caller ctx) pri rank (other_side d q (reasons.Send q 0))))
each_lawful ctx (SetTim ms) = λ c. clock_kept c _ _ refl
each_lawful ctx GetTim = λ c. refl
each_lawful ctx (StaCyc id) = λ c. clock_kept c _ _ refl
each_lawful ctx (StpCyc id) = λ c. clock_kept c _ _ refl
