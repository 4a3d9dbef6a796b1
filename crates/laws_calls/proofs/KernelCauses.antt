-- By which causes calls end in the kernel: those that settling ends have what they waited for, and a row ends the call of a task that it
-- releases or ends, or meets at a data queue of capacity 0.
use Rattle.std.proofs.Common.{◌≡◌, ℕ, zero, suc, Bool, true, false, not, ◌&&◌, List, [], ◌∷◌, ◌++◌, length, Option, Some, None, refl, sym, ap, ◌∙◌, subst, inl, inr}
use Rattle.std.specs.Prelude.{◌-◌, if◌then◌else◌, nat_lt}
use Rattle.std.specs.List.{AllByRecursion}
use Rattle.std.proofs.lemmas.Bool.{cases_Bool}
use Rattle.std.proofs.lemmas.List.{append-nil, append_assoc}
use Rattle.it_types.specs.declared.id.TaskId.{TaskId}
use Rattle.it_types.specs.declared.id.ObjId.{ObjId}
use Rattle.it_types.specs.declared.id.CallNo.{CallNo}
use Rattle.it_types.specs.declared.er.Er.{Er}
use Rattle.it_types.specs.declared.er.TheConstants.{E_OK, E_CTX}
use Rattle.it_types.specs.declared.context.Ctx.{Ctx}
use Rattle.it_types.specs.declared.context.Ctx.TheVariants as contexts
use Rattle.it_types.specs.declared.timeout.Tmo.{Tmo}
use Rattle.it_types.specs.declared.timeout.Tmo.TheVariants as timeouts
use Rattle.it_types.specs.declared.synced.Synced.{Synced}
use Rattle.it_types.specs.declared.synced.Synced.TheVariants.{Took, MustWait, Refused}
use Rattle.it_types.specs.declared.kernel_request.KReq.{KReq}
use Rattle.it_types.specs.declared.kernel_request.KReq.TheVariants.{ActTsk, CanAct, ExtTsk, TerTsk, ChgPri, GetPri, TslpTsk, WupTsk, CanWup, RelWai, SusTsk, RsmTsk, FrsmTsk, DlyTsk, RotRdq, GetTid, SigSem, TwaiSem, SetFlg, ClrFlg, TwaiFlg, TsndDtq, FsndDtq, TrcvDtq, SetTim, GetTim, StaCyc, StpCyc}
use Rattle.it_types.specs.Callers.{is_handler, caller, is_poll}
use Rattle.spec_lists.specs.Tables.{get}
use Rattle.spec_lists.specs.First.{take_first}
use Rattle.spec_lists.specs.Refusal.{first_refusal}
use Rattle.spec_lists.proofs.Firsts.{cases_of_first}
use Rattle.spec_kernel.specs.declared.handed.Handed.{Handed}
use Rattle.spec_kernel.specs.declared.outcome.KEnd.{KEnd}
use Rattle.spec_kernel.specs.declared.task_wait.TaskWait.{TaskWait}
use Rattle.spec_kernel.specs.declared.reason.WaitReason.{WaitReason}
use Rattle.spec_kernel.specs.declared.reason.WaitReason.TheVariants as reasons
use Rattle.spec_kernel.specs.declared.reason.WaitingCall.{WaitingCall}
use Rattle.spec_kernel.specs.declared.waiter.Waiter.{Waiter}
use Rattle.spec_kernel.specs.TaskBlocks.{is_active, priority_of, suspensions_of, wakeups_of, one_suspension_more}
use Rattle.spec_kernel.specs.PlainTasks.{PlainTasks, block_of, is_waiting, is_asleep, with_task, leaving, has_priority, last_in_order, released}
use Rattle.spec_kernel.specs.PlainKernel.{PlainKernel, is_of, tasks_of, queues_of, with_objects}
use Rattle.spec_kernel.specs.Waiting.{PlainObjects}
use Rattle.spec_kernel.specs.PlainQueues.{PlainQueues, handed_bytes}
use Rattle.spec_kernel.specs.PlainQueues as queue_parts
use Rattle.spec_kernel.specs.TaskRows as tasks
use Rattle.spec_kernel.specs.TaskRows.{TaskDone, named, only_if, unless_refused, refused_or, activated, sleeping, act_tsk_refusals, can_act_refusals, ter_tsk_refusals, chg_pri_refusals, get_pri_refusals, tslp_tsk_refusals, wup_tsk_refusals, can_wup_refusals, rel_wai_refusals, sus_tsk_refusals, rsm_tsk_refusals, rot_rdq_refusals}
use Rattle.spec_kernel.specs.QueueRows as queues
use Rattle.spec_kernel.specs.QueueRows.{QueuesDone, other_side, sent_to, received_from, tsnd_dtq, trcv_dtq, fsnd_dtq, tsnd_dtq_refusals, trcv_dtq_refusals, fsnd_dtq_refusals}
use Rattle.spec_kernel.specs.Calls.{is_a_handlers}
use Rattle.spec_kernel.specs.Settle.{Outcome, AtRest, next_freed, freed, ending, settle, settled}
use Rattle.spec_kernel.specs.Settle as kernel
use Rattle.spec_kernel.specs.Rows.{answered, accepted, ended_call, released_end, done_at_once, done_by_tasks, done_by_objects, with_handed, handed_to, done_by_queues, priority_in, carried_out, row}
use Rattle.spec_kernel.specs.Standing.{IsStanding}
use Rattle.laws_kernel.specs.Calling.{Calls}
use Rattle.laws_kernel.proofs.Callers.{caller_idle}
use Rattle.spec_node.specs.declared.event.NodeEv.{NodeEv}
use Rattle.spec_node.specs.PlainNode.{PlainNode}
use Rattle.laws_calls.specs.Cause.{Kind, IsKernelCall, Releases, HandsOver, KernelAt, KernelEnds}
use Rattle.laws_calls.proofs.OnceLists.{all_end}

-- the end has a cause
abbrev pub HasKernelCause : PlainNode → NodeEv → KEnd → Type 0
HasKernelCause n event e = (kind : Kind) × KernelEnds n event kind e

abbrev pub HaveKernelCauses : PlainNode → NodeEv → List KEnd → Type 0
HaveKernelCauses n event es = AllByRecursion (HasKernelCause n event) es

-- ---- settling

module _ (n : PlainNode) (event : NodeEv) where
  settle_caused : (m : ℕ) (k : PlainKernel) (es : List KEnd)
      → KernelAt n event k
      → HaveKernelCauses n event es
      → KernelAt n event (settle m k).0 × HaveKernelCauses n event (es ++ (settle m k).1)
  unfolding settle
  settle_caused zero k es at a = (at, rw append-nil a)
  settle_caused (suc m) k es at a = elim (cases_of_first (next_freed k)) [
    | inl e ↦ rw (e, append-nil) (at, a)
    | inr z ↦ (
        let next : PlainKernel = freed k z.0.0 z.0.1 in
        let e : KEnd = kernel.end_of k z.0.0 in
        let go = settle_caused m next (es ++ e ∷ []) (KernelAt.after_freed k z.0 at z.1) (all_end (HasKernelCause n event) es e a (Kind.Satisfied, KernelEnds.is_freed k z.0 at z.1)) in
        let fits : (es ++ e ∷ []) ++ (settle m next).1 ≡ es ++ e ∷ (settle m next).1 = append_assoc es (e ∷ []) (settle m next).1 in
        rw z.1 (go.0, subst (HaveKernelCauses n event) fits go.1)
        )
  ]

  pub settled_caused : (o : Outcome)
      → KernelAt n event o.kernel
      → HaveKernelCauses n event o.ends
      → KernelAt n event (settled o).kernel × HaveKernelCauses n event (settled o).ends
  unfolding settled
  settled_caused o at a = settle_caused (length o.kernel.waits) o.kernel o.ends at a

-- ---- rows

module _ (n : PlainNode) (event : NodeEv) (ctx : Ctx) (call : KReq) (number : CallNo) (is : IsKernelCall event ctx call) where
  abbrev Caused : Outcome → Type 0
  Caused o = HaveKernelCauses n event o.ends

  none_caused : (o : Outcome) → o.ends ≡ [] → Caused o
  none_caused o e = rw e tt

  -- a row that frees a task from its wait releases it
  abbrev Frees : TaskDone → Type 0
  Frees done = (t : TaskId) → done.did.freed ≡ Some t → is_waiting done.tasks t ≡ false → Releases n.kernel ctx call t

  found_caused : (t : TaskId) (found : Option (WaitingCall × List WaitingCall))
      → Releases n.kernel ctx call t
      → take_first (is_of t.0) n.kernel.waits ≡ found
      → HaveKernelCauses n event (released_end found)
  found_caused t None h e = tt
  found_caused t (Some z) h e = ((Kind.Released, KernelEnds.is_released ctx call t z is h e), tt)

  at_once_caused : (done : TaskDone) → Frees done → Caused (done_at_once n.kernel ctx done)
  at_once_caused done frees = of done.did.freed refl
    where
      of : (freed : Option TaskId) → done.did.freed ≡ freed → HaveKernelCauses n event (released_end (ended_call n.kernel.waits done.tasks freed))
      of None e = tt
      of (Some t) e = elim (cases_Bool (is_waiting done.tasks t)) [
        | inl w ↦ rw w tt
        | inr w ↦ rw w (found_caused t (take_first (is_of t.0) n.kernel.waits) (frees t e w) refl)
      ]

  refused_frees : (tests : List (Bool × Er)) (d : PlainTasks) (done : TaskDone)
      → (first_refusal tests ≡ None → Frees done)
      → Frees (refused_or tests d done)
  refused_frees tests d done frees = of (first_refusal tests) refl
    where
      of : (o : Option Er) → first_refusal tests ≡ o → Frees (unless_refused o d done)
      of None e = frees e
      of (Some code) e = λ t f w. absurd cc

  accepted_caused : (reason : WaitReason) (tmo : Tmo) → Caused (accepted n.kernel (caller ctx) reason tmo number)
  accepted_caused reason tmo = of (is_poll tmo) refl
    where
      of : (b : Bool) → is_poll tmo ≡ b → Caused (accepted n.kernel (caller ctx) reason tmo number)
      of true e = rw e tt
      of false e = rw e tt

  by_tasks_caused : (done : TaskDone) (reason : WaitReason) (tmo : Tmo) → Frees done → Caused (done_by_tasks n.kernel ctx done reason tmo number)
  by_tasks_caused done reason tmo frees = elim (cases_Bool done.did.wait) [
    | inl e ↦ rw e (accepted_caused reason tmo)
    | inr e ↦ rw e (at_once_caused done frees)
  ]

  objects_caused : (objects : PlainObjects) (synced : Synced) (reason : WaitReason) (tmo : Tmo)
      → Caused (done_by_objects n.kernel (with_objects n.kernel objects) ctx synced reason tmo number)
  objects_caused objects (Took code bytes) reason tmo = tt
  objects_caused objects MustWait reason tmo = accepted_caused reason tmo
  objects_caused objects (Refused code) reason tmo = tt

  -- ---- data queues

  -- a call that ends another is met at once, and hands over
  data HandsAlone (done : QueuesDone) : Type 0 where
    nobody : done.dtqs.handed ≡ None → HandsAlone done
    one : (code : Er) (bytes : List ℕ) (h : Handed)
        → done.synced ≡ Took code bytes
        → done.dtqs.handed ≡ Some h
        → HandsOver n.kernel ctx call h.task (handed_bytes h.item)
        → HandsAlone done

  handed_caused : (o : Outcome) (h : Handed)
      → o.ends ≡ []
      → o.kernel.waits ≡ n.kernel.waits
      → HandsOver n.kernel ctx call h.task (handed_bytes h.item)
      → Caused (with_handed o (Some h))
  handed_caused o h untold same hands = of (take_first (is_of h.task.0) o.kernel.waits) refl
    where
      of : (z : Option (WaitingCall × List WaitingCall))
          → take_first (is_of h.task.0) o.kernel.waits ≡ z
          → Caused (handed_to o (handed_bytes h.item) z)
      of None e = rw untold tt
      of (Some z) e = rw untold ((Kind.Satisfied, KernelEnds.is_handed ctx call h.task (handed_bytes h.item) z is hands (ap (take_first (is_of h.task.0)) (sym same) ∙ e)), tt)

  queues_caused : (done : QueuesDone) (reason : WaitReason) (tmo : Tmo)
      → HandsAlone done
      → Caused (done_by_queues n.kernel ctx done reason tmo number)
  queues_caused done reason tmo (HandsAlone.nobody e) = rw e (objects_caused _ done.synced reason tmo)
  queues_caused done reason tmo (HandsAlone.one code bytes h took e hands) = rw (took, e) (handed_caused _ h refl refl hands)

-- ---- the calls

module _ (n : PlainNode) (event : NodeEv) (ctx : Ctx) (number : CallNo) where
  abbrev RowCaused : KReq → Type 0
  RowCaused call = HaveKernelCauses n event (carried_out n.kernel ctx call number).ends

  -- an activation of an active task, and the beginning of a dormant one
  activated_frees : (call : KReq) (is : IsKernelCall event ctx call) (d : PlainTasks) (t : TaskId) → Frees n event ctx call number is (activated d t)
  activated_frees call is d t = elim (cases_Bool (is_active (block_of d t))) [
    | inl e ↦ rw e (λ u f w. absurd cc)
    | inr e ↦ rw e (λ u f w. absurd cc)
  ]

  sleeping_frees : (call : KReq) (is : IsKernelCall event ctx call) (d : PlainTasks) (t : TaskId) (tmo : Tmo)
      → Frees n event ctx call number is (sleeping d t tmo)
  sleeping_frees call is d t tmo = elim (cases_Bool (nat_lt 0 (wakeups_of (block_of d t)))) [
    | inl e ↦ rw e (λ u f w. absurd cc)
    | inr e ↦ rw e (λ u f w. absurd cc)
  ]

  -- only this task is freed, if any is
  the_one : (b : Bool) (t u : TaskId) → only_if b t ≡ Some u → (b ≡ true) × (t ≡ u)
  the_one true t u e = (refl, cc)
  the_one false t u e = absurd cc

  asleep_waits : (d : PlainTasks) (t : TaskId) → is_asleep d t ≡ true → is_waiting d t ≡ true
  asleep_waits d t e = of (get d.waits t.0) refl
    where
      of : (o : Option TaskWait) → get d.waits t.0 ≡ o → is_waiting d t ≡ true
      of None f = absurd (let g : false ≡ true = rw f at e in cc)
      of (Some what) f = rw f refl

  sent_alone : (q : ObjId) (item : ℕ) (tmo : Tmo) (is : IsKernelCall event ctx (TsndDtq q item tmo)) (pri rank : ℕ)
      → (is_handler ctx && not (is_a_handlers (TsndDtq q item tmo))) ≡ false
      → HandsAlone n event ctx (TsndDtq q item tmo) number is (tsnd_dtq (queues_of n.kernel) q item tmo (caller ctx) pri rank)
  sent_alone q item tmo is pri rank may = of (first_refusal (tsnd_dtq_refusals (queues_of n.kernel) q tmo)) refl
    where
      side : (o : Option (Waiter × List Waiter))
          → first_refusal (tsnd_dtq_refusals (queues_of n.kernel) q tmo) ≡ None
          → other_side (queues_of n.kernel) q (reasons.Receive q) ≡ o
          → HandsAlone n event ctx (TsndDtq q item tmo) number is (sent_to (queues_of n.kernel) q item tmo (caller ctx) pri rank o)
      side None free e = elim (cases_Bool (queues.sends_at_once (queues_of n.kernel) (reasons.Send q item))) [
        | inl t ↦ rw t (HandsAlone.nobody refl)
        | inr t ↦ rw t (HandsAlone.nobody refl)
      ]
      side (Some receiver) free e = HandsAlone.one E_OK [] (record { task = receiver.0.task; item = Some item }) refl refl (HandsOver.snd_dtq q item tmo receiver (may, free) e)

      of : (o : Option Er) → first_refusal (tsnd_dtq_refusals (queues_of n.kernel) q tmo) ≡ o
          → HandsAlone n event ctx (TsndDtq q item tmo) number is (queues.unless_refused o (queues_of n.kernel) (sent_to (queues_of n.kernel) q item tmo (caller ctx) pri rank (other_side (queues_of n.kernel) q (reasons.Receive q))))
      of None e = side (other_side (queues_of n.kernel) q (reasons.Receive q)) e refl
      of (Some code) e = HandsAlone.nobody refl

  received_alone : (q : ObjId) (tmo : Tmo) (is : IsKernelCall event ctx (TrcvDtq q tmo)) (pri rank : ℕ)
      → (is_handler ctx && not (is_a_handlers (TrcvDtq q tmo))) ≡ false
      → HandsAlone n event ctx (TrcvDtq q tmo) number is (trcv_dtq (queues_of n.kernel) q tmo (caller ctx) pri rank)
  received_alone q tmo is pri rank may = of (first_refusal (trcv_dtq_refusals (queues_of n.kernel) q tmo)) refl
    where
      side : (o : Option (Waiter × List Waiter))
          → first_refusal (trcv_dtq_refusals (queues_of n.kernel) q tmo) ≡ None
          → other_side (queues_of n.kernel) q (reasons.Send q 0) ≡ o
          → HandsAlone n event ctx (TrcvDtq q tmo) number is (received_from (queues_of n.kernel) q tmo (caller ctx) pri rank o)
      side None free e = elim (cases_Bool (queue_parts.is_met (queues_of n.kernel).queues (reasons.Receive q))) [
        | inl t ↦ rw t (HandsAlone.nobody refl)
        | inr t ↦ rw t (HandsAlone.nobody refl)
      ]
      side (Some sender) free e = HandsAlone.one E_OK _ (record { task = sender.0.task; item = None }) refl refl (HandsOver.rcv_dtq q tmo sender (may, free) e)

      of : (o : Option Er) → first_refusal (trcv_dtq_refusals (queues_of n.kernel) q tmo) ≡ o
          → HandsAlone n event ctx (TrcvDtq q tmo) number is (queues.unless_refused o (queues_of n.kernel) (received_from (queues_of n.kernel) q tmo (caller ctx) pri rank (other_side (queues_of n.kernel) q (reasons.Send q 0))))
      of None e = side (other_side (queues_of n.kernel) q (reasons.Send q 0)) e refl
      of (Some code) e = HandsAlone.nobody refl

  forced_alone : (q : ObjId) (item : ℕ) (is : IsKernelCall event ctx (FsndDtq q item))
      → HandsAlone n event ctx (FsndDtq q item) number is (fsnd_dtq (queues_of n.kernel) q item)
  forced_alone q item is = of (first_refusal (fsnd_dtq_refusals (queues_of n.kernel) q))
    where
      of : (o : Option Er)
          → HandsAlone n event ctx (FsndDtq q item) number is (queues.unless_refused o (queues_of n.kernel) (queues.forced (queues_of n.kernel) q item))
      of None = HandsAlone.nobody refl
      of (Some code) = HandsAlone.nobody refl

  module _ (calls : Calls n.kernel ctx) (stands : IsStanding n.kernel) where
    -- a task that calls doesn't wait
    caller_waits_not : is_handler ctx ≡ false → is_waiting (tasks_of n.kernel) (caller ctx) ≡ false
    caller_waits_not task = of ctx refl task
      where
        of : (c : Ctx) → ctx ≡ c → is_handler c ≡ false → is_waiting (tasks_of n.kernel) (caller c) ≡ false
        of contexts.Handler e f = absurd cc
        of (contexts.Task t) e f = let its = calls t e in caller_idle n.kernel t its.0 its.1 stands

    not_in_handler : (b : Bool) → (b && true) ≡ false → b ≡ false
    not_in_handler true e = absurd cc
    not_in_handler false e = refl

    -- a row that frees no task
    frees_none : (call : KReq) (is : IsKernelCall event ctx call) (tests : List (Bool × Er)) (done : TaskDone)
        → done.did.freed ≡ None
        → Frees n event ctx call number is (refused_or tests (tasks_of n.kernel) done)
    frees_none call is tests done none = refused_frees n event ctx call number is tests (tasks_of n.kernel) done (λ e u f w. absurd (let g : None ≡ Some u = sym none ∙ f in cc))

    ends_none : (call : KReq) (is : IsKernelCall event ctx call) (tests : List (Bool × Er)) (done : TaskDone)
        → done.did.freed ≡ None
        → HaveKernelCauses n event (done_at_once n.kernel ctx (refused_or tests (tasks_of n.kernel) done)).ends
    ends_none call is tests done none = at_once_caused n event ctx call number is (refused_or tests (tasks_of n.kernel) done) (frees_none call is tests done none)

    -- the row of a call that ends a task, the caller or another
    ended_frees : (call : KReq) (is : IsKernelCall event ctx call) (t : TaskId)
        → (is_waiting (tasks_of n.kernel) t ≡ true → Releases n.kernel ctx call t)
        → Frees n event ctx call number is (tasks.ending (tasks_of n.kernel) t)
    ended_frees call is t releases u f w = let it = the_one (is_waiting (tasks_of n.kernel) t) t u f in subst (Releases n.kernel ctx call) it.1 (releases it.0)

    carried_out_caused : (call : KReq) → IsKernelCall event ctx call → (is_handler ctx && not (is_a_handlers call)) ≡ false → RowCaused call
    carried_out_caused (ActTsk t) is may = at_once_caused n event ctx (ActTsk t) number is (tasks.act_tsk (tasks_of n.kernel) ctx t) (refused_frees n event ctx (ActTsk t) number is (act_tsk_refusals (tasks_of n.kernel) ctx t) (tasks_of n.kernel) (activated (tasks_of n.kernel) (named ctx t)) (λ e. activated_frees (ActTsk t) is (tasks_of n.kernel) (named ctx t)))
    carried_out_caused (CanAct t) is may = ends_none (CanAct t) is (can_act_refusals (tasks_of n.kernel) ctx t) (tasks.activations_cancelled (tasks_of n.kernel) (named ctx t)) refl
    carried_out_caused ExtTsk is may = at_once_caused n event ctx ExtTsk number is (tasks.ext_tsk (tasks_of n.kernel) ctx) (ended_frees ExtTsk is (caller ctx) (λ e. absurd (let f : true ≡ false = sym e ∙ caller_waits_not (not_in_handler (is_handler ctx) may) in cc)))
    carried_out_caused (TerTsk t) is may = at_once_caused n event ctx (TerTsk t) number is (tasks.ter_tsk (tasks_of n.kernel) ctx t) (refused_frees n event ctx (TerTsk t) number is (ter_tsk_refusals (tasks_of n.kernel) ctx t) (tasks_of n.kernel) (tasks.ending (tasks_of n.kernel) (named ctx t)) (λ e. ended_frees (TerTsk t) is (named ctx t) (λ w. Releases.ter_tsk t (may, e))))
    carried_out_caused (ChgPri t p) is may = ends_none (ChgPri t p) is (chg_pri_refusals (tasks_of n.kernel) ctx t p) (tasks.reprioritised (tasks_of n.kernel) (named ctx t) p) refl
    carried_out_caused (GetPri t) is may = ends_none (GetPri t) is (get_pri_refusals (tasks_of n.kernel) ctx t) (record { tasks = tasks_of n.kernel; did = tasks.with_value (priority_of (block_of (tasks_of n.kernel) (named ctx t))) }) refl
    carried_out_caused (TslpTsk tmo) is may = by_tasks_caused n event ctx (TslpTsk tmo) number is (tasks.tslp_tsk (tasks_of n.kernel) ctx tmo) reasons.Sleep tmo (refused_frees n event ctx (TslpTsk tmo) number is (tslp_tsk_refusals tmo) (tasks_of n.kernel) (sleeping (tasks_of n.kernel) (caller ctx) tmo) (λ e. sleeping_frees (TslpTsk tmo) is (tasks_of n.kernel) (caller ctx) tmo))
    carried_out_caused (WupTsk t) is may = at_once_caused n event ctx (WupTsk t) number is (tasks.wup_tsk (tasks_of n.kernel) ctx t) (refused_frees n event ctx (WupTsk t) number is (wup_tsk_refusals (tasks_of n.kernel) ctx t) (tasks_of n.kernel) (tasks.waking (tasks_of n.kernel) (named ctx t)) (λ e u f w. absurd (
        let it = the_one (is_asleep (tasks_of n.kernel) (named ctx t)) (named ctx t) u f in
        let g : true ≡ false = sym (asleep_waits (tasks_of n.kernel) (named ctx t) it.0) ∙ ap (is_waiting (tasks_of n.kernel)) it.1 ∙ w in
        cc
        )))
    carried_out_caused (CanWup t) is may = ends_none (CanWup t) is (can_wup_refusals (tasks_of n.kernel) ctx t) (tasks.wakeups_cancelled (tasks_of n.kernel) (named ctx t)) refl
    carried_out_caused (RelWai t) is may = at_once_caused n event ctx (RelWai t) number is (tasks.rel_wai (tasks_of n.kernel) ctx t) (refused_frees n event ctx (RelWai t) number is (rel_wai_refusals (tasks_of n.kernel) ctx t) (tasks_of n.kernel) (record { tasks = released (tasks_of n.kernel) (named ctx t); did = tasks.with_freed (Some (named ctx t)) }) (λ e u f w. subst (Releases n.kernel ctx (RelWai t)) (let same : named ctx t ≡ u = cc in same) (Releases.rel_wai t (may, e))))
    carried_out_caused (SusTsk t) is may = ends_none (SusTsk t) is (sus_tsk_refusals (tasks_of n.kernel) ctx t) (tasks.answered (leaving (with_task (tasks_of n.kernel) (named ctx t) one_suspension_more) (named ctx t)) E_OK) refl
    carried_out_caused (RsmTsk t) is may = ends_none (RsmTsk t) is (rsm_tsk_refusals (tasks_of n.kernel) ctx t) (tasks.answered (tasks.resumed (tasks_of n.kernel) (named ctx t) (suspensions_of (block_of (tasks_of n.kernel) (named ctx t)) - 1)) E_OK) refl
    carried_out_caused (FrsmTsk t) is may = ends_none (FrsmTsk t) is (rsm_tsk_refusals (tasks_of n.kernel) ctx t) (tasks.answered (tasks.resumed (tasks_of n.kernel) (named ctx t) 0) E_OK) refl
    carried_out_caused (DlyTsk ticks) is may = accepted_caused n event ctx (DlyTsk ticks) number is reasons.Delay (timeouts.Ms ticks)
    carried_out_caused (RotRdq p) is may = ends_none (RotRdq p) is (rot_rdq_refusals ctx p) (tasks.answered (last_in_order (has_priority n.kernel.tasks (tasks.rotated_priority (tasks_of n.kernel) ctx p)) (tasks_of n.kernel)) E_OK) refl
    carried_out_caused GetTid is may = tt
    carried_out_caused (SigSem s) is may = objects_caused n event ctx (SigSem s) number is _ _ (reasons.Semaphore s) timeouts.Pol
    carried_out_caused (TwaiSem s tmo) is may = objects_caused n event ctx (TwaiSem s tmo) number is _ _ (reasons.Semaphore s) tmo
    carried_out_caused (SetFlg f bits) is may = objects_caused n event ctx (SetFlg f bits) number is _ _ _ timeouts.Pol
    carried_out_caused (ClrFlg f bits) is may = objects_caused n event ctx (ClrFlg f bits) number is _ _ _ timeouts.Pol
    carried_out_caused (TwaiFlg f bits all tmo) is may = objects_caused n event ctx (TwaiFlg f bits all tmo) number is _ _ _ tmo
    carried_out_caused (TsndDtq q item tmo) is may = queues_caused n event ctx (TsndDtq q item tmo) number is _ (reasons.Send q item) tmo (sent_alone q item tmo is (priority_in n.kernel ctx) n.kernel.next_rank may)
    carried_out_caused (FsndDtq q item) is may = queues_caused n event ctx (FsndDtq q item) number is _ (reasons.Send q item) timeouts.Pol (forced_alone q item is)
    carried_out_caused (TrcvDtq q tmo) is may = queues_caused n event ctx (TrcvDtq q tmo) number is _ (reasons.Receive q) tmo (received_alone q tmo is (priority_in n.kernel ctx) n.kernel.next_rank may)
    carried_out_caused (SetTim ms) is may = tt
    carried_out_caused GetTim is may = tt
    carried_out_caused (StaCyc c) is may = tt
    carried_out_caused (StpCyc c) is may = tt

    -- the ends that a row makes
    pub row_caused : (call : KReq) → IsKernelCall event ctx call → HaveKernelCauses n event (row n.kernel ctx call number).ends
    row_caused call is = of (is_handler ctx && not (is_a_handlers call)) refl
      where
        of : (b : Bool)
            → (is_handler ctx && not (is_a_handlers call)) ≡ b
            → HaveKernelCauses n event (if b then answered n.kernel E_CTX else carried_out n.kernel ctx call number).ends
        of true e = tt
        of false e = carried_out_caused call is e
