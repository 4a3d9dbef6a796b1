-- Each call on tasks that is done at once, by what it does: the parts side by side do what the whole kernel does.
use Rattle.std.proofs.Common.{◌≡◌, ◌≢◌, ℕ, Bool, true, false, ◌||◌, List, slice_set, length, Option, Some, None, is_some, refl, ap, sym, ◌∙◌, subst, inl, inr, arith}
use Rattle.std.specs.Prelude.{nat_lt, if◌then◌else◌}
use Rattle.std.proofs.lemmas.Bool.{cases_Bool, cases_lt, eqb-true}
use Rattle.std.proofs.lemmas.List.{get_or-set_same, get_or_past, length-set, set-get_or}
use Rattle.it_types.specs.declared.id.TaskId.{TaskId}
use Rattle.it_types.specs.declared.er.TheConstants.{E_OK}
use Rattle.it_types.specs.declared.context.Ctx.{Ctx}
use Rattle.spec_lists.specs.Tables.{get, change}
use Rattle.spec_lists.specs.First.{take_first}
use Rattle.spec_lists.specs.Counting.{times}
use Rattle.spec_lists.proofs.Firsts.{none_any}
use Rattle.spec_kernel.specs.declared.did.Did.{Did}
use Rattle.spec_kernel.specs.declared.task_block.TaskBlock.{TaskBlock}
use Rattle.spec_kernel.specs.declared.task_wait.TaskWait.{TaskWait}
use Rattle.spec_kernel.specs.declared.reason.WaitingCall.{WaitingCall}
use Rattle.spec_kernel.specs.TaskBlocks.{changed, priority_of, is_active, is_suspended, dormant, begun, one_activation_more, one_activation_less, one_wakeup_more, one_suspension_more, with_suspensions}
use Rattle.spec_kernel.specs.PlainTasks.{PlainTasks, is_waiting, is_asleep, is_for_a_wakeup, with_task, joining_unless, leaving, last_in_order, released}
use Rattle.spec_kernel.specs.TaskRows.{TaskDone, with_code, only_if, has_activation, after_end, activated, beginning, resumed, waking}
use Rattle.spec_kernel.specs.TaskRows.{answered as task_answered, ending as task_ending}
use Rattle.spec_kernel.specs.PlainKernel.{PlainKernel, is_of, waits_by_task, tasks_of}
use Rattle.spec_kernel.specs.Rows.{ended_call, the_others}
use Rattle.spec_kernel.specs.Standing.{waiting_number, IsStanding}
use Rattle.laws_kernel.proofs.Lists.{found_passes, waiting_none, left_same, other_task}
use Rattle.laws_kernel.proofs.Standing.{sees_its_wait}
use Rattle.k_core.proofs.Views.{waits_left}
use Rattle.k_core.proofs.RowsAgreeTasks.{KeepsWaits, Agrees, done_agrees, all_wait_on, priorities_kept}

-- ---- what stays

emptied_at : (waits : List (Option TaskWait)) (i : ℕ) → get (slice_set waits i None) i ≡ None
emptied_at waits i = elim (cases_lt i (length waits)) [
  | inl h ↦ get_or-set_same waits i None None h
  | inr h ↦ get_or_past (slice_set waits i None) i None (omega (arith, h, length-set waits i None))
]

nothing_there : (waits : List (Option TaskWait)) (i : ℕ) → is_some (get waits i) ≡ false → slice_set waits i None ≡ waits
nothing_there waits i e = ap (λ o. slice_set waits i o) (sym (of (get waits i) e)) ∙ set-get_or waits i None
  where
    of : (o : Option TaskWait) → is_some o ≡ false → o ≡ None
    of None e = refl
    of (Some w) e = cc

pub unless_tasks : (b : Bool) (d : PlainTasks) (t : TaskId) → (joining_unless b d t).tasks ≡ d.tasks
unless_tasks true d t = refl
unless_tasks false d t = refl

pub unless_waits : (b : Bool) (d : PlainTasks) (t : TaskId) → (joining_unless b d t).waits ≡ d.waits
unless_waits true d t = refl
unless_waits false d t = refl

waits_on : (o : Option TaskWait) → is_for_a_wakeup o ≡ true → is_some o ≡ true
waits_on None e = e
waits_on (Some w) e = refl

module _ (k : PlainKernel) (s : IsStanding k) (ctx : Ctx) where
  -- ---- no call ends

  pub task_agrees : (t : TaskId) (f : TaskBlock → TaskBlock) (did : Did) → did.freed ≡ None → ((x : TaskBlock) → (f x).priority ≡ x.priority) → Agrees k ctx (record { tasks = with_task (tasks_of k) t f; did = did })
  task_agrees t f did none kept = all_wait_on k s ctx _ none refl (λ id le. priorities_kept k.tasks t.0 f kept id)

  pub order_agrees : (f : TaskId → Bool) → Agrees k ctx (task_answered (last_in_order f (tasks_of k)) E_OK)
  order_agrees f = all_wait_on k s ctx _ refl refl (λ id le. refl)

  pub suspended_agrees : (t : TaskId) → Agrees k ctx (task_answered (leaving (with_task (tasks_of k) t one_suspension_more) t) E_OK)
  suspended_agrees t = all_wait_on k s ctx _ refl refl (λ id le. priorities_kept k.tasks t.0 one_suspension_more (λ x. refl) id)

  pub resumed_agrees : (t : TaskId) (left : ℕ) → Agrees k ctx (task_answered (resumed (tasks_of k) t left) E_OK)
  resumed_agrees t left =
      let stays : Bool = nat_lt 0 left || is_waiting (tasks_of k) t in
      let d : PlainTasks = with_task (tasks_of k) t (with_suspensions left) in
      all_wait_on k s ctx _ refl (unless_waits stays d t) (λ id le. ap (λ ts. priority_of (get ts id)) (unless_tasks stays d t) ∙ priorities_kept k.tasks t.0 (with_suspensions left) (λ x. refl) id)

  -- a dormant task waits nowhere
  begun_agrees : (t : TaskId) → is_active (get k.tasks t.0) ≡ false → Agrees k ctx (beginning (tasks_of k) t)
  begun_agrees t inactive = all_wait_on k s ctx _ refl refl (λ id le. ap priority_of (other_task k.tasks t.0 id begun (λ same. absurd (
      let active : is_active (get k.tasks t.0) ≡ true = subst (λ i. is_active (get k.tasks i) ≡ true) same (s.active id le) in
      let f = sym inactive ∙ active in cc
      ))))

  pub activated_agrees : (t : TaskId) → Agrees k ctx (activated (tasks_of k) t)
  activated_agrees t = elim (cases_Bool (is_active (get k.tasks t.0))) [
    | inl a ↦ rw a (task_agrees t one_activation_more (with_code E_OK) refl (λ x. refl))
    | inr a ↦ rw a (begun_agrees t a)
  ]

  -- a sleeper goes on waiting
  pub waking_agrees : (t : TaskId) → Agrees k ctx (waking (tasks_of k) t)
  waking_agrees t = of (is_asleep (tasks_of k) t) refl
    where
      of : (b : Bool) → is_asleep (tasks_of k) t ≡ b → Agrees k ctx (record { tasks = with_task (tasks_of k) t one_wakeup_more; did = record (with_code E_OK) { freed = only_if b t } })
      of false e = task_agrees t one_wakeup_more (with_code E_OK) refl (λ x. refl)
      of true e =
          let w : is_waiting (tasks_of k) t ≡ true = waits_on (get (tasks_of k).waits t.0) e in
          let left : the_others k.waits (ended_call k.waits (with_task (tasks_of k) t one_wakeup_more) (Some t)) ≡ k.waits = rw w refl in
          done_agrees k s ctx _ (subst (KeepsWaits k (with_task (tasks_of k) t one_wakeup_more)) (sym left) (record { waits = refl; priorities = λ id le. priorities_kept k.tasks t.0 one_wakeup_more (λ x. refl) id }))

  -- ---- the call of a task ends, if it waits

  pub freed_agrees : (t : TaskId) (done : TaskDone)
      → done.did.freed ≡ only_if (is_waiting (tasks_of k) t) t
      → done.tasks.waits ≡ slice_set (waits_by_task k.waits) t.0 None
      → ((id : ℕ) → id ≢ t.0 → priority_of (get done.tasks.tasks id) ≡ priority_of (get k.tasks id))
      → Agrees k ctx done
  freed_agrees t done is_freed waits priorities = of (is_waiting (tasks_of k) t) refl
    where
      no_wait : is_waiting done.tasks t ≡ false
      no_wait = ap (λ ws. is_some (get ws t.0)) waits ∙ ap is_some (emptied_at (waits_by_task k.waits) t.0)

      found : (o : Option (WaitingCall × List WaitingCall)) → take_first (is_of t.0) k.waits ≡ o → is_waiting (tasks_of k) t ≡ true → KeepsWaits k done.tasks (the_others k.waits o)
      found None e w = absurd (let f : true ≡ false = sym w ∙ sees_its_wait k s t ∙ none_any (is_of t.0) k.waits e in cc)
      found (Some z) e w =
          let its : z.0.task.0 ≡ t.0 = eqb-true z.0.task.0 t.0 (found_passes (is_of t.0) k.waits z e) in
          record {
            waits = waits ∙ ap (λ i. slice_set (waits_by_task k.waits) i None) (sym its) ∙ sym (waits_left (is_of t.0) k.waits z.0 z.1 e s.once);
            priorities = λ id le. priorities id (λ same. omega (arith, le, left_same t.0 k.waits (Some z) e (s.once t.0), ap (λ i. times waiting_number i z.1) same));
          }

      of : (b : Bool) → is_waiting (tasks_of k) t ≡ b → Agrees k ctx done
      of true e =
          let call : ended_call k.waits done.tasks done.did.freed ≡ take_first (is_of t.0) k.waits = ap (ended_call k.waits done.tasks) (is_freed ∙ ap (λ b. only_if b t) e) ∙ ap (λ b. if b then None else take_first (is_of t.0) k.waits) no_wait in
          done_agrees k s ctx done (subst (λ o. KeepsWaits k done.tasks (the_others k.waits o)) (sym call) (found (take_first (is_of t.0) k.waits) refl e))
      of false e = all_wait_on k s ctx done (is_freed ∙ ap (λ b. only_if b t) e) (waits ∙ nothing_there (waits_by_task k.waits) t.0 e) (λ id le. priorities id (λ same.
          omega (arith, le, ap (λ i. times waiting_number i k.waits) same, waiting_none t.0 k.waits (sym (sees_its_wait k s t) ∙ e))))

  pub released_agrees : (t : TaskId) → is_waiting (tasks_of k) t ≡ true → Agrees k ctx (record { tasks = released (tasks_of k) t; did = record (with_code E_OK) { freed = Some t } })
  released_agrees t w =
      let stays : Bool = is_suspended (get k.tasks t.0) in
      let d : PlainTasks = record (tasks_of k) { waits = slice_set (waits_by_task k.waits) t.0 None } in
      freed_agrees t _ (sym (ap (λ b. only_if b t) w)) (unless_waits stays d t) (λ id ne. ap (λ ts. priority_of (get ts id)) (unless_tasks stays d t))

  pub ending_agrees : (t : TaskId) → Agrees k ctx (task_ending (tasks_of k) t)
  ending_agrees t = freed_agrees t _ refl (waits (has_activation (tasks_of k) t) refl) (priorities (has_activation (tasks_of k) t) refl)
    where
      waits : (b : Bool) → has_activation (tasks_of k) t ≡ b → (after_end (tasks_of k) t).waits ≡ slice_set (waits_by_task k.waits) t.0 None
      waits true e = rw e refl
      waits false e = rw e refl

      anew : (laid taken : List (Option TaskBlock)) → laid ≡ change k.tasks t.0 (changed dormant) → taken ≡ change laid t.0 (changed one_activation_less) → (id : ℕ) → id ≢ t.0 → priority_of (get (change taken t.0 (changed begun)) id) ≡ priority_of (get k.tasks id)
      anew laid taken e f id ne = ap priority_of (other_task taken t.0 id begun ne ∙ (ap (λ ts. get ts id) f ∙ (other_task laid t.0 id one_activation_less ne ∙ (ap (λ ts. get ts id) e ∙ other_task k.tasks t.0 id dormant ne))))

      priorities : (b : Bool) → has_activation (tasks_of k) t ≡ b → (id : ℕ) → id ≢ t.0 → priority_of (get (after_end (tasks_of k) t).tasks id) ≡ priority_of (get k.tasks id)
      priorities true e id ne = rw e (anew _ _ refl refl id ne)
      priorities false e id ne = rw e (ap priority_of (other_task k.tasks t.0 id dormant ne))
