-- The calls on tasks that are done at once: the parts side by side do what the whole kernel does.
use Rattle.std.proofs.Common.{◌≡◌, ℕ, ◌≤◌, Bool, false, List, Option, Some, None, refl, ap, sym, ◌∙◌, subst, inl, inr}
use Rattle.std.proofs.lemmas.Bool.{cases_Bool, cases_eq}
use Rattle.it_types.specs.declared.id.TaskId.{TaskId}
use Rattle.it_types.specs.declared.er.Er.{Er}
use Rattle.it_types.specs.declared.context.Ctx.{Ctx}
use Rattle.spec_lists.specs.Tables.{get, change}
use Rattle.spec_lists.specs.First.{take_first}
use Rattle.spec_lists.specs.Refusal.{first_refusal}
use Rattle.spec_lists.specs.Counting.{times}
use Rattle.spec_kernel.specs.declared.task_block.TaskBlock.{TaskBlock}
use Rattle.spec_kernel.specs.declared.reason.WaitReason.{WaitReason}
use Rattle.spec_kernel.specs.declared.reason.WaitingCall.{WaitingCall}
use Rattle.spec_kernel.specs.TaskBlocks.{changed, priority_of}
use Rattle.spec_kernel.specs.PlainTasks.{PlainTasks, is_waiting}
use Rattle.spec_kernel.specs.PlainSemaphores.{PlainSemaphores}
use Rattle.spec_kernel.specs.PlainFlags.{PlainFlags}
use Rattle.spec_kernel.specs.PlainQueues.{PlainQueues}
use Rattle.spec_kernel.specs.PlainClock.{PlainClock}
use Rattle.spec_kernel.specs.TaskRows.{TaskDone}
use Rattle.spec_kernel.specs.TaskRows.{unless_refused as unless_task_refused, refused_or as task_refused_or}
use Rattle.spec_kernel.specs.Waiters.{left_by}
use Rattle.spec_kernel.specs.PlainKernel.{PlainKernel, is_of, waits_by_task, tasks_of, with_tasks, semaphores_of, flags_of, queues_of, is_for_a_semaphore, is_for_a_flag, is_for_a_queue, waiters_for}
use Rattle.spec_kernel.specs.Rows.{ended_call, the_others, done_at_once}
use Rattle.spec_kernel.specs.Standing.{waiting_number, IsStanding}
use Rattle.spec_kernel.specs.Parts.{PlainParts, parts_of}
use Rattle.k_core.specs.PartsRows.{PartsOutcome, without_call, at_once}
use Rattle.k_core.specs.PartsRows.{with_tasks as parts_with_tasks}
use Rattle.laws_kernel.proofs.Lists.{this_task, other_task}
use Rattle.k_core.proofs.Views.{waiters_among, waiters_left}
use Rattle.k_core.proofs.RowsAgreeSeen.{told, same_seen, alike_by_priority}

-- parts that are the same one by one
pub same_parts : (clock : PlainClock) (waits : List WaitingCall) (last_call : ℕ) (t u : PlainTasks) (a b : PlainSemaphores) (c d : PlainFlags) (e f : PlainQueues)
    → t ≡ u
    → a ≡ b
    → c ≡ d
    → e ≡ f
    → ◌≡◌ {A = PlainParts} (record { clock = clock; tasks = t; sems = a; flags = c; dtqs = e; waits = waits; last_call = last_call }) (record { clock = clock; tasks = u; sems = b; flags = d; dtqs = f; waits = waits; last_call = last_call })
same_parts clock waits last_call t u a b c d e f p q r s = rw (p, q, r, s) refl

-- tasks in which each task sees the calls that are left, and each task that waits has its priority
pub record KeepsWaits (k : PlainKernel) (after : PlainTasks) (left : List WaitingCall) : Type 0 where
  pub waits : after.waits ≡ waits_by_task left
  pub priorities : (id : ℕ) → 1 ≤ times waiting_number id left → priority_of (get after.tasks id) ≡ priority_of (get k.tasks id)

-- the kernel with such tasks
abbrev pub with_left : PlainKernel → PlainTasks → List WaitingCall → PlainKernel
with_left k after left = record (with_tasks k after) { waits = left }

-- the parts side by side do what the whole kernel does, where a call on tasks is done at once
pub record Agrees (k : PlainKernel) (ctx : Ctx) (done : TaskDone) : Type 0 where
  pub same : at_once (parts_of k) ctx done ≡ told (done_at_once k ctx done)

module _ (k : PlainKernel) (s : IsStanding k) where
  still_seen : (kind : WaitReason → Bool) (after : PlainTasks) (left : List WaitingCall) → KeepsWaits k after left → waiters_among kind (with_left k after left) left ≡ waiters_among kind k left
  still_seen kind after left keeps = same_seen kind k (with_left k after left) left (alike_by_priority kind k (with_left k after left) left (λ r. refl) keeps.priorities)

  -- the wait of a call has ended, if any has
  pub left_agrees : (after : PlainTasks) (f : WaitingCall → Bool) (o : Option (WaitingCall × List WaitingCall))
      → ((z : WaitingCall × List WaitingCall) → o ≡ Some z → take_first f k.waits ≡ Some z)
      → KeepsWaits k after (the_others k.waits o)
      → without_call (parts_with_tasks (parts_of k) after) o ≡ parts_of (with_left k after (the_others k.waits o))
  left_agrees after f None found keeps =
      let l : PlainKernel = with_left k after k.waits in
      same_parts k.clock k.waits k.last_call after (tasks_of l) (semaphores_of k) (semaphores_of l) (flags_of k) (flags_of l) (queues_of k) (queues_of l)
      (ap (λ ws. record after { waits = ws }) keeps.waits)
      (ap (λ ws. record (semaphores_of k) { waiters = ws }) (sym (still_seen is_for_a_semaphore after k.waits keeps)))
      (ap (λ ws. record (flags_of k) { waiters = ws }) (sym (still_seen is_for_a_flag after k.waits keeps)))
      (ap (λ ws. record (queues_of k) { waiters = ws }) (sym (still_seen is_for_a_queue after k.waits keeps)))
  left_agrees after f (Some z) found keeps =
      let l : PlainKernel = with_left k after z.1 in
      let p : PlainParts = without_call (parts_with_tasks (parts_of k) after) (Some z) in
      same_parts k.clock z.1 k.last_call after (tasks_of l) p.sems (semaphores_of l) p.flags (flags_of l) p.dtqs (queues_of l)
      (ap (λ ws. record after { waits = ws }) keeps.waits)
      (ap (λ ws. record (semaphores_of k) { waiters = ws }) (gone is_for_a_semaphore))
      (ap (λ ws. record (flags_of k) { waiters = ws }) (gone is_for_a_flag))
      (ap (λ ws. record (queues_of k) { waiters = ws }) (gone is_for_a_queue))
    where
      gone : (kind : WaitReason → Bool) → left_by z.0.task (waiters_for kind k) ≡ waiters_among kind (with_left k after z.1) z.1
      gone kind = sym (waiters_left kind k f k.waits z.0 z.1 (found z refl) s.once) ∙ sym (still_seen kind after z.1 keeps)

  -- ---- what a call has done

  -- a call that ended is the first of its task
  found_by_task : (waits : List WaitingCall) (after : PlainTasks) (freed : Option TaskId) (z : WaitingCall × List WaitingCall) → ended_call waits after freed ≡ Some z → (t : TaskId) × (take_first (is_of t.0) waits ≡ Some z)
  found_by_task waits after None z e = cc
  found_by_task waits after (Some t) z e = elim (cases_Bool (is_waiting after t)) [
    | inl w ↦ absurd (let none : ended_call waits after (Some t) ≡ None = rw w refl in let f = sym none ∙ e in cc)
    | inr w ↦ (t, (let some : ended_call waits after (Some t) ≡ take_first (is_of t.0) waits = rw w refl in sym some ∙ e))
  ]

  outcome : Ctx → TaskDone → PlainParts → PartsOutcome
  outcome ctx done parts = record (told (done_at_once k ctx done)) { parts = parts }

  pub done_agrees : (ctx : Ctx) (done : TaskDone) → KeepsWaits k done.tasks (the_others k.waits (ended_call k.waits done.tasks done.did.freed)) → Agrees k ctx done
  unfolding outcome
  done_agrees ctx done keeps = of (ended_call k.waits done.tasks done.did.freed) refl
    where
      of : (o : Option (WaitingCall × List WaitingCall)) → ended_call k.waits done.tasks done.did.freed ≡ o → Agrees k ctx done
      of None e = record { same = ap (outcome ctx done) (left_agrees done.tasks (λ w. false) (ended_call k.waits done.tasks done.did.freed) (λ z f. absurd (let g = sym e ∙ f in cc)) keeps) }
      of (Some z) e = record {
        same = ap (outcome ctx done)
            (left_agrees done.tasks (is_of (found_by_task k.waits done.tasks done.did.freed z e).0.0) (ended_call k.waits done.tasks done.did.freed)
            (λ y f. (found_by_task k.waits done.tasks done.did.freed z e).1 ∙ sym e ∙ f) keeps);
      }

  -- a refused call changes nothing
  pub refused_agrees : (ctx : Ctx) (tests : List (Bool × Er)) (done : TaskDone) → (first_refusal tests ≡ None → Agrees k ctx done) → Agrees k ctx (task_refused_or tests (tasks_of k) done)
  refused_agrees ctx tests done carried = of (first_refusal tests) refl
    where
      of : (o : Option Er) → first_refusal tests ≡ o → Agrees k ctx (unless_task_refused o (tasks_of k) done)
      of None e = carried e
      of (Some code) e = record { same = refl }

  -- no call ends
  pub all_wait_on : (ctx : Ctx) (done : TaskDone)
      → done.did.freed ≡ None
      → done.tasks.waits ≡ waits_by_task k.waits
      → ((id : ℕ) → 1 ≤ times waiting_number id k.waits → priority_of (get done.tasks.tasks id) ≡ priority_of (get k.tasks id))
      → Agrees k ctx done
  all_wait_on ctx done none waits priorities =
      let same : the_others k.waits (ended_call k.waits done.tasks done.did.freed) ≡ k.waits = ap (λ o. the_others k.waits (ended_call k.waits done.tasks o)) none in
      done_agrees ctx done (subst (KeepsWaits k done.tasks) (sym same) (record { waits = waits; priorities = priorities }))

-- a change that leaves priorities as they were
pub priorities_kept : (tasks : List (Option TaskBlock)) (i : ℕ) (f : TaskBlock → TaskBlock) → ((x : TaskBlock) → (f x).priority ≡ x.priority) → (id : ℕ) → priority_of (get (change tasks i (changed f)) id) ≡ priority_of (get tasks id)
priorities_kept tasks i f kept id = elim (cases_eq id i) [
  | inl same ↦ subst (λ j. priority_of (get (change tasks i (changed f)) j) ≡ priority_of (get tasks j)) (sym same) (ap priority_of (this_task tasks i f) ∙ at (get tasks i))
  | inr other ↦ ap priority_of (other_task tasks i id f other)
]
  where
    at : (o : Option TaskBlock) → priority_of (changed f o) ≡ priority_of o
    at None = refl
    at (Some x) = kept x
