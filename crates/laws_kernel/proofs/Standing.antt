-- How tasks and calls stand in the whole kernel: each act keeps it.
use Rattle.std.proofs.Common.{◌≡◌, ◌≢◌, ℕ, ◌+◌, ◌<◌, ◌≤◌, Bool, true, false, ◌||◌, ltb, List, [], ◌∷◌, ◌++◌, length, Option, Some, None, refl, ap, sym, ◌∙◌, subst, inl, inr, arith}
use Rattle.std.specs.Prelude.{◌==◌, nat_lt, if◌then◌else◌}
use Rattle.std.proofs.lemmas.Bool.{cases_Bool, cases_lt}
use Rattle.std.proofs.lemmas.List.{get_or_past}
use Rattle.it_types.specs.declared.id.TaskId.{TaskId}
use Rattle.it_types.specs.declared.id.CallNo.{CallNo}
use Rattle.it_types.specs.declared.timeout.Tmo.{Tmo}
use Rattle.spec_lists.specs.Tables.{get, change}
use Rattle.spec_lists.specs.First.{take_first}
use Rattle.spec_lists.specs.Counting.{one_if, times}
use Rattle.spec_lists.proofs.Changes.{length-change}
use Rattle.spec_lists.proofs.Counting.{one_if-same}
use Rattle.spec_kernel.specs.declared.task_block.TaskBlock.{TaskBlock}
use Rattle.spec_kernel.specs.declared.reason.WaitReason.{WaitReason}
use Rattle.spec_kernel.specs.declared.reason.WaitingCall.{WaitingCall}
use Rattle.spec_kernel.specs.TaskBlocks.{changed, priority_of, is_active, is_suspended, dormant, begun, with_suspensions, one_suspension_more}
use Rattle.spec_kernel.specs.PlainTasks.{PlainTasks, most_urgent, first_of, running, is_waiting, with_task, leaving, without, last_in_order}
use Rattle.spec_kernel.specs.TaskRows.{begun_anew, resumed}
use Rattle.spec_kernel.specs.PlainKernel.{PlainKernel, is_of, tasks_of, with_tasks}
use Rattle.spec_kernel.specs.Settle.{ended}
use Rattle.spec_kernel.specs.Rows.{with_wait, waiting_call, moved}
use Rattle.spec_kernel.specs.Standing.{task_number, waits_now, AreRisingTo, IsStanding}
use Rattle.laws_kernel.specs.Acting.{SameTasks, laid, Act, Blocks}
use Rattle.laws_kernel.specs.Acting.Act.{stays, wakes, lies_down, begins, suspends, resumes, goes_last, waits_last}
use Rattle.laws_kernel.specs.Acting.Blocks.{blocks}
use Rattle.laws_kernel.proofs.Lists.{waiting_some, waiting_none, task_waits, no_task_waits, rising_end, rising_found, rising_others, nobody_changed}
use Rattle.laws_kernel.proofs.Balanced.{AreGood, at_most_once, waiting_active, listed_active, listed_idle, listed_exactly, good_from, stays_good, waits_good_all, ends_good, ends_good_suspended, lies_good, begins_good, suspends_good, resumes_good, goes_last_good, waits_last_good}

-- ---- from the balance and back

pub good_standing : (k : PlainKernel) → IsStanding k → AreGood k.tasks k.runnable k.waits
good_standing k s id = record {
  good = good_from (is_active (get k.tasks id)) (is_suspended (get k.tasks id)) (waits_now k id) _ _ (waiting_some id k.waits) (waiting_none id k.waits) (s.runnable id) (s.once id) (s.active id);
}

pub standing_from : (k : PlainKernel) → length k.tasks ≡ 17 → get k.tasks 0 ≡ None → AreGood k.tasks k.runnable k.waits → AreRisingTo k.next_rank k.waits → IsStanding k
standing_from k places nobody b ranks = record {
  places = places;
  nobody = nobody;
  runnable = λ id. listed_exactly (is_active (get k.tasks id)) (is_suspended (get k.tasks id)) (waits_now k id) _ _ (waiting_some id k.waits) (waiting_none id k.waits) (b id).good;
  once = λ id. at_most_once _ _ _ _ (b id).good;
  active = λ id le. waiting_active _ _ _ _ (b id).good le;
  ranks = ranks;
}

module _ (k : PlainKernel) (s : IsStanding k) where
  good : AreGood k.tasks k.runnable k.waits
  good = good_standing k s

  -- an active task has an id of the table
  pub active_within : (id : ℕ) → is_active (get k.tasks id) ≡ true → id < 17
  active_within id e = elim (cases_lt id 17) [
    | inl lt ↦ lt
    | inr le ↦ absurd (let none : false ≡ true = sym (ap is_active (get_or_past k.tasks id None (omega (arith, le, s.places)))) ∙ e in cc)
  ]

  -- a task sees that it waits exactly where a call of its own does
  pub sees_its_wait : (t : TaskId) → is_waiting (tasks_of k) t ≡ waits_now k t.0
  sees_its_wait t = elim (cases_lt t.0 17) [
    | inl lt ↦ task_waits k.waits t.0 lt
    | inr le ↦ no_task_waits k.waits t.0 le ∙ sym (nobody_waits (waits_now k t.0) (λ w. let lt = active_within t.0 (s.active t.0 (waiting_some t.0 k.waits w)) in omega (arith, le, lt)))
  ]
    where
      nobody_waits : (b : Bool) → (b ≡ true → ⊥) → b ≡ false
      nobody_waits true h = absurd (h refl)
      nobody_waits false h = refl

  -- a listed task is active, and no call of its own waits
  pub listed_is_active : (t : TaskId) → 1 ≤ times task_number t.0 k.runnable → is_active (get k.tasks t.0) ≡ true
  listed_is_active t listed = listed_active _ _ _ _ (good t.0).good listed

  pub listed_doesnt_wait : (t : TaskId) → 1 ≤ times task_number t.0 k.runnable → is_waiting (tasks_of k) t ≡ false
  listed_doesnt_wait t listed = sees_its_wait t ∙ idle (waits_now k t.0) (λ e. let none = listed_idle _ _ _ _ (good t.0).good listed in omega (arith, none, waiting_some t.0 k.waits e))
    where
      idle : (b : Bool) → (b ≡ true → ⊥) → b ≡ false
      idle true h = absurd (h refl)
      idle false h = refl

  -- ---- each act

  stays_stands : (l : PlainKernel) → SameTasks k.tasks l.tasks → l.runnable ≡ k.runnable → l.waits ≡ k.waits → l.next_rank ≡ k.next_rank → IsStanding l
  stays_stands l same r w n = standing_from l (same.places ∙ s.places) (same.nobody s.nobody)
      (subst (λ rs. AreGood l.tasks rs l.waits) (sym r) (subst (AreGood l.tasks k.runnable) (sym w) (stays_good k.tasks k.runnable k.waits good l.tasks same)))
      (subst (λ m. AreRisingTo m l.waits) (sym n) (subst (AreRisingTo k.next_rank) (sym w) s.ranks))

  -- a call that was found ends
  wakes_stands : (f : WaitingCall → Bool) (z : WaitingCall × List WaitingCall) → take_first f k.waits ≡ Some z → IsStanding (ended k z.0 z.1)
  wakes_stands f z e = elim (cases_Bool (is_suspended (get k.tasks z.0.task.0))) [
    | inl t ↦ rw t (standing_from (record k { waits = z.1 }) s.places s.nobody (ends_good_suspended k.tasks k.runnable k.waits good f z e t) (rising_found k.next_rank f k.waits z e s.ranks))
    | inr t ↦ rw t (standing_from (record k { runnable = k.runnable ++ z.0.task ∷ []; waits = z.1 }) s.places s.nobody (ends_good k.tasks k.runnable k.waits good f z e t) (rising_found k.next_rank f k.waits z e s.ranks))
  ]

  lies_down_stands : (t : TaskId) → IsStanding (laid k t)
  lies_down_stands t = standing_from (laid k t) (length-change k.tasks t.0 (changed dormant) ∙ s.places) (nobody_changed k.tasks t.0 dormant s.nobody)
      (lies_good k.tasks k.runnable k.waits good t) (rising_others k.next_rank (is_of t.0) k.waits (take_first (is_of t.0) k.waits) refl s.ranks)

  begins_stands : (t : TaskId) (x : TaskBlock) → get k.tasks t.0 ≡ Some x → x.active ≡ false → IsStanding (with_tasks k (begun_anew (tasks_of k) t))
  begins_stands t x e inactive = standing_from (with_tasks k (begun_anew (tasks_of k) t)) (length-change k.tasks t.0 (changed begun) ∙ s.places) (nobody_changed k.tasks t.0 begun s.nobody)
      (begins_good k.tasks k.runnable k.waits good t x e inactive) s.ranks

  suspends_stands : (t : TaskId) → IsStanding (with_tasks k (leaving (with_task (tasks_of k) t one_suspension_more) t))
  suspends_stands t = standing_from (with_tasks k (leaving (with_task (tasks_of k) t one_suspension_more) t)) (length-change k.tasks t.0 (changed one_suspension_more) ∙ s.places) (nobody_changed k.tasks t.0 one_suspension_more s.nobody)
      (suspends_good k.tasks k.runnable k.waits good t) s.ranks

  resumes_stands : (t : TaskId) (left : ℕ) → is_active (get k.tasks t.0) ≡ true → is_suspended (get k.tasks t.0) ≡ true → IsStanding (with_tasks k (resumed (tasks_of k) t left))
  resumes_stands t left active suspended = of (ltb 0 left || is_waiting (tasks_of k) t) refl
    where
      all : (rs : List TaskId) → rs ≡ (if ltb 0 left || is_waiting (tasks_of k) t then k.runnable else k.runnable ++ t ∷ []) → IsStanding (record k { tasks = change k.tasks t.0 (changed (with_suspensions left)); runnable = rs })
      all rs is = standing_from (record k { tasks = change k.tasks t.0 (changed (with_suspensions left)); runnable = rs })
          (length-change k.tasks t.0 (changed (with_suspensions left)) ∙ s.places) (nobody_changed k.tasks t.0 (with_suspensions left) s.nobody)
          (resumes_good k.tasks k.runnable k.waits good t left (is_waiting (tasks_of k) t) rs active suspended
          (λ e. waiting_some t.0 k.waits (sym (sees_its_wait t) ∙ e)) (λ e. waiting_none t.0 k.waits (sym (sees_its_wait t) ∙ e)) is) s.ranks

      of : (c : Bool) → (ltb 0 left || is_waiting (tasks_of k) t) ≡ c → IsStanding (with_tasks k (resumed (tasks_of k) t left))
      of true e = rw e (all k.runnable (rw e refl))
      of false e = rw e (all (k.runnable ++ t ∷ []) (rw e refl))

  goes_last_stands : (f : TaskId → Bool) → IsStanding (with_tasks k (last_in_order f (tasks_of k)))
  goes_last_stands f = standing_from (with_tasks k (last_in_order f (tasks_of k))) s.places s.nobody (goes_last_good k.tasks k.runnable k.waits good f (take_first f k.runnable) refl) s.ranks

  waits_last_stands : (f : WaitingCall → Bool) (o : Option (WaitingCall × List WaitingCall)) → take_first f k.waits ≡ o → IsStanding (moved k o)
  waits_last_stands f None e = s
  waits_last_stands f (Some z) e = standing_from (moved k (Some z)) s.places s.nobody (waits_last_good k.tasks k.runnable k.waits good f z k.next_rank e)
      (rising_end k.next_rank z.1 (record z.0 { rank = k.next_rank }) refl (rising_found k.next_rank f k.waits z e s.ranks))

  -- a runnable task waits
  blocks_stands : (t : TaskId) (reason : WaitReason) (tmo : Tmo) (number : CallNo) → 1 ≤ times task_number t.0 k.runnable → IsStanding (with_wait k t reason tmo number)
  blocks_stands t reason tmo number listed =
      let w : WaitingCall = waiting_call k t reason tmo number in
      rw (listed_is_active t listed, listed_doesnt_wait t listed) (standing_from (record k { last_call = number.0; runnable = without t k.runnable; waits = k.waits ++ w ∷ []; next_rank = k.next_rank + 1 })
      s.places s.nobody (waits_good_all k.tasks k.runnable k.waits good w listed) (rising_end k.next_rank k.waits w refl s.ranks))

-- ---- all acts

pub act_stands : (k l : PlainKernel) → Act k l → IsStanding k → IsStanding l
act_stands k l (stays same r w n last now) s = stays_stands k s l same r w n
act_stands k l (wakes f z e is) s = subst IsStanding (sym is) (wakes_stands k s f z e)
act_stands k l (lies_down t is) s = subst IsStanding (sym is) (lies_down_stands k s t)
act_stands k l (begins t x e inactive is) s = subst IsStanding (sym is) (begins_stands k s t x e inactive)
act_stands k l (suspends t is) s = subst IsStanding (sym is) (suspends_stands k s t)
act_stands k l (resumes t left active suspended is) s = subst IsStanding (sym is) (resumes_stands k s t left active suspended)
act_stands k l (goes_last f is) s = subst IsStanding (sym is) (goes_last_stands k s f)
act_stands k l (waits_last f is) s = subst IsStanding (sym is) (waits_last_stands k s f (take_first f k.waits) refl)

pub block_stands : (number : CallNo) (k l : PlainKernel) → Blocks number k l → IsStanding k → IsStanding l
block_stands number k l (blocks t reason tmo listed is) s = subst IsStanding (sym is) (blocks_stands k s t reason tmo number listed)

-- ---- what code cites

-- a call that was found ends
pub ended_stands : (k : PlainKernel) (f : WaitingCall → Bool) (w : WaitingCall) (others : List WaitingCall) → take_first f k.waits ≡ Some (w, others) → IsStanding k → IsStanding (ended k w others)
ended_stands k f w others e s = wakes_stands k s f (w, others) e

-- the running task is one that is listed
pub running_listed : (d : PlainTasks) (t : TaskId) → t.0 ≢ 0 → running d ≡ t → 1 ≤ times task_number t.0 d.runnable
running_listed d t some e = subst (λ (u : TaskId). 1 ≤ times task_number u.0 d.runnable) e (of d.runnable (λ none. some (sym (ap task_number e) ∙ none)))
  where
    step : (tasks : List (Option TaskBlock)) (best t : TaskId) (ts : List TaskId) (c : Bool)
        → ((b : TaskId) → 1 ≤ one_if (b.0 == (most_urgent tasks b ts).0) + times task_number (most_urgent tasks b ts).0 ts)
        → 1 ≤ one_if (best.0 == (most_urgent tasks (if c then t else best) ts).0) + times task_number (most_urgent tasks (if c then t else best) ts).0 (t ∷ ts)
    step tasks best t ts true h = omega (arith, h t)
    step tasks best t ts false h = omega (arith, h best)

    among : (tasks : List (Option TaskBlock)) (best : TaskId) (ts : List TaskId) → 1 ≤ one_if (best.0 == (most_urgent tasks best ts).0) + times task_number (most_urgent tasks best ts).0 ts
    among tasks best [] = omega (arith, one_if-same best.0 best.0 refl)
    among tasks best (t ∷ ts) = step tasks best t ts (nat_lt (priority_of (get tasks t.0)) (priority_of (get tasks best.0))) (λ b. among tasks b ts)

    of : (ts : List TaskId) → ((first_of d.tasks ts).0 ≡ 0 → ⊥) → 1 ≤ times task_number (first_of d.tasks ts).0 ts
    of [] h = absurd (h refl)
    of (t ∷ ts) h = among d.tasks t ts

-- the running task waits
pub waiting_stands : (k : PlainKernel) (task : TaskId) (reason : WaitReason) (tmo : Tmo) (number : CallNo)
    → task.0 ≢ 0
    → running (tasks_of k) ≡ task
    → IsStanding k
    → IsStanding (with_wait k task reason tmo number)
waiting_stands k task reason tmo number some runs s = blocks_stands k s task reason tmo number (running_listed (tasks_of k) task some runs)
