-- How each task stands: whether it is active and suspended, how often it is listed as runnable and how many of its calls wait. Each act
-- keeps the balance of these.
use Rattle.std.proofs.Common.{◌≡◌, ◌≢◌, ℕ, ◌+◌, ◌≤◌, Bool, true, false, not, ◌&&◌, ◌||◌, leb, ltb, List, [], ◌∷◌, ◌++◌, Option, Some, None, refl, ap, sym, ◌∙◌, subst, inl, inr, arith}
use Rattle.std.specs.Prelude.{if◌then◌else◌}
use Rattle.std.proofs.lemmas.Bool.{cases_Bool, cases_eq, leb-true, lt-ltb}
use Rattle.it_types.specs.declared.id.TaskId.{TaskId}
use Rattle.spec_lists.specs.Tables.{get, change}
use Rattle.spec_lists.specs.First.{take_first}
use Rattle.spec_lists.specs.Counting.{one_if, times}
use Rattle.spec_lists.proofs.Counting.{one_if-same, one_if-other, times-end, times-found, times-without_same, times-without_other}
use Rattle.spec_kernel.specs.declared.task_block.TaskBlock.{TaskBlock}
use Rattle.spec_kernel.specs.declared.reason.WaitingCall.{WaitingCall}
use Rattle.spec_kernel.specs.TaskBlocks.{changed, is_active, is_suspended, dormant, begun, with_suspensions, one_suspension_more, one_more}
use Rattle.spec_kernel.specs.PlainTasks.{without, to_the_end}
use Rattle.spec_kernel.specs.PlainKernel.{is_of}
use Rattle.spec_kernel.specs.Rows.{the_others}
use Rattle.spec_kernel.specs.Standing.{task_number, waiting_number}
use Rattle.laws_kernel.specs.Acting.{SameTasks}
use Rattle.laws_kernel.proofs.Lists.{left_same, left_other, other_task, this_task}

-- a dormant task is neither listed nor waits; an active one is listed, waits with one call, or is suspended and perhaps waits
abbrev pub Good : Bool → Bool → ℕ → ℕ → Type 0
Good false s l w = (l ≡ 0) × (w ≡ 0)
Good true false l w = l + w ≡ 1
Good true true l w = (l ≡ 0) × (w ≤ 1)

-- ---- one task

pub at_most_once : (a s : Bool) (l w : ℕ) → Good a s l w → w ≤ 1
at_most_once false s l w g = omega (arith, g.1)
at_most_once true false l w g = omega (arith, g)
at_most_once true true l w g = g.1

pub waiting_active : (a s : Bool) (l w : ℕ) → Good a s l w → 1 ≤ w → a ≡ true
waiting_active false s l w g le = absurd (omega (arith, g.1, le))
waiting_active true s l w g le = refl

pub listed_active : (a s : Bool) (l w : ℕ) → Good a s l w → 1 ≤ l → a ≡ true
listed_active false s l w g le = absurd (omega (arith, g.0, le))
listed_active true s l w g le = refl

pub listed_idle : (a s : Bool) (l w : ℕ) → Good a s l w → 1 ≤ l → w ≡ 0
listed_idle false s l w g le = g.1
listed_idle true false l w g le = omega (arith, g)
listed_idle true true l w g le = absurd (omega (arith, g.0))

-- a balance says which tasks are listed
pub listed_exactly : (a s any : Bool) (l w : ℕ) → (any ≡ true → 1 ≤ w) → (any ≡ false → w ≡ 0) → Good a s l w → l ≡ one_if (a && (not s && not any))
listed_exactly false s any l w some none g = g.0
listed_exactly true true any l w some none g = g.0
listed_exactly true false true l w some none g = omega (arith, g, some refl)
listed_exactly true false false l w some none g = omega (arith, g, none refl)

pub good_from : (a s any : Bool) (l w : ℕ) → (any ≡ true → 1 ≤ w) → (any ≡ false → w ≡ 0) → l ≡ one_if (a && (not s && not any)) → w ≤ 1 → (1 ≤ w → a ≡ true) → Good a s l w
good_from false s true l w some none e once active = absurd (let f = active (some refl) in cc)
good_from false s false l w some none e once active = (e, none refl)
good_from true true any l w some none e once active = (e, once)
good_from true false true l w some none e once active = omega (arith, e, once, some refl)
good_from true false false l w some none e once active = omega (arith, e, none refl)

waits_good : (a s : Bool) (l w : ℕ) → Good a s l w → 1 ≤ l → Good a s 0 (w + 1)
waits_good false s l w g le = absurd (omega (arith, g.0))
waits_good true false l w g le = omega (arith, g)
waits_good true true l w g le = absurd (omega (arith, g.0))

halted_good : (a s : Bool) (l w : ℕ) → Good a s l w → Good a true 0 w
halted_good false s l w g = (refl, g.1)
halted_good true false l w g = (refl, omega (arith, g))
halted_good true true l w g = (refl, g.1)

begun_good : (s : Bool) (l w : ℕ) → Good false s l w → Good true false (l + 1) w
begun_good s l w g = omega (arith, g.0, g.1)

resumed_good : (l w : ℕ) (more waits : Bool) → (waits ≡ true → 1 ≤ w) → (waits ≡ false → w ≡ 0) → Good true true l w → Good true more (l + one_if (not (more || waits))) w
resumed_good l w true waits some none g = (omega (arith, g.0), g.1)
resumed_good l w false true some none g = omega (arith, g.0, g.1, some refl)
resumed_good l w false false some none g = omega (arith, g.0, none refl)

-- ---- all tasks

pub record IsGoodAt (tasks : List (Option TaskBlock)) (runnable : List TaskId) (waits : List WaitingCall) (id : ℕ) : Type 0 where
  pub good : Good (is_active (get tasks id)) (is_suspended (get tasks id)) (times task_number id runnable) (times waiting_number id waits)

abbrev pub AreGood : List (Option TaskBlock) → List TaskId → List WaitingCall → Type 0
AreGood tasks runnable waits = (id : ℕ) → IsGoodAt tasks runnable waits id

there_is : (o : Option TaskBlock) → is_active o ≡ true → (x : TaskBlock) × (o ≡ Some x)
there_is None e = cc
there_is (Some x) e = (x, refl)

some_more : (n : ℕ) → ltb 0 (one_more n) ≡ true
some_more n = elim (cases_Bool (leb 255 n)) [
  | inl t ↦ rw t (lt-ltb 0 n (omega (arith, leb-true 255 n t)))
  | inr t ↦ rw t (lt-ltb 0 (n + 1) (omega arith))
]

module _ (tasks : List (Option TaskBlock)) (runnable : List TaskId) (waits : List WaitingCall) (b : AreGood tasks runnable waits) where
  -- the same lists, and tasks of the same standing
  pub same_good : (ts : List (Option TaskBlock)) (rs : List TaskId) (ws : List WaitingCall) (id : ℕ)
      → is_active (get ts id) ≡ is_active (get tasks id)
      → is_suspended (get ts id) ≡ is_suspended (get tasks id)
      → times task_number id rs ≡ times task_number id runnable
      → times waiting_number id ws ≡ times waiting_number id waits
      → IsGoodAt ts rs ws id
  same_good ts rs ws id a s r w = record { good = rw (a, s, r, w) (b id).good }

  -- a task that the act doesn't touch
  untouched : (i : ℕ) (f : TaskBlock → TaskBlock) (rs : List TaskId) (ws : List WaitingCall) (id : ℕ)
      → id ≢ i
      → times task_number id rs ≡ times task_number id runnable
      → times waiting_number id ws ≡ times waiting_number id waits
      → IsGoodAt (change tasks i (changed f)) rs ws id
  untouched i f rs ws id ne r w =
      let same = other_task tasks i id f ne in
      same_good (change tasks i (changed f)) rs ws id (ap is_active same) (ap is_suspended same) r w

  -- all tasks but one are as they were
  pub touched : (ts : List (Option TaskBlock)) (rs : List TaskId) (ws : List WaitingCall) (i : ℕ)
      → ((id : ℕ) → id ≢ i → IsGoodAt ts rs ws id)
      → IsGoodAt ts rs ws i
      → AreGood ts rs ws
  touched ts rs ws i others this id = elim (cases_eq id i) [
    | inl same ↦ subst (IsGoodAt ts rs ws) (sym same) this
    | inr other ↦ others id other
  ]

  pub stays_good : (ts : List (Option TaskBlock)) → SameTasks tasks ts → AreGood ts runnable waits
  stays_good ts same id = same_good ts runnable waits id (same.active id) (same.suspended id) refl refl

  more_at_end : (t : TaskId) (id : ℕ) → id ≢ t.0 → times task_number id (runnable ++ t ∷ []) ≡ times task_number id runnable
  more_at_end t id other = omega (arith, times-end task_number id runnable t, one_if-other t.0 id (λ e. other (sym e)))

  one_at_end : (t : TaskId) → times task_number t.0 (runnable ++ t ∷ []) ≡ times task_number t.0 runnable + 1
  one_at_end t = omega (arith, times-end task_number t.0 runnable t, one_if-same t.0 t.0 refl)

  -- a listed task waits
  pub waits_good_all : (w : WaitingCall) → 1 ≤ times task_number w.task.0 runnable → AreGood tasks (without w.task runnable) (waits ++ w ∷ [])
  waits_good_all w listed = touched tasks (without w.task runnable) (waits ++ w ∷ []) w.task.0
      (λ id other. same_good tasks (without w.task runnable) (waits ++ w ∷ []) id refl refl (times-without_other task_number w.task.0 id runnable other) (omega (arith, times-end waiting_number id waits w, one_if-other w.task.0 id (λ e. other (sym e)))))
      (record {
        good =
            let none : times task_number w.task.0 (without w.task runnable) ≡ 0 = times-without_same task_number w.task.0 runnable in
            let one : times waiting_number w.task.0 (waits ++ w ∷ []) ≡ times waiting_number w.task.0 waits + 1 = omega (arith, times-end waiting_number w.task.0 waits w, one_if-same w.task.0 w.task.0 refl) in
            rw (none, one) (waits_good _ _ _ _ (b w.task.0).good listed);
      })

  -- a call ends, and its task is suspended
  pub ends_good_suspended : (f : WaitingCall → Bool) (z : WaitingCall × List WaitingCall) → take_first f waits ≡ Some z → is_suspended (get tasks z.0.task.0) ≡ true → AreGood tasks runnable z.1
  ends_good_suspended f z e suspended = touched tasks runnable z.1 z.0.task.0
      (λ id other. same_good tasks runnable z.1 id refl refl refl (omega (arith, times-found waiting_number id f waits z e, one_if-other z.0.task.0 id (λ e. other (sym e)))))
      (record {
        good =
            let one : times waiting_number z.0.task.0 waits ≡ times waiting_number z.0.task.0 z.1 + 1 = omega (arith, times-found waiting_number z.0.task.0 f waits z e, one_if-same z.0.task.0 z.0.task.0 refl) in
            rest (is_active (get tasks z.0.task.0)) (is_suspended (get tasks z.0.task.0)) _ _ _ suspended (b z.0.task.0).good one;
      })
    where
      rest : (a s : Bool) (l v w : ℕ) → s ≡ true → Good a s l v → v ≡ w + 1 → Good a s l w
      rest false s l v w t g e = absurd (omega (arith, g.1, e))
      rest true true l v w t g e = (g.0, omega (arith, g.1, e))
      rest true false l v w t g e = absurd cc

  -- and it isn't
  pub ends_good : (f : WaitingCall → Bool) (z : WaitingCall × List WaitingCall) → take_first f waits ≡ Some z → is_suspended (get tasks z.0.task.0) ≡ false → AreGood tasks (runnable ++ z.0.task ∷ []) z.1
  ends_good f z e free = touched tasks (runnable ++ z.0.task ∷ []) z.1 z.0.task.0
      (λ id other. same_good tasks (runnable ++ z.0.task ∷ []) z.1 id refl refl (more_at_end z.0.task id other) (omega (arith, times-found waiting_number id f waits z e, one_if-other z.0.task.0 id (λ e. other (sym e)))))
      (record {
        good =
            let one : times waiting_number z.0.task.0 waits ≡ times waiting_number z.0.task.0 z.1 + 1 = omega (arith, times-found waiting_number z.0.task.0 f waits z e, one_if-same z.0.task.0 z.0.task.0 refl) in
            rw (one_at_end z.0.task) (rest (is_active (get tasks z.0.task.0)) (is_suspended (get tasks z.0.task.0)) _ _ _ free (b z.0.task.0).good one);
      })
    where
      rest : (a s : Bool) (l v w : ℕ) → s ≡ false → Good a s l v → v ≡ w + 1 → Good a s (l + 1) w
      rest false s l v w t g e = absurd (omega (arith, g.1, e))
      rest true true l v w t g e = absurd cc
      rest true false l v w t g e = omega (arith, g, e)

  -- a task ends
  pub lies_good : (t : TaskId) → AreGood (change tasks t.0 (changed dormant)) (without t runnable) (the_others waits (take_first (is_of t.0) waits))
  lies_good t = touched (change tasks t.0 (changed dormant)) (without t runnable) left t.0
      (λ id other. untouched t.0 dormant (without t runnable) left id other (times-without_other task_number t.0 id runnable other) (left_other t.0 id waits (take_first (is_of t.0) waits) refl other))
      (record {
        good =
            let none : times waiting_number t.0 left ≡ 0 = left_same t.0 waits (take_first (is_of t.0) waits) refl (at_most_once _ _ _ _ (b t.0).good) in
            let off : is_active (get (change tasks t.0 (changed dormant)) t.0) ≡ false = ap is_active (this_task tasks t.0 dormant) ∙ inactive (get tasks t.0) in
            rw (off, none, times-without_same task_number t.0 runnable) (refl, refl);
      })
    where
      left : List WaitingCall
      left = the_others waits (take_first (is_of t.0) waits)

      inactive : (o : Option TaskBlock) → is_active (changed dormant o) ≡ false
      inactive None = refl
      inactive (Some x) = refl

  -- a dormant task begins
  pub begins_good : (t : TaskId) (x : TaskBlock) → get tasks t.0 ≡ Some x → x.active ≡ false → AreGood (change tasks t.0 (changed begun)) (runnable ++ t ∷ []) waits
  begins_good t x e inactive = touched (change tasks t.0 (changed begun)) (runnable ++ t ∷ []) waits t.0
      (λ id other. untouched t.0 begun (runnable ++ t ∷ []) waits id other (more_at_end t id other) refl)
      (record {
        good =
            let now : get (change tasks t.0 (changed begun)) t.0 ≡ Some (begun x) = this_task tasks t.0 begun ∙ ap (changed begun) e in
            let before : is_active (get tasks t.0) ≡ false = ap is_active e ∙ inactive in
            let g : Good false (is_suspended (get tasks t.0)) (times task_number t.0 runnable) (times waiting_number t.0 waits) = rw before at (b t.0).good in
            rw (now, one_at_end t) (begun_good (is_suspended (get tasks t.0)) _ _ g);
      })

  -- a task is suspended once more
  pub suspends_good : (t : TaskId) → AreGood (change tasks t.0 (changed one_suspension_more)) (without t runnable) waits
  suspends_good t = touched (change tasks t.0 (changed one_suspension_more)) (without t runnable) waits t.0
      (λ id other. untouched t.0 one_suspension_more (without t runnable) waits id other (times-without_other task_number t.0 id runnable other) refl)
      (at (get tasks t.0) refl)
    where
      at : (o : Option TaskBlock) → get tasks t.0 ≡ o → IsGoodAt (change tasks t.0 (changed one_suspension_more)) (without t runnable) waits t.0
      at None is = record {
        good =
            let now : get (change tasks t.0 (changed one_suspension_more)) t.0 ≡ None = this_task tasks t.0 one_suspension_more ∙ ap (changed one_suspension_more) is in
            let g : Good false false (times task_number t.0 runnable) (times waiting_number t.0 waits) = rw is at (b t.0).good in
            rw (now, times-without_same task_number t.0 runnable) (refl, g.1);
      }
      at (Some x) is = record {
        good =
            let now : get (change tasks t.0 (changed one_suspension_more)) t.0 ≡ Some (one_suspension_more x) = this_task tasks t.0 one_suspension_more ∙ ap (changed one_suspension_more) is in
            let g : Good x.active (ltb 0 x.suspensions) (times task_number t.0 runnable) (times waiting_number t.0 waits) = rw is at (b t.0).good in
            rw (now, some_more x.suspensions, times-without_same task_number t.0 runnable) (halted_good _ _ _ _ g);
      }

  -- so many suspensions are left of a suspended task
  pub resumes_good : (t : TaskId) (left : ℕ) (idle : Bool) (rs : List TaskId)
      → is_active (get tasks t.0) ≡ true
      → is_suspended (get tasks t.0) ≡ true
      → (idle ≡ true → 1 ≤ times waiting_number t.0 waits)
      → (idle ≡ false → times waiting_number t.0 waits ≡ 0)
      → rs ≡ (if ltb 0 left || idle then runnable else runnable ++ t ∷ [])
      → AreGood (change tasks t.0 (changed (with_suspensions left))) rs waits
  resumes_good t left idle rs active suspended some none is = touched (change tasks t.0 (changed (with_suspensions left))) rs waits t.0
      (λ id other. untouched t.0 (with_suspensions left) rs waits id other (ap (times task_number id) is ∙ elsewhere (ltb 0 left || idle) id other) refl)
      (record {
        good =
            let x = there_is (get tasks t.0) active in
            let now : get (change tasks t.0 (changed (with_suspensions left))) t.0 ≡ Some (with_suspensions left x.0) = this_task tasks t.0 (with_suspensions left) ∙ ap (changed (with_suspensions left)) x.1 in
            let act : x.0.active ≡ true = sym (ap is_active x.1) ∙ active in
            let g : Good true true (times task_number t.0 runnable) (times waiting_number t.0 waits) = rw (active, suspended) at (b t.0).good in
            rw (now, act, (ap (times task_number t.0) is ∙ here (ltb 0 left || idle))) (resumed_good _ _ (ltb 0 left) idle some none g);
      })
    where
      elsewhere : (c : Bool) (id : ℕ) → id ≢ t.0 → times task_number id (if c then runnable else runnable ++ t ∷ []) ≡ times task_number id runnable
      elsewhere true id other = refl
      elsewhere false id other = more_at_end t id other

      here : (c : Bool) → times task_number t.0 (if c then runnable else runnable ++ t ∷ []) ≡ times task_number t.0 runnable + one_if (not c)
      here true = omega arith
      here false = one_at_end t

  -- a task is the last in order
  pub goes_last_good : (f : TaskId → Bool) (o : Option (TaskId × List TaskId)) → take_first f runnable ≡ o → AreGood tasks (to_the_end runnable o) waits
  goes_last_good f None e id = b id
  goes_last_good f (Some z) e id = same_good tasks (z.1 ++ z.0 ∷ []) waits id refl refl (omega (arith, times-end task_number id z.1 z.0, times-found task_number id f runnable z e)) refl

  -- a call is the last in rank
  pub waits_last_good : (f : WaitingCall → Bool) (z : WaitingCall × List WaitingCall) (rank : ℕ) → take_first f waits ≡ Some z → AreGood tasks runnable (z.1 ++ record z.0 { rank = rank } ∷ [])
  waits_last_good f z rank e id =
      same_good tasks runnable (z.1 ++ record z.0 { rank = rank } ∷ []) id refl refl refl (omega (arith, times-end waiting_number id z.1 (record z.0 { rank = rank }), times-found waiting_number id f waits z e))
