-- Each change of the tasks keeps how they stand.
use Rattle.std.proofs.Common.{◌≡◌, ◌≢◌, ℕ, ◌<◌, ◌≤◌, Bool, true, false, not, ◌&&◌, ◌||◌, leb, ltb, List, [], ◌∷◌, ◌++◌, length, set, slice_set, Option, Some, None, is_some, is_none, refl, sym, ap, ◌∙◌, subst, inl, inr, arith}
use Rattle.std.proofs.lemmas.Bool.{cases_Bool, cases_eq, cases_lt, leb-false, lt-ltb, ne_eqb, le-ltb}
use Rattle.std.proofs.lemmas.List.{get_or-set_same, get_or-set_other, get_or_past, length-set, set-get_or}
use Rattle.it_types.specs.declared.id.TaskId.{TaskId}
use Rattle.it_types.specs.Table.{put_into}
use Rattle.spec_lists.specs.Tables.{get, change}
use Rattle.spec_lists.specs.First.{take_first}
use Rattle.spec_lists.specs.Counting.{one_if, times}
use Rattle.spec_lists.proofs.Changes.{get_within, get-change_same, get-change_other, length-change}
use Rattle.spec_lists.proofs.Counting.{one_if-at_most, one_if-same, one_if-other, times-end, times-found, times-without_same, times-without_other, room}
use Rattle.spec_kernel.specs.declared.task_block.TaskBlock.{TaskBlock}
use Rattle.spec_kernel.specs.declared.task_wait.TaskWait.{TaskWait}
use Rattle.spec_kernel.specs.TaskBlocks.{changed, is_active, is_suspended, one_more, begun, dormant, with_priority, with_suspensions, one_activation_more, one_activation_less, without_activations, one_wakeup_more, one_wakeup_less, without_wakeups, one_suspension_more}
use Rattle.spec_kernel.specs.PlainTasks.{PlainTasks, to_the_end, without}
use Rattle.k_task.specs.Kept.{number, is_runnable, StandsAt, Kept}

-- ---- counts

one_more-at_most : (n : ℕ) → n ≤ 255 → one_more n ≤ 255
one_more-at_most n le = elim (cases_Bool (leb 255 n)) [
  | inl t ↦ rw t le
  | inr t ↦ rw t (let lt = leb-false 255 n t in omega (arith, lt))
]

some_more : (n : ℕ) → 1 ≤ one_more n
some_more n = elim (cases_Bool (leb 255 n)) [
  | inl t ↦ rw t (elim (cases_lt n 255) [
    | inl lt ↦ absurd (let f = lt in let g = leb_true n t in omega (arith, lt, g))
    | inr le ↦ omega (arith, le)
  ])
  | inr t ↦ rw t (omega arith)
]
  where
    leb_true : (n : ℕ) → leb 255 n ≡ true → 255 ≤ n
    leb_true n t = grind (arith, t)

-- a change that leaves a task's state alone
pub record IsHarmless (f : TaskBlock → TaskBlock) : Type 0 where
  pub active : (x : TaskBlock) → (f x).active ≡ x.active
  pub suspensions : (x : TaskBlock) → (f x).suspensions ≡ x.suspensions
  pub activations : (x : TaskBlock) → x.activations ≤ 255 → (f x).activations ≤ 255
  pub wakeups : (x : TaskBlock) → x.wakeups ≤ 255 → (f x).wakeups ≤ 255

pub activation_more : IsHarmless one_activation_more
activation_more = record { active = λ x. refl; suspensions = λ x. refl; activations = λ x le. one_more-at_most x.activations le; wakeups = λ x le. le }

pub activation_less : IsHarmless one_activation_less
activation_less = record { active = λ x. refl; suspensions = λ x. refl; activations = λ x le. omega (arith, le); wakeups = λ x le. le }

pub no_activations : IsHarmless without_activations
no_activations = record { active = λ x. refl; suspensions = λ x. refl; activations = λ x le. omega arith; wakeups = λ x le. le }

pub wakeup_more : IsHarmless one_wakeup_more
wakeup_more = record { active = λ x. refl; suspensions = λ x. refl; activations = λ x le. le; wakeups = λ x le. one_more-at_most x.wakeups le }

pub wakeup_less : IsHarmless one_wakeup_less
wakeup_less = record { active = λ x. refl; suspensions = λ x. refl; activations = λ x le. le; wakeups = λ x le. omega (arith, le) }

pub no_wakeups : IsHarmless without_wakeups
no_wakeups = record { active = λ x. refl; suspensions = λ x. refl; activations = λ x le. le; wakeups = λ x le. omega arith }

pub any_priority : (p : ℕ) → IsHarmless (with_priority p)
any_priority p = record { active = λ x. refl; suspensions = λ x. refl; activations = λ x le. le; wakeups = λ x le. le }

-- ---- tables

-- what stands under an id after a change of it
changed_at : (tasks : List (Option TaskBlock)) (i : ℕ) (f : TaskBlock → TaskBlock) → get (change tasks i (changed f)) i ≡ changed f (get tasks i)
changed_at tasks i f = of (get tasks i) refl
  where
    of : (o : Option TaskBlock) → get tasks i ≡ o → get (change tasks i (changed f)) i ≡ changed f o
    of None e = ap (λ (ts : List (Option TaskBlock)). get ts i) (ap (λ o. set tasks i o) (ap (changed f) e ∙ sym e) ∙ set-get_or tasks i None) ∙ e
    of (Some x) e = get-change_same tasks i (changed f) x e

emptied_at : (waits : List (Option TaskWait)) (i : ℕ) → get (slice_set waits i None) i ≡ None
emptied_at waits i = elim (cases_lt i (length waits)) [
  | inl h ↦ get_or-set_same waits i None None h
  | inr h ↦ get_or_past (slice_set waits i None) i None (omega (arith, h, length-set waits i None))
]

pub known : (o : Option TaskBlock) → is_none o ≡ false → (x : TaskBlock) × (o ≡ Some x)
known None e = cc
known (Some x) e = (x, refl)

pub active_there : (o : Option TaskBlock) → is_active o ≡ true → (x : TaskBlock) × (o ≡ Some x)
active_there None e = cc
active_there (Some x) e = (x, refl)

false_or_true : (b : Bool) → (b ≡ false → ⊥) → b ≡ true
false_or_true true h = refl
false_or_true false h = absurd (h refl)

put_there : (waits : List (Option TaskWait)) (i : ℕ) (what : TaskWait) → 1 ≤ i → i ≤ 16 → is_some (get waits i) ≡ false → put_into 16 waits i what ≡ slice_set waits i (Some what)
put_there waits i what low high idle = rw (ne_eqb i 0 (λ e. omega (arith, low, e)), le-ltb 16 i high, idle) refl

put_new : (tasks : List (Option TaskBlock)) (i : ℕ) (x : TaskBlock) → 1 ≤ i → i ≤ 16 → get tasks i ≡ None → put_into 16 tasks i x ≡ slice_set tasks i (Some x)
put_new tasks i x low high new = rw (ne_eqb i 0 (λ e. omega (arith, low, e)), le-ltb 16 i high, new) refl

module _ {d : PlainTasks} (kept : Kept d) where
  stands : (id : ℕ) → StandsAt d id
  stands id = kept.standing.each id

  -- a task that is there has an id from 1 to 16
  pub within : (id : ℕ) (x : TaskBlock) → get d.tasks id ≡ Some x → (1 ≤ id) × (id ≤ 16)
  within id x e = (
    elim (cases_eq id 0) [
      | inl nil ↦ absurd (let f : None ≡ Some x = sym kept.nobody ∙ ap (get d.tasks) (sym nil) ∙ e in cc)
      | inr some ↦ omega (arith, some)
    ],
    omega (arith, get_within d.tasks id x e, kept.places),
  )

  pub inactive_off : (id : ℕ) → is_active (get d.tasks id) ≡ false → is_runnable d id ≡ false
  inactive_off id e = rw e refl

  listed_once : (id : ℕ) → times number id d.runnable ≤ 1
  listed_once id = rw (stands id).listed (one_if-at_most _)

  listed_active : (id : ℕ) → 1 ≤ times number id d.runnable → is_active (get d.tasks id) ≡ true
  listed_active id le = elim (cases_Bool (is_active (get d.tasks id))) [
    | inl t ↦ t
    | inr t ↦ absurd (let none : times number id d.runnable ≡ 0 = (stands id).listed ∙ ap one_if (inactive_off id t) in omega (arith, le, none))
  ]

  listed_within : (id : ℕ) → 1 ≤ times number id d.runnable → (1 ≤ id) × (id ≤ 16)
  listed_within id le = let x = active_there (get d.tasks id) (listed_active id le) in within id x.0 x.1

  -- there is room for a task that is there and not runnable
  pub room_for : (id : ℕ) (x : TaskBlock) → get d.tasks id ≡ Some x → is_runnable d id ≡ false → length d.runnable < 16
  room_for id x e off =
      let w = within id x e in
      omega (arith, room number d.runnable 16 id listed_once listed_within ((stands id).listed ∙ ap one_if off) w.0 w.1)

  -- a task that waits is active, and not runnable
  pub waiting_active : (id : ℕ) → is_some (get d.waits id) ≡ true → is_active (get d.tasks id) ≡ true
  waiting_active id w = false_or_true (is_active (get d.tasks id)) (λ e. let f : true ≡ false = sym w ∙ (stands id).dormant e in cc)

  pub waiting_off : (id : ℕ) → is_some (get d.waits id) ≡ true → is_runnable d id ≡ false
  waiting_off id w = rw w (off (is_active (get d.tasks id)) (is_suspended (get d.tasks id)))
    where
      off : (a s : Bool) → (a && (not s && not true)) ≡ false
      off true true = refl
      off true false = refl
      off false s = refl

  pub suspended_off : (id : ℕ) → is_suspended (get d.tasks id) ≡ true → is_runnable d id ≡ false
  suspended_off id e = rw e (off (is_active (get d.tasks id)))
    where
      off : (a : Bool) → (a && false) ≡ false
      off true = refl
      off false = refl

  -- one task is touched, and how it stands then is known
  kept_touched : (after : PlainTasks) (t : ℕ)
      → length after.tasks ≡ length d.tasks
      → length after.waits ≡ length d.waits
      → get after.tasks 0 ≡ None
      → ((id : ℕ) → id ≢ t → get after.tasks id ≡ get d.tasks id)
      → ((id : ℕ) → id ≢ t → get after.waits id ≡ get d.waits id)
      → ((id : ℕ) → id ≢ t → times number id after.runnable ≡ times number id d.runnable)
      → StandsAt after t
      → Kept after
  kept_touched after t p w n ts ws r s = record {
    places = p ∙ kept.places;
    wait_places = w ∙ kept.wait_places;
    nobody = n;
    standing = record {
      each = λ id. elim (cases_eq id t) [
        | inl same ↦ subst (StandsAt after) (sym same) s
        | inr other ↦ (let old = stands id in record {
          listed = rw (ts id other, ws id other, r id other) old.listed;
          dormant = rw (ts id other, ws id other) old.dormant;
          activations = rw (ts id other) old.activations;
          wakeups = rw (ts id other) old.wakeups;
          suspensions = rw (ts id other) old.suspensions;
        })
      ];
    };
  }

  nobody_changed : (t : ℕ) (f : TaskBlock → TaskBlock) → get (change d.tasks t (changed f)) 0 ≡ None
  nobody_changed t f = elim (cases_eq 0 t) [
    | inl same ↦ ap (get (change d.tasks t (changed f))) same ∙ changed_at d.tasks t f ∙ ap (changed f) (ap (get d.tasks) (sym same) ∙ kept.nobody)
    | inr other ↦ get-change_other d.tasks t 0 (changed f) other ∙ kept.nobody
  ]

  -- ---- counts and priorities

  pub kept_counts : {tasks : List (Option TaskBlock)} (t : TaskId) (f : TaskBlock → TaskBlock) → IsHarmless f → tasks ≡ change d.tasks t.0 (changed f) → Kept (record d { tasks = tasks })
  kept_counts t f harmless e = rw e (kept_touched (record d { tasks = change d.tasks t.0 (changed f) }) t.0
      (length-change d.tasks t.0 (changed f)) refl (nobody_changed t.0 f) (λ id other. get-change_other d.tasks t.0 id (changed f) other) (λ id other. refl) (λ id other. refl) (at (get d.tasks t.0) refl))
    where
      at : (o : Option TaskBlock) → get d.tasks t.0 ≡ o → StandsAt (record d { tasks = change d.tasks t.0 (changed f) }) t.0
      at None is = (let old = stands t.0 in let now : get (change d.tasks t.0 (changed f)) t.0 ≡ None = changed_at d.tasks t.0 f ∙ ap (changed f) is in record {
        listed = rw now (old.listed ∙ rw is refl);
        dormant = rw now (rw is at old.dormant);
        activations = rw now (omega arith);
        wakeups = rw now (omega arith);
        suspensions = rw now (omega arith);
      })
      at (Some x) is = (let old = stands t.0 in let now : get (change d.tasks t.0 (changed f)) t.0 ≡ Some (f x) = changed_at d.tasks t.0 f ∙ ap (changed f) is in record {
        listed = rw (now, harmless.active x, harmless.suspensions x) (old.listed ∙ rw is refl);
        dormant = rw (now, harmless.active x) (rw is at old.dormant);
        activations = rw now (harmless.activations x (rw is at old.activations));
        wakeups = rw now (harmless.wakeups x (rw is at old.wakeups));
        suspensions = rw (now, harmless.suspensions x) (rw is at old.suspensions);
      })

  -- ---- order

  pub kept_order : {runnable : List TaskId} (f : TaskId → Bool) → runnable ≡ to_the_end d.runnable (take_first f d.runnable) → Kept (record d { runnable = runnable })
  kept_order f e = rw e (record {
    places = kept.places;
    wait_places = kept.wait_places;
    nobody = kept.nobody;
    standing = record {
      each = λ id. (let old = stands id in record {
        listed = same (take_first f d.runnable) refl id ∙ old.listed;
        dormant = old.dormant;
        activations = old.activations;
        wakeups = old.wakeups;
        suspensions = old.suspensions;
      });
    };
  })
    where
      same : (o : Option (TaskId × List TaskId)) → take_first f d.runnable ≡ o → (id : ℕ) → times number id (to_the_end d.runnable o) ≡ times number id d.runnable
      same None is id = refl
      same (Some z) is id = omega (arith, times-end number id z.1 z.0, times-found number id f d.runnable z is)

  -- ---- states

  more_at_end : (t : TaskId) (id : ℕ) → id ≢ t.0 → times number id (d.runnable ++ t ∷ []) ≡ times number id d.runnable
  more_at_end t id other = omega (arith, times-end number id d.runnable t, one_if-other t.0 id (λ e. other (sym e)))

  one_at_end : (t : TaskId) → is_runnable d t.0 ≡ false → times number t.0 (d.runnable ++ t ∷ []) ≡ 1
  one_at_end t off = omega (arith, times-end number t.0 d.runnable t, one_if-same t.0 t.0 refl, (stands t.0).listed ∙ ap one_if off)

  -- a dormant task begins
  pub kept_begun : {tasks : List (Option TaskBlock)} {runnable : List TaskId} (t : TaskId) (x : TaskBlock)
      → get d.tasks t.0 ≡ Some x
      → is_active (get d.tasks t.0) ≡ false
      → tasks ≡ change d.tasks t.0 (changed begun)
      → runnable ≡ d.runnable ++ t ∷ []
      → Kept (record d { tasks = tasks; runnable = runnable })
  kept_begun t x is inactive e r = rw (e, r) (kept_touched (record d { tasks = change d.tasks t.0 (changed begun); runnable = d.runnable ++ t ∷ [] }) t.0
      (length-change d.tasks t.0 (changed begun)) refl (nobody_changed t.0 begun) (λ id other. get-change_other d.tasks t.0 id (changed begun) other) (λ id other. refl) (more_at_end t)
      (let old = stands t.0 in let now : get (change d.tasks t.0 (changed begun)) t.0 ≡ Some (begun x) = changed_at d.tasks t.0 begun ∙ ap (changed begun) is in record {
        listed = rw (now, old.dormant inactive) (one_at_end t (inactive_off t.0 inactive));
        dormant = rw now (λ f. cc);
        activations = rw now (rw is at old.activations);
        wakeups = rw now (omega arith);
        suspensions = rw now (omega arith);
      }))

  -- a task is dormant, and waits no longer
  pub kept_laid_down : {tasks : List (Option TaskBlock)} {waits : List (Option TaskWait)} {runnable : List TaskId} (t : TaskId)
      → tasks ≡ change d.tasks t.0 (changed dormant)
      → waits ≡ slice_set d.waits t.0 None
      → runnable ≡ without t d.runnable
      → Kept (record d { tasks = tasks; waits = waits; runnable = runnable })
  kept_laid_down t e w r = rw (e, w, r) (kept_touched (record d { tasks = change d.tasks t.0 (changed dormant); waits = slice_set d.waits t.0 None; runnable = without t d.runnable }) t.0
      (length-change d.tasks t.0 (changed dormant)) (length-set d.waits t.0 None) (nobody_changed t.0 dormant) (λ id other. get-change_other d.tasks t.0 id (changed dormant) other)
      (λ id other. get_or-set_other d.waits t.0 id None None other) (λ id other. times-without_other number t.0 id d.runnable other) (at (get d.tasks t.0) refl))
    where
      at : (o : Option TaskBlock) → get d.tasks t.0 ≡ o → StandsAt (record d { tasks = change d.tasks t.0 (changed dormant); waits = slice_set d.waits t.0 None; runnable = without t d.runnable }) t.0
      at None is = (let now : get (change d.tasks t.0 (changed dormant)) t.0 ≡ None = changed_at d.tasks t.0 dormant ∙ ap (changed dormant) is in record {
        listed = rw now (times-without_same number t.0 d.runnable);
        dormant = rw (emptied_at d.waits t.0) (λ f. refl);
        activations = rw now (omega arith);
        wakeups = rw now (omega arith);
        suspensions = rw now (omega arith);
      })
      at (Some x) is = (let old = stands t.0 in let now : get (change d.tasks t.0 (changed dormant)) t.0 ≡ Some (dormant x) = changed_at d.tasks t.0 dormant ∙ ap (changed dormant) is in record {
        listed = rw now (times-without_same number t.0 d.runnable);
        dormant = rw (emptied_at d.waits t.0) (λ f. refl);
        activations = rw now (rw is at old.activations);
        wakeups = rw now (rw is at old.wakeups);
        suspensions = rw now (rw is at old.suspensions);
      })

  -- an active task that doesn't wait begins to
  pub kept_waiting : {waits : List (Option TaskWait)} {runnable : List TaskId} (t : TaskId) (what : TaskWait)
      → is_active (get d.tasks t.0) ≡ true
      → is_some (get d.waits t.0) ≡ false
      → waits ≡ put_into 16 d.waits t.0 what
      → runnable ≡ without t d.runnable
      → Kept (record d { waits = waits; runnable = runnable })
  kept_waiting t what active idle w r =
      let x = active_there (get d.tasks t.0) active in
      let ids = within t.0 x.0 x.1 in
      let is_set : put_into 16 d.waits t.0 what ≡ slice_set d.waits t.0 (Some what) = put_there d.waits t.0 what ids.0 ids.1 idle in
      rw (w, is_set, r) (kept_touched (record d { waits = slice_set d.waits t.0 (Some what); runnable = without t d.runnable }) t.0
      refl (length-set d.waits t.0 (Some what)) kept.nobody (λ id other. refl) (λ id other. get_or-set_other d.waits t.0 id (Some what) None other) (λ id other. times-without_other number t.0 id d.runnable other)
      (let old = stands t.0 in let now : get (slice_set d.waits t.0 (Some what)) t.0 ≡ Some what = get_or-set_same d.waits t.0 (Some what) None (omega (arith, kept.wait_places, ids.1)) in record {
        listed = rw (now, active) (times-without_same number t.0 d.runnable ∙ sym (ap one_if (nothing (is_suspended (get d.tasks t.0)))));
        dormant = λ f. (let g : true ≡ false = sym active ∙ f in cc);
        activations = old.activations;
        wakeups = old.wakeups;
        suspensions = old.suspensions;
      }))
    where
      nothing : (s : Bool) → (not s && false) ≡ false
      nothing true = refl
      nothing false = refl

  -- the wait of a task is over that isn't suspended: it is the last in order
  pub kept_released : {waits : List (Option TaskWait)} {runnable : List TaskId} (t : TaskId)
      → is_some (get d.waits t.0) ≡ true
      → is_suspended (get d.tasks t.0) ≡ false
      → waits ≡ slice_set d.waits t.0 None
      → runnable ≡ d.runnable ++ t ∷ []
      → Kept (record d { waits = waits; runnable = runnable })
  kept_released t waits_now free w r = rw (w, r) (kept_touched (record d { waits = slice_set d.waits t.0 None; runnable = d.runnable ++ t ∷ [] }) t.0
      refl (length-set d.waits t.0 None) kept.nobody (λ id other. refl) (λ id other. get_or-set_other d.waits t.0 id None None other) (more_at_end t)
      (let old = stands t.0 in record {
        listed = rw (waiting_active t.0 waits_now, free, emptied_at d.waits t.0) (one_at_end t (waiting_off t.0 waits_now));
        dormant = rw (emptied_at d.waits t.0) (λ f. refl);
        activations = old.activations;
        wakeups = old.wakeups;
        suspensions = old.suspensions;
      }))

  -- ---- suspension

  -- a task is suspended once more
  pub kept_suspended : {tasks : List (Option TaskBlock)} {runnable : List TaskId} (t : TaskId)
      → tasks ≡ change d.tasks t.0 (changed one_suspension_more)
      → runnable ≡ without t d.runnable
      → Kept (record d { tasks = tasks; runnable = runnable })
  kept_suspended t e r = rw (e, r) (kept_touched (record d { tasks = change d.tasks t.0 (changed one_suspension_more); runnable = without t d.runnable }) t.0
      (length-change d.tasks t.0 (changed one_suspension_more)) refl (nobody_changed t.0 one_suspension_more) (λ id other. get-change_other d.tasks t.0 id (changed one_suspension_more) other)
      (λ id other. refl) (λ id other. times-without_other number t.0 id d.runnable other) (at (get d.tasks t.0) refl))
    where
      at : (o : Option TaskBlock) → get d.tasks t.0 ≡ o → StandsAt (record d { tasks = change d.tasks t.0 (changed one_suspension_more); runnable = without t d.runnable }) t.0
      at None is = (let old = stands t.0 in let now : get (change d.tasks t.0 (changed one_suspension_more)) t.0 ≡ None = changed_at d.tasks t.0 one_suspension_more ∙ ap (changed one_suspension_more) is in record {
        listed = rw now (times-without_same number t.0 d.runnable);
        dormant = rw now (rw is at old.dormant);
        activations = rw now (omega arith);
        wakeups = rw now (omega arith);
        suspensions = rw now (omega arith);
      })
      at (Some x) is = (let old = stands t.0 in let now : get (change d.tasks t.0 (changed one_suspension_more)) t.0 ≡ Some (one_suspension_more x) = changed_at d.tasks t.0 one_suspension_more ∙ ap (changed one_suspension_more) is in record {
        listed = rw (now, lt-ltb 0 (one_more x.suspensions) (some_more x.suspensions)) (times-without_same number t.0 d.runnable ∙ sym (ap one_if (nothing x.active)));
        dormant = rw now (rw is at old.dormant);
        activations = rw now (rw is at old.activations);
        wakeups = rw now (rw is at old.wakeups);
        suspensions = rw now (one_more-at_most x.suspensions (rw is at old.suspensions));
      })
        where
          nothing : (a : Bool) → (a && false) ≡ false
          nothing true = refl
          nothing false = refl

  -- so many suspensions are left of a suspended task: it stays out of the order
  pub kept_still : {tasks : List (Option TaskBlock)} (t : TaskId) (left : ℕ)
      → is_suspended (get d.tasks t.0) ≡ true
      → left ≤ 255
      → (ltb 0 left || is_some (get d.waits t.0)) ≡ true
      → tasks ≡ change d.tasks t.0 (changed (with_suspensions left))
      → Kept (record d { tasks = tasks })
  kept_still t left suspended few stays e = rw e (kept_touched (record d { tasks = change d.tasks t.0 (changed (with_suspensions left)) }) t.0
      (length-change d.tasks t.0 (changed (with_suspensions left))) refl (nobody_changed t.0 (with_suspensions left)) (λ id other. get-change_other d.tasks t.0 id (changed (with_suspensions left)) other)
      (λ id other. refl) (λ id other. refl) (at (get d.tasks t.0) refl))
    where
      nothing : (a s w : Bool) → (s || w) ≡ true → (a && (not s && not w)) ≡ false
      nothing false s w h = refl
      nothing true true w h = refl
      nothing true false true h = refl
      nothing true false false h = absurd cc

      at : (o : Option TaskBlock) → get d.tasks t.0 ≡ o → StandsAt (record d { tasks = change d.tasks t.0 (changed (with_suspensions left)) }) t.0
      at None is = absurd (let f : false ≡ true = rw is at suspended in cc)
      at (Some x) is = (let old = stands t.0 in let now : get (change d.tasks t.0 (changed (with_suspensions left))) t.0 ≡ Some (with_suspensions left x) = changed_at d.tasks t.0 (with_suspensions left) ∙ ap (changed (with_suspensions left)) is in record {
        listed = rw now (old.listed ∙ ap one_if (suspended_off t.0 suspended) ∙ sym (ap one_if (nothing x.active (ltb 0 left) (is_some (get d.waits t.0)) stays)));
        dormant = rw now (rw is at old.dormant);
        activations = rw now (rw is at old.activations);
        wakeups = rw now (rw is at old.wakeups);
        suspensions = rw now few;
      })

  -- none is left, and it doesn't wait: it is the last in order
  pub kept_resumed : {tasks : List (Option TaskBlock)} {runnable : List TaskId} (t : TaskId) (left : ℕ)
      → is_active (get d.tasks t.0) ≡ true
      → is_suspended (get d.tasks t.0) ≡ true
      → left ≤ 255
      → (ltb 0 left || is_some (get d.waits t.0)) ≡ false
      → tasks ≡ change d.tasks t.0 (changed (with_suspensions left))
      → runnable ≡ d.runnable ++ t ∷ []
      → Kept (record d { tasks = tasks; runnable = runnable })
  kept_resumed t left active suspended few goes e r =
      let x = active_there (get d.tasks t.0) active in
      let old = stands t.0 in
      let now : get (change d.tasks t.0 (changed (with_suspensions left))) t.0 ≡ Some (with_suspensions left x.0) = changed_at d.tasks t.0 (with_suspensions left) ∙ ap (changed (with_suspensions left)) x.1 in
      let parts = neither (ltb 0 left) (is_some (get d.waits t.0)) goes in
      rw (e, r) (kept_touched (record d { tasks = change d.tasks t.0 (changed (with_suspensions left)); runnable = d.runnable ++ t ∷ [] }) t.0
      (length-change d.tasks t.0 (changed (with_suspensions left))) refl (nobody_changed t.0 (with_suspensions left)) (λ id other. get-change_other d.tasks t.0 id (changed (with_suspensions left)) other)
      (λ id other. refl) (more_at_end t) (record {
        listed = rw (now, (rw x.1 at active), parts.0, parts.1) (one_at_end t (suspended_off t.0 suspended));
        dormant = rw now (rw x.1 at old.dormant);
        activations = rw now (rw x.1 at old.activations);
        wakeups = rw now (rw x.1 at old.wakeups);
        suspensions = rw now few;
      }))
    where
      neither : (a b : Bool) → (a || b) ≡ false → (a ≡ false) × (b ≡ false)
      neither false false h = (refl, refl)
      neither true b h = absurd cc
      neither false true h = absurd cc

  -- ---- declarations

  -- an id that isn't declared stands for no task that is runnable or waits
  pub new_off : (id : ℕ) → get d.tasks id ≡ None → is_runnable d id ≡ false
  new_off id e = inactive_off id (ap is_active e)

  -- there is room for a task that is new
  pub room_for_new : (id : ℕ) → 1 ≤ id → id ≤ 16 → get d.tasks id ≡ None → length d.runnable < 16
  room_for_new id low high e = omega (arith, room number d.runnable 16 id listed_once listed_within ((stands id).listed ∙ ap one_if (new_off id e)) low high)

  -- one task more, active or not
  kept_declared : {tasks : List (Option TaskBlock)} {runnable : List TaskId} (t : TaskId) (x : TaskBlock)
      → 1 ≤ t.0
      → t.0 ≤ 16
      → get d.tasks t.0 ≡ None
      → x.activations ≤ 255
      → x.wakeups ≤ 255
      → x.suspensions ≡ 0
      → tasks ≡ slice_set d.tasks t.0 (Some x)
      → ((id : ℕ) → id ≢ t.0 → times number id runnable ≡ times number id d.runnable)
      → times number t.0 runnable ≡ one_if x.active
      → Kept (record d { tasks = tasks; runnable = runnable })
  kept_declared {runnable} t x low high new a w none e others this = rw e (kept_touched (record d { tasks = slice_set d.tasks t.0 (Some x); runnable = runnable }) t.0
      (length-set d.tasks t.0 (Some x)) refl (get_or-set_other d.tasks t.0 0 (Some x) None (λ is. omega (arith, low, is)) ∙ kept.nobody)
      (λ id other. get_or-set_other d.tasks t.0 id (Some x) None other) (λ id other. refl) others
      (let idle = (stands t.0).dormant (ap is_active new) in let now : get (slice_set d.tasks t.0 (Some x)) t.0 ≡ Some x = get_or-set_same d.tasks t.0 (Some x) None (omega (arith, kept.places, high)) in record {
        listed = rw (now, none, idle) (this ∙ ap one_if (sym (and-true x.active)));
        dormant = λ f. idle;
        activations = rw now a;
        wakeups = rw now w;
        suspensions = rw (now, none) (omega arith);
      }))
    where
      and-true : (b : Bool) → (b && true) ≡ b
      and-true true = refl
      and-true false = refl

  pub kept_declared_active : {tasks : List (Option TaskBlock)} {runnable : List TaskId} (t : TaskId) (x : TaskBlock)
      → 1 ≤ t.0
      → t.0 ≤ 16
      → get d.tasks t.0 ≡ None
      → x.active ≡ true
      → x.activations ≤ 255
      → x.wakeups ≤ 255
      → x.suspensions ≡ 0
      → tasks ≡ put_into 16 d.tasks t.0 x
      → runnable ≡ d.runnable ++ t ∷ []
      → Kept (record d { tasks = tasks; runnable = runnable })
  kept_declared_active t x low high new active a w none e r =
      rw r (kept_declared t x low high new a w none (e ∙ put_new d.tasks t.0 x low high new) (more_at_end t) (one_at_end t (new_off t.0 new) ∙ sym (ap one_if active)))
