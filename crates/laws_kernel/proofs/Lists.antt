-- Lists of calls that wait: what a task's own call is, how often a task's calls stand there, and the order of their ranks. And tables
-- of tasks after a change of one.
use Rattle.std.proofs.Common.{◌≡◌, ◌≢◌, ℕ, zero, suc, ◌+◌, ◌<◌, ◌≤◌, Bool, true, false, List, [], ◌∷◌, ◌++◌, set, Option, Some, None, is_some, refl, ap, sym, ◌∙◌, inl, inr, arith}
use Rattle.std.specs.Prelude.{◌==◌}
use Rattle.std.specs.List.{list_any}
use Rattle.std.proofs.lemmas.Bool.{cases_Bool, cases_eq, eqb-true}
use Rattle.std.proofs.lemmas.List.{get_or_past, set-get_or}
use Rattle.spec_lists.specs.Tables.{get, change}
use Rattle.spec_lists.specs.First.{put_back, take_first}
use Rattle.spec_lists.specs.Counting.{times}
use Rattle.spec_lists.proofs.Firsts.{some_parts, none_parts}
use Rattle.spec_lists.proofs.Changes.{get-change_same, get-change_other}
use Rattle.spec_lists.proofs.Counting.{one_if-same, one_if-other, times-found}
use Rattle.spec_kernel.specs.declared.task_block.TaskBlock.{TaskBlock}
use Rattle.spec_kernel.specs.declared.reason.WaitingCall.{WaitingCall}
use Rattle.spec_kernel.specs.TaskBlocks.{changed}
use Rattle.spec_kernel.specs.PlainKernel.{is_of, task_wait_of, waits_at, waits_by_task}
use Rattle.spec_kernel.specs.Rows.{the_others}
use Rattle.spec_kernel.specs.Standing.{waiting_number, AllAbove, AreRisingTo}

-- what is found passes
pub found_passes : {X : Type 0} (f : X → Bool) (xs : List X) (z : X × List X) → take_first f xs ≡ Some z → f z.0 ≡ true
found_passes f [] z e = cc
found_passes f (x ∷ xs) z e = elim (some_parts f x xs z e) [
  | inl s ↦ rw s.1 s.0
  | inr s ↦ rw s.3 (found_passes f xs s.0 s.2)
]

-- ---- the calls of one task

pub waiting_some : (id : ℕ) (ws : List WaitingCall) → list_any (is_of id) ws ≡ true → 1 ≤ times waiting_number id ws
waiting_some id [] e = absurd cc
waiting_some id (w ∷ ws) e = elim (cases_Bool (w.task.0 == id)) [
  | inl t ↦ rw t (omega arith)
  | inr t ↦ omega (arith, waiting_some id ws (rw t at e))
]

pub waiting_none : (id : ℕ) (ws : List WaitingCall) → list_any (is_of id) ws ≡ false → times waiting_number id ws ≡ 0
waiting_none id [] e = refl
waiting_none id (w ∷ ws) e = elim (cases_Bool (w.task.0 == id)) [
  | inl t ↦ absurd (let f : true ≡ false = rw t at e in cc)
  | inr t ↦ rw t (omega (arith, waiting_none id ws (rw t at e)))
]

none_of : (id : ℕ) (ws : List WaitingCall) → take_first (is_of id) ws ≡ None → times waiting_number id ws ≡ 0
none_of id [] e = refl
none_of id (w ∷ ws) e = let q = none_parts (is_of id) w ws e in rw q.0 (omega (arith, none_of id ws q.1))

-- a task that waits with one call at most waits no longer without it
pub left_same : (id : ℕ) (ws : List WaitingCall) (o : Option (WaitingCall × List WaitingCall)) → take_first (is_of id) ws ≡ o → times waiting_number id ws ≤ 1 → times waiting_number id (the_others ws o) ≡ 0
left_same id ws None e once = none_of id ws e
left_same id ws (Some z) e once =
    omega (arith, times-found waiting_number id (is_of id) ws z e, one_if-same z.0.task.0 id (eqb-true z.0.task.0 id (found_passes (is_of id) ws z e)), once)

-- and the calls of the others stay
pub left_other : (m n : ℕ) (ws : List WaitingCall) (o : Option (WaitingCall × List WaitingCall)) → take_first (is_of m) ws ≡ o → n ≢ m → times waiting_number n (the_others ws o) ≡ times waiting_number n ws
left_other m n ws None e ne = refl
left_other m n ws (Some z) e ne =
    let its : z.0.task.0 ≡ m = eqb-true z.0.task.0 m (found_passes (is_of m) ws z e) in
    omega (arith, times-found waiting_number n (is_of m) ws z e, one_if-other z.0.task.0 n (λ same. ne (sym same ∙ its)))

-- ---- what the tasks see of them

there_is_one : (id : ℕ) (ws : List WaitingCall) → is_some (waits_at ws id) ≡ list_any (is_of id) ws
there_is_one id ws = told (take_first (is_of id) ws) ∙ any_found ws
  where
    told : (o : Option (WaitingCall × List WaitingCall)) → is_some (task_wait_of o) ≡ is_some o
    told None = refl
    told (Some z) = refl

    behind : (w : WaitingCall) (o : Option (WaitingCall × List WaitingCall)) → is_some (put_back w o) ≡ is_some o
    behind w None = refl
    behind w (Some z) = refl

    any_found : (ws : List WaitingCall) → is_some (take_first (is_of id) ws) ≡ list_any (is_of id) ws
    any_found [] = refl
    any_found (w ∷ ws) = elim (cases_Bool (w.task.0 == id)) [
      | inl t ↦ rw t refl
      | inr t ↦ rw t (behind w (take_first (is_of id) ws) ∙ any_found ws)
    ]

in_places : (ws : List WaitingCall) (id : ℕ) → id < 17 → get (waits_by_task ws) id ≡ waits_at ws id
in_places ws zero lt = refl
in_places ws (suc zero) lt = refl
in_places ws (suc (suc zero)) lt = refl
in_places ws (suc (suc (suc zero))) lt = refl
in_places ws (suc (suc (suc (suc zero)))) lt = refl
in_places ws (suc (suc (suc (suc (suc zero))))) lt = refl
in_places ws (suc (suc (suc (suc (suc (suc zero)))))) lt = refl
in_places ws (suc (suc (suc (suc (suc (suc (suc zero))))))) lt = refl
in_places ws (suc (suc (suc (suc (suc (suc (suc (suc zero)))))))) lt = refl
in_places ws (suc (suc (suc (suc (suc (suc (suc (suc (suc zero))))))))) lt = refl
in_places ws (suc (suc (suc (suc (suc (suc (suc (suc (suc (suc zero)))))))))) lt = refl
in_places ws (suc (suc (suc (suc (suc (suc (suc (suc (suc (suc (suc zero))))))))))) lt = refl
in_places ws (suc (suc (suc (suc (suc (suc (suc (suc (suc (suc (suc (suc zero)))))))))))) lt = refl
in_places ws (suc (suc (suc (suc (suc (suc (suc (suc (suc (suc (suc (suc (suc zero))))))))))))) lt = refl
in_places ws (suc (suc (suc (suc (suc (suc (suc (suc (suc (suc (suc (suc (suc (suc zero)))))))))))))) lt = refl
in_places ws (suc (suc (suc (suc (suc (suc (suc (suc (suc (suc (suc (suc (suc (suc (suc zero))))))))))))))) lt = refl
in_places ws (suc (suc (suc (suc (suc (suc (suc (suc (suc (suc (suc (suc (suc (suc (suc (suc zero)))))))))))))))) lt = refl
in_places ws (suc (suc (suc (suc (suc (suc (suc (suc (suc (suc (suc (suc (suc (suc (suc (suc (suc n))))))))))))))))) lt = absurd (omega (arith, lt))

-- a task of the table waits exactly where one of its calls does
pub task_waits : (ws : List WaitingCall) (id : ℕ) → id < 17 → is_some (get (waits_by_task ws) id) ≡ list_any (is_of id) ws
task_waits ws id lt = ap is_some (in_places ws id lt) ∙ there_is_one id ws

-- and there is no other task
pub no_task_waits : (ws : List WaitingCall) (id : ℕ) → 17 ≤ id → is_some (get (waits_by_task ws) id) ≡ false
no_task_waits ws id le = ap is_some (get_or_past (waits_by_task ws) id None le)

-- ---- ranks

above_end : (rank : ℕ) (ws : List WaitingCall) (w : WaitingCall) → AllAbove rank ws → rank < w.rank → AllAbove rank (ws ++ w ∷ [])
above_end rank [] w above more = (more, tt)
above_end rank (v ∷ ws) w above more = (above.0, above_end rank ws w above.1 more)

-- one more call, with the next rank
pub rising_end : (next : ℕ) (ws : List WaitingCall) (w : WaitingCall) → w.rank ≡ next → AreRisingTo next ws → AreRisingTo (next + 1) (ws ++ w ∷ [])
rising_end next [] w e rising = (omega (arith, e), (tt, tt))
rising_end next (v ∷ ws) w e rising = (omega (arith, rising.0), (above_end v.rank ws w rising.1.0 (omega (arith, e, rising.0)), rising_end next ws w e rising.1.1))

above_found : (rank : ℕ) (f : WaitingCall → Bool) (ws : List WaitingCall) (z : WaitingCall × List WaitingCall) → take_first f ws ≡ Some z → AllAbove rank ws → AllAbove rank z.1
above_found rank f [] z e above = cc
above_found rank f (w ∷ ws) z e above = elim (some_parts f w ws z e) [
  | inl s ↦ rw s.1 above.1
  | inr s ↦ rw s.3 (above.0, above_found rank f ws s.0 s.2 above.1)
]

-- one call fewer
pub rising_found : (next : ℕ) (f : WaitingCall → Bool) (ws : List WaitingCall) (z : WaitingCall × List WaitingCall) → take_first f ws ≡ Some z → AreRisingTo next ws → AreRisingTo next z.1
rising_found next f [] z e rising = cc
rising_found next f (w ∷ ws) z e rising = elim (some_parts f w ws z e) [
  | inl s ↦ rw s.1 rising.1.1
  | inr s ↦ rw s.3 (rising.0, (above_found w.rank f ws s.0 s.2 rising.1.0, rising_found next f ws s.0 s.2 rising.1.1))
]

pub rising_others : (next : ℕ) (f : WaitingCall → Bool) (ws : List WaitingCall) (o : Option (WaitingCall × List WaitingCall)) → take_first f ws ≡ o → AreRisingTo next ws → AreRisingTo next (the_others ws o)
rising_others next f ws None e rising = rising
rising_others next f ws (Some z) e rising = rising_found next f ws z e rising

-- ---- tables of tasks

pub other_task : (tasks : List (Option TaskBlock)) (i id : ℕ) (f : TaskBlock → TaskBlock) → id ≢ i → get (change tasks i (changed f)) id ≡ get tasks id
other_task tasks i id f ne = get-change_other tasks i id (changed f) ne

-- what stands under an id after a change of it
pub this_task : (tasks : List (Option TaskBlock)) (i : ℕ) (f : TaskBlock → TaskBlock) → get (change tasks i (changed f)) i ≡ changed f (get tasks i)
this_task tasks i f = of (get tasks i) refl
  where
    of : (o : Option TaskBlock) → get tasks i ≡ o → get (change tasks i (changed f)) i ≡ changed f o
    of None e = ap (λ (ts : List (Option TaskBlock)). get ts i) (ap (λ o. set tasks i o) (ap (changed f) e ∙ sym e) ∙ set-get_or tasks i None) ∙ e
    of (Some x) e = get-change_same tasks i (changed f) x e

-- place 0 stays empty
pub nobody_changed : (tasks : List (Option TaskBlock)) (i : ℕ) (f : TaskBlock → TaskBlock) → get tasks 0 ≡ None → get (change tasks i (changed f)) 0 ≡ None
nobody_changed tasks i f none = elim (cases_eq 0 i) [
  | inl same ↦ ap (get (change tasks i (changed f))) same ∙ this_task tasks i f ∙ ap (changed f) (ap (get tasks) (sym same) ∙ none)
  | inr other ↦ other_task tasks i 0 f other ∙ none
]
