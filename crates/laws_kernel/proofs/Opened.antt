-- How tasks and calls stand in the whole kernel at its opening.
use Rattle.std.proofs.Common.{◌≡◌, ◌≢◌, ℕ, ◌≤◌, Bool, true, false, not, List, [], ◌∷◌, ◌++◌, length, slice_set, Option, Some, None, refl, ap, sym, ◌∙◌, subst, inl, inr, arith}
use Rattle.std.proofs.lemmas.Bool.{cases_lt}
use Rattle.std.proofs.lemmas.List.{get_or-set_same, get_or-set_other, get_or-replicate, get_or_past, length-set, length-replicate}
use Rattle.it_types.specs.declared.id.TaskId.{TaskId}
use Rattle.it_types.specs.declared.conf.TaskDecl.{TaskDecl}
use Rattle.it_types.specs.declared.conf.KConf.{KConf}
use Rattle.spec_lists.specs.Tables.{get, empty_table}
use Rattle.spec_lists.specs.Counting.{times}
use Rattle.spec_lists.proofs.Counting.{one_if-same, one_if-other, times-end}
use Rattle.spec_kernel.specs.declared.task_block.TaskBlock.{TaskBlock}
use Rattle.spec_kernel.specs.Ids.{greatest_id}
use Rattle.spec_kernel.specs.Ids.{are_new_ids, task_id}
use Rattle.spec_kernel.specs.PlainTasks.{PlainTasks, joining_unless}
use Rattle.spec_kernel.specs.TaskOpening.{block_at_start, no_tasks, declared, all_declared}
use Rattle.spec_kernel.specs.TaskBlocks.{is_active, is_suspended}
use Rattle.spec_kernel.specs.Opening.{opened, IsDeclarable}
use Rattle.spec_kernel.specs.Standing.{task_number, IsStanding}
use Rattle.spec_kernel.proofs.Declared.{first_is_new}
use Rattle.laws_kernel.proofs.Balanced.{Good, AreGood, same_good, touched}
use Rattle.laws_kernel.proofs.Standing.{standing_from}

-- the tasks that are declared so far stand, and no call waits
record StandSoFar (d : PlainTasks) : Type 0 where
  places : length d.tasks ≡ 17
  nobody : get d.tasks 0 ≡ None
  good : AreGood d.tasks d.runnable []

tasks_declared : (d : PlainTasks) (c : TaskDecl) → (declared d c).tasks ≡ slice_set d.tasks c.id (Some (block_at_start c))
tasks_declared d c = of (not c.act)
  where
    of : (b : Bool) → (joining_unless b (record d { tasks = slice_set d.tasks c.id (Some (block_at_start c)) }) (record { 0 = c.id })).tasks ≡ slice_set d.tasks c.id (Some (block_at_start c))
    of true = refl
    of false = refl

module _ (d : PlainTasks) (s : StandSoFar d) (c : TaskDecl) (low : 1 ≤ c.id) (high : c.id ≤ greatest_id) (free : get d.tasks c.id ≡ None) where
  table : List (Option TaskBlock)
  table = slice_set d.tasks c.id (Some (block_at_start c))

  -- in these places and with this place for the new task
  declared_so : (rs : List TaskId)
      → ((id : ℕ) → id ≢ c.id → times task_number id rs ≡ times task_number id d.runnable)
      → Good c.act false (times task_number c.id rs) 0
      → StandSoFar (record d { tasks = table; runnable = rs })
  unfolding table
  declared_so rs others this = record {
    places = length-set d.tasks c.id (Some (block_at_start c)) ∙ s.places;
    nobody = get_or-set_other d.tasks c.id 0 (Some (block_at_start c)) None (λ e. omega (arith, low, e)) ∙ s.nobody;
    good = touched d.tasks d.runnable [] s.good table rs [] c.id
        (λ id other. let same = get_or-set_other d.tasks c.id id (Some (block_at_start c)) None other in same_good d.tasks d.runnable [] s.good table rs [] id (ap is_active same) (ap is_suspended same) (others id other) refl)
        (record { good = let now : get table c.id ≡ Some (block_at_start c) = get_or-set_same d.tasks c.id (Some (block_at_start c)) None (omega (arith, s.places, high)) in rw now this });
  }

  before : times task_number c.id d.runnable ≡ 0
  before = let g : Good false false (times task_number c.id d.runnable) 0 = rw free at (s.good c.id).good in g.0

  one_declared : StandSoFar (declared d c)
  unfolding table
  one_declared = of c.act refl
    where
      t : TaskId
      t = record { 0 = c.id }

      of : (b : Bool) → c.act ≡ b → StandSoFar (joining_unless (not b) (record d { tasks = table }) t)
      of true e = declared_so (d.runnable ++ t ∷ []) (λ id other. omega (arith, times-end task_number id d.runnable t, one_if-other c.id id (λ same. other (sym same))))
          (let one : times task_number c.id (d.runnable ++ t ∷ []) ≡ 1 = omega (arith, times-end task_number c.id d.runnable t, one_if-same c.id c.id refl, before) in rw (e, one) refl)
      of false e = declared_so d.runnable (λ id other. refl) (rw (e, before) (refl, refl))

all_stand : (cs : List TaskDecl) (d : PlainTasks) → are_new_ids task_id block_at_start d.tasks cs ≡ true → StandSoFar d → StandSoFar (all_declared cs d)
all_stand [] d new s = s
all_stand (c ∷ cs) d new s =
    let one = first_is_new task_id block_at_start d.tasks c cs new in
    all_stand cs (declared d c) (subst (λ ts. are_new_ids task_id block_at_start ts cs ≡ true) (sym (tasks_declared d c)) one.later) (one_declared d s c one.low one.high one.free)

none_stands : StandSoFar no_tasks
none_stands = record {
  places = length-replicate {A = Option TaskBlock} 17 None;
  nobody = refl;
  good = λ id. record { good = rw (nothing_there id) (refl, refl) };
}
  where
    nothing_there : (id : ℕ) → get {X = TaskBlock} (empty_table greatest_id) id ≡ None
    nothing_there id = elim (cases_lt id 17) [
      | inl lt ↦ get_or-replicate {A = Option TaskBlock} 17 id None None lt
      | inr le ↦ get_or_past (empty_table greatest_id) id None (simp length-replicate le)
    ]

-- at the opening
pub opened_stands : (conf : KConf) → IsDeclarable conf → IsStanding (opened conf)
opened_stands conf good =
    let s = all_stand conf.tasks.tasks no_tasks good.tasks.ids none_stands in
    standing_from (opened conf) s.places s.nobody s.good tt
