-- The ids of declared objects (µITRON4.0 section 2.1: from 1 on, each once in its kind).
use Rattle.std.specs.Prelude.{ℕ, Bool, true, ◌&&◌, List, [], ◌∷◌, Option, Some, is_none, nat_le, slice_set}
use Rattle.it_types.specs.declared.conf.TaskDecl.{TaskDecl}
use Rattle.spec_lists.specs.Tables.{get}

-- the greatest id of a task, a semaphore, an event flag and a data queue
abbrev pub greatest_id : ℕ
greatest_id = 16

abbrev pub task_id : TaskDecl → ℕ
task_id d = d.id

-- each id is from 1 to the greatest of its kind and was not declared before
abbrev pub are_new_up_to : {D X : Type 0} → ℕ → (D → ℕ) → (D → X) → List (Option X) → List D → Bool
are_new_up_to greatest id_of made objects [] = true
are_new_up_to greatest id_of made objects (d ∷ ds) =
    nat_le 1 (id_of d) && (nat_le (id_of d) greatest && (is_none (get objects (id_of d)) && are_new_up_to greatest id_of made (slice_set objects (id_of d) (Some (made d))) ds))

abbrev pub are_new_ids : {D X : Type 0} → (D → ℕ) → (D → X) → List (Option X) → List D → Bool
are_new_ids id_of made objects ds = are_new_up_to greatest_id id_of made objects ds
