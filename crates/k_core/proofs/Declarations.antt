-- What the test of the declarations of each kind comes to.
use Rattle.std.proofs.Common.{◌≡◌, ◌↔◌, ℕ, Bool, true, IsTrue, List, [], ◌∷◌, refl, sym, ◌∙◌}
use Rattle.std.specs.List.{list_all}
use Rattle.std.proofs.lemmas.Bool.{and_parts}
use Rattle.it_types.specs.declared.conf.TaskDecl.{TaskDecl}
use Rattle.it_types.specs.declared.conf.SemDecl.{SemDecl}
use Rattle.it_types.specs.declared.conf.FlgDecl.{FlgDecl}
use Rattle.it_types.specs.declared.conf.DtqDecl.{DtqDecl}
use Rattle.it_types.specs.declared.conf.CycDecl.{CycDecl}
use Rattle.spec_lists.specs.Tables.{empty_table}
use Rattle.spec_kernel.specs.Ids.{are_new_up_to, task_id}
use Rattle.spec_kernel.specs.TaskOpening.{AreDeclarable as AreTasks, block_at_start, keeps_priority}
use Rattle.spec_kernel.specs.PlainSemaphores.{AreDeclarable as AreSemaphores}
use Rattle.spec_kernel.specs.SemaphoreBlocks.{keeps_ranges, semaphore_declared, semaphore_id}
use Rattle.spec_kernel.specs.PlainFlags.{AreDeclarable as AreFlags}
use Rattle.spec_kernel.specs.FlagBlocks.{flag_declared, flag_id}
use Rattle.spec_kernel.specs.PlainQueues.{AreDeclarable as AreQueues}
use Rattle.spec_kernel.specs.DataQueues.{keeps_capacity, queue_declared, queue_id}
use Rattle.spec_kernel.specs.PlainClock.{AreDeclarable as AreCyclicHandlers, cyclic_at_start, cyclic_id, keeps_times}
use Rattle.k_core.specs.Declarations.{is_each_declarable}
use Rattle.k_core.proofs.NewIds.{new_of_any}

all_keep_nothing : {D : Type 0} (ds : List D) → list_all (λ d. true) ds ≡ true
all_keep_nothing [] = refl
all_keep_nothing (d ∷ ds) = all_keep_nothing ds

module _ {D X : Type 0} (greatest : ℕ) (id_of : D → ℕ) (made : D → X) (keeps : D → Bool) (ds : List D) where
  parts : is_each_declarable greatest id_of keeps ds ≡ true → (are_new_up_to greatest id_of made (empty_table greatest) ds ≡ true) × (list_all keeps ds ≡ true)
  parts good = let both = and_parts (are_new_up_to greatest id_of (λ d. d) (empty_table greatest) ds) (list_all keeps ds) good in (new_of_any greatest id_of made ds ∙ both.0, both.1)

  whole : are_new_up_to greatest id_of made (empty_table greatest) ds ≡ true → list_all keeps ds ≡ true → is_each_declarable greatest id_of keeps ds ≡ true
  whole new kept = rw (sym (new_of_any greatest id_of made ds), new, kept) refl

pub tasks_good : (ds : List TaskDecl) → IsTrue (is_each_declarable 16 task_id keeps_priority ds) ↔ AreTasks ds
tasks_good ds = (
  λ good. let both = parts 16 task_id block_at_start keeps_priority ds good in record { ids = both.0; ranges = both.1 },
  λ are. whole 16 task_id block_at_start keeps_priority ds are.ids are.ranges,
)

pub semaphores_good : (ds : List SemDecl) → IsTrue (is_each_declarable 16 semaphore_id keeps_ranges ds) ↔ AreSemaphores ds
semaphores_good ds = (
  λ good. let both = parts 16 semaphore_id semaphore_declared keeps_ranges ds good in record { ids = both.0; ranges = both.1 },
  λ are. whole 16 semaphore_id semaphore_declared keeps_ranges ds are.ids are.ranges,
)

pub flags_good : (ds : List FlgDecl) → IsTrue (is_each_declarable 16 flag_id (λ d. true) ds) ↔ AreFlags ds
flags_good ds = (
  λ good. record { ids = (parts 16 flag_id flag_declared (λ d. true) ds good).0 },
  λ are. whole 16 flag_id flag_declared (λ d. true) ds are.ids (all_keep_nothing ds),
)

pub queues_good : (ds : List DtqDecl) → IsTrue (is_each_declarable 16 queue_id keeps_capacity ds) ↔ AreQueues ds
queues_good ds = (
  λ good. let both = parts 16 queue_id queue_declared keeps_capacity ds good in record { ids = both.0; ranges = both.1 },
  λ are. whole 16 queue_id queue_declared keeps_capacity ds are.ids are.ranges,
)

pub cyclic_handlers_good : (ds : List CycDecl) → IsTrue (is_each_declarable 8 cyclic_id keeps_times ds) ↔ AreCyclicHandlers ds
cyclic_handlers_good ds = (
  λ good. let both = parts 8 cyclic_id cyclic_at_start keeps_times ds good in record { ids = both.0; ranges = both.1 },
  λ are. whole 8 cyclic_id cyclic_at_start keeps_times ds are.ids are.ranges,
)
