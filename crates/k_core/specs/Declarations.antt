-- The declarations of one kind.
use Rattle.std.specs.Prelude.{ℕ, Bool, ◌&&◌, List}
use Rattle.std.specs.List.{list_all}
use Rattle.spec_lists.specs.Tables.{empty_table}
use Rattle.spec_kernel.specs.Ids.{are_new_up_to}

-- each has an id from 1 to the greatest that none before it has, and keeps its ranges
abbrev pub is_each_declarable : {D : Type 0} → ℕ → (D → ℕ) → (D → Bool) → List D → Bool
is_each_declarable greatest id_of keeps ds = are_new_up_to greatest id_of (λ d. d) (empty_table greatest) ds && list_all keeps ds
