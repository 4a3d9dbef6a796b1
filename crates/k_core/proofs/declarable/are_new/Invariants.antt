use Rattle.std.proofs.Common.{◌≡◌}
use Rattle.spec_lists.specs.Tables.{empty_table}
use Rattle.spec_kernel.specs.Ids.{are_new_up_to}
use Rattle.k_core.proofs.NewIds.{are_new_behind}
use Rattle.k_core.proofs.declarable.are_new.Given as goal

abbrev pub invariant-loop-i : goal.invariant-loop-i
invariant-loop-i g l = are_new_behind l.greatest g.D.Declaration.id_of (λ d. d) l.i l.decls ≡ are_new_up_to l.greatest g.D.Declaration.id_of (λ d. d) (empty_table l.greatest) l.decls
