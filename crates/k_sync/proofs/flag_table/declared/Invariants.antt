use Rattle.std.proofs.Common.{◌≡◌, true, drop}
use Rattle.spec_lists.specs.Tables.{empty_table, filled}
use Rattle.spec_kernel.specs.Ids.{are_new_ids}
use Rattle.spec_kernel.specs.Ids.{greatest_id}
use Rattle.spec_kernel.specs.FlagBlocks.{flag_id, flag_declared}
use Rattle.k_sync.proofs.flag_table.declared.Given as goal

abbrev pub invariant-loop-decl : goal.invariant-loop-decl
invariant-loop-decl l = record {
  objects : filled flag_id flag_declared (drop l.decl-index l.decls) l.table ≡ filled flag_id flag_declared l.decls (empty_table greatest_id);
  new : are_new_ids flag_id flag_declared l.table (drop l.decl-index l.decls) ≡ true;
}
