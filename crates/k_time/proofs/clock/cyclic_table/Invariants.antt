use Rattle.std.proofs.Common.{◌≡◌, true, drop}
use Rattle.spec_lists.specs.Tables.{empty_table, filled}
use Rattle.spec_kernel.specs.PlainClock.{are_new_cyclics, cyclic_at_start, cyclic_id, greatest_cyclic}
use Rattle.k_time.proofs.clock.cyclic_table.Given as goal

abbrev pub invariant-loop-decl : goal.invariant-loop-decl
invariant-loop-decl l = record {
  objects : filled cyclic_id cyclic_at_start (drop l.decl-index l.decls) l.table ≡ filled cyclic_id cyclic_at_start l.decls (empty_table greatest_cyclic);
  new : are_new_cyclics l.table (drop l.decl-index l.decls) ≡ true;
}
