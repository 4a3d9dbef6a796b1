use Rattle.std.proofs.Common.{◌≡◌, true, drop}
use Rattle.spec_lists.specs.Tables.{empty_table, filled}
use Rattle.spec_kernel.specs.Ids.{greatest_id}
use Rattle.spec_kernel.specs.Ids.{are_new_ids}
use Rattle.spec_kernel.specs.DataQueues.{queue_declared, queue_id}
use Rattle.k_sync.proofs.queues.queue_table.Given as goal

abbrev pub invariant-loop-decl : goal.invariant-loop-decl
invariant-loop-decl l = record {
  objects : filled queue_id queue_declared (drop l.decl-index l.decls) l.table ≡ filled queue_id queue_declared l.decls (empty_table greatest_id);
  new : are_new_ids queue_id queue_declared l.table (drop l.decl-index l.decls) ≡ true;
}
