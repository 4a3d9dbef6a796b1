use Rattle.std.proofs.Common.{arith}
use Rattle.spec_kernel.specs.FlagBlocks.{flag_id, flag_declared}
use Rattle.k_sync.proofs.Declaring.{puts_one}
use Rattle.k_sync.proofs.flag_table.declared.Goals as goal

pub loop-decl-preserved : goal.loop-decl-preserved
loop-decl-preserved c =
    let one = puts_one flag_id flag_declared c.args.decls.now c.loop-decl.decl-index _ c.loop-decl.table c.put.new.self _ (omega arith) c.loop-decl.invariant.objects c.loop-decl.invariant.new c.put.ensures.table in
    record { objects = one.0; new = one.1 }
