use Rattle.std.proofs.Common.{not, eqb, arith}
use Rattle.std.proofs.lemmas.Grind.{common_steps}
use Rattle.it_types.specs.declared.id.TaskId.{TaskId}
use Rattle.arrayvec.proofs.ArrayVecLemmas.{filter-from_retain}
use Rattle.k_task.proofs.order.take_out.Goals as goal

pub returns : goal.returns
returns c =
    filter-from_retain _ (λ (other : TaskId). not (eqb other.0 c.args.task.0)) _ (λ x b q y r. grind (arith, common_steps)) _ _ c.retain.ensures.filtered
