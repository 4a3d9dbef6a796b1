-- Who may make a call that waits.
use Rattle.std.specs.Prelude.{◌≡◌, ◌<◌, length}
use Rattle.it_types.specs.declared.id.TaskId.{TaskId}
use Rattle.it_types.specs.declared.context.Ctx.{Ctx}
use Rattle.it_types.specs.declared.context.Ctx.TheVariants.{Task}
use Rattle.spec_kernel.specs.Parts.{PlainParts}
use Rattle.k_sync.specs.Waiting.{MayWait}

-- a task that waits nowhere, while there is room for its call
pub record MayCallAs (p : PlainParts) (t : TaskId) : Type 0 where
  pub sems : MayWait t p.sems.waiters
  pub flags : MayWait t p.flags.waiters
  pub dtqs : MayWait t p.dtqs.waiters
  pub room : length p.waits < 16

-- or a handler
pub record MayCall (p : PlainParts) (ctx : Ctx) : Type 0 where
  pub as_task : (t : TaskId) → ctx ≡ Task t → MayCallAs p t
