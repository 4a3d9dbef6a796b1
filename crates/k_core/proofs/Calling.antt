-- A task that calls waits nowhere.
use Rattle.std.proofs.Common.{◌≡◌, false, not, ◌&&◌, refl}
use Rattle.it_types.specs.declared.context.Ctx.{Ctx}
use Rattle.it_types.specs.declared.context.Ctx.TheVariants.{Task, Handler}
use Rattle.it_types.specs.Callers.{caller, is_handler}
use Rattle.spec_kernel.specs.Parts.{PlainParts}
use Rattle.k_core.specs.Callers.{MayCall, MayCallAs}

pub as_caller : {p : PlainParts} (ctx : Ctx) → MayCall p ctx → is_handler ctx ≡ false → MayCallAs p (caller ctx)
as_caller (Task t) may task = may.as_task t refl
as_caller Handler may task = cc

-- a call that no handler may make is a task's
pub no_handler : (ctx : Ctx) → (is_handler ctx && not false) ≡ false → is_handler ctx ≡ false
no_handler (Task t) e = refl
no_handler Handler e = cc
