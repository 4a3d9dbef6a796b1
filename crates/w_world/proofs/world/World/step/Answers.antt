use Rattle.std.proofs.Common.{◌≡◌, Some, sym, ap, ◌∙◌}
use Rattle.spec_world.specs.declared.refusal.WErr.TheVariants.{NoMemory}
use Rattle.w_world.proofs.Refusing.{memory_refuses_not}
use Rattle.w_world.proofs.world.World.step.Goals as goal

pub returns-in-Some-clause-no_memory : goal.returns-in-Some-clause-no_memory
returns-in-Some-clause-no_memory c =
    λ e. let same : c.in-Some.refusal ≡ NoMemory = cc in absurd (memory_refuses_not c.args.self.now c.args.ev (sym c.in-Some.ensures ∙ ap Some same))
