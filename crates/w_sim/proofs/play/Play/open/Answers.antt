use Rattle.std.proofs.Common.{sym, subst}
use Rattle.it_types.specs.declared.node_conf.Conf.{Conf}
use Rattle.it_types.specs.Configuration.{kernel_conf, first_conf, second_conf}
use Rattle.spec_kernel.specs.Opening.{IsDeclarable}
use Rattle.spec_sim.proofs.Declarable.{first_declarable, second_declarable}
use Rattle.w_sim.proofs.play.Play.open.Goals as goal

pub open-requires-clause-first : goal.open-requires-clause-first
open-requires-clause-first c = subst (λ (x : Conf). IsDeclarable (kernel_conf (first_conf x))) (sym c.in_ok-conf.ensures) (first_declarable c.args.script.now c.requires)

pub open-requires-clause-second : goal.open-requires-clause-second
open-requires-clause-second c = subst (λ (x : Conf). IsDeclarable (kernel_conf (second_conf x))) (sym c.in_ok-conf.ensures) (second_declarable c.args.script.now c.requires)
