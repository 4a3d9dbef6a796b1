use Rattle.std.proofs.Common.{Some}
use Rattle.it_types.proofs.Kept.{kept}
use Rattle.it_types.proofs.table.Table.get_mut.Goals as goal

pub invariant_of-self-lent : goal.invariant_of-self-lent
invariant_of-self-lent g c = λ o. (λ w. kept _ _ c.args.id (Some w) c.self.invariant c.if-id-eq0.false, kept _ _ c.args.id _ c.self.invariant c.if-id-eq0.false)
