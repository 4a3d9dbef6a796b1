use Rattle.std.proofs.Common.{arith}
use Rattle.laws_tcp.proofs.Reached.{leads_on, reached_kept}
use Rattle.laws_tcp.proofs.receiving.windows_are_never_taken_back.Goals as goal

pub returns-clause-moves : goal.returns-clause-moves
returns-clause-moves c from to reached leads = (leads_on from to leads (reached_kept from reached)).receives.edge

pub returns-clause-told : goal.returns-clause-told
returns-clause-told c from to reached leads =
    let kept = reached_kept from reached in
    omega (arith, kept.rcv.told, (leads_on from to leads kept).receives.edge)
