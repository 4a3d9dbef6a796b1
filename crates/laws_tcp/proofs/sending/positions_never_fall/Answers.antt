use Rattle.laws_tcp.proofs.Reached.{leads_on, reached_kept}
use Rattle.laws_tcp.proofs.sending.positions_never_fall.Goals as goal

pub returns-clause-falls : goal.returns-clause-falls
returns-clause-falls c from to reached leads =
    let goes = leads_on from to leads (reached_kept from reached) in
    record { rcv_nxt = goes.receives.nxt; snd_una = goes.sends.una; snd_nxt = goes.sends.nxt }

pub returns-clause-order : goal.returns-clause-order
returns-clause-order c at reached = (reached_kept at reached).snd.order
