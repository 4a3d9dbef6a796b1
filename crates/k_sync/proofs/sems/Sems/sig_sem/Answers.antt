use Rattle.k_sync.proofs.SemaphoreLaws.{signal_fits, ranges_raised}
use Rattle.k_sync.proofs.sems.Sems.sig_sem.Goals as goal

pub raise-requires : goal.raise-requires
raise-requires c = (signal_fits c.args.self.now c.self.inside.semaphores c.self.inside.waiters.items c.args.sem _ c.self.view_is c.self.invariant.ranges c.requires.settled c.signal_refusal.ensures c.in_default.is).count

pub invariant_of-self : goal.invariant_of-self
invariant_of-self c =
    let fits = signal_fits c.args.self.now c.self.inside.semaphores c.self.inside.waiters.items c.args.sem _ c.self.view_is c.self.invariant.ranges c.requires.settled c.signal_refusal.ensures c.in_default.is in
    record { ranges = rw c.raise.ensures (ranges_raised c.self.inside.semaphores c.args.sem c.self.invariant.ranges fits); apart = c.self.invariant.apart }
