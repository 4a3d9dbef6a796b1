use Rattle.std.proofs.Common.{◌≤◌, ◌+◌, List, ℕ, ap, ap₂, drop, length, arith, length-drop}
use Rattle.win_ring.specs.Windows.{RecvWindow}
use Rattle.win_ring.proofs.Places.{kept_grown, ahead_grown}
use Rattle.win_ring.proofs.receive.RecvWin.grow.Goals as goal

pub returns : goal.returns
returns c =
    let w = c.self.inside in
    let n = c.args.n in
    let ahead : n ≤ length (drop w.kept w.ring) = rw (ap (λ r. length r.ahead) c.self.view_is) c.requires in
    let size : w.kept + n ≤ length w.ring = omega (arith, length-drop w.kept w.ring, c.self.invariant.within, c.self.invariant.whole) in
    let of : List ℕ → List ℕ → RecvWindow = λ unread ahead. record { size = w.size; key = w.key; taken = w.taken; unread = unread; ahead = ahead } in
    rw (← c.self.view_is) (ap₂ of (kept_grown w.kept n w.ring size) (ahead_grown w.kept n w.ring))
