use Rattle.std.proofs.Common.{◌≤◌, ◌+◌, ◌-◌, ◌∙◌, List, ℕ, ap, ap₂, take, drop, length, arith}
use Rattle.win_ring.specs.Windows.{RecvWindow}
use Rattle.win_ring.proofs.Places.{kept_turned, ahead_turned}
use Rattle.win_ring.proofs.receive.RecvWin.take.Goals as goal

pub returns-clause-window : goal.returns-clause-window
returns-clause-window c =
    let w = c.self.inside in
    let m = c.min-count.result in
    let small : m ≤ w.kept = omega (arith, c.min-count.ensures) in
    let within : w.kept ≤ length w.ring = omega (arith, c.self.invariant.within, c.self.invariant.whole) in
    let of : List ℕ → List ℕ → RecvWindow = λ unread ahead. record { size = w.size; key = w.key; taken = w.taken + m; unread = unread; ahead = ahead } in
    rw (← c.self.view_is) (ap₂ of
    (ap (take (w.kept - m)) c.turn.ensures ∙ kept_turned w.kept m w.ring small within)
    (ap (drop (w.kept - m)) c.turn.ensures ∙ ahead_turned w.kept m w.ring small within))
