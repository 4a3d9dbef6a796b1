use Rattle.std.proofs.Common.{◌≤◌, ◌+◌, ◌-◌, ◌∙◌, List, ℕ, ap, ap₂, take, length, arith, length-take-le}
use Rattle.win_ring.specs.Windows.{SendWindow}
use Rattle.win_ring.proofs.Places.{kept_turned}
use Rattle.win_ring.proofs.send.SendWin.acked.Goals as goal

pub returns : goal.returns
returns c =
    let w = c.self.inside in
    let n = c.args.n in
    let within : w.kept ≤ length w.ring = omega (arith, c.self.invariant.within, c.self.invariant.whole) in
    let asked : n ≤ length (take w.kept w.ring) = rw (ap (λ s. length s.bytes) c.self.view_is) c.requires.kept in
    let small : n ≤ w.kept = omega (arith, length-take-le w.kept w.ring within) in
    let of : ℕ → List ℕ → SendWindow = λ acked bytes. record { size = w.size; key = w.key; acked = acked; bytes = bytes } in
    rw (← c.self.view_is) (ap₂ of
    (ap (λ k. w.acked + k) c.from.ensures)
    (ap (take (w.kept - n)) c.turn.ensures ∙ kept_turned w.kept n w.ring small within))
