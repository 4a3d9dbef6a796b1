use Rattle.std.proofs.Common.{◌≡◌, ◌≤◌, ◌+◌, ◌-◌, ◌∙◌, List, ℕ, ap, ap₂, sym, min, take, drop, length, arith, length-drop, length-take-le}
use Rattle.win_ring.specs.Windows.{RecvWindow}
use Rattle.win_ring.proofs.Places.{kept_written, ahead_written, put_over-past}
use Rattle.win_ring.proofs.receive.RecvWin.arrive.Goals as goal

pub returns-then-offset-ahead : goal.returns-then-offset-ahead
returns-then-offset-ahead c =
    let w = c.self.inside in
    let n = c.args.offset in
    let load = c.args.load.now in
    let count = c.min-count.result in
    let whole = c.self.invariant.whole in
    let there : w.kept + n ≤ length w.ring = omega (arith, c.if-offset-ahead.true, c.self.invariant.within, whole) in
    let count_is : count ≡ min (length load) (length w.ring - w.kept - n) = omega (arith, c.min-count.ensures, whole) in
    let fits : w.kept + n + length (take count load) ≤ length w.ring = omega (arith, length-take-le count load (omega arith)) in
    let of : List ℕ → List ℕ → RecvWindow = λ unread ahead. record { size = w.size; key = w.key; taken = w.taken; unread = unread; ahead = ahead } in
    rw (← c.self.view_is) (ap₂ of
    (ap (take w.kept) c.write.ensures ∙ kept_written w.kept (w.kept + n) (take count load) w.ring (omega arith) fits)
    (ap (drop w.kept) c.write.ensures ∙ ahead_written w.kept n count load w.ring there count_is))

pub returns-else-offset-ahead : goal.returns-else-offset-ahead
returns-else-offset-ahead c =
    let w = c.self.inside in
    let n = c.args.offset in
    let past : length (drop w.kept w.ring) ≤ n = omega (arith, length-drop w.kept w.ring, c.if-offset-ahead.false, c.self.invariant.within, c.self.invariant.whole) in
    let of : List ℕ → RecvWindow = λ ahead. record { size = w.size; key = w.key; taken = w.taken; unread = take w.kept w.ring; ahead = ahead } in
    rw (← c.self.view_is) (ap of (sym (put_over-past n c.args.load.now (drop w.kept w.ring) past)))
