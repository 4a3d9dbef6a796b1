use Rattle.std.proofs.Common.{◌≡◌, ◌≤◌, ◌∙◌, length, arith}
use Rattle.win_ring.proofs.Turning.{turned_on, turned_back, length-turned}
use Rattle.win_ring.proofs.ring.Ring.turn.Goals as goal
use Rattle.win_ring.proofs.ring.Ring.turn.Goals.{then-n-to_end, else-n-to_end}

pub returns : goal.returns
returns c =
    let h = c.self.inside.head in
    let m = c.self.inside.memory.items in
    let inv : h ≤ length m = c.self.invariant in
    let len : c.len.result ≡ length m = c.len.ensures ∙ c.self.inside.memory.ok.0 in
    let size : length c.args.self.now ≡ length m = rw (← c.self.view_is) (length-turned h m inv) in
    rw (← c.self.view_is) (
    elim c.if-n-to_end.branch [
      | then-n-to_end w ↦ rw w.self-is (turned_on h m inv c.args.n (omega arith))
      | else-n-to_end w ↦ rw (w.self-is, len) (turned_back h m inv c.args.n (omega arith) (omega arith))
    ]
    )
