use Rattle.std.proofs.Common.{◌≡◌, ◌≤◌, ◌+◌, ◌-◌, ◌++◌, ◌∙◌, ap, ap₂, min, take, drop, length, arith, length-take-le, length-drop, length-append}
use Rattle.std.proofs.lemmas.List.{take_rest}
use Rattle.win_ring.proofs.Turning.{in_two, read_around, read_back}
use Rattle.win_ring.proofs.ring.get_around.Goals as goal

pub returns-then-at-to_end : goal.returns-then-at-to_end
returns-then-at-to_end c =
    let from = c.args.head + c.args.at in
    let m = c.args.memory.now in
    let out = c.args.out.now in
    let n = c.min-first.result in
    let count : n ≡ min (length out) (length m - c.args.head - c.args.at) = c.min-first.ensures in
    let small : n ≤ length out = omega arith in
    let front = c.get_at.new.out in
    let so_far = front ++ drop n out in
    let first : front ≡ take n (drop from m) = c.get_at.ensures ∙ ap (λ k. take k (drop from m)) (length-take-le n out small) in
    let front_len : length front ≡ n = ap length first ∙ length-take-le n (drop from m) (omega (arith, length-drop from m)) in
    let rest_len : length (take (length so_far - n) (drop n so_far)) ≡ length out - n =
    ap length (take_rest so_far n) ∙ omega (arith, length-drop n so_far, length-append front (drop n out), length-drop n out)
    in
    let second : c.get_at-then-at-to_end.new.out ≡ take (length out - n) m = c.get_at-then-at-to_end.ensures ∙ ap (λ k. take k m) rest_len in
    in_two n front c.get_at-then-at-to_end.new.out out front_len small
    ∙ ap₂ ◌++◌ first second
    ∙ read_around c.args.head m c.requires.head c.args.at (length out) n (omega arith) c.requires.within count

pub returns-else-at-to_end : goal.returns-else-at-to_end
returns-else-at-to_end c =
    c.get_at-else-at-to_end.ensures
    ∙ read_back c.args.head c.args.memory.now c.requires.head c.args.at (length c.args.out.now) c.if-at-to_end.false c.requires.within
