use Rattle.std.proofs.Common.{◌∙◌, ap, drop, arith}
use Rattle.std.proofs.lemmas.List.{take_rest}
use Rattle.win_ring.specs.Rings.{turned, written}
use Rattle.win_ring.proofs.Turning.{written_around, written_back}
use Rattle.win_ring.proofs.ring.put_around.Goals as goal

pub returns-then-at-to_end-clause-bytes : goal.returns-then-at-to_end-clause-bytes
returns-then-at-to_end-clause-bytes c =
    let h = c.args.head in
    let m = c.args.memory.now in
    let load = c.args.load.now in
    let n = c.min-first.result in
    ap (turned h) (c.put_at-then-at-to_end.ensures ∙ ap (λ l. written 0 l c.put_at.new.memory) (take_rest load n) ∙ ap (written 0 (drop n load)) c.put_at.ensures)
    ∙ written_around h m c.requires.head c.args.at load n (omega arith) c.requires.within c.min-first.ensures

pub returns-else-at-to_end-clause-bytes : goal.returns-else-at-to_end-clause-bytes
returns-else-at-to_end-clause-bytes c =
    ap (turned c.args.head) c.put_at-else-at-to_end.ensures
    ∙ written_back c.args.head c.args.memory.now c.requires.head c.args.at c.args.load.now c.if-at-to_end.false c.requires.within
