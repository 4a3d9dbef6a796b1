use Rattle.std.proofs.Common.{◌%◌, ◌/◌, ◌+◌, ◌≤◌, ◌∙◌, sym, arith}
use Rattle.spec_wire.proofs.SumLaws.{folded_small, folded_step}
use Rattle.net_ip4.proofs.checksum.fold.Goals as goal

pub returns : goal.returns
returns c =
    let t = c.args.total in
    let once = t % 65536 + t / 65536 in
    let twice = once % 65536 + once / 65536 in
    let word : twice ≤ 65535 = omega arith in
    sym (folded_small twice word) ∙ folded_step once ∙ folded_step t
