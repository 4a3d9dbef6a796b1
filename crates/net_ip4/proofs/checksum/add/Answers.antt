use Rattle.std.proofs.Common.{◌∙◌, ap, arith}
use Rattle.spec_wire.specs.Sum.{folded}
use Rattle.spec_wire.proofs.SumLaws.{end_around-two}
use Rattle.net_ip4.proofs.checksum.add.Goals as goal

pub returns : goal.returns
returns c = c.fold.ensures ∙ ap folded (omega arith) ∙ end_around-two c.args.a c.args.b (omega arith) (omega arith)
