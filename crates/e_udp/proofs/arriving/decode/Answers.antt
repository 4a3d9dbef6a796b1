use Rattle.std.proofs.Common.{arith}
use Rattle.std.proofs.lemmas.Result.{IfOk-weaker}
use Rattle.net_udp.specs.Shown as user
use Rattle.e_udp.proofs.FromWire.{read_size}
use Rattle.e_udp.proofs.arriving.decode.Goals as goal

pub returns-clause-size : goal.returns-clause-size
returns-clause-size c = IfOk-weaker c.decode.result _ _ (λ u reads. read_size c.args.src c.args.dst c.args.bytes.now (user.shown u) (λ i. omega (arith, c.type_inv.bytes i)) reads) c.decode.ensures.read

pub returns-clause-refused : goal.returns-clause-refused
returns-clause-refused c = λ why e. (c.decode.ensures.refused why).0 e
