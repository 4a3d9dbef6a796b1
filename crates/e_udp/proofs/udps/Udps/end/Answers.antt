use Rattle.std.proofs.lemmas.Result.{IfOk-weaker}
use Rattle.e_udp.proofs.Doing.{ending_does, ending_leaves}
use Rattle.e_udp.proofs.udps.Udps.end.Goals as goal

pub returns-clause-does : goal.returns-clause-does
returns-clause-does c = IfOk-weaker c.ending.result _ _ (λ o shows. ending_does c.args.self.now c.args.pend.now c.ending.new.pend c.args.no c.args.code c.requires.rest shows) c.ending.ensures

pub returns-clause-rest : goal.returns-clause-rest
returns-clause-rest c = IfOk-weaker c.ending.result _ _ (λ o shows. ending_leaves c.args.self.now c.args.pend.now c.ending.new.pend c.args.no c.args.code c.requires.rest shows) c.ending.ensures
