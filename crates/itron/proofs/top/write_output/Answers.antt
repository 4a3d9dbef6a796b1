use Rattle.std.proofs.Common.{Err, ℕ, List, ap, subst}
use Rattle.itron.specs.Top.{WrotePart}
use Rattle.itron.proofs.Answered.{part_of}
use Rattle.itron.proofs.top.write_output.Goals as goal

pub returns-in-Err-Fault-clause-part : goal.returns-in-Err-Fault-clause-part
returns-in-Err-Fault-clause-part g c = λ e.
    subst (λ (t : List ℕ). WrotePart (g.K.Sink.written c.args.out.now) (g.K.Sink.written c.write_all.new.sink) t) c.deref.ensures.value
    (part_of c.in-Err-Fault.field-0 _ _ _ (λ n h. c.in-Err-Fault.ensures.part n (ap Err h)) (λ n h. c.in-Err-Fault.ensures.first n (ap Err h)))
