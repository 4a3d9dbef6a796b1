use Rattle.itron.proofs.Answered.{complete, complete_to_limit, refused, no_script}
use Rattle.itron.proofs.top.top.Goals as goal

pub returns-clause-complete : goal.returns-clause-complete
returns-clause-complete g c = λ bytes s words known le is no_fault no_write.
    complete c.run.result _ _ _ _ bytes s _ _ known le is no_fault no_write c.run.ensures.usage c.run.ensures.script c.run.ensures.read_fault c.run.ensures.write_fault c.run.ensures.too_big c.run.ensures.too_long

pub returns-clause-complete_to_limit : goal.returns-clause-complete_to_limit
returns-clause-complete_to_limit g c = λ bytes s words known le is no_fault no_write.
    complete_to_limit c.run.result _ _ _ _ bytes s _ _ known le is no_fault no_write c.run.ensures.usage c.run.ensures.script c.run.ensures.read_fault c.run.ensures.write_fault c.run.ensures.too_big c.run.ensures.ok

pub returns-clause-refused : goal.returns-clause-refused
returns-clause-refused g c = λ bytes l w words known le wrong.
    refused c.run.result _ _ bytes l w known le wrong c.run.ensures.usage (λ e. (c.run.ensures.ok e).ran.input) (λ e. (c.run.ensures.too_long e).ran.input) c.run.ensures.was_script c.run.ensures.script c.run.ensures.too_big

pub returns-clause-no_script : goal.returns-clause-no_script
returns-clause-no_script g c = λ bytes words known le none.
    no_script c.run.result _ _ bytes known le none c.run.ensures.usage (λ e. (c.run.ensures.ok e).ran.input) (λ e. (c.run.ensures.too_long e).ran.input) c.run.ensures.was_script c.run.ensures.script c.run.ensures.too_big
