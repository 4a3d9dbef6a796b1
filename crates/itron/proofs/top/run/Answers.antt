use Rattle.std.proofs.Common.{◌≡◌, List, ℕ, Err, sym, ap, subst, ◌∙◌}
use Rattle.spec_script.specs.Text.{IsReadAs}
use Rattle.itron.proofs.Ran.{ran, full_without_stop}
use Rattle.s_script.specs.Reading.{read_text}
use Rattle.itron.specs.declared.status.Status.TheVariants as statuses
use Rattle.itron.proofs.Answered.{answer_is, read_not_refused}
use Rattle.itron.proofs.top.run.Goals as goal

pub returns-in-Ok-clause-ok : goal.returns-in-Ok-clause-ok
returns-in-Ok-clause-ok g c = λ e.
    let done = c.answer.ensures.ok e in record {
      ran = ran _ _ _ _ c.in-Ok.input.items done.0 c.in-Ok.ensures.ok (subst (λ (t : List ℕ). IsReadAs t done.0) c.deref.ensures.value done.1) done.2;
      stops = done.3;
    }

pub returns-in-Ok-clause-too_long : goal.returns-in-Ok-clause-too_long
returns-in-Ok-clause-too_long g c = λ e.
    let done = c.answer.ensures.too_long e in record {
      ran = ran _ _ _ _ c.in-Ok.input.items done.0 c.in-Ok.ensures.ok (subst (λ (t : List ℕ). IsReadAs t done.0) c.deref.ensures.value done.1) done.2;
      full = full_without_stop done.0 done.3;
      goes_on = done.3;
    }

pub returns-in-Ok-clause-script : goal.returns-in-Ok-clause-script
returns-in-Ok-clause-script g c = λ l w e.
    let wrong : read_text c.in-Ok.input.items ≡ Err (l, w) = ap read_text (sym c.deref.ensures.value) ∙ c.answer.ensures.script l w e in record {
      bytes = c.in-Ok.input.items;
      whole = c.in-Ok.ensures.ok;
      wrong = wrong;
      none = λ s is. read_not_refused c.in-Ok.input.items s l w is wrong;
    }

pub returns-in-Ok-clause-part : goal.returns-in-Ok-clause-part
returns-in-Ok-clause-part g c = λ e.
    let done = c.answer.ensures.part e in record {
      input = record { bytes = c.in-Ok.input.items; script = done.0; whole = c.in-Ok.ensures.ok; read = subst (λ (t : List ℕ). IsReadAs t done.0) c.deref.ensures.value done.1 };
      wrote = done.2;
    }

pub returns-in-Ok-clause-within : goal.returns-in-Ok-clause-within
returns-in-Ok-clause-within g c = λ not_big. record { bytes = c.in-Ok.input.items; taken = c.in-Ok.ensures.ok.taken; bound = c.in-Ok.ensures.within }

pub returns-in-Ok-clause-usage : goal.returns-in-Ok-clause-usage
returns-in-Ok-clause-usage g c = λ e. answer_is c.answer.result statuses.Usage c.answer.ensures.only e

pub returns-in-Ok-clause-read_fault : goal.returns-in-Ok-clause-read_fault
returns-in-Ok-clause-read_fault g c = λ e. absurd (answer_is c.answer.result statuses.ReadFault c.answer.ensures.only e)

pub returns-in-Ok-clause-too_big : goal.returns-in-Ok-clause-too_big
returns-in-Ok-clause-too_big g c = λ e. absurd (answer_is c.answer.result statuses.TooBig c.answer.ensures.only e)
