use Rattle.std.proofs.Common.{List, ℕ, refl, subst, sym, ◌∙◌}
use Rattle.std.specs.Io.KnownBytes.{Appends}
use Rattle.itron.specs.declared.status.Status.TheVariants as statuses
use Rattle.itron.specs.Top.{WrotePart}
use Rattle.itron.proofs.Answered.{refusal_answers, refusal_is}
use Rattle.itron.proofs.top.answer.Goals as goal

pub returns-in-Ok-clause-ok : goal.returns-in-Ok-clause-ok
returns-in-Ok-clause-ok g c = λ e.
    let printed = c.in-Ok.ensures.ok in
    let wrote = c.write_output.ensures.ok e in (
      printed.0,
      printed.1,
      subst (λ (t : List ℕ). Appends (g.K.Sink.written c.args.out.now) (g.K.Sink.written c.write_output.new.out) t) printed.2.text wrote.0,
      sym printed.2.stops ∙ wrote.1,
    )

pub returns-in-Ok-clause-too_long : goal.returns-in-Ok-clause-too_long
returns-in-Ok-clause-too_long g c = λ e.
    let printed = c.in-Ok.ensures.ok in
    let wrote = c.write_output.ensures.too_long e in (
      printed.0,
      printed.1,
      subst (λ (t : List ℕ). Appends (g.K.Sink.written c.args.out.now) (g.K.Sink.written c.write_output.new.out) t) printed.2.text wrote.0,
      sym printed.2.stops ∙ wrote.1,
    )

pub returns-in-Ok-clause-part : goal.returns-in-Ok-clause-part
returns-in-Ok-clause-part g c = λ e.
    let printed = c.in-Ok.ensures.ok in
    (printed.0, printed.1, subst (λ (t : List ℕ). WrotePart (g.K.Sink.written c.args.out.now) (g.K.Sink.written c.write_output.new.out) t) printed.2.text (c.write_output.ensures.part e))

pub returns-in-Err-clause-ok : goal.returns-in-Err-clause-ok
returns-in-Err-clause-ok g c = λ e. absurd (refusal_is c.in-Err.status statuses.Ok (c.in-Err.ensures.only c.in-Err.status refl) e)

pub returns-in-Err-clause-too_long : goal.returns-in-Err-clause-too_long
returns-in-Err-clause-too_long g c = λ e. absurd (refusal_is c.in-Err.status statuses.TooLong (c.in-Err.ensures.only c.in-Err.status refl) e)

pub returns-in-Err-clause-write_fault : goal.returns-in-Err-clause-write_fault
returns-in-Err-clause-write_fault g c = λ e. absurd (refusal_is c.in-Err.status statuses.WriteFault (c.in-Err.ensures.only c.in-Err.status refl) e)

pub returns-in-Err-clause-was_script : goal.returns-in-Err-clause-was_script
returns-in-Err-clause-was_script g c = λ e. absurd (refusal_is c.in-Err.status statuses.WriteFault (c.in-Err.ensures.only c.in-Err.status refl) e)

pub returns-in-Err-clause-part : goal.returns-in-Err-clause-part
returns-in-Err-clause-part g c = λ e. absurd (refusal_is c.in-Err.status statuses.WriteFault (c.in-Err.ensures.only c.in-Err.status refl) e)

pub returns-in-Err-clause-only : goal.returns-in-Err-clause-only
returns-in-Err-clause-only g c = refusal_answers c.in-Err.status (c.in-Err.ensures.only c.in-Err.status refl)
