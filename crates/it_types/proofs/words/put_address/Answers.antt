use Rattle.it_types.proofs.Front.{front_before_step, front_before_word, on_any_err}
use Rattle.it_types.proofs.words.put_address.Goals as goal

pub returns-in_err-put_numbered-2-clause-err : goal.returns-in_err-put_numbered-2-clause-err
returns-in_err-put_numbered-2-clause-err c =
    on_any_err _ (front_before_word _ _ _ _ c.in_ok-put_number.ensures.ok
    (front_before_word _ _ _ _ c.in_ok-put_numbered.ensures.ok c.in_err-put_numbered-2.ensures.err))

pub returns-clause-err : goal.returns-clause-err
returns-clause-err c =
    front_before_step _ _ _ _ _ c.in_ok-put_number.ensures.ok
    (front_before_step _ _ _ _ _ c.in_ok-put_numbered.ensures.ok
    (front_before_step _ _ _ _ _ c.in_ok-put_numbered-2.ensures.ok c.put_numbered-3.ensures.err))
