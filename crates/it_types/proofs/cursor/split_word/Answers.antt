use Rattle.it_types.specs.Cursor.{is_no_space}
use Rattle.it_types.proofs.Fronts.{split_at_stop, split_whole}
use Rattle.it_types.proofs.cursor.split_word.Goals as goal

pub returns-in-Some : goal.returns-in-Some
returns-in-Some c = rw (c.split_at.ensures.front, c.split_at.ensures.back) (split_at_stop is_no_space c.args.bytes.now _ c.in-Some.ensures)

pub returns-in-None : goal.returns-in-None
returns-in-None c = split_whole is_no_space c.args.bytes.now c.in-None.ensures
