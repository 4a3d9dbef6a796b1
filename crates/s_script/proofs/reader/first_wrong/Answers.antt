use Rattle.s_script.proofs.FirstWrong.{front_before, no_front_with}
use Rattle.s_script.proofs.reader.first_wrong.Goals as goal

pub returns : goal.returns
returns c = record { before = front_before; wrong = no_front_with }
