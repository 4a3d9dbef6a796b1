use Rattle.s_script.proofs.ReadBack.{printed_is_read}
use Rattle.s_script.proofs.reader.printing.Goals as goal

pub returns : goal.returns
returns c = printed_is_read
