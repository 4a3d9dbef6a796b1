use Rattle.s_script.proofs.ReadBack.{reads}
use Rattle.s_script.proofs.reader.reading.Goals as goal

pub returns : goal.returns
returns c = reads
