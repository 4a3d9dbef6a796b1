use Rattle.s_script.proofs.ReadLoop.{read_is}
use Rattle.s_script.proofs.Led.{read_as}
use Rattle.s_script.proofs.ReadBack.{not_read}
use Rattle.s_script.proofs.reader.read.Goals as goal

pub returns-clause-read : goal.returns-clause-read
returns-clause-read c = read_is c.args.text.now c.read_lines.result (read_as c.args.text.now) c.read_lines.ensures

pub returns-clause-not_read : goal.returns-clause-not_read
returns-clause-not_read c = λ l w e. not_read c.args.text.now (l, w) (rw e at c.read_lines.ensures)
