-- How the program tells that a run has ended: its exit codes and its lines on standard error, which are this project's own.
use Rattle.std.specs.Prelude.{ℕ, List, [], codes}
use Rattle.s_script.specs.declared.read_bad.Why.{Why}
use Rattle.s_script.specs.declared.read_bad.Why.TheVariants.{Form, Range, Twice, Nest, Missing}
use Rattle.itron.specs.declared.status.Status.{Status}
use Rattle.itron.specs.declared.status.Status.TheVariants.{Ok, Usage, Script, ReadFault, WriteFault, TooLong, NoMemory, TooBig}

abbrev pub exit_code_of : Status → ℕ
exit_code_of Ok = 0
exit_code_of Usage = 2
exit_code_of (Script line why) = 3
exit_code_of ReadFault = 4
exit_code_of WriteFault = 5
exit_code_of TooLong = 6
exit_code_of NoMemory = 7
exit_code_of TooBig = 10

abbrev pub cause_word_of : Why → List ℕ
cause_word_of Form = codes "form"
cause_word_of Range = codes "range"
cause_word_of Twice = codes "twice"
cause_word_of Nest = codes "nest"
cause_word_of Missing = codes "missing"

-- the line on standard error, nothing where all went well; of a script that is wrong the cause, which stands behind the line's number
abbrev pub message_of : Status → List ℕ
message_of Ok = []
message_of Usage = codes "usage: itron sim, audit, shape, run or gen N"
message_of (Script line why) = cause_word_of why
message_of ReadFault = codes "read fault"
message_of WriteFault = codes "write fault"
message_of TooLong = codes "history too long"
message_of NoMemory = codes "out of memory"
message_of TooBig = codes "input too big"
