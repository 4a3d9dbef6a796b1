-- What an event of the network part shows in the history: its answer, the ends of calls, the marks and the packets. It is this
-- project's own.
use Rattle.std.specs.Prelude.{ℕ, List, map}
use Rattle.it_types.specs.declared.id.CallNo.{CallNo}
use Rattle.it_types.specs.declared.answer.Ans.{Ans}
use Rattle.it_types.specs.declared.answer.Ans.TheVariants as answers
use Rattle.it_types.specs.declared.entry.CallEnd.{CallEnd}
use Rattle.it_types.specs.declared.entry.Out.{Out}
use Rattle.spec_pend.specs.declared.answer.NetAnswer.{NetAnswer}
use Rattle.spec_pend.specs.declared.answer.NetAnswer.TheVariants as net_answers
use Rattle.spec_pend.specs.declared.answer.NetEnd.{NetEnd}
use Rattle.spec_pend.specs.PlainPend.{Endings}

-- a call that was accepted has its number in the answer
abbrev pub shown_answer : CallNo → NetAnswer → Ans
shown_answer number (net_answers.Now code bytes) = answers.Now code bytes
shown_answer number net_answers.Pends = answers.Pends number
shown_answer number net_answers.Later = answers.Later number
shown_answer number net_answers.Quiet = answers.Quiet

abbrev pub shown_end : NetEnd → CallEnd
shown_end e = record { call = e.call; code = e.code; bytes = e.bytes }

abbrev pub shown : CallNo → NetAnswer → Endings → List (List ℕ) → Out
shown number answer e packets = record { ans = shown_answer number answer; ends = map shown_end e.ends; marks = e.marks; packs = packets }
