-- The text of a history, which is this project's own: for each entry the line of its event, and then its ends, marks and
-- packets, each on a line that begins with a space.
use Rattle.std.specs.Prelude.{ℕ, Bool, true, false, List, [], ◌∷◌, ◌++◌, codes, decimal}
use Rattle.std.specs.List.{flat_map}
use Rattle.std.specs.Fmt.{signed_decimal}
use Rattle.hex.specs.Hex.{encode_lower}
use Rattle.it_types.specs.declared.id.ObjId.{ObjId}
use Rattle.it_types.specs.declared.id.CepId.{CepId}
use Rattle.it_types.specs.declared.er.Er.{Er}
use Rattle.it_types.specs.declared.context.Ctx.{Ctx}
use Rattle.it_types.specs.declared.context.Ctx.TheVariants as contexts
use Rattle.it_types.specs.declared.event.Event.{Event}
use Rattle.it_types.specs.declared.event.Event.TheVariants as events
use Rattle.it_types.specs.declared.answer.Ans.{Ans}
use Rattle.it_types.specs.declared.answer.Ans.TheVariants as answers
use Rattle.it_types.specs.declared.handler.FnCode.{FnCode}
use Rattle.it_types.specs.declared.handler.Handler.{Handler}
use Rattle.it_types.specs.declared.handler.Handler.TheVariants as handlers
use Rattle.it_types.specs.declared.mark.Dir.{Dir}
use Rattle.it_types.specs.declared.mark.Dir.TheVariants as directions
use Rattle.it_types.specs.declared.mark.Mark.{Mark}
use Rattle.it_types.specs.declared.mark.Mark.TheVariants as marks
use Rattle.it_types.specs.declared.entry.CallEnd.{CallEnd}
use Rattle.it_types.specs.declared.entry.Entry.{Entry}
use Rattle.it_types.specs.Spelling.{function_text}
use Rattle.it_types.specs.Lines.{request_text}
use Rattle.it_types.specs.Address.{end_point_text}

-- ---- words of several lines

-- bytes, where there are any
abbrev pub bytes_text : List ℕ → List ℕ
bytes_text [] = []
bytes_text (b ∷ bs) = codes " x" ++ encode_lower (b ∷ bs)

abbrev pub direction_text : Dir → List ℕ
direction_text directions.Send = codes "snd"
direction_text directions.Recv = codes "rcv"

abbrev pub protocol_text : Bool → List ℕ
protocol_text true = codes "udp"
protocol_text false = codes "tcp"

-- ---- the line of the event

abbrev pub answer_text : Ans → List ℕ
answer_text (answers.Now code bytes) = codes " = " ++ (signed_decimal code.0 ++ bytes_text bytes)
answer_text (answers.Pends call) = codes " = pend " ++ decimal call.0
answer_text (answers.Later call) = codes " = later " ++ decimal call.0
answer_text answers.Quiet = []

abbrev pub caller_text : Ctx → List ℕ
caller_text (contexts.Task task) = codes " task " ++ (decimal task.0 ++ codes " ")
caller_text contexts.Handler = codes " handler "

abbrev pub event_text : Event → List ℕ
event_text (events.Call node ctx request) = decimal node.0 ++ (caller_text ctx ++ request_text request)
event_text (events.Return node task) = decimal node.0 ++ (codes " return " ++ decimal task.0)
event_text (events.Begin node) = decimal node.0 ++ codes " begin"
event_text (events.Finish node) = decimal node.0 ++ codes " finish"
event_text (events.Tick node) = decimal node.0 ++ codes " tick"
event_text (events.Deliver pack) = codes "deliver " ++ decimal pack.0
event_text events.Stop = codes "stop"

-- ---- the lines below it

abbrev pub end_text : CallEnd → List ℕ
end_text e = codes " end " ++ (decimal e.call.0 ++ (codes " " ++ (signed_decimal e.code.0 ++ (bytes_text e.bytes ++ codes "\n"))))

-- a callback routine, the end point and the function that it is told of, and the function's code
abbrev pub told_text : ObjId → Bool → CepId → FnCode → Er → List ℕ
told_text cbr udp cep func code =
    decimal cbr.0 ++ (codes " " ++ (protocol_text udp ++ (codes " " ++ (decimal cep.0 ++ (codes " " ++ (function_text func ++ (codes " " ++ signed_decimal code.0)))))))

abbrev pub handler_text : Handler → List ℕ
handler_text (handlers.Cyc cyc) = codes "cyc " ++ decimal cyc.0
handler_text (handlers.Cbr cbr udp cep func code bytes) = codes "cbr " ++ (told_text cbr udp cep func code ++ bytes_text bytes)

abbrev pub lease_text : ℕ → Dir → ℕ → ℕ → List ℕ
lease_text cep dir from len = decimal cep ++ (codes " " ++ (direction_text dir ++ (codes " " ++ (decimal from ++ (codes " " ++ decimal len)))))

abbrev pub mark_words : Mark → List ℕ
mark_words (marks.Gone task) = codes " gone " ++ decimal task.0
mark_words (marks.Begun task) = codes " begun " ++ decimal task.0
mark_words (marks.Entered what) = codes " entered " ++ handler_text what
mark_words (marks.Started cep mine peer iss) =
    codes " started " ++ (decimal cep.0 ++ (codes " " ++ (end_point_text mine ++ (codes " " ++ (end_point_text peer ++ (codes " " ++ decimal iss))))))
mark_words (marks.Opened cep iss irs) = codes " opened " ++ (decimal cep.0 ++ (codes " " ++ (decimal iss ++ (codes " " ++ decimal irs))))
mark_words (marks.Broken cep) = codes " broken " ++ decimal cep.0
mark_words (marks.Over cep) = codes " over " ++ decimal cep.0
mark_words (marks.Lent cep dir from len) = codes " lent " ++ lease_text cep.0 dir from len
mark_words (marks.Back cep dir from len) = codes " back " ++ lease_text cep.0 dir from len
mark_words (marks.Callback cbr udp cep func code) = codes " callback " ++ told_text cbr udp cep func code
mark_words (marks.Run task) = codes " run " ++ decimal task.0

abbrev pub mark_text : Mark → List ℕ
mark_text mark = mark_words mark ++ codes "\n"

abbrev pub pack_text : List ℕ → List ℕ
pack_text pack = codes " pack x" ++ (encode_lower pack ++ codes "\n")

-- ---- entries

abbrev pub entry_text : Entry → List ℕ
entry_text e =
    event_text e.ev ++ (answer_text e.ans ++ (codes "\n" ++ (flat_map end_text e.ends ++ (flat_map mark_text e.marks ++ flat_map pack_text e.packs))))

-- the text of a history
abbrev pub trace_text : List Entry → List ℕ
trace_text entries = flat_map entry_text entries
