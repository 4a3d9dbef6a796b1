-- How many bytes of data a history holds, and when it is full. It is this project's own.
use Rattle.std.specs.Prelude.{ℕ, ◌+◌, Bool, ◌||◌, List, length, nat_le, sum_by}
use Rattle.it_types.specs.declared.request.Req.{Req}
use Rattle.it_types.specs.declared.event.Event.{Event}
use Rattle.it_types.specs.declared.event.Event.TheVariants as events
use Rattle.it_types.specs.declared.answer.Ans.{Ans}
use Rattle.it_types.specs.declared.answer.Ans.TheVariants as answers
use Rattle.it_types.specs.declared.handler.Handler.{Handler}
use Rattle.it_types.specs.declared.handler.Handler.TheVariants as handlers
use Rattle.it_types.specs.declared.mark.Mark.{Mark}
use Rattle.it_types.specs.declared.mark.Mark.TheVariants as marks
use Rattle.it_types.specs.declared.entry.CallEnd.{CallEnd}
use Rattle.it_types.specs.declared.entry.Entry.{Entry}
use Rattle.it_types.specs.Requests.{load_of}

abbrev pub request_size : Req → ℕ
request_size request = length (load_of request)

abbrev pub event_size : Event → ℕ
event_size (events.Call id ctx request) = request_size request
event_size (events.Return id task) = 0
event_size (events.Begin id) = 0
event_size (events.Finish id) = 0
event_size (events.Tick id) = 0
event_size (events.Deliver number) = 0
event_size events.Stop = 0

abbrev pub answer_size : Ans → ℕ
answer_size (answers.Now code bytes) = length bytes
answer_size (answers.Pends number) = 0
answer_size (answers.Later number) = 0
answer_size answers.Quiet = 0

abbrev pub end_size : CallEnd → ℕ
end_size e = length e.bytes

abbrev pub handler_size : Handler → ℕ
handler_size (handlers.Cyc cyc) = 0
handler_size (handlers.Cbr cbr udp cep func code bytes) = length bytes

abbrev pub mark_size : Mark → ℕ
mark_size (marks.Gone task) = 0
mark_size (marks.Begun task) = 0
mark_size (marks.Entered what) = handler_size what
mark_size (marks.Started cep mine peer iss) = 0
mark_size (marks.Opened cep iss irs) = 0
mark_size (marks.Broken cep) = 0
mark_size (marks.Over cep) = 0
mark_size (marks.Lent cep dir from len) = 0
mark_size (marks.Back cep dir from len) = 0
mark_size (marks.Callback cbr udp cep func code) = 0
mark_size (marks.Run task) = 0

abbrev pub pack_size : List ℕ → ℕ
pack_size bytes = length bytes

-- the bytes in the request, the answer, the ends, the entered handlers and the packets of an entry
abbrev pub entry_size : Entry → ℕ
entry_size e = event_size e.ev + (answer_size e.ans + (sum_by end_size e.ends + (sum_by mark_size e.marks + sum_by pack_size e.packs)))

-- the most entries of a history, and from how many bytes of data on it is full
abbrev pub entry_limit : ℕ
entry_limit = 1000000

abbrev pub size_limit : ℕ
size_limit = 268435456

abbrev pub is_full : List Entry → Bool
is_full log = nat_le entry_limit (length log) || nat_le size_limit (sum_by entry_size log)
