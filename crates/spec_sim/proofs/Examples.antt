-- Words for worked histories: scripts, and entries.
use Rattle.std.proofs.Common.{ℕ, zero, suc, true, false, List, [], ◌∷◌}
use Rattle.std.specs.Prelude.{ℤ, pos}
use Rattle.it_types.specs.declared.id.TaskId.{TaskId}
use Rattle.it_types.specs.declared.id.ObjId.{ObjId}
use Rattle.it_types.specs.declared.id.EndPt.{EndPt}
use Rattle.it_types.specs.declared.context.Ctx.{Ctx}
use Rattle.it_types.specs.declared.context.Ctx.TheVariants as contexts
use Rattle.it_types.specs.declared.request.Req.{Req}
use Rattle.it_types.specs.declared.request.Req.TheVariants as requests
use Rattle.it_types.specs.declared.timeout.Tmo.{Tmo}
use Rattle.it_types.specs.declared.timeout.Tmo.TheVariants as timeouts
use Rattle.it_types.specs.declared.event.Event.{Event}
use Rattle.it_types.specs.declared.event.Event.TheVariants as events
use Rattle.it_types.specs.declared.answer.Ans.{Ans}
use Rattle.it_types.specs.declared.answer.Ans.TheVariants as answers
use Rattle.it_types.specs.declared.handler.FnCode.{FnCode}
use Rattle.it_types.specs.declared.handler.Handler.{Handler}
use Rattle.it_types.specs.declared.handler.Handler.TheVariants.{Cyc, Cbr}
use Rattle.it_types.specs.declared.mark.Mark.{Mark}
use Rattle.it_types.specs.declared.mark.Mark.TheVariants as marks
use Rattle.it_types.specs.declared.entry.CallEnd.{CallEnd}
use Rattle.it_types.specs.declared.entry.Entry.{Entry}
use Rattle.it_types.proofs.CallWords as calls
use Rattle.spec_script.specs.declared.script.Script.{Script}
use Rattle.spec_script.specs.declared.decl.Decl.{Decl}
use Rattle.spec_script.specs.declared.decl.Decl.TheVariants as declarations
use Rattle.spec_script.specs.declared.decl.Line.{Line}
use Rattle.spec_script.specs.declared.decl.Line.TheVariants as body_lines
use Rattle.spec_script.specs.Interpreter.{no_peer}

-- a link, so many ticks, and these declarations of node 0, 10.0.0.1, and node 1, 10.0.0.2
abbrev pub script_with : List ℕ → ℕ → List Decl → List Decl → Script
script_with link ticks first second = record {
  link = link;
  ticks = ticks;
  nodes = record { addr = 0x0a000001; isn0 = 0; top0 = 0; decls = first } ∷ record { addr = 0x0a000002; isn0 = 0; top0 = 0; decls = second } ∷ [];
}

-- ten ticks, and a link that delivers each packet once and at once
abbrev pub script_of_both : List Decl → List Decl → Script
script_of_both first second = script_with (1 ∷ 0 ∷ 0 ∷ 0 ∷ []) 10 first second

-- declarations of node 0 alone
abbrev pub script_of : List Decl → Script
script_of decls = script_of_both decls []

abbrev pub task : ℕ → ℕ → List Line → Decl
task id priority lines = declarations.Task (record { id = id; pri = priority; act = true }) (record { lines = lines })

abbrev pub dormant_task : ℕ → ℕ → List Line → Decl
dormant_task id priority lines = declarations.Task (record { id = id; pri = priority; act = false }) (record { lines = lines })

abbrev pub semaphore : ℕ → ℕ → ℕ → Decl
semaphore id init max = declarations.Sem (record { id = id; pri = false; init = init; max = max })

abbrev pub semaphore_by_priority : ℕ → ℕ → ℕ → Decl
semaphore_by_priority id init max = declarations.Sem (record { id = id; pri = true; init = init; max = max })

-- a flag on which several tasks may wait, by arrival, and which the end of a wait clears
abbrev pub clearing_flag : ℕ → ℕ → Decl
clearing_flag id init = declarations.Flg (record { id = id; pri = false; many = true; clr = true; init = init })

-- a data queue with room for so many items, on which senders wait by arrival
abbrev pub queue : ℕ → ℕ → Decl
queue id capacity = declarations.Dtq (record { id = id; pri = false; cap = capacity })

-- a cyclic handler that runs from the start
abbrev pub cyclic : ℕ → ℕ → ℕ → List Line → Decl
cyclic id period phase lines = declarations.Cyc (record { id = id; period = period; phase = phase; on = true }) (record { lines = lines })

abbrev pub routine : ℕ → List Line → Decl
routine id lines = declarations.Cbr (record { 0 = id }) (record { lines = lines })

-- 10.0.0.1:1000 and 10.0.0.2:2000
abbrev pub near : EndPt
near = record { addr = 0x0a000001; port = 1000 }

abbrev pub far : EndPt
far = record { addr = 0x0a000002; port = 2000 }

-- what is received of such data: the sender, and the data
abbrev pub from_near : List ℕ → List ℕ
from_near load = 0x0a ∷ 0x00 ∷ 0x00 ∷ 0x01 ∷ 0x03 ∷ 0xe8 ∷ load

abbrev pub from_far : List ℕ → List ℕ
from_far load = 0x0a ∷ 0x00 ∷ 0x00 ∷ 0x02 ∷ 0x07 ∷ 0xd0 ∷ load

abbrev pub the_task : ℕ → TaskId
the_task id = record { 0 = id }

abbrev pub object : ℕ → ObjId
object id = record { 0 = id }

-- ---- calls

abbrev pub activates : ℕ → Req
activates id = requests.ActTsk (the_task id)

abbrev pub terminates : ℕ → Req
terminates id = requests.TerTsk (the_task id)

abbrev pub gives_priority : ℕ → ℕ → Req
gives_priority id priority = requests.ChgPri (the_task id) priority

abbrev pub releases : ℕ → Req
releases id = requests.RelWai (the_task id)

abbrev pub suspends : ℕ → Req
suspends id = requests.SusTsk (the_task id)

abbrev pub resumes : ℕ → Req
resumes id = requests.RsmTsk (the_task id)

abbrev pub sets : ℕ → ℕ → Req
sets flag bits = requests.SetFlg (object flag) bits

-- for one of the bits of a flag
abbrev pub waits_for_any : ℕ → ℕ → Tmo → Req
waits_for_any flag bits tmo = requests.TwaiFlg (object flag) bits false tmo

abbrev pub waits_for_all : ℕ → ℕ → Tmo → Req
waits_for_all flag bits tmo = requests.TwaiFlg (object flag) bits true tmo

abbrev pub sends_item : ℕ → ℕ → Req
sends_item queue item = requests.TsndDtq (object queue) item timeouts.Fevr

abbrev pub forces_item : ℕ → ℕ → Req
forces_item queue item = requests.FsndDtq (object queue) item

abbrev pub receives_item : ℕ → Tmo → Req
receives_item queue tmo = requests.TrcvDtq (object queue) tmo

abbrev pub sets_time : ℕ → Req
sets_time time = requests.SetTim time

abbrev pub tells_time : Req
tells_time = requests.GetTim

abbrev pub waits : ℕ → Req
waits id = calls.waits id timeouts.Fevr

abbrev pub waits_up_to : ℕ → ℕ → Req
waits_up_to id ticks = calls.waits id (timeouts.Ms ticks)

abbrev pub delays : ℕ → Req
delays ticks = calls.delays ticks

abbrev pub signals : ℕ → Req
signals id = calls.signals id

abbrev pub creates : ℕ → ℕ → Req
creates cep port = calls.creates cep port 0

-- an end point with a callback routine
abbrev pub creates_with : ℕ → ℕ → ℕ → Req
creates_with cep port cbr = calls.creates cep port cbr

abbrev pub cancels : ℕ → FnCode → Req
cancels cep func = requests.UdpCanCep (record { 0 = cep }) func

abbrev pub sends : ℕ → EndPt → List ℕ → Req
sends cep dest load = calls.sends cep dest load timeouts.Fevr

abbrev pub receives : ℕ → ℕ → Tmo → Req
receives cep len tmo = calls.receives cep len tmo

abbrev pub line : Req → Line
line request = body_lines.Call request false false

-- a datagram of the buffer
abbrev pub sends_buffer : ℕ → EndPt → Line
sends_buffer cep dest = body_lines.Call (sends cep dest []) true false

-- and one to the peer
abbrev pub sends_back : ℕ → Line
sends_back cep = body_lines.Call (sends cep no_peer []) true true

abbrev pub on_task : ℕ → Ctx
on_task id = contexts.Task (record { 0 = id })

abbrev pub entry : Event → Ans → List CallEnd → List Mark → Entry
entry event answer ends marked = record { ev = event; ans = answer; ends = ends; marks = marked; packs = [] }

abbrev pub called_at : ℕ → ℕ → Req → Ans → List CallEnd → List Mark → Entry
called_at node id request answer ends marked = entry (events.Call (record { 0 = node }) (on_task id) request) answer ends marked

abbrev pub called : ℕ → Req → Ans → List CallEnd → List Mark → Entry
called id request answer ends marked = called_at 0 id request answer ends marked

-- a call of the handler that has begun
abbrev pub called_by_handler : ℕ → Req → Ans → List CallEnd → List Mark → Entry
called_by_handler node request answer ends marked = entry (events.Call (record { 0 = node }) contexts.Handler request) answer ends marked

-- a handler begins
abbrev pub begins : ℕ → Handler → Entry
begins node h = entry (events.Begin (record { 0 = node })) answers.Quiet [] (marks.Entered h ∷ [])

-- the handler that has begun ends
abbrev pub finishes : ℕ → Entry
finishes node = entry (events.Finish (record { 0 = node })) answers.Quiet [] []

-- a call that sends a packet
abbrev pub sent_at : ℕ → ℕ → Req → Ans → List ℕ → Entry
sent_at node id request answer packet = record (called_at node id request answer [] []) { packs = packet ∷ [] }

abbrev pub returned_with : ℕ → ℕ → ℤ → List ℕ → Entry
returned_with node id code bytes = entry (events.Return (record { 0 = node }) (record { 0 = id })) (answers.Now (record { 0 = code }) bytes) [] []

abbrev pub returned : ℕ → ℤ → Entry
returned id code = returned_with 0 id code []

-- a delivery with the ends of calls, and the marks
abbrev pub delivered : ℕ → List CallEnd → List Mark → Entry
delivered number ends marked = entry (events.Deliver (record { 0 = number })) answers.Quiet ends marked

abbrev pub code_with : ℤ → List ℕ → Ans
code_with c bytes = answers.Now (record { 0 = c }) bytes

abbrev pub code : ℤ → Ans
code c = code_with c []

-- the answer E_OK with bytes
abbrev pub told : List ℕ → Ans
told bytes = code_with (pos 0) bytes

abbrev pub pends : ℕ → Ans
pends number = answers.Pends (record { 0 = number })

abbrev pub later : ℕ → Ans
later number = answers.Later (record { 0 = number })

abbrev pub end_with : ℕ → ℤ → List ℕ → CallEnd
end_with number c bytes = record { call = record { 0 = number }; code = record { 0 = c }; bytes = bytes }

abbrev pub end : ℕ → ℤ → CallEnd
end number c = end_with number c []

abbrev pub gone : ℕ → Mark
gone id = marks.Gone (record { 0 = id })

abbrev pub begun : ℕ → Mark
begun id = marks.Begun (record { 0 = id })

abbrev pub run_mark : ℕ → Mark
run_mark id = marks.Run (record { 0 = id })

-- the mark of a routine of a UDP end point that becomes due
abbrev pub callback : ℕ → ℕ → FnCode → ℤ → Mark
callback cbr cep func c = marks.Callback (record { 0 = cbr }) true (record { 0 = cep }) func (record { 0 = c })

abbrev pub cyc : ℕ → Handler
cyc id = Cyc (record { 0 = id })

-- a callback routine, told of this function at a UDP end point
abbrev pub cbr : ℕ → ℕ → FnCode → ℤ → Handler
cbr id cep func c = Cbr (record { 0 = id }) true (record { 0 = cep }) func (record { 0 = c }) []

abbrev pub exits : Req
exits = calls.exits

-- a tick with the ends of calls, and the marks
abbrev pub tick_with : ℕ → List CallEnd → List Mark → Entry
tick_with node ends marked = entry (events.Tick (record { 0 = node })) answers.Quiet ends marked

abbrev pub tick : ℕ → Entry
tick node = entry (events.Tick (record { 0 = node })) answers.Quiet [] []

-- so many ticks of each node at which nothing ends, and the entries that follow
abbrev pub ticks_before : ℕ → List Entry → List Entry
ticks_before zero rest = rest
ticks_before (suc n) rest = tick 0 ∷ tick 1 ∷ ticks_before n rest

abbrev pub stop : Entry
stop = entry events.Stop answers.Quiet [] []
