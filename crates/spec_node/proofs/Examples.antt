-- Words for worked histories of a node with handlers: its declarations, its events, and what each gives.
use Rattle.std.proofs.Common.{ℕ, true, false, List, [], ◌∷◌, Option, Some, None}
use Rattle.std.specs.Prelude.{ℤ, pos, neg_ℤ}
use Rattle.it_types.specs.declared.id.EndPt.{EndPt}
use Rattle.it_types.specs.declared.context.Ctx.TheVariants as contexts
use Rattle.it_types.specs.declared.conf.TaskDecl.{TaskDecl}
use Rattle.it_types.specs.declared.conf.SemDecl.{SemDecl}
use Rattle.it_types.specs.declared.conf.CycDecl.{CycDecl}
use Rattle.it_types.specs.declared.request.Req.{Req}
use Rattle.it_types.specs.declared.request.Req.TheVariants as requests
use Rattle.it_types.specs.declared.answer.Ans.{Ans}
use Rattle.it_types.specs.declared.answer.Ans.TheVariants as answers
use Rattle.it_types.specs.declared.handler.FnCode.{FnCode}
use Rattle.it_types.specs.declared.handler.Handler.{Handler}
use Rattle.it_types.specs.declared.handler.Handler.TheVariants.{Cyc, Cbr}
use Rattle.it_types.specs.declared.mark.Mark.{Mark}
use Rattle.it_types.specs.declared.mark.Mark.TheVariants as marks
use Rattle.it_types.specs.declared.entry.CallEnd.{CallEnd}
use Rattle.it_types.specs.declared.entry.Out.{Out}
use Rattle.spec_node.specs.declared.event.NodeEv.{NodeEv}
use Rattle.spec_node.specs.declared.event.NodeEv.TheVariants.{Call, Return}
use Rattle.spec_node.specs.PlainNode.{PlainNode, opened_node}
use Rattle.spec_node.specs.NodeStep.{node_step}
use Rattle.spec_node.specs.Admitted.{is_admitted}

-- what a list of events gives, None for one that isn't admitted, which changes nothing
abbrev pub outs : PlainNode → List NodeEv → List (Option Out)
outs n [] = []
outs n (e ∷ es) = elim (is_admitted n e) [ true ↦ (let stepped = node_step n e in Some stepped.1 ∷ outs stepped.0 es) | false ↦ None ∷ outs n es ]

-- ---- declarations

abbrev pub task : ℕ → ℕ → TaskDecl
task id priority = record { id = id; pri = priority; act = true }

abbrev pub semaphore : ℕ → ℕ → ℕ → SemDecl
semaphore id init max = record { id = id; pri = false; init = init; max = max }

-- a cyclic handler that runs from the start
abbrev pub cyclic : ℕ → ℕ → ℕ → CycDecl
cyclic id period phase = record { id = id; period = period; phase = phase; on = true }

-- the node 10.0.0.2, on which callback routine 1 is declared
abbrev pub node : List TaskDecl → List SemDecl → List CycDecl → PlainNode
node tasks semaphores cyclics =
    opened_node (record { tasks = record { tasks = tasks }; sync = record { sems = semaphores; flags = []; dtqs = [] }; cycs = record { cycs = cyclics } }) 0x0a000002 (record { 0 = 1 } ∷ [])

-- ---- events

abbrev pub calls : ℕ → Req → NodeEv
calls id request = Call (contexts.Task (record { 0 = id })) request

-- the handler that has begun calls
abbrev pub handler_calls : Req → NodeEv
handler_calls request = Call contexts.Handler request

abbrev pub returns : ℕ → NodeEv
returns id = Return (record { 0 = id })

abbrev pub activates : ℕ → Req
activates id = requests.ActTsk (record { 0 = id })

abbrev pub terminates : ℕ → Req
terminates id = requests.TerTsk (record { 0 = id })

abbrev pub releases : ℕ → Req
releases id = requests.RelWai (record { 0 = id })

abbrev pub starts : ℕ → Req
starts id = requests.StaCyc (record { 0 = id })

abbrev pub stops : ℕ → Req
stops id = requests.StpCyc (record { 0 = id })

abbrev pub deletes : ℕ → Req
deletes cep = requests.UdpDelCep (record { 0 = cep })

abbrev pub cancels : ℕ → FnCode → Req
cancels cep func = requests.UdpCanCep (record { 0 = cep }) func

-- 10.0.0.1:1000
abbrev pub peer : EndPt
peer = record { addr = 0x0a000001; port = 1000 }

-- the data "hi"
abbrev pub hi : List ℕ
hi = 0x68 ∷ 0x69 ∷ []

-- "hi" from 10.0.0.1:1000 to 10.0.0.2:2000
abbrev pub hi_packet : List ℕ
hi_packet = 0x45 ∷ 0x00 ∷ 0x00 ∷ 0x1e ∷ 0x00 ∷ 0x00 ∷ 0x40 ∷ 0x00 ∷ 0x40 ∷ 0x11 ∷ 0x26 ∷ 0xcd ∷ 0x0a ∷ 0x00 ∷ 0x00 ∷ 0x01 ∷ 0x0a ∷ 0x00 ∷ 0x00 ∷ 0x02 ∷ 0x03 ∷ 0xe8 ∷ 0x07 ∷ 0xd0 ∷ 0x00 ∷ 0x0a ∷ 0x77 ∷ 0xb6 ∷ 0x68 ∷ 0x69 ∷ []

-- the same to 10.0.0.2:2001
abbrev pub other_packet : List ℕ
other_packet = 0x45 ∷ 0x00 ∷ 0x00 ∷ 0x1e ∷ 0x00 ∷ 0x00 ∷ 0x40 ∷ 0x00 ∷ 0x40 ∷ 0x11 ∷ 0x26 ∷ 0xcd ∷ 0x0a ∷ 0x00 ∷ 0x00 ∷ 0x01 ∷ 0x0a ∷ 0x00 ∷ 0x00 ∷ 0x02 ∷ 0x03 ∷ 0xe8 ∷ 0x07 ∷ 0xd1 ∷ 0x00 ∷ 0x0a ∷ 0x77 ∷ 0xb5 ∷ 0x68 ∷ 0x69 ∷ []

-- "hi" from 10.0.0.2:2000 to 10.0.0.1:1000
abbrev pub sent_packet : List ℕ
sent_packet = 0x45 ∷ 0x00 ∷ 0x00 ∷ 0x1e ∷ 0x00 ∷ 0x00 ∷ 0x40 ∷ 0x00 ∷ 0x40 ∷ 0x11 ∷ 0x26 ∷ 0xcd ∷ 0x0a ∷ 0x00 ∷ 0x00 ∷ 0x02 ∷ 0x0a ∷ 0x00 ∷ 0x00 ∷ 0x01 ∷ 0x07 ∷ 0xd0 ∷ 0x03 ∷ 0xe8 ∷ 0x00 ∷ 0x0a ∷ 0x77 ∷ 0xb6 ∷ 0x68 ∷ 0x69 ∷ []

-- what a receive has of either packet: the sender, 10.0.0.1:1000, and the data
abbrev pub hi_bytes : List ℕ
hi_bytes = 0x0a ∷ 0x00 ∷ 0x00 ∷ 0x01 ∷ 0x03 ∷ 0xe8 ∷ 0x68 ∷ 0x69 ∷ []

-- ---- what they give

-- an error's code, by its number in the standards
abbrev pub minus : ℕ → ℤ
minus n = neg_ℤ (pos n)

abbrev pub gives : Ans → List CallEnd → List Mark → List (List ℕ) → Option Out
gives answer ends marked packets = Some (record { ans = answer; ends = ends; marks = marked; packs = packets })

abbrev pub now : ℤ → List ℕ → Ans
now c bytes = answers.Now (record { 0 = c }) bytes

abbrev pub accepted : ℕ → Ans
accepted number = answers.Later (record { 0 = number })

-- an answer at once, with nothing beside
abbrev pub code : ℤ → List ℕ → Option Out
code c bytes = gives (now c bytes) [] [] []

-- the call waits, and another task runs
abbrev pub pends : ℕ → ℕ → Option Out
pends number next = gives (answers.Pends (record { 0 = number })) [] (marks.Run (record { 0 = next }) ∷ []) []

-- the call is accepted, and its task goes on
abbrev pub later : ℕ → Option Out
later number = gives (accepted number) [] [] []

abbrev pub nothing : Option Out
nothing = gives answers.Quiet [] [] []

-- nothing is answered, and calls end
abbrev pub ends_with : List CallEnd → List Mark → Option Out
ends_with ends marked = gives answers.Quiet ends marked []

-- a handler begins
abbrev pub enters : Handler → Option Out
enters h = gives answers.Quiet [] (marks.Entered h ∷ []) []

abbrev pub end : ℕ → ℤ → List ℕ → CallEnd
end number c bytes = record { call = record { 0 = number }; code = record { 0 = c }; bytes = bytes }

-- ---- handlers and marks

abbrev pub cyc : ℕ → Handler
cyc id = Cyc (record { 0 = id })

-- callback routine 1, told of this function at a UDP end point
abbrev pub cbr : ℕ → FnCode → ℤ → List ℕ → Handler
cbr cep func c bytes = Cbr (record { 0 = 1 }) true (record { 0 = cep }) func (record { 0 = c }) bytes

-- the mark of its becoming due
abbrev pub callback : ℕ → FnCode → ℤ → Mark
callback cep func c = marks.Callback (record { 0 = 1 }) true (record { 0 = cep }) func (record { 0 = c })

abbrev pub gone : ℕ → Mark
gone id = marks.Gone (record { 0 = id })

abbrev pub begins : ℕ → Mark
begins id = marks.Begun (record { 0 = id })

abbrev pub run : ℕ → Mark
run id = marks.Run (record { 0 = id })
