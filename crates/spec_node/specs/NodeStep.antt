-- The step of an event at a node. It is this project's own; the rows are those of the kernel and of the network part.
use Rattle.std.specs.Prelude.{ℕ, ◌+◌, List, [], ◌∷◌, ◌++◌, map, Option, Some, None, ◌==◌, if◌then◌else◌, slice_set}
use Rattle.it_types.specs.declared.id.TaskId.{TaskId}
use Rattle.it_types.specs.declared.id.CallNo.{CallNo}
use Rattle.it_types.specs.declared.er.Er.{Er}
use Rattle.it_types.specs.declared.context.Ctx.{Ctx}
use Rattle.it_types.specs.declared.kernel_request.KReq.{KReq}
use Rattle.it_types.specs.declared.request.Req.{Req}
use Rattle.it_types.specs.declared.answer.Ans.{Ans}
use Rattle.it_types.specs.declared.answer.Ans.TheVariants as answers
use Rattle.it_types.specs.declared.mark.Mark.{Mark}
use Rattle.it_types.specs.declared.mark.Mark.TheVariants as marks
use Rattle.it_types.specs.declared.entry.Out.{Out}
use Rattle.it_types.specs.Callers.{caller, nobody}
use Rattle.it_types.specs.Requests.{kernel_of, timeout_of}
use Rattle.spec_lists.specs.Tables.{get}
use Rattle.spec_kernel.specs.declared.outcome.KAns.{KAns}
use Rattle.spec_kernel.specs.declared.outcome.KAns.TheVariants as kernel_answers
use Rattle.spec_kernel.specs.PlainClock.{due_at_tick}
use Rattle.spec_kernel.specs.PlainKernel.{PlainKernel}
use Rattle.spec_kernel.specs.Rows.{call, tick}
use Rattle.spec_kernel.specs.Time.{blocked}
use Rattle.spec_pend.specs.declared.call.Who.{Who}
use Rattle.spec_pend.specs.declared.call.Who.TheVariants as whos
use Rattle.spec_pend.specs.declared.answer.NetAnswer.{NetAnswer}
use Rattle.spec_pend.specs.declared.answer.NetAnswer.TheVariants as net_answers
use Rattle.spec_pend.specs.declared.answer.NetEnd.{NetEnd}
use Rattle.spec_pend.specs.Ends.{first_due}
use Rattle.spec_pend.specs.Outs.{shown_answer, shown_end}
use Rattle.spec_udp.specs.Rows.{udp_call}
use Rattle.spec_udp.specs.Arrival.{arrive}
use Rattle.spec_node.specs.declared.held.Held.{Held}
use Rattle.spec_node.specs.declared.event.NodeEv.{NodeEv}
use Rattle.spec_node.specs.declared.event.NodeEv.TheVariants.{Call, Return, Begin, Finish, Tick, Arrive}
use Rattle.spec_node.specs.PlainNode.{PlainNode, running_in}
use Rattle.spec_node.specs.Progress.{Progress, after_net, after_kernel, timed_out}
use Rattle.spec_node.specs.Handlers.{with_cyclics, due_at, begun_first, entered_marks, without_begun}

-- ---- answers, ends and marks

-- a call that waits has its number in the answer
abbrev pub kernel_answer : ℕ → KAns → Ans
kernel_answer number (kernel_answers.Now code bytes) = answers.Now code bytes
kernel_answer number kernel_answers.Pends = answers.Pends (record { 0 = number })
kernel_answer number kernel_answers.Quiet = answers.Quiet

-- how many numbers an answer draws: one where the call was accepted
abbrev pub drawn : Ans → ℕ
drawn (answers.Now code bytes) = 0
drawn (answers.Pends number) = 1
drawn (answers.Later number) = 1
drawn answers.Quiet = 0

-- the answers that are held after a call has ended: its task holds the end, a routine holds nothing
abbrev pub holding_one : Who → Er → List ℕ → List (Option Held) → List (Option Held)
holding_one (whos.Task t) code bytes held = slice_set held t.0 (Some (record { code = code; bytes = bytes }))
holding_one (whos.Callback t cbr) code bytes held = held

-- the same for all that have ended
abbrev pub holding : List NetEnd → List (Option Held) → List (Option Held)
holding [] held = held
holding (e ∷ es) held = holding es (holding_one e.who e.code e.bytes held)

-- a task that has ended holds no answer, nor does its next life
abbrev pub forgetting : TaskId → List (Option Held) → List (Option Held)
forgetting gone held = if gone.0 == 0 then held else slice_set held gone.0 None

abbrev pub gone_marks : TaskId → List Mark
gone_marks task = if task.0 == 0 then [] else marks.Gone task ∷ []

abbrev pub begun_marks : TaskId → List Mark
begun_marks task = if task.0 == 0 then [] else marks.Begun task ∷ []

-- the mark of another running task
abbrev pub run_marks : TaskId → TaskId → List Mark
run_marks before after = if after.0 == before.0 then [] else marks.Run after ∷ []

-- ---- what an event comes to

-- at its beginning
abbrev pub beginning : PlainNode → Progress
beginning n = record { kernel = n.kernel; net = n.net; ends = []; marks = []; packets = [] }

abbrev pub node_after : PlainNode → Ans → TaskId → Progress → PlainNode
node_after n answer gone p = record n { kernel = p.kernel; net = p.net; held = forgetting gone (holding p.ends n.held); calls = n.calls + drawn answer }

abbrev pub out_of : PlainNode → Ans → TaskId → TaskId → Progress → Out
out_of n answer gone begun p = record {
  ans = answer;
  ends = map shown_end p.ends;
  marks = gone_marks gone ++ (begun_marks begun ++ (p.marks ++ run_marks (running_in n.kernel) (running_in p.kernel)));
  packs = p.packets;
}

-- the node after an event with this answer, and what it gives
abbrev pub done : PlainNode → Ans → TaskId → TaskId → Progress → PlainNode × Out
done n answer gone begun p = (node_after n answer gone p, out_of n answer gone begun p)

-- an answer and marks alone
abbrev pub told_only : Ans → List Mark → Out
told_only answer marked = record { ans = answer; ends = []; marks = marked; packs = [] }

-- ---- the events

abbrev pub next_number : PlainNode → CallNo
next_number n = record { 0 = n.calls + 1 }

-- a call of the kernel: if it waits it gets the next number
unfoldable pub kernel_called : PlainNode → Ctx → KReq → PlainNode × Out
kernel_called n ctx request =
    let o = call n.kernel ctx request (next_number n) in
    done n (kernel_answer (n.calls + 1) o.answer) o.gone o.begun (after_kernel (beginning n) o)

-- a call of the network part for which its task waits makes the task wait outside, under the call's number
abbrev pub blocked_where : NetAnswer → PlainKernel → Ctx → Req → CallNo → PlainKernel
blocked_where net_answers.Pends k ctx request number = blocked k (caller ctx) (timeout_of request) number
blocked_where net_answers.Later k ctx request number = k
blocked_where (net_answers.Now code bytes) k ctx request number = k
blocked_where net_answers.Quiet k ctx request number = k

-- a call of the network part: if it is accepted it gets the next number
unfoldable pub network_called : PlainNode → Ctx → Req → PlainNode × Out
network_called n ctx request =
    let o = udp_call n.net ctx request (next_number n) in
    done n (shown_answer (next_number n) o.answer) nobody nobody (after_net (record (beginning n) { kernel = blocked_where o.answer n.kernel ctx request (next_number n) }) o)

-- a packet arrives
unfoldable pub arrived : PlainNode → List ℕ → PlainNode × Out
arrived n bytes = done n answers.Quiet nobody nobody (after_net (beginning n) (arrive n.net bytes))

-- the beginning of a tick: the cyclic handlers that come due at it are due from then on
abbrev pub tick_beginning : PlainNode → Progress
tick_beginning n = record (beginning n) { net = due_at n.net (with_cyclics n.net.pend.due (due_at_tick n.kernel.clock)) }

-- a tick of the node's clock, and then the ends of all calls whose deadline is past
unfoldable pub ticked : PlainNode → PlainNode × Out
ticked n = done n answers.Quiet nobody nobody (timed_out (after_kernel (tick_beginning n) (tick n.kernel)))

-- what a task returns with: the answer that it holds
abbrev pub held_answer : Option Held → Ans
held_answer (Some h) = answers.Now h.code h.bytes
held_answer None = answers.Quiet

-- a return: the task takes the answer that it holds
unfoldable pub returned : PlainNode → TaskId → PlainNode × Out
returned n task = (record n { held = slice_set n.held task.0 None }, told_only (held_answer (get n.held task.0)) [])

-- the first due handler begins
unfoldable pub begun : PlainNode → PlainNode × Out
begun n = (begun_first n, told_only answers.Quiet (entered_marks (first_due n.net.pend.due)))

-- the handler that has begun ends
unfoldable pub finished : PlainNode → PlainNode × Out
finished n = (without_begun n, told_only answers.Quiet [])

-- a call: one of the kernel's, or one of the network part's
abbrev pub called_as : PlainNode → Ctx → Req → Option KReq → PlainNode × Out
called_as n ctx request (Some call) = kernel_called n ctx call
called_as n ctx request None = network_called n ctx request

-- the step of an event: the node after it, and what it gives
unfoldable pub node_step : PlainNode → NodeEv → PlainNode × Out
node_step n (Call ctx request) = called_as n ctx request (kernel_of request)
node_step n (Return task) = returned n task
node_step n Begin = begun n
node_step n Finish = finished n
node_step n Tick = ticked n
node_step n (Arrive bytes) = arrived n bytes
