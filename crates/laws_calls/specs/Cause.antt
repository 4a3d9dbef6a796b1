-- By which cause a call ends that waited: what it waits for is there, its time is over, it is released, or its end point is deleted
-- (µITRON4.0 sections 2.1 for time-outs, 4.1 and 4.2 for releases and delays, 4.4 for objects; ITRON TCP/IP API for cancels and
-- deletions). That these are all causes, and that no end has two, is this project's own.
use Rattle.std.specs.Prelude.{◌≡◌, ℕ, Bool, true, false, not, ◌&&◌, List, [], ◌∷◌, Option, Some, None}
use Rattle.std.specs.List.{AllByRecursion}
use Rattle.it_types.specs.declared.id.TaskId.{TaskId}
use Rattle.it_types.specs.declared.id.ObjId.{ObjId}
use Rattle.it_types.specs.declared.id.CepId.{CepId}
use Rattle.it_types.specs.declared.er.Er.{Er}
use Rattle.it_types.specs.declared.er.TheConstants.{E_OK, E_RLWAI, E_DLT}
use Rattle.it_types.specs.declared.timeout.Tmo.{Tmo}
use Rattle.it_types.specs.declared.context.Ctx.{Ctx}
use Rattle.it_types.specs.declared.handler.FnCode.{FnCode}
use Rattle.it_types.specs.declared.handler.FnCode.TheVariants as functions
use Rattle.it_types.specs.declared.kernel_request.KReq.{KReq}
use Rattle.it_types.specs.declared.kernel_request.KReq.TheVariants.{TerTsk, RelWai, TsndDtq, TrcvDtq}
use Rattle.it_types.specs.declared.request.Req.{Req}
use Rattle.it_types.specs.declared.request.Req.TheVariants.{UdpDelCep, UdpCanCep}
use Rattle.it_types.specs.declared.entry.CallEnd.{CallEnd}
use Rattle.it_types.specs.Callers.{is_handler}
use Rattle.it_types.specs.Requests.{kernel_of}
use Rattle.spec_lists.specs.Tables.{get}
use Rattle.spec_lists.specs.First.{take_first}
use Rattle.spec_lists.specs.Refusal.{first_refusal}
use Rattle.spec_kernel.specs.declared.outcome.KEnd.{KEnd}
use Rattle.spec_kernel.specs.declared.reason.WaitReason.TheVariants as reasons
use Rattle.spec_kernel.specs.declared.reason.WaitingCall.{WaitingCall}
use Rattle.spec_kernel.specs.declared.waiter.Waiter.{Waiter}
use Rattle.spec_kernel.specs.AnswerBytes.{four_bytes}
use Rattle.spec_kernel.specs.PlainKernel.{PlainKernel, is_of, tasks_of, queues_of}
use Rattle.spec_kernel.specs.Calls.{is_a_handlers}
use Rattle.spec_kernel.specs.TaskRows.{named, rel_wai_refusals, ter_tsk_refusals}
use Rattle.spec_kernel.specs.QueueRows.{other_side, tsnd_dtq_refusals, trcv_dtq_refusals}
use Rattle.spec_kernel.specs.Settle as kernel
use Rattle.spec_kernel.specs.Settle.{AtRest, next_freed, freed, ending, ended}
use Rattle.spec_kernel.specs.Time.{next_past, code_by_time}
use Rattle.spec_kernel.specs.Rows as kernel_rows
use Rattle.spec_pend.specs.declared.call.NetCall.{NetCall}
use Rattle.spec_pend.specs.declared.answer.NetEnd.{NetEnd}
use Rattle.spec_pend.specs.Slots.{named as named_by_cancel, numbered}
use Rattle.spec_pend.specs.Ends.{end_of}
use Rattle.spec_pend.specs.Outs.{shown_end}
use Rattle.spec_udp.specs.PlainUdps.{UdpSide, quiet, side_after}
use Rattle.spec_udp.specs.Packets.{arrived_in}
use Rattle.spec_udp.specs.Rows as udp
use Rattle.spec_udp.specs.Settling.{first_ready, met, met_code, met_bytes}
use Rattle.spec_udp.specs.Arrival.{after_arrival}
use Rattle.spec_udp.specs.Outside.{ended_at}
use Rattle.spec_node.specs.declared.event.NodeEv.{NodeEv}
use Rattle.spec_node.specs.declared.event.NodeEv.TheVariants.{Call, Return, Begin, Finish, Tick, Arrive}
use Rattle.spec_node.specs.PlainNode.{PlainNode}
use Rattle.spec_node.specs.Progress.{kernel_end, woken_for}
use Rattle.spec_node.specs.NodeStep.{node_step, next_number, blocked_where, tick_beginning}
use Rattle.spec_node.specs.Admitted.{is_admitted}
use Rattle.laws_node.specs.Taken.{taken}

-- ---- the causes

pub data Kind : Type 0 where
  -- what it waits for is there
  Satisfied : Kind
  -- its deadline is at or before now
  TimedOut : Kind
  -- it is released or cancelled
  Released : Kind
  -- the end point is deleted at which it waits
  Deleted : Kind

-- ---- calls that end a call of another task by their rows

-- the event is this call of the kernel
abbrev pub IsKernelCall : NodeEv → Ctx → KReq → Type 0
IsKernelCall event ctx call = (request : Req) × (event ≡ Call ctx request) × (kernel_of request ≡ Some call)

-- it may be made in this context, and none of its tests refuses it
abbrev pub IsAccepted : Ctx → KReq → List (Bool × Er) → Type 0
IsAccepted ctx call tests = ((is_handler ctx && not (is_a_handlers call)) ≡ false) × (first_refusal tests ≡ None)

-- the call releases this task from its wait, or ends the task (µITRON4.0 sections 4.1 and 4.2)
pub data Releases (k : PlainKernel) (ctx : Ctx) : KReq → TaskId → Type 0 where
  rel_wai : (t : TaskId) → IsAccepted ctx (RelWai t) (rel_wai_refusals (tasks_of k) ctx t) → Releases k ctx (RelWai t) (named ctx t)
  ter_tsk : (t : TaskId) → IsAccepted ctx (TerTsk t) (ter_tsk_refusals (tasks_of k) ctx t) → Releases k ctx (TerTsk t) (named ctx t)

-- the call sends to this task, or receives from it, at a data queue of capacity 0, where it is the first of those that wait on the other
-- side; and the bytes with which its call ends (µITRON4.0 section 4.4.3)
pub data HandsOver (k : PlainKernel) (ctx : Ctx) : KReq → TaskId → List ℕ → Type 0 where
  snd_dtq : (q : ObjId) (item : ℕ) (tmo : Tmo) (receiver : Waiter × List Waiter)
      → IsAccepted ctx (TsndDtq q item tmo) (tsnd_dtq_refusals (queues_of k) q tmo)
      → other_side (queues_of k) q (reasons.Receive q) ≡ Some receiver
      → HandsOver k ctx (TsndDtq q item tmo) receiver.0.task (four_bytes item)
  rcv_dtq : (q : ObjId) (tmo : Tmo) (sender : Waiter × List Waiter)
      → IsAccepted ctx (TrcvDtq q tmo) (trcv_dtq_refusals (queues_of k) q tmo)
      → other_side (queues_of k) q (reasons.Send q 0) ≡ Some sender
      → HandsOver k ctx (TrcvDtq q tmo) sender.0.task []

-- ---- both parts after the row of an event, before any other call ends by it

abbrev pub kernel_called : PlainNode → Ctx → Req → Option KReq → PlainKernel
kernel_called n ctx request (Some call) = (kernel_rows.row n.kernel ctx call (next_number n)).kernel
kernel_called n ctx request None = blocked_where (udp.row n.net ctx request (next_number n)).answer n.kernel ctx request (next_number n)

abbrev pub kernel_row : PlainNode → NodeEv → PlainKernel
kernel_row n (Call ctx request) = kernel_called n ctx request (kernel_of request)
kernel_row n (Return task) = n.kernel
kernel_row n Begin = n.kernel
kernel_row n Finish = n.kernel
kernel_row n Tick = kernel_rows.ticked n.kernel
kernel_row n (Arrive bytes) = n.kernel

abbrev pub net_called : PlainNode → Ctx → Req → Option KReq → UdpSide
net_called n ctx request (Some call) = n.net
net_called n ctx request None = side_after (udp.row n.net ctx request (next_number n))

abbrev pub net_row : PlainNode → NodeEv → UdpSide
net_row n (Call ctx request) = net_called n ctx request (kernel_of request)
net_row n (Return task) = n.net
net_row n Begin = n.net
net_row n Finish = n.net
net_row n Tick = (tick_beginning n).net
net_row n (Arrive bytes) = side_after (after_arrival n.net (arrived_in n.net.udps.addr bytes))

-- ---- the turns of an event, and the ends of calls

-- the end of a call of the network part that is met, with what is there at its end point
abbrev pub met_end : UdpSide → NetCall → NetEnd
met_end s c = let point = get s.udps.points c.slot.cep.0 in end_of c (met_code point c.slot.part) (met_bytes point c.slot.part)

mutual
  -- where the kernel stands after the row, and after each turn
  pub data KernelAt (n : PlainNode) (event : NodeEv) : PlainKernel → Type 0 where
    after_kernel_row : KernelAt n event (kernel_row n event)
    -- the call that comes next in settling has ended
    after_freed : (k : PlainKernel) (z : WaitingCall × List WaitingCall)
        → KernelAt n event k
        → next_freed k ≡ Some z
        → KernelAt n event (freed k z.0 z.1)
    -- so has, in a tick where no call is ready, the one of the least number whose deadline is past
    after_timed_out : (k : PlainKernel) (z : WaitingCall × List WaitingCall)
        → event ≡ Tick
        → KernelAt n event k
        → AtRest k
        → next_past k ≡ Some z
        → KernelAt n event (ended k z.0 z.1)
    -- a call of the network part has ended, for which a task waits no longer that did
    after_told : (k : PlainKernel) (kind : Kind) (e : NetEnd) → KernelAt n event k → NetEnds n event kind e → KernelAt n event (woken_for k e.who)

  -- where the network part stands after the row, and after each turn
  pub data NetAt (n : PlainNode) (event : NodeEv) : UdpSide → Type 0 where
    after_net_row : NetAt n event (net_row n event)
    -- the call that comes next in settling has ended
    after_met : (s : UdpSide) (z : NetCall × List NetCall) → NetAt n event s → first_ready s ≡ Some z → NetAt n event (side_after (met (quiet s) z))
    -- so has one whose task waits no longer in the kernel
    after_ended : (s : UdpSide) (kind : Kind) (e : KEnd)
        → NetAt n event s
        → KernelEnds n event kind e
        → e.outside ≡ true
        → NetAt n event (side_after (ended_at s e.call e.code))

  -- the end of a call that waited in the kernel, or whose task waited there for the network part
  pub data KernelEnds (n : PlainNode) (event : NodeEv) : Kind → KEnd → Type 0 where
    -- at its turn in settling it is the call that comes next, and it has what it waited for
    is_freed : (k : PlainKernel) (z : WaitingCall × List WaitingCall)
        → KernelAt n event k
        → next_freed k ≡ Some z
        → KernelEnds n event Satisfied (kernel.end_of k z.0)
    -- it is the call of a task that is met at a data queue of capacity 0
    is_handed : (ctx : Ctx) (call : KReq) (task : TaskId) (bytes : List ℕ) (z : WaitingCall × List WaitingCall)
        → IsKernelCall event ctx call
        → HandsOver n.kernel ctx call task bytes
        → take_first (is_of task.0) n.kernel.waits ≡ Some z
        → KernelEnds n event Satisfied (ending z.0 E_OK bytes)
    -- in a tick, where no call is ready, it is the one of the least number whose deadline is at or before the new now; a delay has done
    -- then what it is for
    is_timed_out : (k : PlainKernel) (z : WaitingCall × List WaitingCall)
        → event ≡ Tick
        → KernelAt n event k
        → AtRest k
        → next_past k ≡ Some z
        → KernelEnds n event TimedOut (ending z.0 (code_by_time z.0.reason) [])
    -- it is the call of a task that is released or ended
    is_released : (ctx : Ctx) (call : KReq) (task : TaskId) (z : WaitingCall × List WaitingCall)
        → IsKernelCall event ctx call
        → Releases n.kernel ctx call task
        → take_first (is_of task.0) n.kernel.waits ≡ Some z
        → KernelEnds n event Released (ending z.0 E_RLWAI [])

  -- the end of a call of the network part
  pub data NetEnds (n : PlainNode) (event : NodeEv) : Kind → NetEnd → Type 0 where
    -- at its turn in settling it is the call that comes next, and it ends with what is there
    is_met : (s : UdpSide) (z : NetCall × List NetCall)
        → NetAt n event s
        → first_ready s ≡ Some z
        → NetEnds n event Satisfied (met_end s z.0)
    -- it has the number with which a task waited in the kernel, whose wait has ended there, and the same code
    is_ended : (s : UdpSide) (z : NetCall × List NetCall) (kind : Kind) (e : KEnd)
        → NetAt n event s
        → KernelEnds n event kind e
        → e.outside ≡ true
        → numbered s.pend e.call ≡ Some z
        → NetEnds n event kind (end_of z.0 e.code [])
    -- a cancel that isn't refused names it (ITRON TCP/IP API, udp_can_cep)
    is_cancelled : (ctx : Ctx) (cep : CepId) (func : FnCode) (z : NetCall × List NetCall)
        → event ≡ Call ctx (UdpCanCep cep func)
        → first_refusal (udp.refusals n.net ctx (UdpCanCep cep func)) ≡ None
        → named_by_cancel n.net.pend true cep func ≡ Some z
        → NetEnds n event Released (end_of z.0 E_RLWAI [])
    -- a call that isn't refused deletes its end point (ITRON TCP/IP API, udp_del_cep)
    is_deleted : (ctx : Ctx) (cep : CepId) (z : NetCall × List NetCall)
        → event ≡ Call ctx (UdpDelCep cep)
        → first_refusal (udp.refusals n.net ctx (UdpDelCep cep)) ≡ None
        → named_by_cancel n.net.pend true cep functions.All ≡ Some z
        → NetEnds n event Deleted (end_of z.0 E_DLT [])

-- ---- the law

-- what an end came by which an event at this node tells
pub data Cause (n : PlainNode) (event : NodeEv) : Kind → CallEnd → Type 0 where
  of_kernel : (kind : Kind) (e : KEnd) → KernelEnds n event kind e → e.outside ≡ false → Cause n event kind (shown_end (kernel_end e))
  of_network : (kind : Kind) (e : NetEnd) → NetEnds n event kind e → Cause n event kind (shown_end e)

abbrev pub HasCause : PlainNode → NodeEv → CallEnd → Type 0
HasCause n event e = (kind : Kind) × Cause n event kind e

-- each end that the event tells has a cause
abbrev pub EndsAreCaused : PlainNode → NodeEv → Type 0
EndsAreCaused n event = AllByRecursion (HasCause n event) (node_step n event).1.ends

-- and no end has causes of two kinds
abbrev pub CausesAreOne : PlainNode → NodeEv → Type 0
CausesAreOne n event = (e : CallEnd) (a b : Kind) → Cause n event a e → Cause n event b e → a ≡ b

-- so it is for each of these events that is taken, at the node as it is before
abbrev pub EachTaken : (PlainNode → NodeEv → Type 0) → PlainNode → List NodeEv → Type 0
EachTaken P n [] = Unit {0}
EachTaken P n (event ∷ events) = (is_admitted n event ≡ true → P n event) × EachTaken P (taken n event) events
