-- Who is told of the ends of an event. An end that is shown has the number of its call alone, so its task is that of the call as it
-- waited before the event.
use Rattle.std.specs.Prelude.{◌≡◌, ℕ, zero, suc, true, List, [], ◌∷◌, ◌++◌, Option, Some, None, option_map, slice_set}
use Rattle.std.specs.List.{AllByRecursion, find}
use Rattle.it_types.specs.declared.id.TaskId.{TaskId}
use Rattle.it_types.specs.declared.id.CallNo.{CallNo}
use Rattle.it_types.specs.declared.handler.FnCode.TheVariants.{All, UdpRcv}
use Rattle.it_types.specs.declared.request.Req.{Req}
use Rattle.it_types.specs.declared.request.Req.TheVariants.{UdpDelCep, UdpCanCep}
use Rattle.it_types.specs.declared.entry.CallEnd.{CallEnd}
use Rattle.spec_kernel.specs.Time.{unblocked}
use Rattle.spec_pend.specs.declared.call.Who.{Who}
use Rattle.spec_pend.specs.declared.call.Who.TheVariants as whos
use Rattle.spec_pend.specs.declared.call.NetCall.{NetCall}
use Rattle.spec_pend.specs.declared.answer.NetEnd.{NetEnd}
use Rattle.spec_pend.specs.PlainPend.{PlainPend}
use Rattle.spec_pend.specs.Slots.{has_number, at_slot, named}
use Rattle.spec_udp.specs.Rows.{slot_of}
use Rattle.spec_node.specs.PlainNode.{PlainNode}

-- ---- the calls that may end

-- the call that a search has found
abbrev pub call_found : Option (NetCall × List NetCall) → Option NetCall
call_found found = option_map (λ f. f.0) found

abbrev pub listed : Option NetCall → List NetCall
listed None = []
listed (Some c) = c ∷ []

-- the call that a deletion or a cancel ends
abbrev pub ended_by : PlainPend → Req → Option NetCall
ended_by p (UdpDelCep cep) = call_found (named p true cep All)
ended_by p (UdpCanCep cep func) = call_found (named p true cep func)
ended_by p _ = None

-- the receive that waits at the end point of this id
abbrev pub receive_at : PlainPend → ℕ → Option NetCall
receive_at p id = call_found (at_slot p (slot_of (record { 0 = id }) UdpRcv))

-- the receives that wait at the end points of lower ids
abbrev pub receives_below : PlainPend → ℕ → List NetCall
receives_below p zero = []
receives_below p (suc id) = receives_below p id ++ listed (receive_at p id)

-- all receives that wait: the end points have ids from 1 to 16
unfoldable pub all_receives : PlainPend → List NetCall
all_receives p = receives_below p 17

-- ---- who is told

-- the task that is told of the end of a call, if one is
abbrev pub task_told : Who → Option TaskId
task_told (whos.Task t) = Some t
task_told (whos.Callback t cbr) = None

abbrev pub task_of : Option NetCall → Option TaskId
task_of None = None
task_of (Some c) = task_told c.who

-- the task that is told of the end of the call of this number, which is one of these
abbrev pub task_by : List NetCall → CallNo → Option TaskId
task_by callers number = task_of (find (has_number number) callers)

-- these calls tell who is told of the ends
abbrev pub TellWho : List NetCall → List NetEnd → Type 0
TellWho callers ends = AllByRecursion (λ e. task_by callers e.call ≡ task_told e.who) ends

-- ---- the tasks that are told

-- the task waits no longer, and holds the answer
abbrev pub woken_with : PlainNode → Option TaskId → CallEnd → PlainNode
woken_with n None e = n
woken_with n (Some t) e = record n { kernel = (unblocked n.kernel t).0; held = slice_set n.held t.0 (Some (record { code = e.code; bytes = e.bytes })) }

abbrev pub woken_one : List NetCall → PlainNode → CallEnd → PlainNode
woken_one callers n e = woken_with n (task_by callers e.call) e

-- the same for all ends, one after another
abbrev pub woken_all : List NetCall → PlainNode → List CallEnd → PlainNode
woken_all callers n [] = n
woken_all callers n (e ∷ es) = woken_all callers (woken_one callers n e) es
