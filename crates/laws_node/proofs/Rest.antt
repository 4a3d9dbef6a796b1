-- Each event leaves a node with handlers at rest, with its end points as they are to be.
use Rattle.std.proofs.Common.{◌≡◌, ℕ, zero, suc, ◌≤◌, Bool, true, false, List, [], ◌∷◌, length, Option, Some, None, refl, inl, inr, arith}
use Rattle.std.proofs.lemmas.Bool.{cases_Bool}
use Rattle.std.proofs.lemmas.List.{nil_from_length}
use Rattle.it_types.specs.declared.id.TaskId.{TaskId}
use Rattle.it_types.specs.declared.id.ObjId.{ObjId}
use Rattle.it_types.specs.declared.id.CallNo.{CallNo}
use Rattle.it_types.specs.declared.context.Ctx.{Ctx}
use Rattle.it_types.specs.declared.conf.KConf.{KConf}
use Rattle.it_types.specs.declared.handler.Handler.{Handler}
use Rattle.it_types.specs.declared.kernel_request.KReq.{KReq}
use Rattle.it_types.specs.declared.request.Req.{Req}
use Rattle.it_types.specs.Callers.{caller}
use Rattle.it_types.specs.Requests.{kernel_of, timeout_of}
use Rattle.spec_lists.proofs.Firsts.{cases_of_first}
use Rattle.spec_kernel.specs.declared.outcome.KEnd.{KEnd}
use Rattle.spec_kernel.specs.PlainKernel.{PlainKernel}
use Rattle.spec_kernel.specs.Settle.{Outcome, AtRest}
use Rattle.spec_kernel.specs.Time.{NoneIsPast, due}
use Rattle.spec_kernel.specs.Rows as kernel_rows
use Rattle.spec_pend.specs.declared.call.Who.{Who}
use Rattle.spec_pend.specs.declared.call.Who.TheVariants as whos
use Rattle.spec_pend.specs.declared.answer.NetEnd.{NetEnd}
use Rattle.spec_pend.specs.declared.answer.NetAnswer.{NetAnswer}
use Rattle.spec_pend.specs.declared.answer.NetAnswer.TheVariants as net_answers
use Rattle.spec_udp.specs.PlainUdps.{UdpSide, UdpOutcome}
use Rattle.spec_udp.specs.Rows.{udp_call}
use Rattle.spec_udp.specs.Arrival.{arrive}
use Rattle.spec_udp.specs.Outside.{ended}
use Rattle.spec_node.specs.declared.event.NodeEv.{NodeEv}
use Rattle.spec_node.specs.declared.event.NodeEv.TheVariants.{Call, Return, Begin, Finish, Tick, Arrive}
use Rattle.spec_node.specs.PlainNode.{PlainNode, opened_node}
use Rattle.spec_node.specs.Handlers.{due_at}
use Rattle.spec_node.specs.Progress.{Progress, woken_for, woken_by, after_end, after_ends, after_kernel, time_out, timed_out}
use Rattle.spec_node.specs.NodeStep.{beginning, blocked_where, next_number, kernel_called, network_called, called_as, arrived, tick_beginning, ticked, returned, begun, finished, node_step}
use Rattle.spec_node.specs.Admitted.{is_admitted}
use Rattle.spec_node.proofs.Progressing.{after_kernel-waits_le}
use Rattle.laws_kernel.proofs.Resting.{due_rests, blocked_rests, unblocked_rests}
use Rattle.laws_kernel.proofs.Settling.{call_rests, tick_rests}
use Rattle.laws_kernel.proofs.Timing.{due_past, due_shorter, blocked_none_past, unblocked_none_past}
use Rattle.laws_kernel.proofs.Unpast.{call_none_past}
use Rattle.laws_node.specs.Taken.{taken, Along}
use Rattle.laws_node.specs.EndPoints.{HasKeptPoints}
use Rattle.laws_node.specs.AtRest.{NodeRests}
use Rattle.laws_node.proofs.KeepingRows.{RestsKept, udp_call_kept, ended_kept, arrive_kept, points_kept, opened_kept}

-- ---- waking tasks

woken_for_rests : (k : PlainKernel) (who : Who) → AtRest k → AtRest (woken_for k who)
woken_for_rests k (whos.Task t) rest = unblocked_rests k t rest
woken_for_rests k (whos.Callback t cbr) rest = rest

woken_by_rests : (k : PlainKernel) (es : List NetEnd) → AtRest k → AtRest (woken_by k es)
woken_by_rests k [] rest = rest
woken_by_rests k (e ∷ es) rest = woken_by_rests (woken_for k e.who) es (woken_for_rests k e.who rest)

woken_for_none_past : (k : PlainKernel) (who : Who) → NoneIsPast k → NoneIsPast (woken_for k who)
woken_for_none_past k (whos.Task t) past = unblocked_none_past k t past
woken_for_none_past k (whos.Callback t cbr) past = past

woken_by_none_past : (k : PlainKernel) (es : List NetEnd) → NoneIsPast k → NoneIsPast (woken_by k es)
woken_by_none_past k [] past = past
woken_by_none_past k (e ∷ es) past = woken_by_none_past (woken_for k e.who) es (woken_for_none_past k e.who past)

blocked_where_rests : (answer : NetAnswer) (k : PlainKernel) (ctx : Ctx) (request : Req) (number : CallNo) → AtRest k → AtRest (blocked_where answer k ctx request number)
blocked_where_rests net_answers.Pends k ctx request number rest = blocked_rests k (caller ctx) (timeout_of request) number rest
blocked_where_rests net_answers.Later k ctx request number rest = rest
blocked_where_rests (net_answers.Now code bytes) k ctx request number rest = rest
blocked_where_rests net_answers.Quiet k ctx request number rest = rest

blocked_where_none_past : (answer : NetAnswer) (k : PlainKernel) (ctx : Ctx) (request : Req) (number : CallNo) → NoneIsPast k → NoneIsPast (blocked_where answer k ctx request number)
blocked_where_none_past net_answers.Pends k ctx request number past = blocked_none_past k (caller ctx) (timeout_of request) number past
blocked_where_none_past net_answers.Later k ctx request number past = past
blocked_where_none_past (net_answers.Now code bytes) k ctx request number past = past
blocked_where_none_past net_answers.Quiet k ctx request number past = past

-- ---- ends that the kernel made

-- no call of either part is ready
record PartsRest (p : Progress) : Type 0 where
  kernel : AtRest p.kernel
  net : RestsKept p.net

after_end_rests : (p : Progress) (e : KEnd) → PartsRest p → PartsRest (after_end p e)
after_end_rests p e rest = elim (cases_Bool e.outside) [
  | inl t ↦ rw t (record { kernel = woken_by_rests p.kernel (ended p.net e.call e.code).endings.ends rest.kernel; net = ended_kept p.net rest.net e.call e.code })
  | inr t ↦ rw t (record { kernel = rest.kernel; net = rest.net })
]

after_ends_rests : (p : Progress) (es : List KEnd) → PartsRest p → PartsRest (after_ends p es)
after_ends_rests p [] rest = rest
after_ends_rests p (e ∷ es) rest = after_ends_rests (after_end p e) es (after_end_rests p e rest)

after_kernel_rests : (p : Progress) (o : Outcome) → AtRest o.kernel → RestsKept p.net → PartsRest (after_kernel p o)
unfolding after_kernel
after_kernel_rests p o kernel net = after_ends_rests (record p { kernel = o.kernel }) o.ends (record { kernel = kernel; net = net })

after_end_none_past : (p : Progress) (e : KEnd) → NoneIsPast p.kernel → NoneIsPast (after_end p e).kernel
after_end_none_past p e past = elim (cases_Bool e.outside) [
  | inl t ↦ rw t (woken_by_none_past p.kernel (ended p.net e.call e.code).endings.ends past)
  | inr t ↦ rw t past
]

after_ends_none_past : (p : Progress) (es : List KEnd) → NoneIsPast p.kernel → NoneIsPast (after_ends p es).kernel
after_ends_none_past p [] past = past
after_ends_none_past p (e ∷ es) past = after_ends_none_past (after_end p e) es (after_end_none_past p e past)

after_kernel_none_past : (p : Progress) (o : Outcome) → NoneIsPast o.kernel → NoneIsPast (after_kernel p o).kernel
unfolding after_kernel
after_kernel_none_past p o past = after_ends_none_past (record p { kernel = o.kernel }) o.ends past

-- ---- ends by time

-- after as many turns as calls wait, no deadline is past
time_out_none_past : (n : ℕ) (p : Progress) → length p.kernel.waits ≤ n → NoneIsPast (time_out n p).kernel
unfolding time_out
time_out_none_past zero p le = let none : p.kernel.waits ≡ [] = nil_from_length p.kernel.waits (omega arith) in rw none refl
time_out_none_past (suc n) p le = elim (cases_of_first (due p.kernel)) [
  | inl e ↦ rw e (due_past p.kernel e)
  | inr o ↦ rw o.1 (time_out_none_past n (after_kernel p o.0) (omega (arith, after_kernel-waits_le p o.0, due_shorter p.kernel o.0 o.1)))
]

-- where no call is ready, none is afterwards
time_out_rests : (n : ℕ) (p : Progress) → PartsRest p → PartsRest (time_out n p)
unfolding time_out
time_out_rests zero p rest = rest
time_out_rests (suc n) p rest = elim (cases_of_first (due p.kernel)) [
  | inl e ↦ rw e rest
  | inr o ↦ rw o.1 (time_out_rests n (after_kernel p o.0) (after_kernel_rests p o.0 (due_rests p.kernel o.0 o.1) rest.net))
]

timed_out_none_past : (p : Progress) → NoneIsPast (timed_out p).kernel
unfolding timed_out
timed_out_none_past p = time_out_none_past (length p.kernel.waits) p (omega arith)

timed_out_rests : (p : Progress) → PartsRest p → PartsRest (timed_out p)
unfolding timed_out
timed_out_rests p rest = time_out_rests (length p.kernel.waits) p rest

-- ---- the events

-- what is kept from event to event
pub record Rests (n : PlainNode) : Type 0 where
  pub kernel : AtRest n.kernel
  pub past : NoneIsPast n.kernel
  pub net : RestsKept n.net

kernel_called_rests : (n : PlainNode) (ctx : Ctx) (request : KReq) → Rests n → Rests (kernel_called n ctx request).0
unfolding kernel_called
kernel_called_rests n ctx request rest =
    let o : Outcome = kernel_rows.call n.kernel ctx request (next_number n) in
    let parts = after_kernel_rests (beginning n) o (call_rests n.kernel ctx request (next_number n)) rest.net in
    record { kernel = parts.kernel; past = after_kernel_none_past (beginning n) o (call_none_past n.kernel ctx request (next_number n) rest.past); net = parts.net }

network_called_rests : (n : PlainNode) (ctx : Ctx) (request : Req) → Rests n → Rests (network_called n ctx request).0
unfolding network_called
network_called_rests n ctx request rest =
    let o : UdpOutcome = udp_call n.net ctx request (next_number n) in
    let start : PlainKernel = blocked_where o.answer n.kernel ctx request (next_number n) in
    record {
      kernel = woken_by_rests start o.endings.ends (blocked_where_rests o.answer n.kernel ctx request (next_number n) rest.kernel);
      past = woken_by_none_past start o.endings.ends (blocked_where_none_past o.answer n.kernel ctx request (next_number n) rest.past);
      net = udp_call_kept n.net rest.net ctx request (next_number n);
    }

called_rests : (n : PlainNode) (ctx : Ctx) (request : Req) (call : Option KReq) → Rests n → Rests (called_as n ctx request call).0
called_rests n ctx request (Some call) rest = kernel_called_rests n ctx call rest
called_rests n ctx request None rest = network_called_rests n ctx request rest

arrived_rests : (n : PlainNode) (bytes : List ℕ) → Rests n → Rests (arrived n bytes).0
unfolding arrived
arrived_rests n bytes rest = record {
  kernel = woken_by_rests n.kernel (arrive n.net bytes).endings.ends rest.kernel;
  past = woken_by_none_past n.kernel (arrive n.net bytes).endings.ends rest.past;
  net = arrive_kept n.net rest.net bytes;
}

-- the handlers that are due don't matter
due_kept : (s : UdpSide) (handlers : List Handler) → RestsKept s → RestsKept (due_at s handlers)
due_kept s handlers h = record { rests = h.rests; kept = h.kept }

ticked_rests : (n : PlainNode) → Rests n → Rests (ticked n).0
unfolding ticked
ticked_rests n rest =
    let o : Outcome = kernel_rows.tick n.kernel in
    let first : Progress = after_kernel (tick_beginning n) o in
    let parts = timed_out_rests first (after_kernel_rests (tick_beginning n) o (tick_rests n.kernel) (due_kept n.net _ rest.net)) in
    record { kernel = parts.kernel; past = timed_out_none_past first; net = parts.net }

returned_rests : (n : PlainNode) (task : TaskId) → Rests n → Rests (returned n task).0
unfolding returned
returned_rests n task rest = record { kernel = rest.kernel; past = rest.past; net = rest.net }

begun_rests : (n : PlainNode) → Rests n → Rests (begun n).0
unfolding begun
begun_rests n rest = record { kernel = rest.kernel; past = rest.past; net = due_kept n.net _ rest.net }

finished_rests : (n : PlainNode) → Rests n → Rests (finished n).0
unfolding finished
finished_rests n rest = record { kernel = rest.kernel; past = rest.past; net = rest.net }

-- each event keeps it, admitted or not
pub step_rests : (n : PlainNode) (event : NodeEv) → Rests n → Rests (node_step n event).0
unfolding node_step
step_rests n (Call ctx request) rest = called_rests n ctx request (kernel_of request) rest
step_rests n (Return task) rest = returned_rests n task rest
step_rests n Begin rest = begun_rests n rest
step_rests n Finish rest = finished_rests n rest
step_rests n Tick rest = ticked_rests n rest
step_rests n (Arrive bytes) rest = arrived_rests n bytes rest

-- ---- any list of events

taken_rests : (n : PlainNode) (event : NodeEv) → Rests n → Rests (taken n event)
taken_rests n event rest = go (is_admitted n event)
  where
    go : (b : Bool) → Rests (elim b [ true ↦ (node_step n event).0 | false ↦ n ])
    go true = step_rests n event rest
    go false = rest

pub opening_rests : (conf : KConf) (addr : ℕ) (routines : List ObjId) → Rests (opened_node conf addr routines)
opening_rests conf addr routines = record { kernel = refl; past = refl; net = record { rests = refl; kept = opened_kept addr routines } }

-- what follows from it holds before and after each event
rests_along : (P : PlainNode → Type 0) → ((n : PlainNode) → Rests n → P n) → (n : PlainNode) (es : List NodeEv) → Rests n → Along P n es
rests_along P follows n [] rest = follows n rest
rests_along P follows n (e ∷ es) rest = (follows n rest, rests_along P follows (taken n e) es (taken_rests n e rest))

pub node_rests : (n : PlainNode) → Rests n → NodeRests n
node_rests n rest = record { none_ready = rest.kernel; none_past = rest.past; none_met = rest.net.rests; points = points_kept n.net rest.net }

pub rests_from_opening : (conf : KConf) (addr : ℕ) (routines : List ObjId) (es : List NodeEv) → Along NodeRests (opened_node conf addr routines) es
rests_from_opening conf addr routines es = rests_along NodeRests node_rests (opened_node conf addr routines) es (opening_rests conf addr routines)

pub kept_from_opening : (conf : KConf) (addr : ℕ) (routines : List ObjId) (es : List NodeEv) → Along HasKeptPoints (opened_node conf addr routines) es
kept_from_opening conf addr routines es = rests_along HasKeptPoints (λ n rest. points_kept n.net rest.net) (opened_node conf addr routines) es (opening_rests conf addr routines)
