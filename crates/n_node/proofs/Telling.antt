-- What an event tells at its end, and the node then: the step of the event.
use Rattle.std.proofs.Common.{◌≡◌, ℕ, ◌+◌, List, [], ◌++◌, map, Option, None, refl, ap, sym, subst, ◌∙◌, add-zero}
use Rattle.std.specs.Prelude.{slice_set}
use Rattle.std.proofs.lemmas.List.{append-nil}
use Rattle.it_types.specs.declared.id.TaskId.{TaskId}
use Rattle.it_types.specs.declared.id.ObjId.{ObjId}
use Rattle.it_types.specs.declared.context.Ctx.{Ctx}
use Rattle.it_types.specs.declared.handler.Handler.{Handler}
use Rattle.it_types.specs.declared.timeout.Tmo.{Tmo}
use Rattle.it_types.specs.declared.kernel_request.KReq.{KReq}
use Rattle.it_types.specs.declared.request.Req.{Req}
use Rattle.it_types.specs.declared.mark.Mark.{Mark}
use Rattle.it_types.specs.declared.answer.Ans.{Ans}
use Rattle.it_types.specs.declared.answer.Ans.TheVariants.{Quiet}
use Rattle.it_types.specs.declared.entry.CallEnd.{CallEnd}
use Rattle.it_types.specs.declared.entry.Out.{Out}
use Rattle.it_types.specs.Callers.{caller, nobody}
use Rattle.it_types.specs.Requests.{timeout_of}
use Rattle.spec_kernel.specs.PlainClock.{due_at_tick}
use Rattle.spec_kernel.specs.PlainKernel.{PlainKernel}
use Rattle.spec_kernel.specs.Rows.{call, tick}
use Rattle.spec_lists.specs.Tables.{get}
use Rattle.spec_pend.specs.declared.call.NetCall.{NetCall}
use Rattle.spec_pend.specs.PlainPend.{PlainPend}
use Rattle.spec_pend.specs.Ends.{first_due, without_first_due}
use Rattle.spec_pend.specs.Outs.{shown_answer, shown_end}
use Rattle.spec_udp.specs.PlainUdps.{UdpSide, UdpOutcome}
use Rattle.spec_udp.specs.Rows.{udp_call}
use Rattle.spec_udp.specs.Arrival.{arrive}
use Rattle.k_core.specs.Kernel as kernel
use Rattle.k_core.specs.declared.done.Done.{Done}
use Rattle.e_udp.specs.Does.{Does, side, no_number}
use Rattle.spec_node.specs.declared.held.Held.{Held}
use Rattle.spec_node.specs.declared.event.NodeEv.TheVariants.{Return, Begin, Finish, Tick, Arrive}
use Rattle.spec_node.specs.PlainNode.{PlainNode, running_in}
use Rattle.spec_node.specs.Handlers.{with_cyclics, due_at, entered_marks}
use Rattle.spec_node.specs.Progress.{Progress, after_net, after_ends, after_kernel, timed_out}
use Rattle.spec_node.specs.NodeStep.{beginning, tick_beginning, next_number, drawn, kernel_answer, forgetting, gone_marks, begun_marks, run_marks, node_after, out_of, done, kernel_called, network_called, arrived, ticked, returned, begun, finished, held_answer, told_only, node_step}
use Rattle.n_node.specs.declared.parts.Parts.{Parts}
use Rattle.n_node.specs.declared.told.Told.{Told}
use Rattle.n_node.specs.Plain.{plain}
use Rattle.n_node.specs.Callers.{TellWho, woken_all}
use Rattle.n_node.specs.Coming.{Comes, Moves, Adds, blocked_at, network_done}
use Rattle.n_node.proofs.Answering.{arrive_quiet, blocked_same}
use Rattle.n_node.proofs.Moving.{after_net_comes}

-- all that was told by an event with this answer
abbrev pub all_told : Ans → Told → TaskId → TaskId → TaskId → TaskId → Out
all_told answer told gone begun first last = record { ans = answer; ends = told.ends; marks = gone_marks gone ++ (begun_marks begun ++ (told.marks ++ run_marks first last)); packs = told.packs }

-- nothing was told at the start of an event
pub record Empty (told : Told) : Type 0 where
  pub ends : told.ends ≡ []
  pub marks : told.marks ≡ []
  pub packets : told.packs ≡ []

done_told : (start : PlainNode) (answer : Ans) (gone begun first last : TaskId) (p : Progress) (before : Told) (middle after : Parts) (told : Told) (out : Out)
    → Comes start answer before p middle told
    → plain after ≡ record (plain middle) { held = forgetting gone middle.held.items }
    → Empty before
    → first ≡ running_in start.kernel
    → last ≡ running_in after.kernel
    → out ≡ all_told answer told gone begun first last
    → done start answer gone begun p ≡ (plain after, out)
done_told start answer gone begun first last p before middle after told out h forgot empty f l o =
    let ends : told.ends ≡ map shown_end p.ends = h.ends ∙ ap (λ (es : List CallEnd). es ++ map shown_end p.ends) empty.ends in
    let marks : told.marks ≡ p.marks = h.marks ∙ ap (λ (ms : List Mark). ms ++ p.marks) empty.marks in
    let packets : told.packs ≡ p.packets = h.packets ∙ ap (λ (ps : List (List ℕ)). ps ++ p.packets) empty.packets in
    let node : plain after ≡ node_after start answer gone p = forgot ∙ ap (λ (n : PlainNode). record n { held = forgetting gone n.held }) h.node in
    let runs : last ≡ running_in p.kernel = l ∙ ap (λ (n : PlainNode). running_in n.kernel) node in
    let whole : all_told answer told gone begun first last ≡ out_of start answer gone begun p = rw (ends, marks, packets, f, runs) refl in
    ap (λ (n : PlainNode). (n, out_of start answer gone begun p)) (sym node) ∙ ap (λ (w : Out). (plain after, w)) (sym (o ∙ whole))

-- at the start of an event nothing has come yet
at_start : (start : PlainNode) (middle : Parts) (answer : Ans) (told : Told) (kernel : PlainKernel) (net : UdpSide)
    → plain middle ≡ record start { kernel = kernel; net = net; calls = start.calls + drawn answer }
    → Comes start answer told (record (beginning start) { kernel = kernel; net = net }) middle told
at_start start middle answer told kernel net node = record { node = node; ends = sym (append-nil told.ends); marks = sym (append-nil told.marks); packets = sym (append-nil told.packs) }

-- an event that draws no number
no_number_drawn : (start : PlainNode) (middle : Parts) (kernel : PlainKernel) (net : UdpSide)
    → plain middle ≡ record start { kernel = kernel; net = net }
    → plain middle ≡ record start { kernel = kernel; net = net; calls = start.calls + drawn Quiet }
no_number_drawn start middle kernel net node = node ∙ ap (λ (calls : ℕ). record start { kernel = kernel; net = net; calls = calls }) (sym (add-zero start.calls))

-- a call of the kernel
pub kernel_told : (start middle before after : Parts) (told told_after : Told) (ctx : Ctx) (first last : TaskId) (request : KReq) (work : Done) (answer : Ans) (out : Out)
    → kernel.DoesWhole middle.kernel work (call start.kernel ctx request (next_number (plain start)))
    → answer ≡ kernel_answer (start.calls + 1) work.ans
    → plain middle ≡ record (plain start) { kernel = middle.kernel; calls = start.calls + drawn answer }
    → Moves middle told before told_after (λ p. after_ends p work.ends.items)
    → plain after ≡ record (plain before) { held = forgetting work.gone before.held.items }
    → Empty told
    → first ≡ running_in start.kernel
    → last ≡ running_in after.kernel
    → out ≡ all_told answer told_after work.gone work.begun first last
    → kernel_called (plain start) ctx request ≡ (plain after, out)
unfolding kernel_called after_kernel
kernel_told start middle before after told told_after ctx first last request work answer out does a node move forgot empty f l o =
    let begun : Progress = record (beginning (plain start)) { kernel = middle.kernel } in
    let come = move (plain start) answer told begun (at_start (plain start) middle answer told middle.kernel (plain start).net node) in
    rw (← does.answer, ← does.gone, ← does.begun, ← does.ends, ← does.kernel, ← a)
    (done_told (plain start) answer work.gone work.begun first last (after_ends begun work.ends.items) told before after told_after out come forgot empty f l o)

-- a call of the network part, of which the end points have done their part
pub network_told : (start middle after : Parts) (told told_after : Told) (callers : List NetCall) (by first last : TaskId) (tmo : Tmo) (work : Out) (o : UdpOutcome) (answer : Ans) (out : Out)
    → answer ≡ work.ans
    → plain middle ≡ record (plain start) { kernel = blocked_at work.ans start.kernel by tmo; calls = start.calls + drawn work.ans }
    → plain after ≡ woken_all callers (plain middle) work.ends
    → Adds told work.ends work.marks work.packs told_after
    → Empty told
    → first ≡ running_in start.kernel
    → last ≡ running_in after.kernel
    → out ≡ all_told answer told_after nobody nobody first last
    → Does (side start.udps start.pend) (next_number (plain start)) work o
    → TellWho callers o.endings.ends
    → network_done (plain start) o by tmo ≡ (plain after, out)
network_told start middle after told told_after callers by first last tmo work o answer out a node woken adds empty f l told_out does who =
    let shown : Ans = shown_answer (next_number (plain start)) o.answer in
    let same : work.ans ≡ shown = ap (λ (w : Out). w.ans) does.told in
    let kernel : PlainKernel = blocked_at shown start.kernel by tmo in
    let at : plain middle ≡ record (plain start) { kernel = kernel; calls = start.calls + drawn shown } = node ∙ ap (λ (w : Ans). record (plain start) { kernel = blocked_at w start.kernel by tmo; calls = start.calls + drawn w }) same in
    let net : side middle.udps middle.pend ≡ side start.udps start.pend = ap (λ (n : PlainNode). n.net) node in
    let begun : Progress = record (beginning (plain start)) { kernel = kernel } in
    let come = after_net_comes (plain start) shown told begun middle middle after told told_after callers (next_number (plain start)) work o (at_start (plain start) middle shown told kernel (plain start).net at) refl (subst (λ (s : UdpSide). Does s (next_number (plain start)) work o) (sym net) does) who woken adds in
    done_told (plain start) shown nobody nobody first last (after_net begun o) told after after told_after out come refl empty f l (told_out ∙ ap (λ (w : Ans). all_told w told_after nobody nobody first last) (a ∙ same))

-- so it is the step of the call, which doesn't read the network part but through the outcome
pub network_step : (start middle after : Parts) (ctx : Ctx) (request : Req) (out : Out)
    → plain middle ≡ record (plain start) { net = side middle.udps middle.pend }
    → network_done (plain middle) (udp_call (side start.udps start.pend) ctx request (next_number (plain start))) (caller ctx) (timeout_of request) ≡ (plain after, out)
    → network_called (plain start) ctx request ≡ (plain after, out)
unfolding network_called
network_step start middle after ctx request out node finished =
    let o : UdpOutcome = udp_call (side start.udps start.pend) ctx request (next_number (plain start)) in
    rw (blocked_same o.answer start.kernel ctx request (next_number (plain start))) (ap (λ (n : PlainNode). network_done n o (caller ctx) (timeout_of request)) (sym node) ∙ finished)

-- a tick
pub tick_told : (start middle after : Parts) (told told_after : Told) (first last : TaskId) (out : Out)
    → middle.kernel ≡ (tick start.kernel).kernel
    → (tick start.kernel).ends ≡ []
    → plain middle ≡ record (plain start) { kernel = middle.kernel; net = due_at (plain start).net (with_cyclics start.pend.due (due_at_tick start.kernel.clock)) }
    → Moves middle told after told_after timed_out
    → Empty told
    → first ≡ running_in start.kernel
    → last ≡ running_in after.kernel
    → out ≡ all_told Quiet told_after nobody nobody first last
    → node_step (plain start) Tick ≡ (plain after, out)
unfolding node_step ticked after_kernel
tick_told start middle after told told_after first last out kernel ends node move empty f l o =
    let begun : Progress = record (tick_beginning (plain start)) { kernel = middle.kernel } in
    let come = move (plain start) Quiet told begun (at_start (plain start) middle Quiet told middle.kernel begun.net (no_number_drawn (plain start) middle middle.kernel begun.net node)) in
    rw (ends, ← kernel) (done_told (plain start) Quiet nobody nobody first last (timed_out begun) told after after told_after out come refl empty f l o)

-- the parts after the cyclic handlers have come due
pub ticked_at : (start : Parts) (kernel : PlainKernel) (pend : PlainPend) (cycs : List ObjId)
    → pend ≡ record start.pend { due = with_cyclics start.pend.due cycs }
    → cycs ≡ due_at_tick start.kernel.clock
    → plain (record start { kernel = kernel; pend = pend }) ≡ record (plain start) { kernel = kernel; net = due_at (plain start).net (with_cyclics start.pend.due (due_at_tick start.kernel.clock)) }
ticked_at start kernel pend cycs p e =
    ap (λ (w : PlainPend). plain (record start { kernel = kernel; pend = w })) (p ∙ ap (λ (cs : List ObjId). record start.pend { due = with_cyclics start.pend.due cs }) e)

-- an arrival
pub arrival_told : (start middle after : Parts) (told told_after : Told) (callers : List NetCall) (first last : TaskId) (bytes : List ℕ) (work : Out) (answer : Ans) (out : Out)
    → Does (side middle.udps middle.pend) no_number work (arrive (side start.udps start.pend) bytes)
    → plain middle ≡ record (plain start) { net = side middle.udps middle.pend }
    → TellWho callers (arrive (side start.udps start.pend) bytes).endings.ends
    → plain after ≡ woken_all callers (plain middle) work.ends
    → Adds told work.ends work.marks work.packs told_after
    → Empty told
    → first ≡ running_in start.kernel
    → last ≡ running_in after.kernel
    → answer ≡ work.ans
    → out ≡ all_told answer told_after nobody nobody first last
    → node_step (plain start) (Arrive bytes) ≡ (plain after, out)
unfolding node_step arrived
arrival_told start middle after told told_after callers first last bytes work answer out does node who woken adds empty f l a o =
    let begun : Progress = beginning (plain start) in
    let come = after_net_comes (plain start) Quiet told begun start middle after told told_after callers no_number work (arrive (side start.udps start.pend) bytes) (at_start (plain start) start Quiet told start.kernel begun.net (no_number_drawn (plain start) start start.kernel begun.net refl)) node does who woken adds in
    let quiet : answer ≡ Quiet = a ∙ ap (λ (w : Out). w.ans) does.told ∙ ap (shown_answer no_number) (arrive_quiet (side start.udps start.pend) bytes) in
    done_told (plain start) Quiet nobody nobody first last (after_net begun (arrive (side start.udps start.pend) bytes)) told after after told_after out come refl empty f l (o ∙ ap (λ (w : Ans). all_told w told_after nobody nobody first last) quiet)

-- ---- events in which no call ends

pub node_returned : (n : PlainNode) (task : TaskId) (found : Option Held) (rest : List (Option Held)) (answer : Ans)
    → found ≡ get n.held task.0
    → rest ≡ slice_set n.held task.0 None
    → answer ≡ held_answer found
    → node_step n (Return task) ≡ (record n { held = rest }, told_only answer [])
unfolding node_step returned
node_returned n task found rest answer f r a = rw (a, f, r) refl

pub handler_ended : (n : PlainNode) (marks : List Mark) (out : Out) → marks ≡ [] → out ≡ told_only Quiet marks → node_step n Finish ≡ (record n { begun = None }, out)
unfolding node_step finished
handler_ended n marks out none o = rw (o, none) refl

pub handler_begun : (n : PlainNode) (pend : PlainPend) (handler : Option Handler) (marks : List Mark) (out : Out)
    → handler ≡ first_due n.net.pend.due
    → pend ≡ without_first_due n.net.pend
    → marks ≡ entered_marks handler
    → out ≡ told_only Quiet marks
    → node_step n Begin ≡ (record n { net = record n.net { pend = pend }; begun = handler }, out)
unfolding node_step begun
handler_begun n pend handler marks out first rest m o = rw (o, m, rest, first) refl
