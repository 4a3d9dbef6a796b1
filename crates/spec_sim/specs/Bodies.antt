-- The bodies of tasks and handlers, and what each does next. It is this project's own.
use Rattle.std.specs.Prelude.{ℕ, zero, suc, ◌+◌, List, [], ◌∷◌, Option, Some, None, ◌==◌, if◌then◌else◌, slice_set}
use Rattle.std.specs.Option.{option_map}
use Rattle.it_types.specs.declared.id.NodeId.{NodeId}
use Rattle.it_types.specs.declared.id.TaskId.{TaskId}
use Rattle.it_types.specs.declared.id.ObjId.{ObjId}
use Rattle.it_types.specs.declared.answer.Ans.{Ans}
use Rattle.it_types.specs.declared.answer.Ans.TheVariants as answers
use Rattle.it_types.specs.declared.context.Ctx.TheVariants as contexts
use Rattle.it_types.specs.declared.er.TheConstants.{E_WBLK}
use Rattle.it_types.specs.declared.event.Event.{Event}
use Rattle.it_types.specs.declared.event.Event.TheVariants as events
use Rattle.it_types.specs.declared.handler.Handler.{Handler}
use Rattle.it_types.specs.declared.handler.Handler.TheVariants as handlers
use Rattle.it_types.specs.declared.mark.Mark.{Mark}
use Rattle.it_types.specs.declared.mark.Mark.TheVariants.{Begun}
use Rattle.it_types.specs.declared.request.Req.{Req}
use Rattle.it_types.specs.declared.request.Req.TheVariants.{ExtTsk}
use Rattle.spec_lists.specs.Tables.{get}
use Rattle.spec_script.specs.declared.decl.Body.{Body}
use Rattle.spec_script.specs.declared.decl.Decl.{Decl}
use Rattle.spec_script.specs.declared.decl.Decl.TheVariants as declarations
use Rattle.spec_script.specs.declared.want.Want.{Want}
use Rattle.spec_script.specs.declared.want.Want.TheVariants as wants
use Rattle.spec_script.specs.Interpreter.{Interpreter, started, up_to_call, wanted, told}

-- ---- bodies

-- the body of a task, if it is declared
abbrev pub body_of : List Decl → TaskId → Option Body
body_of [] task = None
body_of (declarations.Task declared body ∷ ds) task = if declared.id == task.0 then Some body else body_of ds task
body_of (_ ∷ ds) task = body_of ds task

-- the body of a cyclic handler
abbrev pub cyclic_body : List Decl → ObjId → Option Body
cyclic_body [] cyc = None
cyclic_body (declarations.Cyc declared body ∷ ds) cyc = if declared.id == cyc.0 then Some body else cyclic_body ds cyc
cyclic_body (_ ∷ ds) cyc = cyclic_body ds cyc

-- the body of a callback routine
abbrev pub routine_body : List Decl → ObjId → Option Body
routine_body [] cbr = None
routine_body (declarations.Cbr declared body ∷ ds) cbr = if declared.0 == cbr.0 then Some body else routine_body ds cbr
routine_body (_ ∷ ds) cbr = routine_body ds cbr

-- the body of a handler
abbrev pub handler_body : List Decl → Handler → Option Body
handler_body decls (handlers.Cyc cyc) = cyclic_body decls cyc
handler_body decls (handlers.Cbr cbr udp cep func code bytes) = routine_body decls cbr

-- ---- interpreters

-- where the tasks and the handler of a node have come to
pub record Interpreters : Type 0 where
  pub tasks : List (Option Interpreter)  -- by task id, none for a task that isn't declared
  pub handler : Option Interpreter  -- of the handler that has begun last

abbrev pub task_started : NodeId → List Decl → TaskId → Option Interpreter
task_started id decls task = option_map (λ body. started body.lines id task None) (body_of decls task)

-- the tasks of so many ids, from this one on
unfoldable pub tasks_started : NodeId → List Decl → ℕ → ℕ → List (Option Interpreter)
tasks_started id decls zero first = []
tasks_started id decls (suc n) first = task_started id decls (record { 0 = first }) ∷ tasks_started id decls n (first + 1)

-- the handler that has begun
abbrev pub handler_started : NodeId → List Decl → Option Handler → Option Interpreter
handler_started id decls None = None
handler_started id decls (Some h) = option_map (λ body. started body.lines id (record { 0 = 0 }) (Some h)) (handler_body decls h)

-- ---- what is done next

-- a task makes its next call; it doesn't finish, but ends
abbrev pub requested : Want → Req
requested (wants.Call request) = request
requested wants.Finish = ExtTsk

abbrev pub task_request : Option Interpreter → Req
task_request None = ExtTsk
task_request (Some i) = requested (wanted i)

-- a handler makes its next call, or finishes
abbrev pub handler_wants : Option Interpreter → Want
handler_wants None = wants.Finish
handler_wants (Some i) = wanted i

abbrev pub wanted_event : NodeId → Want → Event
wanted_event id (wants.Call request) = events.Call id contexts.Handler request
wanted_event id wants.Finish = events.Finish id

abbrev pub handler_event : NodeId → Option Interpreter → Event
handler_event id i = wanted_event id (handler_wants i)

-- ---- after an event

-- a task that makes its next call has come up to it
abbrev pub tasks_asked : Event → List (Option Interpreter) → List (Option Interpreter)
tasks_asked (events.Call at (contexts.Task task) request) tasks = slice_set tasks task.0 (option_map up_to_call (get tasks task.0))
tasks_asked _ tasks = tasks

-- and so has a handler
abbrev pub handler_asked : Event → Option Interpreter → Option Interpreter
handler_asked (events.Call at contexts.Handler request) handler = option_map up_to_call handler
handler_asked (events.Finish at) handler = option_map up_to_call handler
handler_asked _ handler = handler

-- a call that is accepted and not waited for is answered E_WBLK
abbrev pub answered_by : Ans → Interpreter → Interpreter
answered_by (answers.Now code bytes) i = told code bytes i
answered_by (answers.Later number) i = told E_WBLK [] i
answered_by (answers.Pends number) i = i
answered_by answers.Quiet i = i

-- a task is told the answer of its call at once, or when it returns
abbrev pub tasks_answered : Event → Ans → List (Option Interpreter) → List (Option Interpreter)
tasks_answered (events.Call at (contexts.Task task) request) ans tasks = slice_set tasks task.0 (option_map (answered_by ans) (get tasks task.0))
tasks_answered (events.Return at task) ans tasks = slice_set tasks task.0 (option_map (answered_by ans) (get tasks task.0))
tasks_answered _ ans tasks = tasks

-- a handler is told the answer of its call, and one that begins is before its first line
abbrev pub handler_answered : NodeId → List Decl → Event → Ans → Option Handler → Option Interpreter → Option Interpreter
handler_answered id decls (events.Call at contexts.Handler request) ans begun handler = option_map (answered_by ans) handler
handler_answered id decls (events.Begin at) ans begun handler = handler_started id decls begun
handler_answered id decls _ ans begun handler = handler

-- a task that begins is before the first line of its body
abbrev pub after_mark : NodeId → List Decl → Mark → List (Option Interpreter) → List (Option Interpreter)
after_mark id decls (Begun task) tasks = slice_set tasks task.0 (task_started id decls task)
after_mark id decls _ tasks = tasks

-- so with each mark of an entry, one after another
abbrev pub after_marks : NodeId → List Decl → List Mark → List (Option Interpreter) → List (Option Interpreter)
after_marks id decls [] tasks = tasks
after_marks id decls (m ∷ ms) tasks = after_marks id decls ms (after_mark id decls m tasks)
