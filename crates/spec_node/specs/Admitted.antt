-- Which events are admitted at a node. Handlers come before tasks: while one is due or has begun no task calls or returns. A tick
-- and an arrival are admitted always. It is this project's own.
use Rattle.std.specs.Prelude.{Bool, true, not, ◌&&◌, ◌||◌, ◌==◌}
use Rattle.it_types.specs.declared.id.TaskId.{TaskId}
use Rattle.it_types.specs.declared.context.Ctx.TheVariants as contexts
use Rattle.spec_node.specs.declared.event.NodeEv.{NodeEv}
use Rattle.spec_node.specs.declared.event.NodeEv.TheVariants.{Call, Return, Begin, Finish, Tick, Arrive}
use Rattle.spec_node.specs.PlainNode.{PlainNode, running_task, holds_answer, has_due, has_begun}

-- the task runs on the node, and no handler is due or has begun
abbrev pub is_free : PlainNode → TaskId → Bool
is_free n task = not (has_due n || has_begun n) && (not (task.0 == 0) && (running_task n).0 == task.0)

abbrev pub is_admitted : PlainNode → NodeEv → Bool
is_admitted n (Call (contexts.Task task) request) = is_free n task && not (holds_answer n task)
is_admitted n (Call contexts.Handler request) = has_begun n
is_admitted n (Return task) = is_free n task && holds_answer n task
is_admitted n Begin = has_due n && not (has_begun n)
is_admitted n Finish = has_begun n
is_admitted n Tick = true
is_admitted n (Arrive bytes) = true
