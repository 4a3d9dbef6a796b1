-- One node: its kernel and its network part, the answers that its tasks have not taken yet, the handler that has
-- begun, and the numbers of its calls. It is this project's own.
use Rattle.std.specs.Prelude.{ℕ, Bool, List, Option, None, is_some}
use Rattle.it_types.specs.declared.id.TaskId.{TaskId}
use Rattle.it_types.specs.declared.id.ObjId.{ObjId}
use Rattle.it_types.specs.declared.conf.KConf.{KConf}
use Rattle.it_types.specs.declared.handler.Handler.{Handler}
use Rattle.spec_lists.specs.Tables.{get, empty_table}
use Rattle.spec_kernel.specs.Ids.{greatest_id}
use Rattle.spec_kernel.specs.PlainTasks.{running}
use Rattle.spec_kernel.specs.PlainKernel.{PlainKernel, tasks_of}
use Rattle.spec_kernel.specs.Opening.{opened}
use Rattle.spec_pend.specs.PlainPend.{opened_pend}
use Rattle.spec_pend.specs.Ends.{first_due}
use Rattle.spec_udp.specs.PlainUdps.{UdpSide, opened_udps}
use Rattle.spec_node.specs.declared.held.Held.{Held}

pub record PlainNode : Type 0 where
  pub kernel : PlainKernel
  pub net : UdpSide  -- with the handlers that are due
  pub held : List (Option Held)  -- by task id
  pub begun : Option Handler  -- the handler that has begun and not ended yet
  pub calls : ℕ  -- the call numbers drawn so far

abbrev pub running_in : PlainKernel → TaskId
running_in k = running (tasks_of k)

-- the running task, or nobody
abbrev pub running_task : PlainNode → TaskId
running_task n = running_in n.kernel

abbrev pub holds_answer : PlainNode → TaskId → Bool
holds_answer n task = is_some (get n.held task.0)

abbrev pub has_due : PlainNode → Bool
has_due n = is_some (first_due n.net.pend.due)

abbrev pub has_begun : PlainNode → Bool
has_begun n = is_some n.begun

-- the network part of a node with this address and these callback routines at its opening
abbrev pub opened_net : ℕ → List ObjId → UdpSide
opened_net addr routines = record { udps = opened_udps addr routines; pend = opened_pend }

-- a node with these declarations, this address and these callback routines at its opening
abbrev pub opened_node : KConf → ℕ → List ObjId → PlainNode
opened_node conf addr routines = record { kernel = opened conf; net = opened_net addr routines; held = empty_table greatest_id; begun = None; calls = 0 }
