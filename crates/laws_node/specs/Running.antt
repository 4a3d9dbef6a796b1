-- What holds of the tasks of a node that are runnable, and of the one that runs. It is this project's own.
use Rattle.std.specs.Prelude.{◌≡◌, ℕ, Bool}
use Rattle.spec_kernel.specs.Standing.{IsStanding}
use Rattle.spec_pend.specs.declared.call.NetCall.{NetCall}
use Rattle.spec_node.specs.PlainNode.{PlainNode, running_task}
use Rattle.laws_node.specs.Agreement.{times, times_waiting, tells}

-- the tasks and calls of the node's kernel stand as they are to
abbrev pub Stands : PlainNode → Type 0
Stands n = IsStanding n.kernel

-- this task waits for the call
abbrev pub is_told : ℕ → NetCall → Bool
is_told id c = tells id c.who

-- the running task waits for no call of either part
pub record RunsFree (n : PlainNode) : Type 0 where
  pub in_kernel : times_waiting (running_task n).0 n.kernel.waits ≡ 0
  pub in_net : times (is_told (running_task n).0) n.net.pend.calls ≡ 0
