-- The parts of the whole kernel side by side, and that they are those of one kernel.
use Rattle.std.specs.Prelude.{ℕ, List}
use Rattle.spec_kernel.specs.declared.reason.WaitingCall.{WaitingCall}
use Rattle.spec_kernel.specs.PlainClock.{PlainClock}
use Rattle.spec_kernel.specs.PlainTasks.{PlainTasks}
use Rattle.spec_kernel.specs.PlainSemaphores.{PlainSemaphores}
use Rattle.spec_kernel.specs.PlainFlags.{PlainFlags}
use Rattle.spec_kernel.specs.PlainQueues.{PlainQueues}
use Rattle.spec_kernel.specs.PlainKernel.{PlainKernel, tasks_of, semaphores_of, flags_of, queues_of}

pub record PlainParts : Type 0 where
  pub clock : PlainClock
  pub tasks : PlainTasks
  pub sems : PlainSemaphores
  pub flags : PlainFlags
  pub dtqs : PlainQueues
  pub waits : List WaitingCall
  pub last_call : ℕ

-- what each part of a kernel sees
abbrev pub parts_of : PlainKernel → PlainParts
parts_of k = record { clock = k.clock; tasks = tasks_of k; sems = semaphores_of k; flags = flags_of k; dtqs = queues_of k; waits = k.waits; last_call = k.last_call }

-- the kernel that parts make up
abbrev pub whole_of : PlainParts → PlainKernel
whole_of p = record {
  clock = p.clock;
  last_call = p.last_call;
  tasks = p.tasks.tasks;
  runnable = p.tasks.runnable;
  objects = record { semaphores = p.sems.semaphores; flags = p.flags.flags; queues = p.dtqs.queues };
  waits = p.waits;
  next_rank = p.tasks.next_rank;
}
