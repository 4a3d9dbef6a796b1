-- The kernel at its opening (µITRON4.0 section 4.1 for the tasks that are active from the start, 4.4 for the objects, 4.7.2 for the
-- cyclic handlers).
use Rattle.std.specs.Prelude.{[]}
use Rattle.it_types.specs.declared.conf.KConf.{KConf}
use Rattle.spec_kernel.specs.TaskOpening.{opened_tasks, AreDeclarable as AreTasks}
use Rattle.spec_kernel.specs.PlainSemaphores.{opened as opened_semaphores, AreDeclarable as AreSemaphores}
use Rattle.spec_kernel.specs.PlainFlags.{opened as opened_flags, AreDeclarable as AreFlags}
use Rattle.spec_kernel.specs.PlainQueues.{opened as opened_queues, AreDeclarable as AreQueues}
use Rattle.spec_kernel.specs.PlainClock.{opened_clock, AreDeclarable as AreCyclicHandlers}
use Rattle.spec_kernel.specs.PlainKernel.{PlainKernel}

abbrev pub opened : KConf → PlainKernel
opened conf = let tasks = opened_tasks conf.tasks.tasks in record {
  clock = opened_clock conf.cycs.cycs;
  last_call = 0;
  tasks = tasks.tasks;
  runnable = tasks.runnable;
  objects = record { semaphores = (opened_semaphores conf.sync).semaphores; flags = (opened_flags conf.sync).flags; queues = (opened_queues conf.sync).queues };
  waits = [];
  next_rank = tasks.next_rank;
}

-- what can be declared: each id of a kind once and in its range, and the ranges of all numbers
pub record IsDeclarable (conf : KConf) : Type 0 where
  pub tasks : AreTasks conf.tasks.tasks
  pub semaphores : AreSemaphores conf.sync.sems
  pub flags : AreFlags conf.sync.flags
  pub queues : AreQueues conf.sync.dtqs
  pub cyclic_handlers : AreCyclicHandlers conf.cycs.cycs
