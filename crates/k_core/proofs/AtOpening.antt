-- The parts of a kernel at its opening: no call waits.
use Rattle.std.proofs.Common.{◌≡◌, Bool, true, false, not, List, [], ◌∷◌, Some, slice_set, refl, ap, ◌∙◌}
use Rattle.it_types.specs.declared.conf.KConf.{KConf}
use Rattle.it_types.specs.declared.conf.TaskDecl.{TaskDecl}
use Rattle.spec_kernel.specs.PlainTasks.{PlainTasks, joining_unless}
use Rattle.spec_kernel.specs.PlainClock.{opened_clock}
use Rattle.spec_kernel.specs.PlainSemaphores.{opened as opened_semaphores}
use Rattle.spec_kernel.specs.PlainFlags.{opened as opened_flags}
use Rattle.spec_kernel.specs.PlainQueues.{opened as opened_queues}
use Rattle.spec_kernel.specs.TaskOpening.{block_at_start, declared, all_declared, no_tasks, opened_tasks}
use Rattle.spec_kernel.specs.Opening.{IsDeclarable, opened}
use Rattle.spec_kernel.specs.Parts.{PlainParts, parts_of}
use Rattle.laws_kernel.proofs.Opened.{opened_stands}
use Rattle.k_core.specs.Tied.{Tied}
use Rattle.k_core.proofs.KernelSteps.{tied}

-- a declared task waits for nothing
nothing_awaited : (d : PlainTasks) (c : TaskDecl) → (declared d c).waits ≡ d.waits
nothing_awaited d c = of (not c.act)
  where
    of : (b : Bool) → (joining_unless b (record d { tasks = slice_set d.tasks c.id (Some (block_at_start c)) }) (record { 0 = c.id })).waits ≡ d.waits
    of true = refl
    of false = refl

none_awaited : (cs : List TaskDecl) (d : PlainTasks) → (all_declared cs d).waits ≡ d.waits
none_awaited [] d = refl
none_awaited (c ∷ cs) d = none_awaited cs (declared d c) ∙ nothing_awaited d c

-- the parts of a kernel with these declarations
abbrev pub parts_at_opening : KConf → PlainParts
parts_at_opening conf = record {
  clock = opened_clock conf.cycs.cycs;
  tasks = opened_tasks conf.tasks.tasks;
  sems = opened_semaphores conf.sync;
  flags = opened_flags conf.sync;
  dtqs = opened_queues conf.sync;
  waits = [];
  last_call = 0;
}

pub opened_tied : (conf : KConf) → IsDeclarable conf → Tied (parts_at_opening conf)
opened_tied conf good = tied (opened conf) agree (opened_stands conf good) refl
  where
    agree : parts_at_opening conf ≡ parts_of (opened conf)
    agree = ap (λ ws. record (parts_of (opened conf)) { tasks = record (opened_tasks conf.tasks.tasks) { waits = ws } }) (none_awaited conf.tasks.tasks no_tasks)
