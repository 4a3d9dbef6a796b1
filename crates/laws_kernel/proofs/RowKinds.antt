-- What laws need to know of a row, by its kind: that it draws no rank itself, that nobody begins to wait outside by it, and how it ends the call
-- of another task.
use Rattle.std.proofs.Common.{◌≡◌, ℕ, Bool, true, false, not, ◌&&◌, List, [], slice_set, Option, Some, None, refl, ◌∙◌, inl, inr}
use Rattle.std.specs.Prelude.{if◌then◌else◌, nat_lt}
use Rattle.std.proofs.lemmas.Bool.{cases_Bool}
use Rattle.it_types.specs.declared.id.TaskId.{TaskId}
use Rattle.it_types.specs.declared.er.Er.{Er}
use Rattle.it_types.specs.declared.er.TheConstants.{E_OK}
use Rattle.it_types.specs.declared.timeout.Tmo.{Tmo}
use Rattle.it_types.specs.declared.synced.Synced.TheVariants.{Took}
use Rattle.it_types.specs.Callers.{is_poll}
use Rattle.spec_lists.specs.Refusal.{first_refusal}
use Rattle.spec_kernel.specs.declared.task_wait.TaskWait.{TaskWait}
use Rattle.spec_kernel.specs.declared.task_wait.TaskWait.TheVariants.{Sleep}
use Rattle.spec_kernel.specs.declared.reason.WaitReason.TheVariants as reasons
use Rattle.spec_kernel.specs.TaskBlocks.{is_active, is_suspended, wakeups_of, one_wakeup_less}
use Rattle.spec_kernel.specs.PlainTasks.{PlainTasks, block_of, is_waiting, is_asleep, with_task, leaving, joining_unless, released, wakeup_taken, woken, waiting as waiting_task}
use Rattle.spec_kernel.specs.TaskRows.{TaskDone, with_wait, unless_refused, refused_or, activated, after_end, has_activation, sleeping, answered as answered_task}
use Rattle.spec_kernel.specs.PlainQueues.{PlainQueues, is_met}
use Rattle.spec_kernel.specs.PlainClock.{PlainClock}
use Rattle.spec_kernel.specs.Settle.{is_outside}
use Rattle.spec_kernel.specs.Calls.{Row}
use mathlib.Core.Logic.{◌⊎◌}
use Rattle.it_types.specs.declared.id.ObjId.{ObjId}
use Rattle.spec_kernel.specs.declared.waiter.Waiter.{Waiter}
use Rattle.spec_kernel.specs.QueueRows.{QueuesDone, sends_at_once, sent_to, received_from, refused_or as refused_queues_or, unless_refused as unless_queues_refused}
use Rattle.spec_kernel.specs.Calls.Row.{TasksAtOnce, TasksInTime, NewPriority, OnSemaphores, OnFlags, OnQueues, OnClock}

-- ---- tasks draw none

pub joining-next_rank : (b : Bool) (d : PlainTasks) (t : TaskId) → (joining_unless b d t).next_rank ≡ d.next_rank
joining-next_rank true d t = refl
joining-next_rank false d t = refl

pub released-next_rank : (d : PlainTasks) (t : TaskId) → (released d t).next_rank ≡ d.next_rank
released-next_rank d t = joining-next_rank (is_suspended (block_of d t)) _ t

pub woken-next_rank : (d : PlainTasks) (t : TaskId) → (woken d t).next_rank ≡ d.next_rank
woken-next_rank d t = of (is_waiting d t)
  where
    taken : (b : Bool) → is_asleep d t ≡ b → (wakeup_taken d t).next_rank ≡ d.next_rank
    taken true e = rw e refl
    taken false e = rw e refl

    of : (b : Bool) → (if b then released (wakeup_taken d t) t else d).next_rank ≡ d.next_rank
    of true = released-next_rank (wakeup_taken d t) t ∙ taken (is_asleep d t) refl
    of false = refl

-- what a call on tasks leaves
abbrev pub DrawsNone : PlainTasks → TaskDone → Type 0
DrawsNone d done = done.tasks.next_rank ≡ d.next_rank

pub refused_none : (tests : List (Bool × Er)) (d : PlainTasks) (done : TaskDone) → DrawsNone d done → DrawsNone d (refused_or tests d done)
refused_none tests d done e = of (first_refusal tests)
  where
    of : (o : Option Er) → DrawsNone d (unless_refused o d done)
    of None = e
    of (Some code) = refl

pub activated_none : (d : PlainTasks) (t : TaskId) → DrawsNone d (activated d t)
activated_none d t = elim (cases_Bool (is_active (block_of d t))) [
  | inl e ↦ rw e refl
  | inr e ↦ rw e refl
]

pub waiting-next_rank : (d : PlainTasks) (t : TaskId) (what : TaskWait) → (waiting_task d t what).next_rank ≡ d.next_rank
waiting-next_rank d t what = of (is_active (block_of d t) && not (is_waiting d t))
  where
    of : (b : Bool) → (if b then leaving (record d { waits = slice_set d.waits t.0 (Some what) }) t else d).next_rank ≡ d.next_rank
    of true = refl
    of false = refl

pub sleeping_none : (d : PlainTasks) (t : TaskId) (tmo : Tmo) → DrawsNone d (sleeping d t tmo)
sleeping_none d t tmo = of (nat_lt 0 (wakeups_of (block_of d t))) (is_poll tmo)
  where
    of : (awake poll : Bool) → DrawsNone d (if awake then answered_task (with_task d t one_wakeup_less) E_OK else record { tasks = if poll then d else waiting_task d t Sleep; did = with_wait })
    of true poll = refl
    of false true = refl
    of false false = waiting-next_rank d t Sleep

pub after_end-next_rank : (d : PlainTasks) (t : TaskId) → (after_end d t).next_rank ≡ d.next_rank
after_end-next_rank d t = elim (cases_Bool (has_activation d t)) [
  | inl e ↦ rw e refl
  | inr e ↦ rw e refl
]

-- ---- a new priority ends no call

pub refused_frees_none : (tests : List (Bool × Er)) (d : PlainTasks) (done : TaskDone) → done.did.freed ≡ None → (refused_or tests d done).did.freed ≡ None
refused_frees_none tests d done none = of (first_refusal tests)
  where
    of : (o : Option Er) → (unless_refused o d done).did.freed ≡ None
    of None = none
    of (Some code) = refl

-- ---- data queues

-- the call of another task is ended only by a call that is met at once
abbrev pub EndsAlone : QueuesDone → Type 0
EndsAlone done = (done.dtqs.handed ≡ None) ⊎ ((code : Er) × (bytes : List ℕ) × (done.synced ≡ Took code bytes))

pub refused_alone : (tests : List (Bool × Er)) (d : PlainQueues) (done : QueuesDone) → d.handed ≡ None → EndsAlone done → EndsAlone (refused_queues_or tests d done)
refused_alone tests d done none alone = of (first_refusal tests)
  where
    of : (o : Option Er) → EndsAlone (unless_queues_refused o d done)
    of None = alone
    of (Some code) = inl none

module _ (d : PlainQueues) (none : d.handed ≡ None) (q : ObjId) where
  pub sent_alone : (item : ℕ) (tmo : Tmo) (task : TaskId) (pri rank : ℕ) (o : Option (Waiter × List Waiter)) → EndsAlone (sent_to d q item tmo task pri rank o)
  sent_alone item tmo task pri rank None = elim (cases_Bool (sends_at_once d (reasons.Send q item))) [
    | inl e ↦ rw e (inl none)
    | inr e ↦ rw e (inl none)
  ]
  sent_alone item tmo task pri rank (Some receiver) = inr (E_OK, [], refl)

  pub received_alone : (tmo : Tmo) (task : TaskId) (pri rank : ℕ) (o : Option (Waiter × List Waiter)) → EndsAlone (received_from d q tmo task pri rank o)
  received_alone tmo task pri rank None = elim (cases_Bool (is_met d.queues (reasons.Receive q))) [
    | inl e ↦ rw e (inl none)
    | inr e ↦ rw e (inl none)
  ]
  received_alone tmo task pri rank (Some sender) = inr (E_OK, _, refl)

-- ---- all kinds

abbrev pub IsLawful : Row → Type 0
IsLawful (TasksAtOnce done) = (d : PlainTasks) → DrawsNone d (done d)
IsLawful (TasksInTime done reason tmo) = ((d : PlainTasks) → DrawsNone d (done d)) × (is_outside reason ≡ false)
IsLawful (NewPriority task done) = (d : PlainTasks) → DrawsNone d (done d) × ((done d).did.freed ≡ None)
IsLawful (OnSemaphores done reason tmo) = is_outside reason ≡ false
IsLawful (OnFlags done reason tmo) = is_outside reason ≡ false
IsLawful (OnQueues done reason tmo) = (is_outside reason ≡ false) × ((d : PlainQueues) (pri rank : ℕ) → d.handed ≡ None → EndsAlone (done d pri rank))
IsLawful (OnClock after code bytes) = (c : PlainClock) → (after c).now ≡ c.now
