-- Everything that can be done with data queues, one after another (µITRON4.0 section 4.4.3): each call is made where no wait ends,
-- as in a kernel that ends all waits that a call makes ready before the next call. It is this project's own.
use Rattle.std.specs.Prelude.{◌≡◌, ℕ, true, false, List, [], ◌∷◌, None}
use Rattle.std.specs.List.{list_any}
use Rattle.it_types.specs.declared.id.TaskId.{TaskId}
use Rattle.it_types.specs.declared.id.ObjId.{ObjId}
use Rattle.it_types.specs.declared.timeout.Tmo.{Tmo}
use Rattle.spec_kernel.specs.declared.reason.WaitReason.TheVariants as reasons
use Rattle.spec_kernel.specs.declared.waiter.Waiter.{Waiter}
use Rattle.spec_kernel.specs.Waiters.{is_in}
use Rattle.spec_kernel.specs.PlainQueues.{PlainQueues, next_ready, freed, left, reprioritised}
use Rattle.spec_kernel.specs.QueueRows.{tsnd_dtq, fsnd_dtq, trcv_dtq}

pub data QueueStep : Type 0 where
  Sends : ObjId → ℕ → Tmo → TaskId → ℕ → ℕ → QueueStep
  Forces : ObjId → ℕ → QueueStep
  Receives : ObjId → Tmo → TaskId → ℕ → ℕ → QueueStep
  Frees : QueueStep
  Leaves : TaskId → QueueStep
  Reprioritises : TaskId → ℕ → ℕ → QueueStep

abbrev pub after_step : QueueStep → PlainQueues → PlainQueues
after_step (Sends q item tmo task pri rank) d = (tsnd_dtq d q item tmo task pri rank).dtqs
after_step (Forces q item) d = (fsnd_dtq d q item).dtqs
after_step (Receives q tmo task pri rank) d = (trcv_dtq d q tmo task pri rank).dtqs
after_step Frees d = freed d
after_step (Leaves task) d = left d task
after_step (Reprioritises task pri rank) d = reprioritised d task pri rank

-- nobody's wait ends
abbrev pub IsSettled : PlainQueues → Type 0
IsSettled d = next_ready d ≡ None

abbrev pub IsAllowed : QueueStep → PlainQueues → Type 0
IsAllowed (Sends q item tmo task pri rank) d = IsSettled d
IsAllowed (Forces q item) d = IsSettled d
IsAllowed (Receives q tmo task pri rank) d = IsSettled d
IsAllowed Frees d = Unit {0}
IsAllowed (Leaves task) d = Unit {0}
IsAllowed (Reprioritises task pri rank) d = Unit {0}

abbrev pub after_steps : List QueueStep → PlainQueues → PlainQueues
after_steps [] d = d
after_steps (s ∷ ss) d = after_steps ss (after_step s d)

abbrev pub AreAllowed : List QueueStep → PlainQueues → Type 0
AreAllowed [] d = Unit {0}
AreAllowed (s ∷ ss) d = IsAllowed s d × AreAllowed ss (after_step s d)

-- where a task waits to send at a data queue, none waits there to receive
abbrev pub NeverBoth : List Waiter → Type 0
NeverBoth ws = (q : ObjId) → list_any (is_in (reasons.Send q 0)) ws ≡ true → list_any (is_in (reasons.Receive q)) ws ≡ false
