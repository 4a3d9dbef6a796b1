-- What the calls on semaphores, event flags and data queues share (µITRON4.0 section 4.4). The order of the tests is this
-- project's own.
use Rattle.std.specs.Prelude.{ℕ, Bool, List, ◌∷◌, Option, Some, None, is_none, if◌then◌else◌}
use Rattle.it_types.specs.declared.id.TaskId.{TaskId}
use Rattle.it_types.specs.declared.id.ObjId.{ObjId}
use Rattle.it_types.specs.declared.er.Er.{Er}
use Rattle.it_types.specs.declared.er.TheConstants.{E_OK, E_ID, E_NOEXS}
use Rattle.it_types.specs.Table.{is_no_id}
use Rattle.spec_lists.specs.Tables.{get}
use Rattle.spec_kernel.specs.declared.reason.WaitReason.{WaitReason}
use Rattle.spec_kernel.specs.declared.waiter.Waiter.{Waiter}
use Rattle.spec_kernel.specs.Ids.{greatest_id}

-- the tests of a call at an object of one kind: those of its id, and then the call's own
abbrev pub at_object : {X : Type 0} → List (Option X) → ObjId → List (Bool × Er) → List (Bool × Er)
at_object objects id tests = (is_no_id greatest_id id.0, E_ID) ∷ (is_none (get objects id.0), E_NOEXS) ∷ tests

-- the priority of a task that counts in a queue
abbrev pub urgency_in : Bool → ℕ → ℕ
urgency_in by_priority pri = if by_priority then pri else 0

-- whose wait ends next, with which code and bytes
abbrev pub told : (WaitReason → List ℕ) → Option (Waiter × List Waiter) → Option (TaskId × Er × List ℕ)
told bytes_of None = None
told bytes_of (Some found) = Some (found.0.task, E_OK, bytes_of found.0.reason)
