-- What the semaphores, the event flags and the data queues say of a task that waits is what the one table says.
use Rattle.std.proofs.Common.{◌≡◌, ℕ, Bool, List, refl}
use Rattle.it_types.specs.declared.id.ObjId.{ObjId}
use Rattle.spec_kernel.specs.declared.reason.FlagWait.{FlagWait}
use Rattle.spec_kernel.specs.declared.reason.WaitReason.{WaitReason}
use Rattle.spec_kernel.specs.declared.reason.WaitReason.TheVariants as reasons
use Rattle.spec_kernel.specs.Waiting.{PlainObjects, is_met, bytes_of, is_by_priority}
use Rattle.spec_kernel.specs.PlainSemaphores.{is_met as is_met_at_semaphores, bytes_of as bytes_at_semaphores, is_by_priority as is_ordered_at_semaphores}
use Rattle.spec_kernel.specs.PlainFlags.{is_met as is_met_at_flags, bytes_of as bytes_at_flags, is_by_priority as is_ordered_at_flags}
use Rattle.spec_kernel.specs.PlainQueues.{is_met as is_met_at_queues, bytes_of as bytes_at_queues, is_by_priority as is_ordered_at_queues}

-- what one kind says of a task with this reason
pub record Agrees (o : PlainObjects) (reason : WaitReason) (met : Bool) (bytes : List ℕ) (ordered : Bool) : Type 0 where
  pub met_alike : met ≡ is_met o reason
  pub told_alike : bytes ≡ bytes_of o reason
  pub ordered_alike : ordered ≡ is_by_priority o reason

pub at_semaphores : (o : PlainObjects) (s : ObjId)
    → let r = reasons.Semaphore s in Agrees o r (is_met_at_semaphores o.semaphores r) (bytes_at_semaphores r) (is_ordered_at_semaphores o.semaphores r)
at_semaphores o s = record { met_alike = refl; told_alike = refl; ordered_alike = refl }

pub at_flags : (o : PlainObjects) (w : FlagWait)
    → let r = reasons.Flag w in Agrees o r (is_met_at_flags o.flags r) (bytes_at_flags o.flags r) (is_ordered_at_flags o.flags r)
at_flags o w = record { met_alike = refl; told_alike = refl; ordered_alike = refl }

pub at_room : (o : PlainObjects) (q : ObjId) (item : ℕ)
    → let r = reasons.Send q item in Agrees o r (is_met_at_queues o.queues r) (bytes_at_queues o.queues r) (is_ordered_at_queues o.queues r)
at_room o q item = record { met_alike = refl; told_alike = refl; ordered_alike = refl }

pub at_items : (o : PlainObjects) (q : ObjId)
    → let r = reasons.Receive q in Agrees o r (is_met_at_queues o.queues r) (bytes_at_queues o.queues r) (is_ordered_at_queues o.queues r)
at_items o q = record { met_alike = refl; told_alike = refl; ordered_alike = refl }
