-- No wait ends at the data queues exactly where they are at rest.
use Rattle.std.proofs.Common.{◌≡◌, ℕ, false, List, Option, Some, None, refl}
use Rattle.std.specs.Prelude.{◌↔◌}
use Rattle.std.specs.List.{list_any}
use Rattle.spec_kernel.specs.declared.handed.Handed.{Handed}
use Rattle.spec_kernel.specs.declared.reason.WaitReason.{WaitReason}
use Rattle.spec_kernel.specs.declared.waiter.Waiter.{Waiter}
use Rattle.spec_kernel.specs.ObjectRows.{told}
use Rattle.spec_kernel.specs.PlainQueues.{PlainQueues, IsAtRest, bytes_of, is_met, next_freed, next_ready, next_ready_after}
use Rattle.spec_kernel.proofs.NobodyMet.{none_met, none_next}

-- nobody is told where nobody is found
none_told : (bytes : WaitReason → List ℕ) (o : Option (Waiter × List Waiter)) → told bytes o ≡ None → o ≡ None
none_told bytes None e = refl
none_told bytes (Some z) e = cc

pub at_rest : (d : PlainQueues) → next_ready d ≡ None → IsAtRest d
at_rest d e = rests d.handed e
  where
    rests : (h : Option Handed) → next_ready_after d h ≡ None → (h ≡ None) × (list_any (λ w. is_met d.queues w.reason) d.waiters ≡ false)
    rests None e = (refl, none_met (is_met d.queues) d.waiters (none_told (bytes_of d.queues) (next_freed d) e))
    rests (Some h) e = cc

pub none_ready : (d : PlainQueues) → IsAtRest d → next_ready d ≡ None
none_ready d rest = rw (rest.0, none_next (is_met d.queues) d.waiters rest.1) refl

pub next_at_rest : (d : PlainQueues) → (next_ready d ≡ None) ↔ IsAtRest d
next_at_rest d = (at_rest d, none_ready d)
