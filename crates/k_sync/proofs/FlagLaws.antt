-- What is told of the next end of a wait at the event flags, and that end, are what their definitions say, for the flags that the contract names.
use Rattle.std.proofs.Common.{◌≡◌, ℕ, List, Option, Some, None, refl, sym, subst}
use Rattle.it_types.specs.declared.id.TaskId.{TaskId}
use Rattle.it_types.specs.declared.er.Er.{Er}
use Rattle.spec_kernel.specs.declared.flag_block.FlagBlock.{FlagBlock}
use Rattle.spec_kernel.specs.declared.waiter.Waiter.{Waiter}
use Rattle.spec_kernel.specs.Waiters.{next_waiter}
use Rattle.spec_kernel.specs.PlainFlags.{PlainFlags, is_met, bytes_of, next_ready, freed}
use Rattle.spec_kernel.specs.ObjectRows.{told}
use Rattle.spec_kernel.specs.Waiting.{flags_after}

-- the one that was found is freed
pub one_freed : (named : PlainFlags) (flags after : List (Option FlagBlock)) (waiters rest : List Waiter) (w : Waiter)
    → record { flags = flags; waiters = waiters } ≡ named
    → next_waiter (is_met flags) waiters ≡ Some (w, rest)
    → after ≡ flags_after w.reason flags
    → record { flags = after; waiters = rest } ≡ freed named
one_freed named flags after waiters rest w same first is = subst (λ d. record { flags = after; waiters = rest } ≡ freed d) same (rw (first, is) refl)

-- where none was found nothing changes
pub none_freed : (named : PlainFlags) (flags : List (Option FlagBlock)) (waiters rest : List Waiter)
    → record { flags = flags; waiters = waiters } ≡ named
    → next_waiter (is_met flags) waiters ≡ None
    → rest ≡ waiters
    → record { flags = flags; waiters = rest } ≡ freed named
none_freed named flags waiters rest same none stay = subst (λ d. record { flags = flags; waiters = rest } ≡ freed d) same (rw (none, stay) refl)

-- the one that was found is told
pub tells_next : (named : PlainFlags) (flags : List (Option FlagBlock)) (waiters slice : List Waiter) (r : Option (TaskId × Er × List ℕ))
    → record { flags = flags; waiters = waiters } ≡ named
    → slice ≡ waiters
    → r ≡ told (bytes_of flags) (next_waiter (is_met flags) slice)
    → r ≡ next_ready named
tells_next named flags waiters slice r same is tells = subst (λ d. r ≡ next_ready d) same (rw (sym is) tells)
