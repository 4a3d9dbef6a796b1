-- A search of a task that waits, and what the code makes of it.
use Rattle.std.proofs.Common.{◌≡◌, ℕ, ◌<◌, ◌≤◌, Bool, true, false, is_some, List, length, Option, Some, None, get_or, refl, sym, ap, ◌∙◌, arith}
use Rattle.std.specs.List.{list_any, position}
use Rattle.it_types.specs.declared.id.TaskId.{TaskId}
use Rattle.spec_lists.specs.First.{take_first}
use Rattle.spec_lists.proofs.Firsts.{take_first-shorter}
use Rattle.spec_lists.proofs.Places.{searched, searched_none}
use Rattle.spec_kernel.specs.declared.waiter.Waiter.{Waiter}
use Rattle.spec_kernel.specs.Waiters.{is_task}
use Rattle.k_sync.specs.Waiting.{paired, reason_of}
use Rattle.k_sync.proofs.Found.{any_found}

pub is_paired : (r : Option Waiter) (ws : List Waiter) → is_some (paired r ws) ≡ is_some r
is_paired None ws = refl
is_paired (Some w) ws = refl

-- one passes exactly where one was taken out
pub any_taken : (f : Waiter → Bool) (ws rest : List Waiter) (r : Option Waiter) → take_first f ws ≡ paired r rest → is_some r ≡ list_any f ws
any_taken f ws rest r e = sym (any_found f ws ∙ ap is_some e ∙ is_paired r rest)

pub one_taken : (f : Waiter → Bool) (ws rest : List Waiter) (w : Waiter) → take_first f ws ≡ paired (Some w) rest → true ≡ list_any f ws
one_taken f ws rest w e = any_taken f ws rest (Some w) e

pub none_taken : (f : Waiter → Bool) (ws rest : List Waiter) → take_first f ws ≡ paired None rest → false ≡ list_any f ws
none_taken f ws rest e = any_taken f ws rest None e

-- one fewer is left
pub room_again : (f : Waiter → Bool) (ws rest : List Waiter) (w : Waiter) → take_first f ws ≡ paired (Some w) rest → length ws ≤ 16 → length rest < 16
room_again f ws rest w e le = omega (arith, take_first-shorter f ws (w, rest) e, le)

-- why the task at a place waits
pub reason_at : (task : TaskId) (ws : List Waiter) (place : Option ℕ) (i : ℕ) (w : Waiter)
    → place ≡ position (is_task task) ws
    → place ≡ Some i
    → w ≡ get_or ws i w
    → Some w.reason ≡ reason_of (take_first (is_task task) ws)
reason_at task ws place i w found at is = sym (ap reason_of ((searched (is_task task) ws ws place i refl found at).first w is))

pub no_reason : (task : TaskId) (ws : List Waiter) (place : Option ℕ) → place ≡ position (is_task task) ws → place ≡ None → None ≡ reason_of (take_first (is_task task) ws)
no_reason task ws place found none = sym (ap reason_of (searched_none (is_task task) ws ws place refl found none))
