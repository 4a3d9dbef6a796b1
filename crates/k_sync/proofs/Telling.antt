-- What is told of a task that a search has found is what its definition says.
use Rattle.std.proofs.Common.{◌≡◌, ℕ, Bool, List, Option, Some, None, get_or, refl, sym, ap}
use Rattle.std.specs.List.{position}
use Rattle.it_types.specs.declared.er.TheConstants.{E_OK}
use Rattle.spec_lists.specs.First.{take_first}
use Rattle.spec_lists.proofs.Places.{searched, searched_none}
use Rattle.spec_kernel.specs.declared.reason.WaitReason.{WaitReason}
use Rattle.spec_kernel.specs.declared.waiter.Waiter.{Waiter}
use Rattle.spec_kernel.specs.ObjectRows.{told}

pub one_told : (tells : WaitReason → List ℕ) (f : Waiter → Bool) (ws : List Waiter) (place : Option ℕ) (i : ℕ) (w : Waiter) (bytes : List ℕ)
    → place ≡ position f ws
    → place ≡ Some i
    → w ≡ get_or ws i w
    → bytes ≡ tells w.reason
    → Some (w.task, E_OK, bytes) ≡ told tells (take_first f ws)
one_told tells f ws place i w bytes found at is gets = rw gets (sym (ap (told tells) ((searched f ws ws place i refl found at).first w is)))

pub none_told : (tells : WaitReason → List ℕ) (f : Waiter → Bool) (ws : List Waiter) (place : Option ℕ) → place ≡ position f ws → place ≡ None → None ≡ told tells (take_first f ws)
none_told tells f ws place found none = sym (ap (told tells) (searched_none f ws ws place refl found none))
