-- The search for the next end by time.
use Rattle.std.proofs.Common.{◌≡◌, ℕ, ◌+◌, ◌<◌, ◌≤◌, true, false, ltb, List, length, get_or, take, Option, Some, None, ap, sym, ◌∙◌, arith}
use Rattle.std.specs.List.{remove}
use Rattle.std.proofs.Math.Bool.{and-true}
use Rattle.std.proofs.lemmas.Bool.{and_parts, ltb-true}
use Rattle.std.proofs.lemmas.List.{get_or_default, take_all}
use Rattle.it_types.specs.declared.id.CallNo.{CallNo}
use Rattle.spec_lists.specs.First.{take_first}
use Rattle.spec_lists.proofs.Firsts.{none_more}
use Rattle.spec_kernel.specs.declared.reason.WaitingCall.{WaitingCall}
use Rattle.spec_kernel.specs.Time.{is_past, is_next_past}
use Rattle.spec_kernel.proofs.Least.{none_passes}
use Rattle.k_core.specs.PartsTime.{is_sooner}
use Rattle.k_core.proofs.Scan.{IsLeastAt, least_begins, least_replaced, least_stays, least_found}

abbrev pub number_of : WaitingCall → ℕ
number_of w = w.call.0

-- what was found among the first n calls is the place and the number of the next one that ends by time
abbrev pub SoFar : ℕ → List WaitingCall → ℕ → Option (ℕ × CallNo) → Type 0
SoFar now waits n None = take_first (is_past now) (take n waits) ≡ None
SoFar now waits n (Some found) = IsLeastAt (is_past now) number_of waits n found.0 found.1.0

-- a call that isn't next
pub goes_past : (now : ℕ) (waits : List WaitingCall) (n : ℕ) (found : Option (ℕ × CallNo)) (d : WaitingCall)
    → n < length waits
    → is_sooner now found (get_or waits n d) ≡ false
    → SoFar now waits n found
    → SoFar now waits (n + 1) found
goes_past now waits n None d inside fails so_far = none_more (is_past now) waits n d inside so_far (sym (and-true (is_past now (get_or waits n d))) ∙ fails)
goes_past now waits n (Some found) d inside fails so_far =
    least_stays (is_past now) number_of waits n found.0 found.1.0 so_far (get_or waits n d) inside (get_or_default waits n d (get_or waits n d) inside) fails

-- a call that is next so far
pub finds : (now : ℕ) (waits : List WaitingCall) (n : ℕ) (found : Option (ℕ × CallNo)) (d : WaitingCall)
    → n < length waits
    → is_sooner now found (get_or waits n d) ≡ true
    → SoFar now waits n found
    → SoFar now waits (n + 1) (Some (n, (get_or waits n d).call))
finds now waits n None d inside passes so_far =
    least_begins (is_past now) number_of waits n (get_or waits n d) inside (get_or_default waits n d (get_or waits n d) inside) (and_parts (is_past now (get_or waits n d)) true passes).0 so_far
finds now waits n (Some found) d inside passes so_far =
    let x : WaitingCall = get_or waits n d in
    let p = and_parts (is_past now x) (ltb x.call.0 found.1.0) passes in
    least_replaced (is_past now) number_of waits n found.0 found.1.0 so_far x inside (get_or_default waits n d x inside) p.0 (ltb-true x.call.0 found.1.0 p.1)

-- what was found among all calls
pub found_at_last : (now : ℕ) (waits : List WaitingCall) (n place : ℕ) (number : CallNo)
    → length waits ≤ n
    → n ≤ length waits
    → SoFar now waits n (Some (place, number))
    → (place < length waits) × ((w : WaitingCall) → w ≡ get_or waits place w → take_first (is_next_past now waits) waits ≡ Some (w, remove waits place))
found_at_last now waits n place number all within so_far =
    let inside : place < length waits = omega (arith, so_far.inside) in
    (inside, λ w at. least_found (is_past now) number_of waits n place number.0 so_far all inside w at)

pub none_at_last : (now : ℕ) (waits : List WaitingCall) (n : ℕ) → length waits ≤ n → SoFar now waits n None → take_first (is_next_past now waits) waits ≡ None
none_at_last now waits n all so_far = none_passes (is_past now) number_of waits (ap (take_first (is_past now)) (sym (take_all n waits all)) ∙ so_far)
