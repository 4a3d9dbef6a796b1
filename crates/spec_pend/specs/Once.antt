-- How often a number is accepted, and how often a call of it ends, whatever is done to the calls that wait, in whatever order.
use Rattle.std.specs.Prelude.{◌≡◌, ℕ, ◌+◌, ◌<◌, ◌≤◌, Bool, false, not, ◌&&◌, ◌==◌, List, [], ◌∷◌, None, is_some}
use Rattle.it_types.specs.declared.id.CallNo.{CallNo}
use Rattle.it_types.specs.declared.er.Er.{Er}
use Rattle.it_types.specs.declared.handler.Handler.{Handler}
use Rattle.spec_lists.specs.Counting.{one_if}
use Rattle.spec_pend.specs.declared.slot.Slot.{Slot}
use Rattle.spec_pend.specs.declared.call.Who.{Who}
use Rattle.spec_pend.specs.PlainPend.{PlainPend, opened_pend}
use Rattle.spec_pend.specs.Slots.{accepted, is_taken}
use Rattle.spec_pend.specs.Ends.{ended, with_due, without_first_due}

pub data Operation : Type 0 where
  Accept : Who → Slot → CallNo → Operation
  End : CallNo → Er → List ℕ → Operation
  NextHandler : Operation
  AddHandler : Handler → Operation

abbrev pub done : PlainPend → Operation → PlainPend
done p (Accept who slot n) = (accepted p who slot n).0
done p (End n code bytes) = (ended p n code bytes).0
done p NextHandler = without_first_due p
done p (AddHandler h) = with_due p h

-- after all of them, one after another
abbrev pub after : PlainPend → List Operation → PlainPend
after p [] = p
after p (o ∷ os) = after (done p o) os

-- a call is accepted only under a number above the last one
abbrev pub MayBeDone : PlainPend → Operation → Type 0
MayBeDone p (Accept who slot n) = p.last < n.0
MayBeDone p (End n code bytes) = Unit {0}
MayBeDone p NextHandler = Unit {0}
MayBeDone p (AddHandler h) = Unit {0}

abbrev pub MayAllBeDone : PlainPend → List Operation → Type 0
MayAllBeDone p [] = Unit {0}
MayAllBeDone p (o ∷ os) = MayBeDone p o × MayAllBeDone (done p o) os

-- it accepts a call of this number
abbrev pub accepts : CallNo → PlainPend → Operation → Bool
accepts number p (Accept who slot n) = not (is_taken p slot) && (n.0 == number.0)
accepts number p (End n code bytes) = false
accepts number p NextHandler = false
accepts number p (AddHandler h) = false

-- it ends a call of this number, of which somebody is told
abbrev pub ends : CallNo → PlainPend → Operation → Bool
ends number p (Accept who slot n) = false
ends number p (End n code bytes) = is_some (ended p n code bytes).1 && (n.0 == number.0)
ends number p NextHandler = false
ends number p (AddHandler h) = false

abbrev pub times_accepted : CallNo → PlainPend → List Operation → ℕ
times_accepted number p [] = 0
times_accepted number p (o ∷ os) = one_if (accepts number p o) + times_accepted number (done p o) os

abbrev pub times_ended : CallNo → PlainPend → List Operation → ℕ
times_ended number p [] = 0
times_ended number p (o ∷ os) = one_if (ends number p o) + times_ended number (done p o) os

-- after these operations from the opening
pub record EndsOnce (number : CallNo) (operations : List Operation) : Type 0 where
  -- at most one call of this number was accepted
  pub once : times_accepted number opened_pend operations ≤ 1
  -- at most that one has ended
  pub later : times_ended number opened_pend operations ≤ times_accepted number opened_pend operations
  -- an end tells somebody exactly where it was accepted and hasn't ended yet
  pub exact : (code : Er) (bytes : List ℕ) → times_ended number opened_pend operations + one_if (is_some (ended (after opened_pend operations) number code bytes).1) ≡ times_accepted number opened_pend operations
  -- once it has ended, an end tells nobody
  pub told_once : times_ended number opened_pend operations ≡ 1 → (code : Er) (bytes : List ℕ) → (ended (after opened_pend operations) number code bytes).1 ≡ None
