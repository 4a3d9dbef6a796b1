-- What settling does in the whole kernel: it leaves no call ready. Nobody is freed next exactly where no call is ready.
use Rattle.std.proofs.Common.{◌≡◌, ℕ, zero, suc, ◌≤◌, Bool, true, false, not, ◌&&◌, ltb, [], length, None, refl, ap, inl, inr, arith}
use Rattle.std.proofs.lemmas.Bool.{and_parts}
use Rattle.std.proofs.lemmas.List.{nil_from_length}
use Rattle.std.specs.List.{list_any}
use Rattle.it_types.specs.declared.context.Ctx.{Ctx}
use Rattle.it_types.specs.declared.id.CallNo.{CallNo}
use Rattle.it_types.specs.declared.kernel_request.KReq.{KReq}
use Rattle.spec_lists.specs.First.{take_first}
use Rattle.spec_lists.proofs.Firsts.{cases_of_first, none_any, none_weaker, take_first-shorter}
use Rattle.spec_kernel.specs.declared.reason.WaitReason.{WaitReason}
use Rattle.spec_kernel.specs.declared.reason.WaitingCall.{WaitingCall}
use Rattle.spec_kernel.specs.Waiters.{is_same_queue}
use Rattle.spec_kernel.specs.PlainKernel.{PlainKernel}
use Rattle.spec_kernel.specs.Settle.{Outcome, is_ready, urgency_of, comes_next, next_freed, AtRest, freed, settle, settled}
use Rattle.spec_kernel.specs.Rows.{row, call, quiet, tick, ticked}
use Rattle.spec_kernel.proofs.Least.{is_least, none_least}
use Rattle.spec_kernel.proofs.NextWaiter.{same_queue, same_any}

-- ---- who is freed next

module _ (k : PlainKernel) where
  -- it is ready, and waits in the queue of calls with this reason
  abbrev is_ready_in : WaitReason → WaitingCall → Bool
  is_ready_in reason w = is_ready k w && is_same_queue w.reason reason

  least_next : (reason : WaitReason) (w : WaitingCall) → is_least (is_ready_in reason) (urgency_of k) k.waits w ≡ true → comes_next k w ≡ true
  least_next reason w e =
      let found = and_parts (is_ready_in reason w) (not (list_any (λ v. is_ready_in reason v && ltb (urgency_of k v) (urgency_of k w)) k.waits)) e in
      let parts = and_parts (is_ready k w) (is_same_queue w.reason reason) found.0 in
      let same : list_any (λ (v : WaitingCall). (is_ready k v && is_same_queue v.reason w.reason) && ltb (urgency_of k v) (urgency_of k w)) k.waits ≡ list_any (λ v. is_ready_in reason v && ltb (urgency_of k v) (urgency_of k w)) k.waits =
      same_any _ _ k.waits (λ v. ap (λ b. (is_ready k v && b) && ltb (urgency_of k v) (urgency_of k w)) (same_queue v.reason w.reason reason parts.1)) in
      rw (parts.0, same, found.1) refl

  queue_rests : (reason : WaitReason) → next_freed k ≡ None → take_first (is_ready_in reason) k.waits ≡ None
  queue_rests reason none = none_least (is_ready_in reason) (urgency_of k) k.waits (none_weaker (is_least (is_ready_in reason) (urgency_of k) k.waits) (comes_next k) k.waits (least_next reason) none)

  -- where none of its queue is ready, one that is ready comes next
  ready_next : (w : WaitingCall) → take_first (is_ready_in w.reason) k.waits ≡ None → is_ready k w ≡ true → comes_next k w ≡ true
  ready_next w none e =
      let nobody : list_any (λ (v : WaitingCall). is_ready_in w.reason v && ltb (urgency_of k v) (urgency_of k w)) k.waits ≡ false =
      none_any (λ v. is_ready_in w.reason v && ltb (urgency_of k v) (urgency_of k w)) k.waits
      (none_weaker (λ v. is_ready_in w.reason v && ltb (urgency_of k v) (urgency_of k w)) (is_ready_in w.reason) k.waits (λ v f. (and_parts (is_ready_in w.reason v) (ltb (urgency_of k v) (urgency_of k w)) f).0) none) in
      rw (e, nobody) refl

  -- where nobody is freed next, no call is ready
  pub next_rests : next_freed k ≡ None → AtRest k
  next_rests none = none_weaker (is_ready k) (comes_next k) k.waits (λ w e. ready_next w (queue_rests w.reason none) e) none

  -- and where no call is ready, nobody is freed next
  pub rests_next : AtRest k → next_freed k ≡ None
  rests_next rest =
      none_weaker (comes_next k) (is_ready k) k.waits (λ w e. (and_parts (is_ready k w) (not (list_any (λ v. (is_ready k v && is_same_queue v.reason w.reason) && ltb (urgency_of k v) (urgency_of k w)) k.waits)) e).0) rest

-- ---- settling

-- after as many turns as calls wait, no call is ready
pub settle_rests : (n : ℕ) (k : PlainKernel) → length k.waits ≤ n → AtRest (settle n k).0
unfolding settle
settle_rests zero k le = let none : k.waits ≡ [] = nil_from_length k.waits (omega arith) in rw none refl
settle_rests (suc n) k le = elim (cases_of_first (next_freed k)) [
  | inl e ↦ rw e (next_rests k e)
  | inr w ↦ rw w.1 (settle_rests n (freed k w.0.0 w.0.1) (omega (arith, take_first-shorter (comes_next k) k.waits w.0 w.1)))
]

-- no call that waits is ready after an outcome has settled
pub settled_rests : (o : Outcome) → AtRest (settled o).kernel
unfolding settled
settled_rests o = settle_rests (length o.kernel.waits) o.kernel (omega arith)

-- nor after a call
pub call_rests : (k : PlainKernel) (ctx : Ctx) (request : KReq) (number : CallNo) → AtRest (call k ctx request number).kernel
unfolding call
call_rests k ctx request number = settled_rests (row k ctx request number)

-- nor after a tick
pub tick_rests : (k : PlainKernel) → AtRest (tick k).kernel
unfolding tick
tick_rests k = settled_rests (quiet (ticked k))
