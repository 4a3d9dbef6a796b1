-- What the code does at the data queues is what its definition says: `before` are its tables, and `named` those that the contract
-- names.
use Rattle.std.proofs.Common.{◌≡◌, ◌↔◌, ℕ, Bool, false, List, Option, Some, None, refl, sym, subst}
use Rattle.it_types.specs.declared.id.TaskId.{TaskId}
use Rattle.it_types.specs.declared.er.Er.{Er}
use Rattle.spec_lists.specs.First.{take_first}
use Rattle.spec_kernel.specs.declared.waiter.Waiter.{Waiter}
use Rattle.spec_kernel.specs.Waiters.{comes_next, joined_by, next_waiter, left_by}
use Rattle.spec_kernel.specs.Waiters.{reprioritised as reprioritised_in}
use Rattle.spec_kernel.specs.QueueRuns.{IsSettled, NeverBoth}
use Rattle.spec_kernel.specs.QueueRows.{other_side, sends_at_once, waiter_for}
use Rattle.spec_kernel.specs.declared.reason.WaitReason.{WaitReason}
use Rattle.spec_kernel.specs.declared.reason.WaitReason.TheVariants as reasons
use Rattle.it_types.specs.declared.id.ObjId.{ObjId}
use Rattle.it_types.specs.declared.timeout.Tmo.{Tmo}
use Rattle.spec_kernel.proofs.OneSide.{never_fewer, left_never, receiver_waits, reprioritised_never, sender_waits}
use Rattle.spec_kernel.proofs.QueuesAtRest.{next_at_rest}
use Rattle.k_sync.specs.Waiting.{AreApart, paired}
use Rattle.k_sync.specs.KeptQueues.{AreKept}
use Rattle.spec_kernel.specs.ObjectRows.{told, urgency_in}
use Rattle.spec_kernel.specs.PlainQueues.{IsAtRest, PlainQueues, bytes_of, is_by_priority, is_met, next_freed, next_ready, without}
use Rattle.spec_kernel.specs.DataQueues.{DataQueue}
use Rattle.spec_kernel.specs.Waiting.{queues_after}

-- where no call has ended by another, the one that is freed next is told
pub told_next : (before named : PlainQueues) (ws : List Waiter) (r : Option (TaskId × Er × List ℕ))
    → before ≡ named
    → before.handed ≡ None
    → ws ≡ before.waiters
    → r ≡ told (bytes_of before.queues) (next_waiter (is_met before.queues) ws)
    → r ≡ next_ready named
told_next before named ws r same none is tells = subst (λ d. r ≡ next_ready d) same (rw (none, sym is) tells)

pub told_at_rest : (d : PlainQueues) (r : Option (TaskId × Er × List ℕ)) → r ≡ next_ready d → (r ≡ None) ↔ IsAtRest d
told_at_rest d r is = subst (λ x. (x ≡ None) ↔ IsAtRest d) (sym is) (next_at_rest d)

-- the one that is found is freed
pub frees : (before named : PlainQueues) (w : Waiter) (ws : List Waiter) (queues : List (Option DataQueue))
    → before ≡ named
    → take_first (comes_next (is_met before.queues) before.waiters) before.waiters ≡ Some (w, ws)
    → queues ≡ queues_after w.reason before.queues
    → record before { queues = queues; waiters = ws } ≡ without named (next_freed named)
frees before named w ws queues same first is = subst (λ d. record before { queues = queues; waiters = ws } ≡ without d (next_freed d)) same (rw (first, is) refl)

-- where none is found, nothing changes
pub frees_nobody : (before named : PlainQueues) (ws : List Waiter)
    → before ≡ named
    → take_first (comes_next (is_met before.queues) before.waiters) before.waiters ≡ None
    → ws ≡ before.waiters
    → record before { waiters = ws } ≡ without named (next_freed named)
frees_nobody before named ws same none is = subst (λ d. record before { waiters = ws } ≡ without d (next_freed d)) same (rw (none, is) refl)

-- ---- what is kept of the tasks that wait

module _ (queues : List (Option DataQueue)) (ws : List Waiter) (kept : AreKept ws) (after : List Waiter) (apart : AreApart ws → AreApart after) where
  before : PlainQueues
  before = record { queues = queues; waiters = ws; handed = None }

  pub kept_left : (task : TaskId) → after ≡ left_by task ws → AreKept after
  unfolding before
  kept_left task is = record { apart = apart kept.apart; one_side = subst NeverBoth (sym is) (left_never before task kept.one_side) }

  pub kept_reprioritised : (task : TaskId) (pri rank : ℕ) → after ≡ reprioritised_in (is_by_priority queues) task pri rank ws → AreKept after
  unfolding before
  kept_reprioritised task pri rank is = record { apart = apart kept.apart; one_side = subst NeverBoth (sym is) (reprioritised_never before task pri rank kept.one_side) }

  -- where a search has taken out the one that it found
  pub kept_taken : (f : Waiter → Bool) (r : Option Waiter) → take_first f ws ≡ paired r after → (r ≡ None → after ≡ ws) → AreKept after
  kept_taken f None first none = record { apart = apart kept.apart; one_side = subst NeverBoth (sym (none refl)) kept.one_side }
  kept_taken f (Some w) first none = record { apart = apart kept.apart; one_side = never_fewer f ws (w, after) first kept.one_side }

-- where a task joins
pub kept_joined : (before named : PlainQueues) (reason : WaitReason) (task : TaskId) (pri rank urgency : ℕ) (by_priority : Bool) (tmo : Tmo) (after : List Waiter)
    → before ≡ named
    → urgency ≡ urgency_in by_priority pri
    → by_priority ≡ is_by_priority before.queues reason
    → NeverBoth (joined_by (waiter_for named reason task pri rank) tmo named.waiters)
    → AreApart after
    → after ≡ joined_by (record { task = task; reason = reason; urgency = urgency; rank = rank }) tmo before.waiters
    → AreKept after
kept_joined before named reason task pri rank urgency by_priority tmo after same how order never apart is =
    record { apart = apart; one_side = subst NeverBoth (sym is) (rw (how, order) (subst (λ d. NeverBoth (joined_by (waiter_for d reason task pri rank) tmo d.waiters)) (sym same) never)) }

-- ---- before a task joins: nobody was on the other side, so nothing has changed

module _ (before inside d : PlainQueues) (same : d ≡ before) (is : inside ≡ d) (kept : AreKept inside.waiters) (settled : IsSettled before) (w : Waiter) (tmo : Tmo) where
  pub sender_joins : (q : ObjId) (item : ℕ)
      → other_side before q (reasons.Receive q) ≡ None
      → w.reason ≡ reasons.Send q item
      → sends_at_once d (reasons.Send q item) ≡ false
      → NeverBoth (joined_by w tmo d.waiters)
  sender_joins q item none so waits =
      sender_waits d (subst IsSettled (sym same) settled) (subst (λ (x : PlainQueues). NeverBoth x.waiters) is kept.one_side) q item tmo w so (subst (λ x. other_side x q (reasons.Receive q) ≡ None) (sym same) none) waits

  pub receiver_joins : (q : ObjId)
      → other_side before q (reasons.Send q 0) ≡ None
      → w.reason ≡ reasons.Receive q
      → is_met d.queues (reasons.Receive q) ≡ false
      → NeverBoth (joined_by w tmo d.waiters)
  receiver_joins q none so waits =
      receiver_waits d (subst IsSettled (sym same) settled) (subst (λ (x : PlainQueues). NeverBoth x.waiters) is kept.one_side) q tmo w so (subst (λ x. other_side x q (reasons.Send q 0) ≡ None) (sym same) none) waits
