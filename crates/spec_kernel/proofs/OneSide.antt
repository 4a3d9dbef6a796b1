-- A sender and a receiver never wait at one data queue.
use Rattle.std.proofs.Common.{◌≡◌, ℕ, Bool, true, false, ◌&&◌, ◌||◌, eqb, List, [], ◌∷◌, ◌++◌, Option, Some, None, refl, sym, ap, ◌∙◌, inl, inr, arith}
use Rattle.std.specs.List.{list_any}
use Rattle.std.proofs.Math.Bool.{or-false, or_comm, and-false, and-true}
use Rattle.std.proofs.lemmas.Bool.{cases_Bool, eqb-true, eq-eqb}
use Rattle.std.proofs.lemmas.Bool.Decides.{nat_tests}
use Rattle.it_types.specs.declared.id.TaskId.{TaskId}
use Rattle.it_types.specs.declared.id.ObjId.{ObjId}
use Rattle.it_types.specs.declared.er.Er.{Er}
use Rattle.it_types.specs.declared.timeout.Tmo.{Tmo}
use Rattle.it_types.specs.declared.conf.SyncConf.{SyncConf}
use Rattle.it_types.specs.Callers.{is_poll}
use Rattle.spec_lists.specs.Tables.{get}
use Rattle.spec_lists.specs.First.{take_first}
use Rattle.spec_lists.specs.Refusal.{first_refusal}
use Rattle.spec_lists.proofs.Firsts.{some_parts, none_any}
use Rattle.spec_kernel.specs.declared.handed.Handed.{Handed}
use Rattle.spec_kernel.specs.declared.reason.WaitReason.{WaitReason}
use Rattle.spec_kernel.specs.declared.reason.WaitReason.TheVariants as reasons
use Rattle.spec_kernel.specs.declared.waiter.Waiter.{Waiter}
use Rattle.spec_kernel.specs.Waiters.{is_same_queue, is_in, is_task, urgency, first_in, joined_by, comes_next, the_others, moved}
use Rattle.spec_kernel.specs.DataQueues.{DataQueue, hands_over, has_room, has_item}
use Rattle.spec_kernel.specs.PlainQueues.{PlainQueues, is_met, is_by_priority, next_freed, without, freed_after, freed, left, reprioritised, opened}
use Rattle.spec_kernel.specs.QueueRows.{QueuesDone, unless_refused, tsnd_dtq, fsnd_dtq, trcv_dtq, tsnd_dtq_refusals, fsnd_dtq_refusals, trcv_dtq_refusals, other_side, sends_at_once, sent_to, received_from}
use Rattle.spec_kernel.specs.QueueRuns.{QueueStep, Sends, Forces, Receives, Frees, Leaves, Reprioritises, after_step, IsSettled, IsAllowed, after_steps, AreAllowed, NeverBoth}
use Rattle.spec_kernel.proofs.Least.{none_least}
use Rattle.spec_kernel.proofs.NobodyMet.{none_next}
use Rattle.spec_kernel.proofs.QueuesAtRest.{at_rest}
use Rattle.spec_kernel.proofs.NextWaiter.{same_any, same_queue, nobody_met}

-- ---- lists that lose or get one

-- one passes of a list, or the one at its end does
any_end : {X : Type 0} (g : X → Bool) (xs : List X) (x : X) → list_any g (xs ++ x ∷ []) ≡ (list_any g xs || g x)
any_end g [] x = or-false (g x)
any_end g (y ∷ ys) x = elim (cases_Bool (g y)) [
  | inl t ↦ rw t refl
  | inr t ↦ rw t (any_end g ys x)
]

or_swap : (a b c : Bool) → (a || (b || c)) ≡ ((a || b) || c)
or_swap true b c = refl
or_swap false b c = refl

-- one passes of a list, that is the one that was found or one of the others
any_split : {X : Type 0} (f g : X → Bool) (xs : List X) (z : X × List X) → take_first f xs ≡ Some z → list_any g xs ≡ (list_any g z.1 || g z.0)
any_split f g [] z e = cc
any_split f g (x ∷ xs) z e = elim (some_parts f x xs z e) [
  | inl s ↦ rw s.1 (or_comm (g x) (list_any g xs))
  | inr s ↦ rw s.3 (ap (λ b. g x || b) (any_split f g xs s.0 s.2) ∙ or_swap (g x) (list_any g s.0.1) (g s.0.0))
]

left_false : (a b : Bool) → (a || b) ≡ false → a ≡ false
left_false true b e = e
left_false false b e = refl

left_true : (a b : Bool) → a ≡ true → (a || b) ≡ true
left_true true b e = refl
left_true false b e = absurd (let f : false ≡ true = e in cc)

-- the one that was found is out
pub never_fewer : (f : Waiter → Bool) (ws : List Waiter) (z : Waiter × List Waiter) → take_first f ws ≡ Some z → NeverBoth ws → NeverBoth z.1
never_fewer f ws z e never q sends =
    left_false (list_any (is_in (reasons.Receive q)) z.1) (is_in (reasons.Receive q) z.0)
    (sym (any_split f (is_in (reasons.Receive q)) ws z e) ∙ never q (any_split f (is_in (reasons.Send q 0)) ws z e ∙ left_true (list_any (is_in (reasons.Send q 0)) z.1) (is_in (reasons.Send q 0) z.0) sends))

-- it waits in the same queue, at the end
never_moved : (f : Waiter → Bool) (ws : List Waiter) (z : Waiter × List Waiter) (w : Waiter) → take_first f ws ≡ Some z → w.reason ≡ z.0.reason → NeverBoth ws → NeverBoth (z.1 ++ w ∷ [])
never_moved f ws z w e same never q sends = any_moved (reasons.Receive q) ∙ never q (sym (any_moved (reasons.Send q 0)) ∙ sends)
  where
    any_moved : (r : WaitReason) → list_any (is_in r) (z.1 ++ w ∷ []) ≡ list_any (is_in r) ws
    any_moved r = any_end (is_in r) z.1 w ∙ ap (λ u. list_any (is_in r) z.1 || is_same_queue u r) same ∙ sym (any_split f (is_in r) ws z e)

-- ---- a task that joins

-- a task that waits as another does
same_queue_any : (a b : WaitReason) (ws : List Waiter) → is_same_queue a b ≡ true → list_any (is_in a) ws ≡ list_any (is_in b) ws
same_queue_any a b ws e = same_any (is_in a) (is_in b) ws (λ w. same_queue w.reason a b e)

never_sender : (w : Waiter) (q : ObjId) (item : ℕ) (ws : List Waiter) → w.reason ≡ reasons.Send q item → list_any (is_in (reasons.Receive q)) ws ≡ false → NeverBoth ws → NeverBoth (ws ++ w ∷ [])
never_sender w q item ws is none never r sends =
    any_end (is_in (reasons.Receive r)) ws w ∙ ap (λ u. list_any (is_in (reasons.Receive r)) ws || is_same_queue u (reasons.Receive r)) is ∙ or-false (list_any (is_in (reasons.Receive r)) ws) ∙ elim (cases_Bool (eqb q.0 r.0)) [
      | inl same ↦ same_queue_any (reasons.Receive r) (reasons.Receive q) ws (eq-eqb r.0 q.0 (sym (eqb-true q.0 r.0 same))) ∙ none
      | inr other ↦ never r (sym (any_end (is_in (reasons.Send r 0)) ws w ∙ ap (λ u. list_any (is_in (reasons.Send r 0)) ws || is_same_queue u (reasons.Send r 0)) is ∙ ap (λ b. list_any (is_in (reasons.Send r 0)) ws || b) other ∙ or-false (list_any (is_in (reasons.Send r 0)) ws)) ∙ sends)
    ]

never_receiver : (w : Waiter) (q : ObjId) (ws : List Waiter) → w.reason ≡ reasons.Receive q → list_any (is_in (reasons.Send q 0)) ws ≡ false → NeverBoth ws → NeverBoth (ws ++ w ∷ [])
never_receiver w q ws is none never r sends =
    let before : list_any (is_in (reasons.Send r 0)) ws ≡ true = sym (any_end (is_in (reasons.Send r 0)) ws w ∙ ap (λ u. list_any (is_in (reasons.Send r 0)) ws || is_same_queue u (reasons.Send r 0)) is ∙ or-false (list_any (is_in (reasons.Send r 0)) ws)) ∙ sends in
    any_end (is_in (reasons.Receive r)) ws w ∙ ap (λ u. list_any (is_in (reasons.Receive r)) ws || is_same_queue u (reasons.Receive r)) is ∙ elim (cases_Bool (eqb q.0 r.0)) [
      | inl same ↦ absurd (let f : false ≡ true = sym none ∙ same_queue_any (reasons.Send q 0) (reasons.Send r 0) ws same ∙ before in cc)
      | inr other ↦ rw (never r before, other) refl
    ]

-- ---- where no wait ends

-- where an item is there, a task that waits for one is met
meets_receiver : (queues : List (Option DataQueue)) (q : ObjId) (r : WaitReason) → has_item (get queues q.0) ≡ true → (is_met queues r && is_same_queue r (reasons.Receive q)) ≡ is_same_queue r (reasons.Receive q)
meets_receiver queues q (reasons.Receive a) there = elim (cases_Bool (eqb a.0 q.0)) [
  | inl same ↦ rw (eqb-true a.0 q.0 same, there) refl
  | inr other ↦ rw other (and-false (has_item (get queues a.0)))
]
meets_receiver queues q r there = and-false (is_met queues r)

-- where there is room, a task that waits for it is met
meets_sender : (queues : List (Option DataQueue)) (q : ObjId) (r : WaitReason) → has_room (get queues q.0) ≡ true → (is_met queues r && is_same_queue r (reasons.Send q 0)) ≡ is_same_queue r (reasons.Send q 0)
meets_sender queues q (reasons.Send a item) there = elim (cases_Bool (eqb a.0 q.0)) [
  | inl same ↦ rw (eqb-true a.0 q.0 same, there) refl
  | inr other ↦ rw other (and-false (has_room (get queues a.0)))
]
meets_sender queues q r there = and-false (is_met queues r)

module _ (d : PlainQueues) (settled : IsSettled d) where
  nobody_next : next_freed d ≡ None
  nobody_next = none_next (is_met d.queues) d.waiters (at_rest d settled).1

  -- nobody waits for an item that is there
  no_receiver : (q : ObjId) → has_item (get d.queues q.0) ≡ true → list_any (is_in (reasons.Receive q)) d.waiters ≡ false
  no_receiver q there = sym (same_any _ _ d.waiters (λ w. meets_receiver d.queues q w.reason there)) ∙ nobody_met (is_met d.queues) d.waiters (reasons.Receive q) nobody_next

  no_sender : (q : ObjId) → has_room (get d.queues q.0) ≡ true → list_any (is_in (reasons.Send q 0)) d.waiters ≡ false
  no_sender q there = sym (same_any _ _ d.waiters (λ w. meets_sender d.queues q w.reason there)) ∙ nobody_met (is_met d.queues) d.waiters (reasons.Send q 0) nobody_next

-- ---- the calls

-- nobody is the first of a queue in which nobody waits
nobody_first : (reason : WaitReason) (ws : List Waiter) → first_in reason ws ≡ None → list_any (is_in reason) ws ≡ false
nobody_first reason ws e = none_any (is_in reason) ws (none_least (is_in reason) urgency ws e)

-- a queue with capacity that has no room has an item, and the other way round
full_has_item : (o : Option DataQueue) → hands_over o ≡ false → has_room o ≡ false → has_item o ≡ true
full_has_item o some full = grind (arith, nat_tests)

empty_has_room : (o : Option DataQueue) → hands_over o ≡ false → has_item o ≡ false → has_room o ≡ true
empty_has_room o some empty = grind (arith, nat_tests)

never_joined : (w : Waiter) (tmo : Tmo) (ws : List Waiter) → NeverBoth ws → NeverBoth (ws ++ w ∷ []) → NeverBoth (joined_by w tmo ws)
never_joined w tmo ws stays joins = elim (cases_Bool (is_poll tmo)) [
  | inl poll ↦ rw poll stays
  | inr waits ↦ rw waits joins
]

module _ (d : PlainQueues) (settled : IsSettled d) (never : NeverBoth d.waiters) where
  -- a sender that doesn't send at once waits where nobody receives
  sender_alone : (q : ObjId) (item : ℕ) → hands_over (get d.queues q.0) ≡ false → sends_at_once d (reasons.Send q item) ≡ false → list_any (is_in (reasons.Receive q)) d.waiters ≡ false
  sender_alone q item some waits = elim (cases_Bool (list_any (is_in (reasons.Send q item)) d.waiters)) [
    | inl others ↦ never q (same_queue_any (reasons.Send q 0) (reasons.Send q item) d.waiters (eq-eqb q.0 q.0 refl) ∙ others)
    | inr nobody ↦ no_receiver d settled q (full_has_item (get d.queues q.0) some (sym (and-true (has_room (get d.queues q.0))) ∙ rw nobody at waits))
  ]

  pub sender_waits : (q : ObjId) (item : ℕ) (tmo : Tmo) (w : Waiter)
      → w.reason ≡ reasons.Send q item
      → other_side d q (reasons.Receive q) ≡ None
      → sends_at_once d (reasons.Send q item) ≡ false
      → NeverBoth (joined_by w tmo d.waiters)
  sender_waits q item tmo w is none waits = never_joined w tmo d.waiters never (never_sender w q item d.waiters is alone never)
    where
      alone : list_any (is_in (reasons.Receive q)) d.waiters ≡ false
      alone = elim (cases_Bool (hands_over (get d.queues q.0))) [
        | inl hands ↦ nobody_first (reasons.Receive q) d.waiters (rw hands at none)
        | inr keeps ↦ sender_alone q item keeps waits
      ]

  -- and a receiver that finds no item where nobody sends
  pub receiver_waits : (q : ObjId) (tmo : Tmo) (w : Waiter)
      → w.reason ≡ reasons.Receive q
      → other_side d q (reasons.Send q 0) ≡ None
      → is_met d.queues (reasons.Receive q) ≡ false
      → NeverBoth (joined_by w tmo d.waiters)
  receiver_waits q tmo w is none waits = never_joined w tmo d.waiters never (never_receiver w q d.waiters is alone never)
    where
      alone : list_any (is_in (reasons.Send q 0)) d.waiters ≡ false
      alone = elim (cases_Bool (hands_over (get d.queues q.0))) [
        | inl hands ↦ nobody_first (reasons.Send q 0) d.waiters (rw hands at none)
        | inr keeps ↦ no_sender d settled q (empty_has_room (get d.queues q.0) keeps waits)
      ]

  sent_never : (q : ObjId) (item : ℕ) (tmo : Tmo) (task : TaskId) (pri rank : ℕ) (o : Option (Waiter × List Waiter))
      → other_side d q (reasons.Receive q) ≡ o
      → NeverBoth (sent_to d q item tmo task pri rank o).dtqs.waiters
  sent_never q item tmo task pri rank (Some receiver) e = elim (cases_Bool (hands_over (get d.queues q.0))) [
    | inl hands ↦ never_fewer _ d.waiters receiver (rw hands at e) never
    | inr keeps ↦ absurd (let f : None ≡ Some receiver = rw keeps at e in cc)
  ]
  sent_never q item tmo task pri rank None e = elim (cases_Bool (sends_at_once d (reasons.Send q item))) [
    | inl at_once ↦ rw at_once never
    | inr waits ↦ rw waits (sender_waits q item tmo _ refl e waits)
  ]

  received_never : (q : ObjId) (tmo : Tmo) (task : TaskId) (pri rank : ℕ) (o : Option (Waiter × List Waiter))
      → other_side d q (reasons.Send q 0) ≡ o
      → NeverBoth (received_from d q tmo task pri rank o).dtqs.waiters
  received_never q tmo task pri rank (Some sender) e = elim (cases_Bool (hands_over (get d.queues q.0))) [
    | inl hands ↦ never_fewer _ d.waiters sender (rw hands at e) never
    | inr keeps ↦ absurd (let f : None ≡ Some sender = rw keeps at e in cc)
  ]
  received_never q tmo task pri rank None e = elim (cases_Bool (is_met d.queues (reasons.Receive q))) [
    | inl at_once ↦ rw at_once never
    | inr waits ↦ rw waits (receiver_waits q tmo _ refl e waits)
  ]

-- a call that is refused changes nothing
unless_never : (code : Option Er) (d : PlainQueues) (done : QueuesDone) → NeverBoth d.waiters → NeverBoth done.dtqs.waiters → NeverBoth (unless_refused code d done).dtqs.waiters
unless_never None d done stays is = is
unless_never (Some code) d done stays is = stays

pub tsnd_never : (d : PlainQueues) (q : ObjId) (item : ℕ) (tmo : Tmo) (task : TaskId) (pri rank : ℕ) → IsSettled d → NeverBoth d.waiters → NeverBoth (tsnd_dtq d q item tmo task pri rank).dtqs.waiters
tsnd_never d q item tmo task pri rank settled never =
    unless_never (first_refusal (tsnd_dtq_refusals d q tmo)) d _ never (sent_never d settled never q item tmo task pri rank (other_side d q (reasons.Receive q)) refl)

pub fsnd_never : (d : PlainQueues) (q : ObjId) (item : ℕ) → NeverBoth d.waiters → NeverBoth (fsnd_dtq d q item).dtqs.waiters
fsnd_never d q item never = unless_never (first_refusal (fsnd_dtq_refusals d q)) d _ never never

pub trcv_never : (d : PlainQueues) (q : ObjId) (tmo : Tmo) (task : TaskId) (pri rank : ℕ) → IsSettled d → NeverBoth d.waiters → NeverBoth (trcv_dtq d q tmo task pri rank).dtqs.waiters
trcv_never d q tmo task pri rank settled never =
    unless_never (first_refusal (trcv_dtq_refusals d q tmo)) d _ never (received_never d settled never q tmo task pri rank (other_side d q (reasons.Send q 0)) refl)

-- ---- the ends, and one task

pub freed_never : (d : PlainQueues) → NeverBoth d.waiters → NeverBoth (freed d).waiters
freed_never d never = at_handed d.handed
  where
    at_next : (o : Option (Waiter × List Waiter)) → next_freed d ≡ o → NeverBoth (without d o).waiters
    at_next None e = never
    at_next (Some z) e = never_fewer (comes_next (is_met d.queues) d.waiters) d.waiters z e never

    at_handed : (h : Option Handed) → NeverBoth (freed_after d h).waiters
    at_handed None = at_next (next_freed d) refl
    at_handed (Some h) = never

pub left_never : (d : PlainQueues) (task : TaskId) → NeverBoth d.waiters → NeverBoth (left d task).waiters
left_never d task never = at (take_first (is_task task) d.waiters) refl
  where
    at : (o : Option (Waiter × List Waiter)) → take_first (is_task task) d.waiters ≡ o → NeverBoth (the_others d.waiters o)
    at None e = never
    at (Some z) e = never_fewer (is_task task) d.waiters z e never

pub reprioritised_never : (d : PlainQueues) (task : TaskId) (pri rank : ℕ) → NeverBoth d.waiters → NeverBoth (reprioritised d task pri rank).waiters
reprioritised_never d task pri rank never = at (take_first (is_task task) d.waiters) refl
  where
    at : (o : Option (Waiter × List Waiter)) → take_first (is_task task) d.waiters ≡ o → NeverBoth (moved (is_by_priority d.queues) d.waiters pri rank o)
    at None e = never
    at (Some z) e = elim (cases_Bool (is_by_priority d.queues z.0.reason)) [
      | inl t ↦ rw t (never_moved (is_task task) d.waiters z _ e refl never)
      | inr t ↦ rw t never
    ]

-- ---- whatever is done

step_never : (s : QueueStep) (d : PlainQueues) → IsAllowed s d → NeverBoth d.waiters → NeverBoth (after_step s d).waiters
step_never (Sends q item tmo task pri rank) d allowed never = tsnd_never d q item tmo task pri rank allowed never
step_never (Forces q item) d allowed never = fsnd_never d q item never
step_never (Receives q tmo task pri rank) d allowed never = trcv_never d q tmo task pri rank allowed never
step_never Frees d allowed never = freed_never d never
step_never (Leaves task) d allowed never = left_never d task never
step_never (Reprioritises task pri rank) d allowed never = reprioritised_never d task pri rank never

steps_never : (ss : List QueueStep) (d : PlainQueues) → AreAllowed ss d → NeverBoth d.waiters → NeverBoth (after_steps ss d).waiters
steps_never [] d allowed never = never
steps_never (s ∷ ss) d allowed never = steps_never ss (after_step s d) allowed.1 (step_never s d allowed.0 never)

pub opened_never : (conf : SyncConf) → NeverBoth (opened conf).waiters
opened_never conf q sends = refl

-- from the opening on, whatever is done
pub one_side : (conf : SyncConf) (ss : List QueueStep) → AreAllowed ss (opened conf) → NeverBoth (after_steps ss (opened conf)).waiters
one_side conf ss allowed = steps_never ss (opened conf) allowed (opened_never conf)
