-- Along every list of operations of the kernel the numbers of ranks rise along both lists.
use Rattle.std.proofs.Common.{◌≡◌, ℕ, zero, suc, ◌≤◌, Bool, true, false, not, ◌&&◌, ◌||◌, slice_set, append-nil, List, [], ◌∷◌, ◌++◌, Option, Some, None, refl, ap, sym, ◌∙◌, subst, inl, inr, arith}
use Rattle.std.specs.Prelude.{nat_lt, if◌then◌else◌}
use Rattle.std.proofs.lemmas.Bool.{cases_eq, eq-eqb, ne_eqb}
use Rattle.std.proofs.lemmas.List.{append_assoc}
use Rattle.it_types.specs.declared.id.TaskId.{TaskId}
use Rattle.it_types.specs.declared.id.CallNo.{CallNo}
use Rattle.it_types.specs.declared.conf.KConf.{KConf}
use Rattle.spec_lists.specs.Tables.{get}
use Rattle.spec_lists.specs.First.{take_first}
use Rattle.spec_lists.specs.Counting.{one_if, times}
use Rattle.spec_lists.proofs.Counting.{one_if-at_most, one_if-same, one_if-other, times-found}
use Rattle.spec_kernel.specs.declared.reason.WaitingCall.{WaitingCall}
use Rattle.spec_kernel.specs.TaskBlocks.{is_active, is_suspended}
use Rattle.spec_kernel.specs.PlainTasks.{PlainTasks, is_waiting, without, leaving, to_the_end, joining_unless}
use Rattle.spec_kernel.specs.PlainKernel.{PlainKernel, task_wait, tasks_of}
use Rattle.spec_kernel.specs.Settle.{Outcome}
use Rattle.spec_kernel.specs.Rows.{moved, ticked, quiet, tick}
use Rattle.spec_kernel.specs.Time.{due}
use Rattle.spec_kernel.specs.Standing.{task_number, is_runnable, AreRisingTo, IsStanding}
use Rattle.spec_kernel.specs.Standing.{AllAbove as AreAbove}
use Rattle.spec_kernel.specs.Opening.{opened, IsDeclarable}
use Rattle.laws_kernel.specs.Acting.{Act, Blocks}
use Rattle.laws_kernel.specs.Acting.Act.{stays, wakes, lies_down, begins, suspends, resumes, goes_last, waits_last}
use Rattle.laws_kernel.specs.Acting.Blocks.{blocks as blocks_one}
use Rattle.laws_kernel.specs.Rising.{AllAbove, AllBelow, Rises}
use Rattle.laws_kernel.specs.Ranks.{Ranks, drawn, drawn_unless, drawn_by, draws, all_drawn, opened_ranks, OneAct, InActs, LeadsTo, Operation, kernel_after, after, IsAllowed, task_rank, call_rank, IsOrdered, OrderedAlong}
use Rattle.laws_kernel.specs.Ranks.OneAct.{acts, blocks, ticks}
use Rattle.laws_kernel.specs.Ranks.Operation.{Call, Tick, Due, Block, Unblock}
use Rattle.laws_kernel.proofs.Rising.{AgreeOn, below_end, rises_end, below_more, below_found, rises_found, below_filter, rises_filter, below_agree, rises_agree}
use Rattle.laws_kernel.proofs.Standing.{act_stands, block_stands, sees_its_wait, listed_is_active, listed_doesnt_wait}
use Rattle.laws_kernel.proofs.RowActs.{Keeps, found_waits}
use Rattle.laws_kernel.proofs.Events.{settled_holds, call_holds, due_holds, blocked_holds, unblocked_holds}
use Rattle.laws_kernel.proofs.Stands.{ticked_stands}
use Rattle.laws_kernel.proofs.Opened.{opened_stands}

-- ---- one list of tasks

record RisesTo (ts : List TaskId) (r : Ranks) : Type 0 where
  rise : Rises (task_rank r) ts
  below : AllBelow (task_rank r) r.next ts

agree_unlisted : (t : TaskId) (r : Ranks) (ts : List TaskId) → times task_number t.0 ts ≡ 0 → AgreeOn (task_rank r) (task_rank (drawn t r)) ts
agree_unlisted t r [] e = tt
agree_unlisted t r (u ∷ us) e = elim (cases_eq u.0 t.0) [
  | inl same ↦ absurd (omega (arith, e, one_if-same u.0 t.0 same))
  | inr other ↦ (rw (ne_eqb u.0 t.0 other) refl, agree_unlisted t r us (omega (arith, e)))
]

draws_next : (t : TaskId) (r : Ranks) → task_rank (drawn t r) t ≡ r.next
draws_next t r = rw (eq-eqb t.0 t.0 refl) refl

-- a task that wasn't listed is the last
joins : (t : TaskId) (ts : List TaskId) (r : Ranks) → times task_number t.0 ts ≡ 0 → RisesTo ts r → RisesTo (ts ++ t ∷ []) (drawn t r)
joins t ts r absent h =
    let s : Ranks = drawn t r in
    let agree = agree_unlisted t r ts absent in
    let low = below_agree (task_rank r) (task_rank s) r.next ts agree h.below in record {
      rise = rises_end (task_rank s) ts t (rises_agree (task_rank r) (task_rank s) ts agree h.rise) (subst (λ n. AllBelow (task_rank s) n ts) (sym (draws_next t r)) low);
      below = below_end (task_rank s) s.next ts t (below_more (task_rank s) r.next s.next ts (omega arith) low) (omega (arith, draws_next t r));
    }

joins_unless : (b : Bool) (t : TaskId) (ts : List TaskId) (r : Ranks) → times task_number t.0 ts ≡ 0 → RisesTo ts r → RisesTo (if b then ts else ts ++ t ∷ []) (drawn_unless b t r)
joins_unless true t ts r absent h = h
joins_unless false t ts r absent h = joins t ts r absent h

leaves : (t : TaskId) (ts : List TaskId) (r : Ranks) → RisesTo ts r → RisesTo (without t ts) r
leaves t ts r h = record { rise = rises_filter (task_rank r) _ ts h.rise; below = below_filter (task_rank r) r.next _ ts h.below }

-- one that was found goes to the end
goes : (f : TaskId → Bool) (ts : List TaskId) (r : Ranks) (o : Option (TaskId × List TaskId)) → take_first f ts ≡ o → ((id : ℕ) → times task_number id ts ≤ 1) → RisesTo ts r → RisesTo (to_the_end ts o) (drawn_by o r)
goes f ts r None e once h = h
goes f ts r (Some z) e once h =
    joins z.0 z.1 r (omega (arith, once z.0.0, times-found task_number z.0.0 f ts z e, one_if-same z.0.0 z.0.0 refl))
    (record { rise = rises_found (task_rank r) f ts z e h.rise; below = below_found (task_rank r) r.next f ts z e h.below })

-- ---- which tasks aren't listed

module _ (k : PlainKernel) (s : IsStanding k) (t : TaskId) where
  unlisted : (1 ≤ times task_number t.0 k.runnable → ⊥) → times task_number t.0 k.runnable ≡ 0
  unlisted h = elim (cases_eq (times task_number t.0 k.runnable) 0) [
    | inl e ↦ e
    | inr ne ↦ absurd (h (omega (arith, ne)))
  ]

  inactive_unlisted : is_active (get k.tasks t.0) ≡ false → times task_number t.0 k.runnable ≡ 0
  inactive_unlisted e = unlisted (λ le. let f = sym e ∙ listed_is_active k s t le in cc)

  waiting_unlisted : is_waiting (tasks_of k) t ≡ true → times task_number t.0 k.runnable ≡ 0
  waiting_unlisted e = unlisted (λ le. let f = sym e ∙ listed_doesnt_wait k s t le in cc)

  suspended_unlisted : is_suspended (get k.tasks t.0) ≡ true → times task_number t.0 k.runnable ≡ 0
  suspended_unlisted e = s.runnable t.0 ∙ of (is_active (get k.tasks t.0))
    where
      of : (a : Bool) → one_if (is_runnable k t.0) ≡ 0
      of a = rw e (none (is_active (get k.tasks t.0)))
        where
          none : (a : Bool) → one_if (a && false) ≡ 0
          none true = refl
          none false = refl

listed_once : (k : PlainKernel) → IsStanding k → (id : ℕ) → times task_number id k.runnable ≤ 1
listed_once k s id = omega (arith, s.runnable id, one_if-at_most (is_runnable k id))

-- ---- one act

record Ranked (k : PlainKernel) (r : Ranks) : Type 0 where
  stands : IsStanding k
  rises : RisesTo k.runnable r

with_runnable : (k l : PlainKernel) (r : Ranks) → l.runnable ≡ k.runnable → RisesTo k.runnable r → RisesTo l.runnable r
with_runnable k l r e h = subst (λ ts. RisesTo ts r) (sym e) h

moved-runnable : (k : PlainKernel) (o : Option (WaitingCall × List WaitingCall)) → (moved k o).runnable ≡ k.runnable
moved-runnable k None = refl
moved-runnable k (Some z) = refl

unless-runnable : (b : Bool) (d : PlainTasks) (t : TaskId) → (joining_unless b d t).runnable ≡ (if b then d.runnable else d.runnable ++ t ∷ [])
unless-runnable true d t = refl
unless-runnable false d t = refl

act_rises : (k l : PlainKernel) (r : Ranks) (a : Act k l) → IsStanding k → RisesTo k.runnable r → RisesTo l.runnable (draws k l a r)
act_rises k l r (stays same runnable waits next last now) s h = with_runnable k l r runnable h
act_rises k l r (wakes f z e is) s h =
    let waits : is_waiting (tasks_of k) z.0.task ≡ true = sees_its_wait k s z.0.task ∙ found_waits f k.waits z e in
    let b : Bool = is_suspended (get k.tasks z.0.task.0) in
    subst (λ ts. RisesTo ts (drawn_unless b z.0.task r)) (sym (ap (λ (m : PlainKernel). m.runnable) is ∙ unless-runnable b _ z.0.task))
    (joins_unless b z.0.task k.runnable r (waiting_unlisted k s z.0.task waits) h)
act_rises k l r (lies_down t is) s h = subst (λ (m : PlainKernel). RisesTo m.runnable r) (sym is) (leaves t k.runnable r h)
act_rises k l r (begins t x e inactive is) s h =
    subst (λ (m : PlainKernel). RisesTo m.runnable (drawn t r)) (sym is) (joins t k.runnable r (inactive_unlisted k s t (ap is_active e ∙ inactive)) h)
act_rises k l r (suspends t is) s h = subst (λ (m : PlainKernel). RisesTo m.runnable r) (sym is) (leaves t k.runnable r h)
act_rises k l r (resumes t left active suspended is) s h =
    let b : Bool = nat_lt 0 left || is_waiting (tasks_of k) t in
    subst (λ ts. RisesTo ts (drawn_unless b t r)) (sym (ap (λ (m : PlainKernel). m.runnable) is ∙ unless-runnable b _ t))
    (joins_unless b t k.runnable r (suspended_unlisted k s t suspended) h)
act_rises k l r (goes_last f is) s h = subst (λ (m : PlainKernel). RisesTo m.runnable (drawn_by (take_first f k.runnable) r)) (sym is) (goes f k.runnable r (take_first f k.runnable) refl (listed_once k s) h)
act_rises k l r (waits_last f is) s h = with_runnable k l r (ap (λ (m : PlainKernel). m.runnable) is ∙ moved-runnable k (take_first f k.waits)) h

block_rises : (number : CallNo) (k l : PlainKernel) (r : Ranks) → Blocks number k l → RisesTo k.runnable r → RisesTo l.runnable r
block_rises number k l r (blocks_one t reason tmo listed is) h = subst (λ (m : PlainKernel). RisesTo m.runnable r) (sym is) (of (is_active (get k.tasks t.0) && not (is_waiting (tasks_of k) t)))
  where
    of : (b : Bool) → RisesTo (if b then leaving (record (tasks_of k) { waits = slice_set (tasks_of k).waits t.0 (Some (task_wait reason)) }) t else tasks_of k).runnable r
    of true = leaves t k.runnable r h
    of false = h

one_ranked : (k : PlainKernel) (r : Ranks) (l : PlainKernel) (s : Ranks) → OneAct k r l s → Ranked k r → Ranked l s
one_ranked k r l s (acts a e) h = record { stands = act_stands k l a h.stands; rises = subst (RisesTo l.runnable) (sym e) (act_rises k l r a h.stands h.rises) }
one_ranked k r l s (blocks number b e) h = record { stands = block_stands number k l b h.stands; rises = subst (RisesTo l.runnable) (sym e) (block_rises number k l r b h.rises) }
one_ranked k r l s (ticks is e) h = subst (λ m. Ranked m s) (sym is) (record { stands = ticked_stands k h.stands; rises = subst (RisesTo k.runnable) (sym e) h.rises })

-- and so many
acts_ranked : (n : ℕ) (k : PlainKernel) (r : Ranks) (l : PlainKernel) (s : Ranks) → InActs n k r l s → Ranked k r → Ranked l s
acts_ranked zero k r l s h ranked = subst (λ m. Ranked m s) (sym h.0) (subst (Ranked k) (sym h.1) ranked)
acts_ranked (suc n) k r l s h ranked = one_ranked h.0 h.1.0 l s h.1.1.1 (acts_ranked n k r h.0 h.1.0 h.1.1.0 ranked)

-- ---- the operations are acts

module _ (k : PlainKernel) (r : Ranks) where
  LeadsThere : Bool → PlainKernel → Type 0
  LeadsThere b l = IsStanding l × LeadsTo k r l

  one_more : (l m : PlainKernel) → (path : LeadsTo k r l) → (s : Ranks) → OneAct l path.ranks m s → LeadsTo k r m
  one_more l m path s a = record { acts = suc path.acts; ranks = s; happen = (l, (path.ranks, (path.happen, a))) }

  leads_kept : (number : CallNo) → Keeps number LeadsThere
  unfolding LeadsThere
  leads_kept number = record {
    act = λ b l m a p. (act_stands l m a p.0, one_more l m p.1 (draws l m a p.1.ranks) (acts a refl));
    block = λ l m a p. (block_stands number l m a p.0, one_more l m p.1 p.1.ranks (blocks number a refl));
    stands = λ b l p. p.0;
  }

  no_acts : LeadsTo k r k
  no_acts = record { acts = zero; ranks = r; happen = (refl, refl) }

  ticked_leads : LeadsTo k r (ticked k)
  unfolding no_acts
  ticked_leads = one_more k (ticked k) no_acts r (ticks refl refl)

  no_number : CallNo
  no_number = record { 0 = 0 }

  -- each operation is done in acts
  is_acts : (o : Operation) → IsStanding k → IsAllowed k o → LeadsTo k r (after k o)
  unfolding LeadsThere tick
  is_acts (Call ctx request number) s allowed = (call_holds LeadsThere (leads_kept number) k ctx request allowed (s, no_acts)).1
  is_acts Tick s allowed = (settled_holds LeadsThere (leads_kept no_number) false (quiet (ticked k)) (ticked_stands k s, ticked_leads)).1
  is_acts Due s allowed = of (due k) refl
    where
      of : (o : Option Outcome) → due k ≡ o → LeadsTo k r (kernel_after k o)
      of None e = no_acts
      of (Some o) e = (due_holds LeadsThere (leads_kept no_number) false k o e (s, no_acts)).1
  is_acts (Block task tmo number) s allowed = (blocked_holds LeadsThere (leads_kept number) k task tmo allowed.0 allowed.1 (s, no_acts)).1
  is_acts (Unblock task) s allowed = (unblocked_holds LeadsThere (leads_kept no_number) false k task (s, no_acts)).1

-- ---- along the operations

above_calls : (rank : ℕ) (ws : List WaitingCall) → AreAbove rank ws → AllAbove call_rank rank ws
above_calls rank [] h = tt
above_calls rank (w ∷ ws) h = (h.0, above_calls rank ws h.1)

calls_rise : (next : ℕ) (ws : List WaitingCall) → AreRisingTo next ws → Rises call_rank ws
calls_rise next [] h = tt
calls_rise next (w ∷ ws) h = (above_calls w.rank ws h.1.0, calls_rise next ws h.1.1)

ranked_ordered : (k : PlainKernel) (r : Ranks) → Ranked k r → IsOrdered k r
ranked_ordered k r h = record { tasks = h.rises.rise; calls = calls_rise k.next_rank k.waits h.stands.ranks }

ordered_along : (k : PlainKernel) (r : Ranks) (os : List Operation) → Ranked k r → OrderedAlong k r os
ordered_along k r [] h = ranked_ordered k r h
ordered_along k r (o ∷ os) h = (ranked_ordered k r h, λ allowed. (is_acts k r o h.stands allowed, λ n s path. ordered_along (after k o) s os (acts_ranked n k r (after k o) s path h)))

-- ---- at the opening

-- tasks that are listed once each draw one after another
all_rise : (done ts : List TaskId) (r : Ranks) → ((id : ℕ) → times task_number id (done ++ ts) ≤ 1) → RisesTo done r → RisesTo (done ++ ts) (all_drawn ts r)
all_rise done [] r once h = subst (λ us. RisesTo us r) (sym (append-nil done)) h
all_rise done (t ∷ ts) r once h =
    let same : done ++ t ∷ ts ≡ (done ++ t ∷ []) ++ ts = sym (append_assoc done (t ∷ []) ts) in
    subst (λ us. RisesTo us (all_drawn ts (drawn t r))) (sym same) (all_rise (done ++ t ∷ []) ts (drawn t r) (λ id. subst (λ us. times task_number id us ≤ 1) same (once id)) (joins t done r (absent t done ts (once t.0)) h))
  where
    stands_there : (t : TaskId) (done ts : List TaskId) → 1 ≤ times task_number t.0 (done ++ t ∷ ts)
    stands_there t [] ts = omega (arith, one_if-same t.0 t.0 refl)
    stands_there t (u ∷ us) ts = omega (arith, stands_there t us ts)

    absent : (t : TaskId) (done ts : List TaskId) → times task_number t.0 (done ++ t ∷ ts) ≤ 1 → times task_number t.0 done ≡ 0
    absent t [] ts le = refl
    absent t (u ∷ us) ts le = elim (cases_eq u.0 t.0) [
      | inl same ↦ absurd (omega (arith, le, one_if-same u.0 t.0 same, stands_there t us ts))
      | inr other ↦ omega (arith, one_if-other u.0 t.0 other, absent t us ts (omega (arith, le)))
    ]

-- from the opening on
pub ordered_from_opening : (conf : KConf) (os : List Operation) → IsDeclarable conf → OrderedAlong (opened conf) (opened_ranks conf) os
ordered_from_opening conf os good =
    let s : IsStanding (opened conf) = opened_stands conf good in
    ordered_along (opened conf) (opened_ranks conf) os (record { stands = s; rises = all_rise [] (opened conf).runnable _ (listed_once (opened conf) s) (record { rise = tt; below = tt }) })
