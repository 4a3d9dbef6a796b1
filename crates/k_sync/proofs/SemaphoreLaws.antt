-- What the code does at semaphores keeps their ranges, and is what its definition says.
use Rattle.std.proofs.Common.{◌≡◌, ℕ, ◌+◌, ◌-◌, ◌<◌, ◌≤◌, true, false, not, ◌&&◌, leb, ltb, List, [], ◌∷◌, length, set, Option, Some, None, is_none, refl, ap, sym, ◌∙◌, subst, inl, inr, arith}
use Rattle.std.specs.List.{list_all, list_any}
use Rattle.std.proofs.lemmas.Bool.{and_parts, cases_Bool, cases_eq, cases_lt, eqb-true, or_right}
use Rattle.std.proofs.lemmas.Bool.Decides.{nat_tests}
use Rattle.std.proofs.lemmas.List.{get_or-replicate, get_or-set_same, get_or-set_other, get_or_past, length-set}
use Rattle.it_types.specs.declared.id.ObjId.{ObjId}
use Rattle.it_types.specs.declared.er.Er.{Er}
use Rattle.it_types.specs.declared.conf.SemDecl.{SemDecl}
use Rattle.spec_lists.specs.Tables.{get, change, empty_table, filled}
use Rattle.spec_lists.specs.Refusal.{first_refusal}
use Rattle.spec_lists.proofs.Refusing.{none_holds}
use Rattle.spec_kernel.specs.declared.semaphore_block.SemaphoreBlock.{SemaphoreBlock}
use Rattle.spec_kernel.specs.declared.reason.WaitReason.{WaitReason}
use Rattle.spec_kernel.specs.declared.reason.WaitReason.TheVariants as reasons
use Rattle.spec_kernel.specs.declared.waiter.Waiter.{Waiter}
use Rattle.spec_kernel.specs.Waiters.{is_same_queue, is_in, next_waiter}
use Rattle.spec_kernel.specs.SemaphoreBlocks.{count_of, has_count, is_full, one_more, one_less, semaphore_id, semaphore_declared, keeps_ranges}
use Rattle.spec_kernel.specs.Ids.{greatest_id}
use Rattle.spec_kernel.specs.PlainSemaphores.{PlainSemaphores, is_met, next_ready, freed}
use Rattle.spec_kernel.specs.SemaphoreRows.{sig_sem_refusals}
use Rattle.spec_kernel.specs.ObjectRows.{told}
use Rattle.spec_kernel.specs.Waiting.{semaphores_after}
use Rattle.spec_kernel.proofs.NextWaiter.{nobody_met}
use Rattle.k_sync.specs.Waiting.{AreApart}
use Rattle.k_sync.specs.KeptSemaphores.{is_in_range, AreInRange}

-- ---- ranges

-- a semaphore that is put into the table with its ranges kept
ranges_set : (semaphores : List (Option SemaphoreBlock)) (id : ℕ) (o : Option SemaphoreBlock) → AreInRange semaphores → is_in_range o ≡ true → AreInRange (set semaphores id o)
ranges_set semaphores id o ranges good = record { each = each }
  where
    each : (i : ℕ) → is_in_range (get (set semaphores id o) i) ≡ true
    each i = elim (cases_eq i id) [
      | inl e ↦ subst (λ n. is_in_range (get (set semaphores id o) n) ≡ true) (sym e) (elim (cases_lt id (length semaphores)) [
        | inl inside ↦ ap is_in_range (get_or-set_same semaphores id o None inside) ∙ good
        | inr past ↦ ap is_in_range (get_or_past (set semaphores id o) id None (subst (λ n. n ≤ id) (sym (length-set semaphores id o)) past))
      ])
      | inr e ↦ ap is_in_range (get_or-set_other semaphores id i o None e) ∙ ranges.each i
    ]

lowered : (o : Option SemaphoreBlock) → is_in_range o ≡ true → is_in_range (one_less o) ≡ true
lowered None e = refl
lowered (Some s) e = fewer s.count s.max e
  where
    fewer : (n m : ℕ) → (leb n m && (leb 1 m && leb m 65535)) ≡ true → (leb (n - 1) m && (leb 1 m && leb m 65535)) ≡ true
    fewer n m e = grind (arith, nat_tests)

-- the declared semaphores keep them
ranges_filled : (ds : List SemDecl) (table : List (Option SemaphoreBlock)) → list_all keeps_ranges ds ≡ true → AreInRange table → AreInRange (filled semaphore_id semaphore_declared ds table)
ranges_filled [] table good ranges = ranges
ranges_filled (d ∷ ds) table good ranges =
    let parts = and_parts (keeps_ranges d) (list_all keeps_ranges ds) good in
    ranges_filled ds (set table d.id (Some (semaphore_declared d))) parts.1 (ranges_set table d.id (Some (semaphore_declared d)) ranges parts.0)

no_ranges : AreInRange (empty_table greatest_id)
no_ranges = record { each = λ i. ap is_in_range (nothing i) }
  where
    nothing : (i : ℕ) → get {X = SemaphoreBlock} (empty_table greatest_id) i ≡ None
    nothing i = elim (cases_lt i 17) [
      | inl inside ↦ get_or-replicate 17 i None None inside
      | inr past ↦ get_or_past (empty_table greatest_id) i None past
    ]

pub ranges_declared : (ds : List SemDecl) → list_all keeps_ranges ds ≡ true → AreInRange (filled semaphore_id semaphore_declared ds (empty_table greatest_id))
ranges_declared ds good = ranges_filled ds (empty_table greatest_id) good no_ranges

-- ---- a signal

-- a semaphore whose count is below the maximum
pub record IsBelow (o : Option SemaphoreBlock) : Type 0 where
  pub count : count_of o < 65535
  pub after : is_in_range (one_more o) ≡ true

below : (o : Option SemaphoreBlock) → is_in_range o ≡ true → is_none o ≡ false → is_full o ≡ false → IsBelow o
below None good there full = cc
below (Some s) good there full = record { count = small s.count s.max good full; after = more s.count s.max good full }
  where
    small : (n m : ℕ) → (leb n m && (leb 1 m && leb m 65535)) ≡ true → leb m n ≡ false → n < 65535
    small n m e f = grind (arith, nat_tests)

    more : (n m : ℕ) → (leb n m && (leb 1 m && leb m 65535)) ≡ true → leb m n ≡ false → (leb (n + 1) m && (leb 1 m && leb m 65535)) ≡ true
    more n m e f = grind (arith, nat_tests)

-- without a count it isn't full
not_full : (o : Option SemaphoreBlock) → is_in_range o ≡ true → is_none o ≡ false → has_count o ≡ false → is_full o ≡ false
not_full None good there none = cc
not_full (Some s) good there none = empty s.count s.max good none
  where
    empty : (n m : ℕ) → (leb n m && (leb 1 m && leb m 65535)) ≡ true → ltb 0 n ≡ false → leb m n ≡ false
    empty n m e f = grind (arith, nat_tests)

-- who waits in the semaphore's queue is met exactly where it has a count
met_alike : (semaphores : List (Option SemaphoreBlock)) (s : ObjId) (reason : WaitReason) → is_same_queue reason (reasons.Semaphore s) ≡ true → is_met semaphores reason ≡ has_count (get semaphores s.0)
met_alike semaphores s (reasons.Semaphore t) e = ap (λ i. has_count (get semaphores i)) (eqb-true t.0 s.0 e)
met_alike semaphores s reason e = absurd (let f : false ≡ true = e in cc)

met_there : (semaphores : List (Option SemaphoreBlock)) (s : ObjId) (ws : List Waiter)
    → has_count (get semaphores s.0) ≡ true
    → list_any (is_in (reasons.Semaphore s)) ws ≡ true
    → list_any (λ w. is_met semaphores w.reason && is_in (reasons.Semaphore s) w) ws ≡ true
met_there semaphores s [] has e = cc
met_there semaphores s (w ∷ ws) has e = elim (cases_Bool (is_in (reasons.Semaphore s) w)) [
  | inl t ↦ rw (met_alike semaphores s w.reason t, has, t) refl
  | inr t ↦ or_right _ _ (met_there semaphores s ws has (rw t at e))
]

nobody_told : (tells : WaitReason → List ℕ) (o : Option (Waiter × List Waiter)) → told tells o ≡ None → o ≡ None
nobody_told tells None e = refl
nobody_told tells (Some z) e = cc

-- a semaphore for which a task waits has no count, where nobody is freed next
no_count : (d : PlainSemaphores) (s : ObjId) → next_ready d ≡ None → list_any (is_in (reasons.Semaphore s)) d.waiters ≡ true → has_count (get d.semaphores s.0) ≡ false
no_count d s settled waits = elim (cases_Bool (has_count (get d.semaphores s.0))) [
  | inr none ↦ none
  | inl has ↦ absurd (
      let there = met_there d.semaphores s d.waiters has waits in
      let nobody = nobody_met (is_met d.semaphores) d.waiters (reasons.Semaphore s) (nobody_told _ (next_waiter (is_met d.semaphores) d.waiters) settled) in
      let f : true ≡ false = sym there ∙ nobody in cc
      )
]

raisable : (d : PlainSemaphores) (s : ObjId) → AreInRange d.semaphores → next_ready d ≡ None → first_refusal (sig_sem_refusals d s) ≡ None → IsBelow (get d.semaphores s.0)
raisable d s ranges settled allowed =
    let tests = none_holds (sig_sem_refusals d s) allowed in
    let there : is_none (get d.semaphores s.0) ≡ false = tests.1.0 in
    let not_over : (not (list_any (is_in (reasons.Semaphore s)) d.waiters) && is_full (get d.semaphores s.0)) ≡ false = tests.1.1.0 in
    below (get d.semaphores s.0) (ranges.each s.0) there (elim (cases_Bool (list_any (is_in (reasons.Semaphore s)) d.waiters)) [
      | inl waits ↦ not_full (get d.semaphores s.0) (ranges.each s.0) there (no_count d s settled waits)
      | inr nobody ↦ rw nobody at not_over
    ])

-- a signal fits that nothing refuses, for the semaphores that the contract names
pub signal_fits : (named : PlainSemaphores) (semaphores : List (Option SemaphoreBlock)) (waiters : List Waiter) (s : ObjId) (refusal : Option Er)
    → record { semaphores = semaphores; waiters = waiters } ≡ named
    → AreInRange semaphores
    → next_ready named ≡ None
    → refusal ≡ first_refusal (sig_sem_refusals named s)
    → refusal ≡ None
    → IsBelow (get semaphores s.0)
signal_fits named semaphores waiters s refusal same ranges settled is none =
    raisable (record { semaphores = semaphores; waiters = waiters }) s ranges (ap next_ready same ∙ settled) (ap (λ d. first_refusal (sig_sem_refusals d s)) same ∙ sym is ∙ none)

pub ranges_raised : (semaphores : List (Option SemaphoreBlock)) (s : ObjId) → AreInRange semaphores → IsBelow (get semaphores s.0) → AreInRange (change semaphores s.0 one_more)
ranges_raised semaphores s ranges is_below = ranges_set semaphores s.0 (one_more (get semaphores s.0)) ranges is_below.after

-- ---- who waits

pub nobody_waits : AreApart []
nobody_waits = record { once = λ n. omega arith; within = λ n le. absurd (omega (arith, le)) }

-- the one that was found is freed, for the semaphores that the contract names
pub one_freed : (named : PlainSemaphores) (semaphores after : List (Option SemaphoreBlock)) (waiters rest : List Waiter) (w : Waiter)
    → record { semaphores = semaphores; waiters = waiters } ≡ named
    → next_waiter (is_met semaphores) waiters ≡ Some (w, rest)
    → after ≡ semaphores_after w.reason semaphores
    → record { semaphores = after; waiters = rest } ≡ freed named
one_freed named semaphores after waiters rest w same first is = subst (λ d. record { semaphores = after; waiters = rest } ≡ freed d) same (rw (first, is) refl)

pub none_freed : (named : PlainSemaphores) (semaphores : List (Option SemaphoreBlock)) (waiters rest : List Waiter)
    → record { semaphores = semaphores; waiters = waiters } ≡ named
    → next_waiter (is_met semaphores) waiters ≡ None
    → rest ≡ waiters
    → record { semaphores = semaphores; waiters = rest } ≡ freed named
none_freed named semaphores waiters rest same none stay = subst (λ d. record { semaphores = semaphores; waiters = rest } ≡ freed d) same (rw (none, stay) refl)
