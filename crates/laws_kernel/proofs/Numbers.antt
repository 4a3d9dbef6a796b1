-- The numbers of the calls that wait in the whole kernel: the last one is that of the call which began to wait last, and none is above it.
use Rattle.std.proofs.Common.{◌≡◌, ℕ, zero, suc, ◌≤◌, Bool, List, [], ◌∷◌, ◌++◌, length, Option, Some, None, refl, ap, sym, ◌∙◌, subst, inl, inr, arith}
use Rattle.it_types.specs.declared.id.TaskId.{TaskId}
use Rattle.it_types.specs.declared.id.CallNo.{CallNo}
use Rattle.it_types.specs.declared.conf.KConf.{KConf}
use Rattle.it_types.specs.declared.timeout.Tmo.{Tmo}
use Rattle.it_types.specs.declared.context.Ctx.{Ctx}
use Rattle.it_types.specs.declared.kernel_request.KReq.{KReq}
use Rattle.spec_lists.specs.First.{take_first}
use Rattle.spec_lists.proofs.Firsts.{cases_of_first, some_parts}
use Rattle.spec_kernel.specs.declared.reason.WaitReason.{WaitReason}
use Rattle.spec_kernel.specs.declared.reason.WaitReason.TheVariants as reasons
use Rattle.spec_kernel.specs.declared.reason.WaitingCall.{WaitingCall}
use Rattle.spec_kernel.specs.PlainKernel.{PlainKernel, is_of}
use Rattle.spec_kernel.specs.Settle.{Outcome, freed, comes_next, next_freed, settle, settled}
use Rattle.spec_kernel.specs.Rows.{with_wait, waiting_call, moved, the_others, call, quiet, ticked, tick}
use Rattle.spec_kernel.specs.Time.{is_next_past, by_time, due, blocked, is_outside_of, unblocked}
use Rattle.spec_kernel.specs.Standing.{IsStanding}
use Rattle.spec_kernel.specs.Opening.{opened}
use Rattle.laws_kernel.specs.Calling.{Calls, AllAtMost, AreNumbered}
use Rattle.laws_kernel.specs.Acting.{Act, Blocks}
use Rattle.laws_kernel.specs.Acting.Act.{stays, wakes, lies_down, begins, suspends, resumes, goes_last, waits_last}
use Rattle.laws_kernel.specs.Acting.Blocks.{blocks}
use Rattle.laws_kernel.proofs.Standing.{act_stands, block_stands}
use Rattle.laws_kernel.proofs.RowActs.{Keeps}
use Rattle.laws_kernel.proofs.Events.{call_holds}
use Rattle.laws_kernel.proofs.Timing.{due_is}

-- ---- the last number

moved-last_call : (k : PlainKernel) (o : Option (WaitingCall × List WaitingCall)) → (moved k o).last_call ≡ k.last_call
moved-last_call k None = refl
moved-last_call k (Some z) = refl

-- no act changes the last number
act-last_call : (k l : PlainKernel) → Act k l → l.last_call ≡ k.last_call
act-last_call k l (stays same r w n last now) = last
act-last_call k l (wakes f z e is) = ap (λ (m : PlainKernel). m.last_call) is
act-last_call k l (lies_down t is) = ap (λ (m : PlainKernel). m.last_call) is
act-last_call k l (begins t x e inactive is) = ap (λ (m : PlainKernel). m.last_call) is
act-last_call k l (suspends t is) = ap (λ (m : PlainKernel). m.last_call) is
act-last_call k l (resumes t left active suspended is) = ap (λ (m : PlainKernel). m.last_call) is
act-last_call k l (goes_last f is) = ap (λ (m : PlainKernel). m.last_call) is
act-last_call k l (waits_last f is) = ap (λ (m : PlainKernel). m.last_call) is ∙ moved-last_call k (take_first f k.waits)

-- a new wait does
block-last_call : (number : CallNo) (k l : PlainKernel) → Blocks number k l → l.last_call ≡ number.0
block-last_call number k l (blocks t reason tmo listed is) = ap (λ (m : PlainKernel). m.last_call) is

-- ---- no number is above the last one

most_end : (n : ℕ) (ws : List WaitingCall) (w : WaitingCall) → AllAtMost n ws → w.call.0 ≤ n → AllAtMost n (ws ++ w ∷ [])
most_end n [] w h le = (le, tt)
most_end n (v ∷ ws) w h le = (h.0, most_end n ws w h.1 le)

most_more : (m n : ℕ) (ws : List WaitingCall) → m ≤ n → AllAtMost m ws → AllAtMost n ws
most_more m n [] le h = tt
most_more m n (w ∷ ws) le h = (omega (arith, h.0, le), most_more m n ws le h.1)

-- one that is found, and the others
most_found : (n : ℕ) (f : WaitingCall → Bool) (ws : List WaitingCall) (z : WaitingCall × List WaitingCall) → take_first f ws ≡ Some z → AllAtMost n ws → (z.0.call.0 ≤ n) × AllAtMost n z.1
most_found n f [] z e h = cc
most_found n f (w ∷ ws) z e h = elim (some_parts f w ws z e) [
  | inl s ↦ rw s.1 h
  | inr s ↦ (let rest = most_found n f ws s.0 s.2 h.1 in rw s.3 (rest.0, (h.0, rest.1)))
]

most_others : (n : ℕ) (f : WaitingCall → Bool) (ws : List WaitingCall) (o : Option (WaitingCall × List WaitingCall)) → take_first f ws ≡ o → AllAtMost n ws → AllAtMost n (the_others ws o)
most_others n f ws None e h = h
most_others n f ws (Some z) e h = (most_found n f ws z e h).1

moved_numbered : (k : PlainKernel) (f : WaitingCall → Bool) (o : Option (WaitingCall × List WaitingCall)) → take_first f k.waits ≡ o → AreNumbered k → AreNumbered (moved k o)
moved_numbered k f None e h = h
moved_numbered k f (Some z) e h = let parts = most_found k.last_call f k.waits z e h in most_end k.last_call z.1 (record z.0 { rank = k.next_rank }) parts.1 parts.0

act_numbered : (k l : PlainKernel) → Act k l → AreNumbered k → AreNumbered l
act_numbered k l (stays same r w n last now) h = subst (λ m. AllAtMost m l.waits) (sym last) (subst (AllAtMost k.last_call) (sym w) h)
act_numbered k l (wakes f z e is) h = subst AreNumbered (sym is) (most_found k.last_call f k.waits z e h).1
act_numbered k l (lies_down t is) h = subst AreNumbered (sym is) (most_others k.last_call (is_of t.0) k.waits (take_first (is_of t.0) k.waits) refl h)
act_numbered k l (begins t x e inactive is) h = subst AreNumbered (sym is) h
act_numbered k l (suspends t is) h = subst AreNumbered (sym is) h
act_numbered k l (resumes t left active suspended is) h = subst AreNumbered (sym is) h
act_numbered k l (goes_last f is) h = subst AreNumbered (sym is) h
act_numbered k l (waits_last f is) h = subst AreNumbered (sym is) (moved_numbered k f (take_first f k.waits) refl h)

-- a new wait under a number that isn't below the last one
pub waiting_numbered : (k : PlainKernel) (task : TaskId) (reason : WaitReason) (tmo : Tmo) (number : CallNo) → k.last_call ≤ number.0 → AreNumbered k → AreNumbered (with_wait k task reason tmo number)
waiting_numbered k task reason tmo number le h = most_end number.0 k.waits (waiting_call k task reason tmo number) (most_more k.last_call number.0 k.waits le h) (omega arith)

block_numbered : (number : CallNo) (k l : PlainKernel) → Blocks number k l → k.last_call ≤ number.0 → AreNumbered k → AreNumbered l
block_numbered number k l (blocks t reason tmo listed is) le h = subst AreNumbered (sym is) (waiting_numbered k t reason tmo number le h)

module _ (number : CallNo) where
  StandsNumbered : Bool → PlainKernel → Type 0
  StandsNumbered b k = IsStanding k × ((k.last_call ≤ number.0) × AreNumbered k)

  numbers_kept : Keeps number StandsNumbered
  unfolding StandsNumbered
  numbers_kept = record {
    act = λ b k l a p. (act_stands k l a p.0, (subst (λ n. n ≤ number.0) (sym (act-last_call k l a)) p.1.0, act_numbered k l a p.1.1));
    block = λ k l a p. (block_stands number k l a p.0, (subst (λ n. n ≤ number.0) (sym (block-last_call number k l a)) (omega arith), block_numbered number k l a p.1.0 p.1.1));
    stands = λ b k p. p.0;
  }

-- after a call under a number that isn't below the last one
pub call_numbered : (k : PlainKernel) (ctx : Ctx) (request : KReq) (number : CallNo) → IsStanding k → Calls k ctx → k.last_call ≤ number.0 → AreNumbered k → AreNumbered (call k ctx request number).kernel
unfolding StandsNumbered
call_numbered k ctx request number s calls le h = (call_holds (StandsNumbered number) (numbers_kept number) k ctx request calls (s, (le, h))).1.1

settle_numbered : (n : ℕ) (k : PlainKernel) → AreNumbered k → AreNumbered (settle n k).0
unfolding settle
settle_numbered zero k h = h
settle_numbered (suc n) k h = elim (cases_of_first (next_freed k)) [
  | inl e ↦ rw e h
  | inr z ↦ rw z.1 (settle_numbered n (freed k z.0.0 z.0.1) (most_found k.last_call (comes_next k) k.waits z.0 z.1 h).1)
]

-- after settling
pub settled_numbered : (o : Outcome) → AreNumbered o.kernel → AreNumbered (settled o).kernel
unfolding settled
settled_numbered o h = settle_numbered (length o.kernel.waits) o.kernel h

-- after a tick
pub tick_numbered : (k : PlainKernel) → AreNumbered k → AreNumbered (tick k).kernel
unfolding tick
tick_numbered k h = settled_numbered (quiet (ticked k)) h

-- after an end by time
pub due_numbered : (k : PlainKernel) (o : Outcome) → due k ≡ Some o → AreNumbered k → AreNumbered o.kernel
due_numbered k o e h = let x = due_is k o e in subst (λ (p : Outcome). AreNumbered p.kernel) x.2 (settled_numbered (by_time k x.0) (most_found k.last_call (is_next_past k.clock.now k.waits) k.waits x.0 x.1 h).1)

-- after a task began to wait outside
pub blocked_numbered : (k : PlainKernel) (task : TaskId) (tmo : Tmo) (number : CallNo) → k.last_call ≤ number.0 → AreNumbered k → AreNumbered (blocked k task tmo number)
blocked_numbered k task tmo number le h = waiting_numbered k task reasons.Outside tmo number le h

-- after it was woken
pub unblocked_numbered : (k : PlainKernel) (task : TaskId) → AreNumbered k → AreNumbered (unblocked k task).0
unfolding unblocked
unblocked_numbered k task h = elim (cases_of_first (take_first (is_outside_of task) k.waits)) [
  | inl none ↦ rw none h
  | inr z ↦ rw z.1 (most_found k.last_call (is_outside_of task) k.waits z.0 z.1 h).1
]

-- at the opening no call waits
pub opened_numbered : (conf : KConf) → AreNumbered (opened conf)
opened_numbered conf = tt
