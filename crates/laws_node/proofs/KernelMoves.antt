-- What an event of the kernel does to the calls that wait: it ends none outside, or one, of which it tells first; and no call of a task
-- waits whose call it ended.
use Rattle.std.proofs.Common.{◌≡◌, ℕ, zero, suc, ◌+◌, ◌≤◌, Bool, true, false, List, [], ◌∷◌, ◌++◌, length, Some, refl, sym, ◌∙◌, ap, subst, inl, inr, arith}
use Rattle.std.specs.Prelude.{◌==◌}
use Rattle.std.proofs.lemmas.Bool.{cases_Bool}
use Rattle.it_types.specs.declared.id.CallNo.{CallNo}
use Rattle.it_types.specs.declared.er.Er.{Er}
use Rattle.it_types.specs.declared.context.Ctx.{Ctx}
use Rattle.it_types.specs.declared.context.Ctx.TheVariants as contexts
use Rattle.it_types.specs.declared.kernel_request.KReq.{KReq}
use Rattle.it_types.specs.Callers.{caller}
use Rattle.spec_lists.specs.First.{take_first}
use Rattle.spec_lists.specs.Counting.{one_if}
use Rattle.spec_lists.proofs.Counting.{one_if-same, times-end, times-found}
use Rattle.spec_lists.proofs.Firsts.{cases_of_first}
use Rattle.spec_kernel.specs.declared.outcome.KEnd.{KEnd}
use Rattle.spec_kernel.specs.declared.reason.WaitingCall.{WaitingCall}
use Rattle.spec_kernel.specs.PlainKernel.{PlainKernel}
use Rattle.spec_kernel.specs.Settle.{Outcome, is_outside, ending, comes_next, next_freed, freed, settle, settled}
use Rattle.spec_kernel.specs.Rows.{waiting_call, row, call, quiet, ticked, tick}
use Rattle.spec_kernel.specs.Time.{is_next_past, next_past, code_by_time, by_time, due}
use Rattle.spec_kernel.specs.Standing.{waiting_number, IsStanding}
use Rattle.laws_kernel.specs.Calling.{Calls}
use Rattle.laws_kernel.proofs.Standing.{ended_stands}
use Rattle.laws_kernel.proofs.Stands.{row_stands, freed_stands, settled_stands, ticked_stands}
use Rattle.laws_kernel.proofs.Timing.{due_is}
use Rattle.laws_kernel.proofs.OutsideEnds.{RowWaits, row_waits, next_inside, AreInside, settle_inside}
use Rattle.laws_kernel.proofs.OutsideEnds.RowWaits.{leaves, begins, moves, ends}
use Rattle.laws_node.specs.Agreement.{times, times_waiting, is_outside_call}
use Rattle.laws_node.proofs.Times.{times_end, times_found}

-- the same tasks wait outside, with the same calls
abbrev pub SameOutside : List WaitingCall → List WaitingCall → Type 0
SameOutside before after = (number id : ℕ) → times (is_outside_call number id) before ≡ times (is_outside_call number id) after

-- but for this one
abbrev pub OneFewer : WaitingCall → List WaitingCall → List WaitingCall → Type 0
OneFewer w before after = (number id : ℕ) → times (is_outside_call number id) before ≡ times (is_outside_call number id) after + one_if (is_outside_call number id w)

-- no call waits that didn't
abbrev pub Fewer : List WaitingCall → List WaitingCall → Type 0
Fewer before after = (id : ℕ) → times_waiting id after ≤ times_waiting id before

-- but for one of this task
abbrev pub Grows : ℕ → List WaitingCall → List WaitingCall → Type 0
Grows task before after = (id : ℕ) → times_waiting id after ≤ times_waiting id before + one_if (task == id)

-- no call of a task waits whose call ended
abbrev pub AreFree : List KEnd → List WaitingCall → Type 0
AreFree [] waits = Unit {0}
AreFree (e ∷ es) waits = (times_waiting e.task.0 waits ≡ 0) × AreFree es waits

-- no call outside ended, or one, of which it is told first
pub data Did (before : List WaitingCall) (o : Outcome) : Type 0 where
  none : AreInside o.ends → SameOutside before o.kernel.waits → Did before o
  one : (w : WaitingCall) (code : Er) (bytes : List ℕ) (es : List KEnd) → is_outside w.reason ≡ true → o.ends ≡ ending w code bytes ∷ es → AreInside es → OneFewer w before o.kernel.waits → Did before o

-- ---- ends

inside_append : (xs ys : List KEnd) → AreInside xs → AreInside ys → AreInside (xs ++ ys)
inside_append [] ys h g = g
inside_append (x ∷ xs) ys h g = (h.0, inside_append xs ys h.1 g)

free_append : (xs ys : List KEnd) (waits : List WaitingCall) → AreFree xs waits → AreFree ys waits → AreFree (xs ++ ys) waits
free_append [] ys waits h g = g
free_append (x ∷ xs) ys waits h g = (h.0, free_append xs ys waits h.1 g)

pub free_fewer : (es : List KEnd) (before after : List WaitingCall) → Fewer before after → AreFree es before → AreFree es after
free_fewer [] before after fewer h = tt
free_fewer (e ∷ es) before after fewer h = (omega (arith, h.0, fewer e.task.0), free_fewer es before after fewer h.1)

inside_is_none : (number id : ℕ) (w : WaitingCall) → is_outside w.reason ≡ false → one_if (is_outside_call number id w) ≡ 0
inside_is_none number id w e = rw e refl

found_fewer : (f : WaitingCall → Bool) (ws : List WaitingCall) (z : WaitingCall × List WaitingCall) → take_first f ws ≡ Some z → Fewer ws z.1
found_fewer f ws z e id = omega (arith, times-found waiting_number id f ws z e)

-- a task waits once at most
found_free : (k : PlainKernel) (f : WaitingCall → Bool) (z : WaitingCall × List WaitingCall) → IsStanding k → take_first f k.waits ≡ Some z → times_waiting z.0.task.0 z.1 ≡ 0
found_free k f z s e = omega (arith, s.once z.0.task.0, times-found waiting_number z.0.task.0 f k.waits z e, one_if-same z.0.task.0 z.0.task.0 refl)

-- ---- settling

settle_outside : (n : ℕ) (k : PlainKernel) → SameOutside k.waits (settle n k).0.waits
unfolding settle
settle_outside zero k number id = refl
settle_outside (suc n) k number id = elim (cases_of_first (next_freed k)) [
  | inl e ↦ rw e refl
  | inr z ↦
      rw z.1
      (omega (arith, times_found (is_outside_call number id) (comes_next k) k.waits z.0 z.1, inside_is_none number id z.0.0 (next_inside k z.0 z.1), settle_outside n (freed k z.0.0 z.0.1) number id))
]

settle_fewer : (n : ℕ) (k : PlainKernel) → Fewer k.waits (settle n k).0.waits
unfolding settle
settle_fewer zero k id = omega arith
settle_fewer (suc n) k id = elim (cases_of_first (next_freed k)) [
  | inl e ↦ rw e (omega arith)
  | inr z ↦ rw z.1 (omega (arith, settle_fewer n (freed k z.0.0 z.0.1) id, found_fewer (comes_next k) k.waits z.0 z.1 id))
]

settle_free : (n : ℕ) (k : PlainKernel) → IsStanding k → AreFree (settle n k).1 (settle n k).0.waits
unfolding settle
settle_free zero k s = tt
settle_free (suc n) k s = elim (cases_of_first (next_freed k)) [
  | inl e ↦ rw e tt
  | inr z ↦
      rw z.1
      (omega (arith, settle_fewer n (freed k z.0.0 z.0.1) z.0.0.task.0, found_free k (comes_next k) z.0 s z.1), settle_free n (freed k z.0.0 z.0.1) (freed_stands k (comes_next k) z.0.0 z.0.1 z.1 s))
]

settled_fewer : (o : Outcome) → Fewer o.kernel.waits (settled o).kernel.waits
unfolding settled
settled_fewer o = settle_fewer (length o.kernel.waits) o.kernel

-- what an event did, and what it leaves
pub record Moves (before : List WaitingCall) (o : Outcome) : Type 0 where
  pub did : Did before o
  pub stands : IsStanding o.kernel
  pub free : AreFree o.ends o.kernel.waits

settled_did : (before : List WaitingCall) (o : Outcome) → Did before o → Did before (settled o)
unfolding settled
settled_did before o (none inside same) =
    none (inside_append o.ends _ inside (settle_inside (length o.kernel.waits) o.kernel)) (λ number id. same number id ∙ settle_outside (length o.kernel.waits) o.kernel number id)
settled_did before o (one w code bytes es outside told inside fewer) =
    one w code bytes (es ++ (settle (length o.kernel.waits) o.kernel).1) outside (ap (λ xs. xs ++ (settle (length o.kernel.waits) o.kernel).1) told) (inside_append es _ inside (settle_inside (length o.kernel.waits) o.kernel))
    (λ number id. omega (arith, fewer number id, settle_outside (length o.kernel.waits) o.kernel number id))

settled_moves : (before : List WaitingCall) (o : Outcome) → Moves before o → Moves before (settled o)
unfolding settled
settled_moves before o m = record {
  did = settled_did before o m.did;
  stands = settled_stands o m.stands;
  free = free_append o.ends _ _ (free_fewer o.ends o.kernel.waits _ (settle_fewer (length o.kernel.waits) o.kernel) m.free) (settle_free (length o.kernel.waits) o.kernel m.stands);
}

-- ---- the rows

module _ (k : PlainKernel) (ctx : Ctx) (number : CallNo) (o : Outcome) where
  row_did : RowWaits k ctx number o → Did k.waits o
  row_did (leaves told same) = none (subst AreInside (sym told) tt) (λ n id. ap (times (is_outside_call n id)) (sym same))
  row_did (begins reason tmo inside told same) = none (subst AreInside (sym told) tt)
      (λ n id.
      omega (arith, ap (times (is_outside_call n id)) same, times_end (is_outside_call n id) k.waits (waiting_call k (caller ctx) reason tmo number), inside_is_none n id (waiting_call k (caller ctx) reason tmo number) inside))
  row_did (moves f z rank e told same) = none (subst AreInside (sym told) tt)
      (λ n id. omega (arith, ap (times (is_outside_call n id)) same, times_end (is_outside_call n id) z.1 (record z.0 { rank = rank }), times_found (is_outside_call n id) f k.waits z e))
  row_did (ends f z code bytes e told same) = elim (cases_Bool (is_outside z.0.reason)) [
    | inl t ↦ one z.0 code bytes [] t told tt (λ n id. omega (arith, ap (times (is_outside_call n id)) same, times_found (is_outside_call n id) f k.waits z e))
    | inr t ↦ none (subst AreInside (sym told) (t, tt)) (λ n id. omega (arith, ap (times (is_outside_call n id)) same, times_found (is_outside_call n id) f k.waits z e, inside_is_none n id z.0 t))
  ]

  row_free : IsStanding k → RowWaits k ctx number o → AreFree o.ends o.kernel.waits
  row_free s (leaves told same) = subst (λ es. AreFree es o.kernel.waits) (sym told) tt
  row_free s (begins reason tmo inside told same) = subst (λ es. AreFree es o.kernel.waits) (sym told) tt
  row_free s (moves f z rank e told same) = subst (λ es. AreFree es o.kernel.waits) (sym told) tt
  row_free s (ends f z code bytes e told same) = subst (λ es. AreFree es o.kernel.waits) (sym told) (ap (times_waiting z.0.task.0) same ∙ found_free k f z s e, tt)

  row_grows : RowWaits k ctx number o → Grows (caller ctx).0 k.waits o.kernel.waits
  row_grows (leaves told same) id = omega (arith, ap (times_waiting id) same)
  row_grows (begins reason tmo inside told same) id = omega (arith, ap (times_waiting id) same, times-end waiting_number id k.waits (waiting_call k (caller ctx) reason tmo number))
  row_grows (moves f z rank e told same) id = omega (arith, ap (times_waiting id) same, times-end waiting_number id z.1 (record z.0 { rank = rank }), times-found waiting_number id f k.waits z e)
  row_grows (ends f z code bytes e told same) id = omega (arith, ap (times_waiting id) same, found_fewer f k.waits z e id)

-- ---- the events

-- a call makes its own task wait at most
pub call_grows : (k : PlainKernel) (ctx : Ctx) (request : KReq) (number : CallNo) → Grows (caller ctx).0 k.waits (call k ctx request number).kernel.waits
unfolding call
call_grows k ctx request number id =
    let o : Outcome = row k ctx request number in
    omega (arith, row_grows k ctx number o (row_waits k ctx number request) id, settled_fewer o id)

pub call_moves : (k : PlainKernel) (ctx : Ctx) (request : KReq) (number : CallNo) → IsStanding k → Calls k ctx → Moves k.waits (call k ctx request number)
unfolding call
call_moves k ctx request number s calls =
    let o : Outcome = row k ctx request number in
    let w = row_waits k ctx number request in
    settled_moves k.waits o (record { did = row_did k ctx number o w; stands = row_stands k ctx request number s calls; free = row_free k ctx number o s w })

pub tick_moves : (k : PlainKernel) → IsStanding k → Moves k.waits (tick k)
unfolding tick
tick_moves k s = settled_moves k.waits (quiet (ticked k)) (record { did = none tt (λ number id. refl); stands = ticked_stands k s; free = tt })

pub tick_fewer : (k : PlainKernel) → Fewer k.waits (tick k).kernel.waits
unfolding tick
tick_fewer k = settled_fewer (quiet (ticked k))

no_number : CallNo
no_number = record { 0 = 0 }

by_time_moves : (k : PlainKernel) (z : WaitingCall × List WaitingCall) → IsStanding k → next_past k ≡ Some z → Moves k.waits (by_time k z)
by_time_moves k z s e =
    let w : RowWaits k contexts.Handler no_number (by_time k z) = ends (is_next_past k.clock.now k.waits) z (code_by_time z.0.reason) [] e refl refl in
    record {
      did = row_did k contexts.Handler no_number (by_time k z) w;
      stands = ended_stands k (is_next_past k.clock.now k.waits) z.0 z.1 e s;
      free = row_free k contexts.Handler no_number (by_time k z) s w;
    }

pub due_moves : (k : PlainKernel) (o : Outcome) → due k ≡ Some o → IsStanding k → Moves k.waits o
due_moves k o e s = let x = due_is k o e in subst (λ p. Moves k.waits p) x.2 (settled_moves k.waits (by_time k x.0) (by_time_moves k x.0 s x.1))

pub due_fewer : (k : PlainKernel) (o : Outcome) → due k ≡ Some o → Fewer k.waits o.kernel.waits
due_fewer k o e =
    let x = due_is k o e in
    subst (λ (p : Outcome). Fewer k.waits p.kernel.waits) x.2
    (λ id. omega (arith, settled_fewer (by_time k x.0) id, found_fewer (is_next_past k.clock.now k.waits) k.waits x.0 x.1 id))
