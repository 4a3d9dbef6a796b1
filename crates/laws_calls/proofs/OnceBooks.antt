-- What the entries so far say of the calls of a node, beside what the node has; and that an event which ends calls keeps it.
use Rattle.std.proofs.Common.{◌≡◌, ◌≢◌, ℕ, ◌+◌, ◌<◌, ◌≤◌, Bool, true, false, List, [], ◌∷◌, ◌++◌, length, map, slice_set, Option, Some, None, refl, sym, ap, ◌∙◌, subst, inl, inr, arith}
use mathlib.Core.Logic.{◌⊎◌}
use Rattle.std.specs.Prelude.{◌==◌, if◌then◌else◌}
use Rattle.std.specs.List.{list_any}
use Rattle.std.proofs.lemmas.Bool.{cases_eq, eq-eqb, ne_eqb}
use Rattle.std.proofs.lemmas.List.{get_or-set_same, get_or-set_other, length-set}
use Rattle.std.proofs.lemmas.List.Folds.{list_any-append}
use Rattle.it_types.specs.declared.id.TaskId.{TaskId}
use Rattle.it_types.specs.declared.answer.Ans.{Ans}
use Rattle.it_types.specs.declared.answer.Ans.TheVariants as answers
use Rattle.it_types.specs.declared.mark.Mark.TheVariants as marks
use Rattle.it_types.specs.declared.entry.CallEnd.{CallEnd}
use Rattle.spec_lists.specs.Tables.{get}
use Rattle.spec_lists.specs.Counting.{one_if}
use Rattle.spec_lists.proofs.Changes.{get_within}
use Rattle.spec_pend.specs.declared.call.Who.{Who}
use Rattle.spec_pend.specs.declared.call.Who.TheVariants as whos
use Rattle.spec_pend.specs.declared.answer.NetEnd.{NetEnd}
use Rattle.spec_pend.specs.Outs.{shown_end}
use Rattle.spec_node.specs.declared.held.Held.{Held}
use Rattle.spec_node.specs.declared.event.NodeEv.{NodeEv}
use Rattle.spec_node.specs.PlainNode.{PlainNode, running_in}
use Rattle.spec_node.specs.Progress.{Progress}
use Rattle.spec_node.specs.NodeStep.{drawn, holding_one, holding, forgetting, gone_marks, begun_marks, node_after, out_of}
use Rattle.laws_node.specs.Agreement.{times, times_waiting}
use Rattle.laws_calls.specs.Once.{NodeEntry, accepts, is_end_of, times_accepted, times_ended, asked_in, is_return, is_gone, or_before, open_after, open_call, HasEnd, HasEnded}
use Rattle.laws_calls.proofs.OnceLists.{all_both, IsOfAnother, all_of_others}
use Rattle.laws_calls.proofs.OnceDrawn.{is_own, is_net_call, is_end, told_by, OfWaits, OfEnds, NoneIsGone, none_gone_append}
use Rattle.laws_calls.proofs.OnceGoing.{Going}

-- how often a call of this number waits
abbrev pub pending : ℕ → PlainNode → ℕ
pending number n = times (is_own number) n.kernel.waits + times (is_net_call number) n.net.pend.calls

-- the task may still return from this call; task 0 is nobody
abbrev pub IsOpen : List NodeEntry → ℕ → ℕ → Type 0
IsOpen log task call = (task ≡ 0) ⊎ (open_call task None log ≡ Some call)

-- the answer that the task holds is that of the end of its open call
pub record IsHeld (log : List NodeEntry) (task : ℕ) (h : Held) : Type 0 where
  pub call : ℕ
  pub last : open_call task None log ≡ Some call
  pub ended : HasEnded call (answers.Now h.code h.bytes) log

pub record Books (n : PlainNode) (log : List NodeEntry) : Type 0 where
  pub fresh : (number : ℕ) → n.calls < number → times_accepted number log ≡ 0
  pub once : (number : ℕ) → times_accepted number log ≤ 1
  pub balance : (number : ℕ) → times_ended number log + pending number n ≤ times_accepted number log
  pub waits : OfWaits (IsOpen log) n.kernel.waits
  pub holders : (task : ℕ) (h : Held) → task ≢ 0 → get n.held task ≡ Some h → IsHeld log task h

-- ---- one more entry

pub accepted_end : (number : ℕ) (log : List NodeEntry) (e : NodeEntry) → times_accepted number (log ++ e ∷ []) ≡ times_accepted number log + one_if (accepts number e.out.ans)
accepted_end number [] e = omega arith
accepted_end number (f ∷ log) e = omega (arith, accepted_end number log e)

pub ended_end : (number : ℕ) (log : List NodeEntry) (e : NodeEntry) → times_ended number (log ++ e ∷ []) ≡ times_ended number log + times (is_end_of number) e.out.ends
ended_end number [] e = omega arith
ended_end number (f ∷ log) e = omega (arith, ended_end number log e)

pub open_end : (task : ℕ) (before : Option ℕ) (log : List NodeEntry) (e : NodeEntry) → open_call task before (log ++ e ∷ []) ≡ open_after task (open_call task before log) e
open_end task before [] e = refl
open_end task before (f ∷ log) e = open_end task (open_after task before f) log e

-- an entry that doesn't close the task's call
pub open_kept : (task : ℕ) (log : List NodeEntry) (e : NodeEntry) → is_return task e.event ≡ false → list_any (is_gone task) e.out.marks ≡ false → open_call task None (log ++ e ∷ []) ≡ or_before (asked_in task e.event e.out.ans) (open_call task None log)
open_kept task log e back gone = open_end task None log e ∙ rw (back, gone) refl

pub ended_still : (number : ℕ) (a : Ans) (log : List NodeEntry) (e : NodeEntry) → HasEnded number a log → HasEnded number a (log ++ e ∷ [])
ended_still number a [] e h = absurd h
ended_still number a (f ∷ log) e (inl h) = inl h
ended_still number a (f ∷ log) e (inr h) = inr (ended_still number a log e h)

ended_now : (number : ℕ) (a : Ans) (log : List NodeEntry) (e : NodeEntry) → HasEnd number a e.out.ends → HasEnded number a (log ++ e ∷ [])
ended_now number a [] e h = inl h
ended_now number a (f ∷ log) e h = inr (ended_now number a log e h)

times_told : (number : ℕ) (es : List NetEnd) → times (is_end_of number) (map shown_end es) ≡ times (is_end number) es
times_told number [] = refl
times_told number (e ∷ es) = rw (times_told number es) refl

-- ---- answers that are held

pub none_there : (held : List (Option Held)) (i : ℕ) (h : Held) → get (slice_set held i None) i ≡ Some h → ⊥
none_there held i h at =
    let within : i < length (slice_set held i None) = get_within (slice_set held i None) i h at in
    let there : i < length held = subst (λ l. i < l) (length-set held i None) within in
    let both : None ≡ Some h = sym (get_or-set_same held i None None there) ∙ at in
    cc

pub none_held : (held : List (Option Held)) (i task : ℕ) (h : Held) → get (slice_set held i None) task ≡ Some h → (task ≢ i) × (get held task ≡ Some h)
none_held held i task h e = elim (cases_eq task i) [
  | inl same ↦ absurd (none_there held i h (subst (λ t. get (slice_set held i None) t ≡ Some h) same e))
  | inr other ↦ (other, sym (get_or-set_other held i task None None other) ∙ e)
]

held_now : (held : List (Option Held)) (i task : ℕ) (a h : Held) → get (slice_set held i (Some a)) task ≡ Some h → (get held task ≡ Some h) ⊎ ((task ≡ i) × (a ≡ h))
held_now held i task a h e = elim (cases_eq task i) [
  | inl same ↦ (
      let at : get (slice_set held i (Some a)) i ≡ Some h = subst (λ t. get (slice_set held i (Some a)) t ≡ Some h) same e in
      let within : i < length (slice_set held i (Some a)) = get_within (slice_set held i (Some a)) i h at in
      let there : i < length held = subst (λ l. i < l) (length-set held i (Some a)) within in
      let both : Some a ≡ Some h = sym (get_or-set_same held i (Some a) None there) ∙ at in
      inr (same, cc)
      )
  | inr other ↦ inl (sym (get_or-set_other held i task (Some a) None other) ∙ e)
]

-- an end of a call of this task, with this answer
pub record HeldFrom (P : ℕ → ℕ → Type 0) (ends : List CallEnd) (task : ℕ) (h : Held) : Type 0 where
  pub call : ℕ
  pub its : P task call
  pub has : HasEnd call (answers.Now h.code h.bytes) ends

-- the answer that a task holds after the ends was held before, or is that of one of the ends, of its own call
holding_from : (P : ℕ → ℕ → Type 0) (es : List NetEnd) (held : List (Option Held)) (task : ℕ) (h : Held) → OfEnds P es → get (holding es held) task ≡ Some h → (get held task ≡ Some h) ⊎ HeldFrom P (map shown_end es) task h
holding_from P [] held task h all e = inl e
holding_from P (x ∷ es) held task h all e = go (holding_from P es (holding_one x.who x.code x.bytes held) task h all.1 e)
  where
    first : (who : Who) → x.who ≡ who → get (holding_one who x.code x.bytes held) task ≡ Some h → (get held task ≡ Some h) ⊎ HeldFrom P (map shown_end (x ∷ es)) task h
    first (whos.Callback t cbr) is now = inl now
    first (whos.Task t) is now = elim (held_now held t.0 task (record { code = x.code; bytes = x.bytes }) h now) [
      | inl old ↦ inl old
      | inr new ↦ inr (record {
        call = x.call.0;
        its = subst (λ i. P i x.call.0) (ap told_by is ∙ sym new.0) all.0;
        has = inl (refl, ap (λ (r : Held). answers.Now r.code r.bytes) (sym new.1));
      })
    ]

    go : (get (holding_one x.who x.code x.bytes held) task ≡ Some h) ⊎ HeldFrom P (map shown_end es) task h → (get held task ≡ Some h) ⊎ HeldFrom P (map shown_end (x ∷ es)) task h
    go (inl now) = first x.who refl now
    go (inr f) = inr (record { call = f.call; its = f.its; has = inr f.has })

-- the task that is gone holds none
forgetting_from : (gone : TaskId) (held : List (Option Held)) (task : ℕ) (h : Held) → task ≢ 0 → get (forgetting gone held) task ≡ Some h → (task ≢ gone.0) × (get held task ≡ Some h)
forgetting_from gone held task h some e = go (cases_eq gone.0 0)
  where
    go : (gone.0 ≡ 0) ⊎ (gone.0 ≢ 0) → (task ≢ gone.0) × (get held task ≡ Some h)
    go (inl z) = (λ same. some (same ∙ z), rw (eq-eqb gone.0 0 z) at e)
    go (inr z) = none_held held gone.0 task h (rw (ne_eqb gone.0 0 z) at e)

-- ---- the marks of an event

-- they tell of the end of no other task
others_not_gone : (n : PlainNode) (a : Ans) (gone begun : TaskId) (p : Progress) (task : ℕ) → NoneIsGone p.marks → task ≢ gone.0 → list_any (is_gone task) (out_of n a gone begun p).marks ≡ false
others_not_gone n a gone begun p task none other =
    list_any-append (is_gone task) (gone_marks gone) _ ∙ rw (of_gone (gone.0 == 0), none_gone_append (begun_marks begun) _ (of_begun (begun.0 == 0)) (none_gone_append p.marks _ none (of_run (running_in p.kernel) ((running_in p.kernel).0 == (running_in n.kernel).0))) task) refl
  where
    of_gone : (b : Bool) → list_any (is_gone task) (if b then [] else marks.Gone gone ∷ []) ≡ false
    of_gone true = refl
    of_gone false = rw (ne_eqb gone.0 task (λ e. other (sym e))) refl

    of_begun : (b : Bool) → NoneIsGone (if b then [] else marks.Begun begun ∷ [])
    of_begun true t = refl
    of_begun false t = refl

    of_run : (after : TaskId) (b : Bool) → NoneIsGone (if b then [] else marks.Run after ∷ [])
    of_run after true t = refl
    of_run after false t = refl

-- ---- an event whose answer draws the next number, or none

pub record IsNumbered (n : PlainNode) (a : Ans) : Type 0 where
  pub next : (number : ℕ) → (one_if (accepts number a) ≡ 0) ⊎ ((number ≡ n.calls + 1) × ((drawn a ≡ 1) × (one_if (accepts number a) ≡ 1)))

-- the call for which the task waits after an event with this answer, if it isn't gone
abbrev pub WillBeOpen : List NodeEntry → NodeEv → Ans → ℕ → ℕ → Type 0
WillBeOpen log event a task call = (task ≡ 0) ⊎ (or_before (asked_in task event a) (open_call task None log) ≡ Some call)

-- The books are kept by an event that isn't a return, if no task that holds an answer begins to wait by it, the task that is gone waits no
-- longer, and what waits and has ended afterwards is what waited, and the new call.
pub done_keeps : (n : PlainNode) (log : List NodeEntry) (event : NodeEv) (a : Ans) (gone begun : TaskId) (p : Progress)
    → Books n log
    → IsNumbered n a
    → ((task : ℕ) → is_return task event ≡ false)
    → ((task : ℕ) (h : Held) → get n.held task ≡ Some h → asked_in task event a ≡ None)
    → times_waiting gone.0 p.kernel.waits ≡ 0
    → Going (λ number. pending number n + one_if (accepts number a)) (WillBeOpen log event a) [] p
    → Books (node_after n a gone p) (log ++ record { event = event; out = out_of n a gone begun p } ∷ [])
done_keeps n log event a gone begun p b numbers no_return unasked free g = record {
  fresh = λ number lt. elim (numbers.next number) [
    | inl none ↦ omega (arith, accepted_end number log entry, none, b.fresh number (omega (arith, lt)))
    | inr new ↦ absurd (omega (arith, lt, new.0, new.1.0))
  ];
  once = λ number. elim (numbers.next number) [
    | inl none ↦ omega (arith, accepted_end number log entry, none, b.once number)
    | inr new ↦ omega (arith, accepted_end number log entry, new.1.1, b.fresh number (omega (arith, new.0)))
  ];
  balance = λ number. omega (arith, accepted_end number log entry, ended_end number log entry, times_told number p.ends, b.balance number, g.count number);
  waits = all_both (λ w. WillBeOpen log event a w.task.0 w.call.0) (IsOfAnother gone.0) (λ w. IsOpen (log ++ entry ∷ []) w.task.0 w.call.0) p.kernel.waits (λ w will other. opens w.task.0 w.call.0 other will) g.waits (all_of_others gone.0 p.kernel.waits free);
  holders = λ task h some held. (
      let kept = forgetting_from gone (holding p.ends n.held) task h some held in
      elim (holding_from (WillBeOpen log event a) p.ends n.held task h g.ends kept.1) [
        | inl old ↦ (
            let was = b.holders task h some old in
            record { call = was.call; last = stays task kept.0 ∙ rw (unasked task h old) was.last; ended = ended_still was.call (answers.Now h.code h.bytes) log entry was.ended }
            )
        | inr new ↦ record { call = new.call; last = opened task new.call some kept.0 new.its; ended = ended_now new.call (answers.Now h.code h.bytes) log entry new.has }
      ]
      );
}
  where
    entry : NodeEntry
    entry = record { event = event; out = out_of n a gone begun p }

    stays : (task : ℕ) → task ≢ gone.0 → open_call task None (log ++ entry ∷ []) ≡ or_before (asked_in task event a) (open_call task None log)
    stays task other = open_kept task log entry (no_return task) (others_not_gone n a gone begun p task g.marks other)

    opened : (task call : ℕ) → task ≢ 0 → task ≢ gone.0 → WillBeOpen log event a task call → open_call task None (log ++ entry ∷ []) ≡ Some call
    opened task call some other (inl z) = absurd (some z)
    opened task call some other (inr will) = stays task other ∙ will

    opens : (task call : ℕ) → task ≢ gone.0 → WillBeOpen log event a task call → IsOpen (log ++ entry ∷ []) task call
    opens task call other (inl z) = inl z
    opens task call other (inr will) = inr (stays task other ∙ will)
