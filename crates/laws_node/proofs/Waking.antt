-- Both parts of a node agree on the tasks that wait for calls of the network part, also after its calls have ended and their
-- tasks were woken.
use Rattle.std.proofs.Common.{◌≡◌, ℕ, ◌+◌, ◌≤◌, Bool, true, false, ◌&&◌, List, [], ◌∷◌, ◌++◌, length, Option, Some, None, refl, sym, ◌∙◌, ap, subst, inl, inr, arith}
use Rattle.std.specs.Prelude.{◌==◌}
use Rattle.std.proofs.lemmas.Bool.{eqb-true, eq-eqb, and_parts, and_right}
use Rattle.it_types.specs.declared.id.TaskId.{TaskId}
use Rattle.it_types.specs.declared.id.CallNo.{CallNo}
use Rattle.it_types.specs.declared.er.Er.{Er}
use Rattle.spec_lists.specs.First.{take_first}
use Rattle.spec_lists.specs.Counting.{one_if}
use Rattle.spec_lists.proofs.Counting.{times-found}
use Rattle.spec_lists.proofs.Firsts.{cases_of_first}
use Rattle.spec_kernel.specs.declared.reason.WaitingCall.{WaitingCall}
use Rattle.spec_kernel.specs.PlainKernel.{PlainKernel}
use Rattle.spec_kernel.specs.Settle.{is_outside}
use Rattle.spec_kernel.specs.Time.{is_outside_of, unblocked}
use Rattle.spec_kernel.specs.Standing.{waiting_number, IsStanding}
use Rattle.laws_kernel.proofs.Lists.{found_passes}
use Rattle.laws_kernel.proofs.Standing.{ended_stands}
use Rattle.spec_pend.specs.declared.call.Who.{Who}
use Rattle.spec_pend.specs.declared.call.Who.TheVariants as whos
use Rattle.spec_pend.specs.declared.call.NetCall.{NetCall}
use Rattle.spec_pend.specs.declared.answer.NetEnd.{NetEnd}
use Rattle.spec_pend.specs.PlainPend.{PlainPend, no_endings}
use Rattle.spec_pend.specs.Slots.{has_number}
use Rattle.spec_pend.specs.Ends.{end_of, pend_after, ended_where}
use Rattle.spec_udp.specs.PlainUdps.{UdpSide, UdpOutcome}
use Rattle.spec_udp.specs.Settling.{settle, settled}
use Rattle.spec_udp.specs.Outside.{ended_at, ended}
use Rattle.spec_node.specs.Progress.{woken_for, woken_by}
use Rattle.laws_node.specs.Agreement.{times, times_waiting, is_outside_call, tells, is_net_call}
use Rattle.laws_node.proofs.Times.{times_found, times_none, is_one, outside_le_waiting}
use Rattle.laws_node.proofs.Rising.{AllBelow, Rises, rises_found, below_found}
use Rattle.laws_node.proofs.NetMoves.{call_number, is_end_of, settle_left, numbered_is, told_task}

-- the same tasks wait outside with the same calls, which stand in the order of their numbers, none above the last one drawn
pub record Sound (k : PlainKernel) (p : PlainPend) (calls : ℕ) : Type 0 where
  pub stands : IsStanding k
  pub last : k.last_call ≤ calls
  pub same : (number id : ℕ) → times (is_outside_call number id) k.waits ≡ times (is_net_call number id) p.calls
  pub rises : Rises call_number p.calls
  pub below : AllBelow call_number (p.last + 1) p.calls
  pub drawn : p.last ≤ calls

-- ---- a task waits once at most

key_parts : (number id : ℕ) (w : WaitingCall) → is_outside_call number id w ≡ true → (is_outside w.reason ≡ true) × (w.call.0 ≡ number) × (w.task.0 ≡ id)
key_parts number id w e =
    let outer = and_parts (is_outside w.reason) ((w.call.0 == number) && (w.task.0 == id)) e in
    let inner = and_parts (w.call.0 == number) (w.task.0 == id) outer.1 in
    (outer.0, eqb-true w.call.0 number inner.0, eqb-true w.task.0 id inner.1)

is_of_task : (number : ℕ) (task : TaskId) (w : WaitingCall) → is_outside_call number task.0 w ≡ true → is_outside_of task w ≡ true
is_of_task number task w e =
    let outer = and_parts (is_outside w.reason) ((w.call.0 == number) && (w.task.0 == task.0)) e in
    rw ((and_parts (w.call.0 == number) (w.task.0 == task.0) outer.1).1, outer.0) refl

-- the key of the wait is that of the end
key_same : (number id n i : ℕ) (w : WaitingCall) → is_outside_call number id w ≡ true → is_outside_call n i w ≡ ((number == n) && (id == i))
key_same number id n i w e = let parts = key_parts number id w e in rw (parts.0, parts.1, parts.2) refl

-- the only wait of a task that waits outside with a call has this call
only_wait : (k : PlainKernel) (number : ℕ) (task : TaskId) (z : WaitingCall × List WaitingCall)
    → IsStanding k
    → 1 ≤ times (is_outside_call number task.0) k.waits
    → take_first (is_outside_of task) k.waits ≡ Some z
    → is_outside_call number task.0 z.0 ≡ true
only_wait k number task z h le e =
    let passes = and_parts (z.0.task.0 == task.0) (is_outside z.0.reason) (found_passes (is_outside_of task) k.waits z e) in
    let one : one_if (z.0.task.0 == task.0) ≡ 1 = ap one_if passes.0 in
    is_one (is_outside_call number task.0 z.0)
    (omega (
      arith,
      le,
      one,
      h.once task.0,
      times-found waiting_number task.0 (is_outside_of task) k.waits z e,
      outside_le_waiting number task.0 z.1,
      times_found (is_outside_call number task.0) (is_outside_of task) k.waits z e,
    ))

-- ---- the end of one call wakes its task

-- no call of the task waits that is told
abbrev pub IsFree : Who → List WaitingCall → Type 0
IsFree (whos.Task t) waits = times_waiting t.0 waits ≡ 0
IsFree (whos.Callback t cbr) waits = Unit {0}

record Unblocks (k after : PlainKernel) (call : CallNo) (who : Who) : Type 0 where
  stands : IsStanding after
  same : (number id : ℕ) → times (is_outside_call number id) k.waits ≡ times (is_outside_call number id) after.waits + one_if ((call.0 == number) && tells id who)
  last : after.last_call ≡ k.last_call
  free : IsFree who after.waits
  fewer : (id : ℕ) → times_waiting id after.waits ≤ times_waiting id k.waits

unblocks : (k : PlainKernel) (call : CallNo) (t : TaskId) → IsStanding k → 1 ≤ times (is_outside_call call.0 t.0) k.waits → Unblocks k (unblocked k t).0 call (whos.Task t)
unfolding unblocked
unblocks k call t h le = elim (cases_of_first (take_first (is_outside_of t) k.waits)) [
  | inl none ↦ absurd (omega (arith, le, times_none (is_outside_call call.0 t.0) (is_outside_of t) k.waits (is_of_task call.0 t) none))
  | inr w ↦ (
      let z : WaitingCall × List WaitingCall = w.0 in
      let key = only_wait k call.0 t z h le w.1 in
      rw w.1 (record {
        stands = ended_stands k (is_outside_of t) z.0 z.1 w.1 h;
        same = λ n i. omega (arith, times_found (is_outside_call n i) (is_outside_of t) k.waits z w.1, ap one_if (key_same call.0 t.0 n i z.0 key));
        last = refl;
        free = (let one : one_if (z.0.task.0 == t.0) ≡ 1 = ap one_if (and_parts (z.0.task.0 == t.0) (is_outside z.0.reason) (found_passes (is_outside_of t) k.waits z w.1)).0 in omega (arith, one, h.once t.0, times-found waiting_number t.0 (is_outside_of t) k.waits z w.1));
        fewer = λ i. omega (arith, times-found waiting_number i (is_outside_of t) k.waits z w.1);
      })
      )
]

-- the end of a call of which a routine is told wakes nobody
wakes_one : (k : PlainKernel) (call : CallNo) (who : Who) → IsStanding k → ((t : TaskId) → who ≡ whos.Task t → 1 ≤ times (is_outside_call call.0 t.0) k.waits) → Unblocks k (woken_for k who) call who
wakes_one k call (whos.Task t) h there = unblocks k call t h (there t refl)
wakes_one k call (whos.Callback t cbr) h there = record {
  stands = h;
  same = λ n i. omega (arith, ap one_if (and_right (call.0 == n) false refl));
  last = refl;
  free = tt;
  fewer = λ i. omega arith;
}

own_end : (call : CallNo) (who : Who) (t : TaskId) → who ≡ whos.Task t → one_if ((call.0 == call.0) && tells t.0 who) ≡ 1
own_end call who t is = rw is (rw (eq-eqb call.0 call.0 refl, eq-eqb t.0 t.0 refl) refl)

free_fewer : (who : Who) (before after : List WaitingCall) → ((id : ℕ) → times_waiting id after ≤ times_waiting id before) → IsFree who before → IsFree who after
free_fewer (whos.Task t) before after fewer h = omega (arith, h, fewer t.0)
free_fewer (whos.Callback t cbr) before after fewer h = tt

-- no call of a task whose call ended waits
abbrev pub AreFree : List NetEnd → List WaitingCall → Type 0
AreFree [] waits = Unit {0}
AreFree (e ∷ es) waits = IsFree e.who waits × AreFree es waits

pub all_fewer : (es : List NetEnd) (before after : List WaitingCall) → ((id : ℕ) → times_waiting id after ≤ times_waiting id before) → AreFree es before → AreFree es after
all_fewer [] before after fewer h = tt
all_fewer (e ∷ es) before after fewer h = (free_fewer e.who before after fewer h.0, all_fewer es before after fewer h.1)

pub all_append : (xs ys : List NetEnd) (waits : List WaitingCall) → AreFree xs waits → AreFree ys waits → AreFree (xs ++ ys) waits
all_append [] ys waits h g = g
all_append (x ∷ xs) ys waits h g = (h.0, all_append xs ys waits h.1 g)

pub record Wakes (k after : PlainKernel) (calls : List NetCall) (es : List NetEnd) : Type 0 where
  pub stands : IsStanding after
  pub same : (number id : ℕ) → times (is_outside_call number id) after.waits ≡ times (is_net_call number id) calls
  pub last : after.last_call ≡ k.last_call
  pub free : AreFree es after.waits
  pub fewer : (id : ℕ) → times_waiting id after.waits ≤ times_waiting id k.waits

-- after all ends the tasks of the calls that are left wait
pub wakes : (k : PlainKernel) (calls : List NetCall) (es : List NetEnd)
    → IsStanding k
    → ((number id : ℕ) → times (is_outside_call number id) k.waits ≡ times (is_net_call number id) calls + times (is_end_of number id) es)
    → Wakes k (woken_by k es) calls es
wakes k calls [] h same = record { stands = h; same = λ n i. omega (arith, same n i); last = refl; free = tt; fewer = λ i. omega arith }
wakes k calls (e ∷ es) h same =
    let one = wakes_one k e.call e.who h (λ t is. omega (arith, same e.call.0 t.0, own_end e.call e.who t is)) in
    let rest = wakes (woken_for k e.who) calls es one.stands (λ n i. omega (arith, same n i, one.same n i)) in
    record {
      stands = rest.stands;
      same = rest.same;
      last = rest.last ∙ one.last;
      free = (free_fewer e.who (woken_for k e.who).waits (woken_by (woken_for k e.who) es).waits rest.fewer one.free, rest.free);
      fewer = λ i. omega (arith, one.fewer i, rest.fewer i);
    }

-- what is sound after ends of calls of the network part: none of their tasks waits, and none waits that didn't
pub record SoundAfter (k after : PlainKernel) (p : PlainPend) (calls : ℕ) (es : List NetEnd) : Type 0 where
  pub sound : Sound after p calls
  pub free : AreFree es after.waits
  pub fewer : (id : ℕ) → times_waiting id after.waits ≤ times_waiting id k.waits

-- so it is after an event of the network part, whose ends have woken their tasks
abbrev pub WokenSound : PlainKernel → UdpOutcome → ℕ → Type 0
WokenSound k o calls = SoundAfter k (woken_by k o.endings.ends) o.endings.pend calls o.endings.ends

-- ---- settling of the network part

woken_append : (k : PlainKernel) (xs ys : List NetEnd) → woken_by k (xs ++ ys) ≡ woken_by (woken_by k xs) ys
woken_append k [] ys = refl
woken_append k (x ∷ xs) ys = woken_append (woken_for k x.who) xs ys

pub settled_sound : (k : PlainKernel) (o : UdpOutcome) (calls : ℕ) → WokenSound k o calls → WokenSound k (settled o) calls
unfolding settled
settled_sound k o calls h =
    let q : UdpOutcome = settle (length o.endings.pend.calls) o in
    let left = settle_left (length o.endings.pend.calls) o in
    let first : PlainKernel = woken_by k o.endings.ends in
    let after : PlainKernel = woken_by first left.more in
    let woken = wakes first q.endings.pend.calls left.more h.sound.stands (λ n i. h.sound.same n i ∙ left.same n i) in
    let all : SoundAfter k after q.endings.pend calls (o.endings.ends ++ left.more) = record {
      sound = record {
        stands = woken.stands;
        last = omega (arith, woken.last, h.sound.last);
        same = woken.same;
        rises = left.rises h.sound.rises;
        below = subst (λ m. AllBelow call_number (m + 1) q.endings.pend.calls) (sym left.last) (left.below (o.endings.pend.last + 1) h.sound.below);
        drawn = omega (arith, left.last, h.sound.drawn);
      };
      free = all_append o.endings.ends left.more after.waits (all_fewer o.endings.ends first.waits after.waits woken.fewer h.free) woken.free;
      fewer = λ i. omega (arith, h.fewer i, woken.fewer i);
    } in
    subst (λ es. SoundAfter k (woken_by k es) q.endings.pend calls es) (sym left.told)
    (subst (λ l. SoundAfter k l q.endings.pend calls (o.endings.ends ++ left.more)) (sym (woken_append k o.endings.ends left.more)) all)

-- ---- a call that an event of the network part ends

pub unended_sound : (k : PlainKernel) (p : PlainPend) (calls : ℕ) → Sound k p calls → SoundAfter k k p calls []
unended_sound k p calls h = record { sound = h; free = tt; fewer = λ i. omega arith }

pub ended_where_sound : (k : PlainKernel) (p : PlainPend) (calls : ℕ) (f : NetCall → Bool) (x : Option (NetCall × List NetCall)) (code : Er)
    → take_first f p.calls ≡ x
    → Sound k p calls
    → SoundAfter k (woken_by k (ended_where (no_endings p) x code).ends) (ended_where (no_endings p) x code).pend calls (ended_where (no_endings p) x code).ends
ended_where_sound k p calls f None code e h = unended_sound k p calls h
ended_where_sound k p calls f (Some z) code e h =
    let woken = wakes k z.1 (end_of z.0 code [] ∷ []) h.stands (λ n i. omega (arith, h.same n i, times_found (is_net_call n i) f p.calls z e)) in
    record {
      sound = record {
        stands = woken.stands;
        last = omega (arith, woken.last, h.last);
        same = woken.same;
        rises = rises_found call_number f p.calls z e h.rises;
        below = below_found call_number (p.last + 1) f p.calls z e h.below;
        drawn = h.drawn;
      };
      free = woken.free;
      fewer = woken.fewer;
    }

-- ---- the end of a call by its number, whose task the kernel has woken

not_waiting : (k : PlainKernel) (task : TaskId) → times_waiting task.0 k.waits ≡ 0 → unblocked k task ≡ (k, false)
unfolding unblocked
not_waiting k task none = elim (cases_of_first (take_first (is_outside_of task) k.waits)) [
  | inl e ↦ rw e refl
  | inr w ↦ (
      let z : WaitingCall × List WaitingCall = w.0 in
      let one : one_if (z.0.task.0 == task.0) ≡ 1 = ap one_if (and_parts (z.0.task.0 == task.0) (is_outside z.0.reason) (found_passes (is_outside_of task) k.waits z w.1)).0 in
      absurd (omega (arith, none, one, times-found waiting_number task.0 (is_outside_of task) k.waits z w.1))
      )
]

-- the calls of the network part are those that wait outside, and one more
abbrev pub OneMore : PlainKernel → PlainPend → ℕ → ℕ → Type 0
OneMore k p number id = (n i : ℕ) → times (is_net_call n i) p.calls ≡ times (is_outside_call n i) k.waits + one_if ((number == n) && (id == i))

-- what stands of the call that the kernel has ended
record IsWoken (k : PlainKernel) (number id : ℕ) (c : NetCall) : Type 0 where
  key : (n i : ℕ) → is_net_call n i c ≡ ((number == n) && (id == i))
  runs : woken_for k c.who ≡ k
  free : IsFree c.who k.waits

same_key : (a b c d n i : ℕ) → a ≡ b → c ≡ d → ((a == n) && (c == i)) ≡ ((b == n) && (d == i))
same_key a b c d n i x y = rw (x, y) refl

is_woken : (k : PlainKernel) (number id : ℕ) (c : NetCall) → times_waiting id k.waits ≡ 0 → is_net_call number id c ≡ true → IsWoken k number id c
is_woken k number id c none e =
    let parts = and_parts (c.call.0 == number) (tells id c.who) e in
    let told = told_task id c.who parts.1 in
    let idle : times_waiting told.0.0 k.waits ≡ 0 = subst (λ j. times_waiting j k.waits ≡ 0) (sym told.2) none in
    record {
      key = λ n i. ap (λ w. (c.call.0 == n) && tells i w) told.1 ∙ same_key c.call.0 number told.0.0 id n i (eqb-true c.call.0 number parts.0) told.2;
      runs = ap (woken_for k) told.1 ∙ ap (λ (u : PlainKernel × Bool). u.0) (not_waiting k told.0 idle);
      free = subst (λ w. IsFree w k.waits) (sym told.1) idle;
    }

ended_at_sound : (k : PlainKernel) (s : UdpSide) (number : CallNo) (id : ℕ) (code : Er) (calls : ℕ)
    → IsStanding k
    → k.last_call ≤ calls
    → OneMore k s.pend number.0 id
    → times_waiting id k.waits ≡ 0
    → Rises call_number s.pend.calls
    → AllBelow call_number (s.pend.last + 1) s.pend.calls
    → s.pend.last ≤ calls
    → WokenSound k (ended_at s number code) calls
ended_at_sound k s number id code calls h last same free rises below drawn =
    let own : one_if ((number.0 == number.0) && (id == id)) ≡ 1 = rw (eq-eqb number.0 number.0 refl, eq-eqb id id refl) refl in
    let found = numbered_is number id s.pend.calls rises (omega (arith, same number.0 id, own)) in
    let z : NetCall × List NetCall = found.0 in
    let woken = is_woken k number.0 id z.0 free found.2 in
    rw found.1 (subst (λ l. SoundAfter k l (pend_after s.pend z code []) calls (end_of z.0 code [] ∷ [])) (sym woken.runs) (record {
      sound = record {
        stands = h;
        last = last;
        same = λ n i. omega (arith, same n i, times_found (is_net_call n i) (has_number number) s.pend.calls z found.1, ap one_if (woken.key n i));
        rises = rises_found call_number (has_number number) s.pend.calls z found.1 rises;
        below = below_found call_number (s.pend.last + 1) (has_number number) s.pend.calls z found.1 below;
        drawn = drawn;
      };
      free = (woken.free, tt);
      fewer = λ i. omega arith;
    }))

pub ended_sound : (k : PlainKernel) (s : UdpSide) (number : CallNo) (id : ℕ) (code : Er) (calls : ℕ)
    → IsStanding k
    → k.last_call ≤ calls
    → OneMore k s.pend number.0 id
    → times_waiting id k.waits ≡ 0
    → Rises call_number s.pend.calls
    → AllBelow call_number (s.pend.last + 1) s.pend.calls
    → s.pend.last ≤ calls
    → WokenSound k (ended s number code) calls
unfolding ended
ended_sound k s number id code calls h last same free rises below drawn = settled_sound k (ended_at s number code) calls (ended_at_sound k s number id code calls h last same free rises below drawn)
