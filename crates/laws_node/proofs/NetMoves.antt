-- What settling of the network part does to its calls: those that end leave the list, and no other does.
use Rattle.std.proofs.Common.{◌≡◌, ℕ, zero, suc, ◌+◌, ◌≤◌, Bool, true, ◌&&◌, List, [], ◌∷◌, ◌++◌, Some, refl, sym, ◌∙◌, ap, subst, inl, inr, arith}
use Rattle.std.specs.Prelude.{◌==◌}
use Rattle.std.proofs.lemmas.Bool.{cases_Bool, eqb-true, and_parts}
use Rattle.std.proofs.lemmas.List.{append-nil, append_assoc}
use Rattle.it_types.specs.declared.id.TaskId.{TaskId}
use Rattle.it_types.specs.declared.id.CallNo.{CallNo}
use Rattle.spec_lists.specs.Tables.{get}
use Rattle.spec_lists.specs.First.{put_back, take_first}
use Rattle.spec_lists.proofs.Firsts.{cases_of_first, at_first, past_first}
use Rattle.spec_pend.specs.declared.call.Who.{Who}
use Rattle.spec_pend.specs.declared.call.Who.TheVariants as whos
use Rattle.spec_pend.specs.declared.call.NetCall.{NetCall}
use Rattle.spec_pend.specs.declared.answer.NetEnd.{NetEnd}
use Rattle.spec_pend.specs.Slots.{has_number}
use Rattle.spec_pend.specs.Ends.{end_of}
use Rattle.spec_udp.specs.PlainUdps.{UdpOutcome, side_after}
use Rattle.spec_udp.specs.Settling.{is_ready, first_ready, met_code, met_bytes, met, settle}
use Rattle.laws_node.specs.Agreement.{times, tells, is_net_call}
use Rattle.laws_node.proofs.Rising.{AllAbove, AllBelow, Rises, rises_found, below_found}
use Rattle.laws_node.proofs.Times.{times_found, is_one}

abbrev pub call_number : NetCall → ℕ
call_number c = c.call.0

-- the end of the call of this number, of which this task is told
abbrev pub is_end_of : ℕ → ℕ → NetEnd → Bool
is_end_of number id e = (e.call.0 == number) && tells id e.who

abbrev pub calls_of : UdpOutcome → List NetCall
calls_of o = o.endings.pend.calls

-- ---- settling

-- the calls before are those after and those that ended in between
pub record Left (o p : UdpOutcome) : Type 0 where
  pub more : List NetEnd
  pub told : p.endings.ends ≡ o.endings.ends ++ more
  pub same : (number id : ℕ) → times (is_net_call number id) (calls_of o) ≡ times (is_net_call number id) (calls_of p) + times (is_end_of number id) more
  pub rises : Rises call_number (calls_of o) → Rises call_number (calls_of p)
  pub below : (n : ℕ) → AllBelow call_number n (calls_of o) → AllBelow call_number n (calls_of p)
  pub last : p.endings.pend.last ≡ o.endings.pend.last
  pub fewer : (f : NetCall → Bool) → times f (calls_of p) ≤ times f (calls_of o)
  pub answer : p.answer ≡ o.answer

nothing_left : (o : UdpOutcome) → Left o o
nothing_left o = record { more = []; told = sym (append-nil o.endings.ends); same = λ number id. omega arith; rises = λ h. h; below = λ n h. h; last = refl; fewer = λ f. omega arith; answer = refl }

pub settle_left : (n : ℕ) (o : UdpOutcome) → Left o (settle n o)
unfolding settle
settle_left zero o = nothing_left o
settle_left (suc n) o = elim (cases_of_first (first_ready (side_after o))) [
  | inl e ↦ rw e (nothing_left o)
  | inr w ↦ (
      let z : NetCall × List NetCall = w.0 in
      let point = get o.udps.points z.0.slot.cep.0 in
      let end : NetEnd = end_of z.0 (met_code point z.0.slot.part) (met_bytes point z.0.slot.part) in
      let rest = settle_left n (met o z) in
      rw w.1 (record {
        more = end ∷ rest.more;
        told = rest.told ∙ append_assoc o.endings.ends (end ∷ []) rest.more;
        same = λ number id. omega (arith, times_found (is_net_call number id) (is_ready o.udps) (calls_of o) z w.1, rest.same number id);
        rises = λ h. rest.rises (rises_found call_number (is_ready o.udps) (calls_of o) z w.1 h);
        below = λ m h. rest.below m (below_found call_number m (is_ready o.udps) (calls_of o) z w.1 h);
        last = rest.last;
        fewer = λ f. omega (arith, rest.fewer f, times_found f (is_ready o.udps) (calls_of o) z w.1);
        answer = rest.answer;
      })
      )
]

-- ---- the call of a number

pub none_above : (p : NetCall → Bool) (number : ℕ) (cs : List NetCall) → ((c : NetCall) → p c ≡ true → c.call.0 ≡ number) → AllAbove call_number number cs → times p cs ≡ 0
none_above p number [] its above = refl
none_above p number (c ∷ cs) its above = elim (cases_Bool (p c)) [
  | inl t ↦ absurd (omega (arith, above.0, its c t))
  | inr t ↦ rw t (omega (arith, none_above p number cs its above.1))
]

pub number_of : (number id : ℕ) (c : NetCall) → is_net_call number id c ≡ true → c.call.0 ≡ number
number_of number id c e = eqb-true c.call.0 number (and_parts (c.call.0 == number) (tells id c.who) e).0

-- where the task has a call of the number, that call is the one of the number
pub numbered_is : (number : CallNo) (id : ℕ) (cs : List NetCall)
    → Rises call_number cs
    → 1 ≤ times (is_net_call number.0 id) cs
    → (z : NetCall × List NetCall) × (take_first (has_number number) cs ≡ Some z) × (is_net_call number.0 id z.0 ≡ true)
numbered_is number id [] rises le = absurd (omega (arith, le))
numbered_is number id (c ∷ cs) rises le = elim (cases_Bool (c.call.0 == number.0)) [
  | inl t ↦ (
      let zero = none_above (is_net_call number.0 id) number.0 cs (number_of number.0 id) (subst (λ n. AllAbove call_number n cs) (eqb-true c.call.0 number.0 t) rises.0) in
      ((c, cs), at_first (has_number number) c cs t, is_one (is_net_call number.0 id c) (omega (arith, le, zero)))
      )
  | inr t ↦ (
      let fewer : 1 ≤ 0 + times (is_net_call number.0 id) cs = rw t at le in
      let rest = numbered_is number id cs rises.1 (omega (arith, fewer)) in
      ((rest.0.0, c ∷ rest.0.1), past_first (has_number number) c cs t ∙ ap (put_back c) rest.1, rest.2)
      )
]

-- the task that is told
pub told_task : (id : ℕ) (who : Who) → tells id who ≡ true → (t : TaskId) × (who ≡ whos.Task t) × (t.0 ≡ id)
told_task id (whos.Task t) e = (t, refl, eqb-true t.0 id e)
told_task id (whos.Callback t cbr) e = absurd cc
