-- An event under way: what waits in both parts of a node and what has ended, from the beginning of the event to its end.
use Rattle.std.proofs.Common.{◌≡◌, ℕ, zero, suc, ◌+◌, ◌≤◌, Bool, true, false, List, [], ◌∷◌, ◌++◌, length, refl, inl, inr, arith}
use Rattle.it_types.specs.declared.id.TaskId.{TaskId}
use Rattle.spec_lists.specs.First.{take_first}
use Rattle.spec_lists.specs.Counting.{one_if}
use Rattle.spec_lists.proofs.Firsts.{cases_of_first}
use Rattle.spec_kernel.specs.declared.reason.WaitingCall.{WaitingCall}
use Rattle.spec_kernel.specs.declared.outcome.KEnd.{KEnd}
use Rattle.spec_kernel.specs.PlainKernel.{PlainKernel}
use Rattle.spec_kernel.specs.Settle.{Outcome}
use Rattle.spec_kernel.specs.Time.{due, is_outside_of, unblocked}
use Rattle.spec_pend.specs.declared.call.Who.{Who}
use Rattle.spec_pend.specs.declared.call.Who.TheVariants as whos
use Rattle.spec_pend.specs.declared.answer.NetEnd.{NetEnd}
use Rattle.spec_udp.specs.PlainUdps.{UdpOutcome}
use Rattle.spec_udp.specs.Outside.{ended}
use Rattle.spec_node.specs.Progress.{Progress, kernel_end, woken_for, woken_by, after_net, after_end, after_ends, after_kernel, time_out, timed_out}
use Rattle.laws_node.specs.Agreement.{times}
use Rattle.laws_node.proofs.Times.{times_end, times_found}
use Rattle.laws_calls.proofs.OnceLists.{times_append, all_append, all_end, all_found}
use Rattle.laws_calls.proofs.OnceDrawn.{is_own, is_own_end, is_net_call, is_end, told_by, OfWaits, OfKernelEnds, OfCalls, OfEnds, NoneIsGone, none_gone_append, Drawn, due_drawn, NetDrawn, ended_drawn}

-- A call of each number waits or has ended so often at most; which task may wait for which call; the kernel still tells of these ends;
-- and no mark says that a task is gone.
pub record Going (most : ℕ → ℕ) (P : ℕ → ℕ → Type 0) (still : List KEnd) (p : Progress) : Type 0 where
  pub count : (number : ℕ) → times (is_own number) p.kernel.waits + (times (is_net_call number) p.net.pend.calls + (times (is_end number) p.ends + times (is_own_end number) still)) ≤ most number
  pub waits : OfWaits P p.kernel.waits
  pub calls : OfCalls P p.net.pend.calls
  pub ends : OfEnds P p.ends
  pub told : OfKernelEnds P still
  pub marks : NoneIsGone p.marks

module _ (P : ℕ → ℕ → Type 0) where
  -- ---- tasks that are woken

  -- of the calls that wait none is new
  record Fewer (before after : List WaitingCall) : Type 0 where
    own : (number : ℕ) → times (is_own number) after ≤ times (is_own number) before
    left : OfWaits P before → OfWaits P after

  same_calls : (ws : List WaitingCall) → Fewer ws ws
  same_calls ws = record { own = λ number. omega arith; left = λ h. h }

  unblocked_fewer : (k : PlainKernel) (t : TaskId) → Fewer k.waits (unblocked k t).0.waits
  unfolding unblocked
  unblocked_fewer k t = elim (cases_of_first (take_first (is_outside_of t) k.waits)) [
    | inl none ↦ rw none (same_calls k.waits)
    | inr z ↦ rw z.1 (record {
      own = λ number. omega (arith, times_found (is_own number) (is_outside_of t) k.waits z.0 z.1);
      left = λ h. (all_found (λ w. P w.task.0 w.call.0) (is_outside_of t) k.waits z.0 z.1 h).1;
    })
  ]

  woken_for_fewer : (k : PlainKernel) (who : Who) → Fewer k.waits (woken_for k who).waits
  woken_for_fewer k (whos.Callback t cbr) = same_calls k.waits
  woken_for_fewer k (whos.Task t) = unblocked_fewer k t

  woken_by_fewer : (k : PlainKernel) (es : List NetEnd) → Fewer k.waits (woken_by k es).waits
  woken_by_fewer k [] = same_calls k.waits
  woken_by_fewer k (e ∷ es) =
      let first = woken_for_fewer k e.who in
      let rest = woken_by_fewer (woken_for k e.who) es in
      record { own = λ number. omega (arith, first.own number, rest.own number); left = λ h. rest.left (first.left h) }

  module _ (most : ℕ → ℕ) where
    -- ---- what a part did is taken over

    pub after_net_going : (still : List KEnd) (p : Progress) (o : UdpOutcome) → Going most P still p → NetDrawn P p.net.pend.calls o.endings → Going most P still (after_net p o)
    after_net_going still p o g d =
        let woken = woken_by_fewer p.kernel o.endings.ends in
        record {
          count = λ number. omega (arith, g.count number, d.count number, woken.own number, times_append (is_end number) p.ends o.endings.ends);
          waits = woken.left g.waits;
          calls = d.calls_of g.calls;
          ends = all_append (λ e. P (told_by e.who) e.call.0) p.ends o.endings.ends g.ends (d.ends_of g.calls);
          told = g.told;
          marks = none_gone_append p.marks o.endings.marks g.marks d.marks;
        }

    end_going : (e : KEnd) (es : List KEnd) (p : Progress) (outside : Bool) → e.outside ≡ outside → Going most P (e ∷ es) p
        → Going most P es (elim outside [ true ↦ after_net p (ended p.net e.call e.code) | false ↦ record p { ends = p.ends ++ kernel_end e ∷ [] } ])
    end_going e es p true outside g = after_net_going es p (ended p.net e.call e.code)
        (record { count = λ number. omega (arith, g.count number); waits = g.waits; calls = g.calls; ends = g.ends; told = g.told.1; marks = g.marks }) (ended_drawn P p.net e.call e.code)
    end_going e es p false inside g = record {
      count = λ number. omega (arith, g.count number, times_end (is_end number) p.ends (kernel_end e), own number);
      waits = g.waits;
      calls = g.calls;
      ends = all_end (λ x. P (told_by x.who) x.call.0) p.ends (kernel_end e) g.ends g.told.0;
      told = g.told.1;
      marks = g.marks;
    }
      where
        own : (number : ℕ) → one_if (is_own_end number e) ≡ one_if (is_end number (kernel_end e))
        own number = rw inside refl

    after_ends_going : (p : Progress) (es : List KEnd) → Going most P es p → Going most P [] (after_ends p es)
    after_ends_going p [] g = g
    after_ends_going p (e ∷ es) g = after_ends_going (after_end p e) es (end_going e es p e.outside refl g)

    pub after_kernel_going : (p : Progress) (o : Outcome) → Going most P [] p → Drawn P p.kernel.waits o.kernel.waits o.ends → Going most P [] (after_kernel p o)
    unfolding after_kernel
    after_kernel_going p o g d = after_ends_going (record p { kernel = o.kernel }) o.ends (record {
      count = λ number. omega (arith, g.count number, d.count number);
      waits = d.waits_of g.waits;
      calls = g.calls;
      ends = g.ends;
      told = d.ends_of g.waits;
      marks = g.marks;
    })

    time_out_going : (n : ℕ) (p : Progress) → Going most P [] p → Going most P [] (time_out n p)
    unfolding time_out
    time_out_going zero p g = g
    time_out_going (suc n) p g = elim (cases_of_first (due p.kernel)) [
      | inl e ↦ rw e g
      | inr o ↦ rw o.1 (time_out_going n (after_kernel p o.0) (after_kernel_going p o.0 g (due_drawn P p.kernel o.0 o.1)))
    ]

    pub timed_out_going : (p : Progress) → Going most P [] p → Going most P [] (timed_out p)
    unfolding timed_out
    timed_out_going p g = time_out_going (length p.kernel.waits) p g
