-- What the kernel did is taken over: both parts of a node agree afterwards, and no call of a task waits whose call ended.
use Rattle.std.proofs.Common.{◌≡◌, ℕ, zero, suc, ◌≤◌, false, ◌&&◌, List, [], ◌∷◌, ◌++◌, length, refl, sym, ◌∙◌, ap, subst, inl, inr, arith}
use Rattle.std.specs.Prelude.{◌==◌}
use Rattle.spec_lists.specs.Counting.{one_if}
use Rattle.spec_lists.proofs.Firsts.{cases_of_first}
use Rattle.spec_kernel.specs.declared.outcome.KEnd.{KEnd}
use Rattle.spec_kernel.specs.declared.reason.WaitingCall.{WaitingCall}
use Rattle.spec_kernel.specs.PlainKernel.{PlainKernel}
use Rattle.spec_kernel.specs.Settle.{Outcome, ending}
use Rattle.spec_kernel.specs.Time.{due}
use Rattle.spec_udp.specs.PlainUdps.{UdpOutcome}
use Rattle.spec_udp.specs.Outside.{ended}
use Rattle.spec_node.specs.Progress.{Progress, kernel_end, woken_by, after_net, after_end, after_ends, after_kernel, time_out, timed_out}
use Rattle.laws_kernel.proofs.LastCalls.{due-last_call}
use Rattle.laws_kernel.proofs.OutsideEnds.{AreInside}
use Rattle.laws_node.specs.Agreement.{is_outside_call}
use Rattle.laws_node.proofs.KernelMoves.{Fewer, AreFree as KernelFree, free_fewer as kernel_fewer, Did, Moves, due_moves, due_fewer}
use Rattle.laws_node.proofs.KernelMoves.Did.{none, one}
use Rattle.laws_node.proofs.Waking.{Sound, WokenSound, AreFree, all_fewer, all_append, ended_sound}

-- so it is after events of both parts, where these calls waited
pub record Taken (before : List WaitingCall) (q : Progress) (calls : ℕ) : Type 0 where
  pub sound : Sound q.kernel q.net.pend calls
  pub free : AreFree q.ends q.kernel.waits
  pub fewer : Fewer before q.kernel.waits

-- ---- ends

-- what the network part did
pub net_taken : (p : Progress) (o : UdpOutcome) (calls : ℕ) → AreFree p.ends p.kernel.waits → WokenSound p.kernel o calls → Taken p.kernel.waits (after_net p o) calls
net_taken p o calls free after =
    let woken : PlainKernel = woken_by p.kernel o.endings.ends in
    record {
      sound = after.sound;
      free = all_append p.ends o.endings.ends woken.waits (all_fewer p.ends p.kernel.waits woken.waits after.fewer free) after.free;
      fewer = after.fewer;
    }

inside_taken : (p : Progress) (es : List KEnd) (before : List WaitingCall) (calls : ℕ) → AreInside es → KernelFree es p.kernel.waits → Taken before p calls → Taken before (after_ends p es) calls
inside_taken p [] before calls inside ends h = h
inside_taken p (e ∷ es) before calls inside ends h =
    let next : Progress = record p { ends = p.ends ++ kernel_end e ∷ [] } in
    subst (λ (q : Progress). Taken before (after_ends q es) calls) (sym (is_next p e inside.0))
    (inside_taken next es before calls inside.1 ends.1 (record { sound = h.sound; free = all_append p.ends (kernel_end e ∷ []) p.kernel.waits h.free (ends.0, tt); fewer = h.fewer }))
  where
    is_next : (p : Progress) (e : KEnd) → e.outside ≡ false → after_end p e ≡ record p { ends = p.ends ++ kernel_end e ∷ [] }
    is_next p e inside = rw inside refl

-- ---- an event of the kernel

pub kernel_taken : (p : Progress) (o : Outcome) (calls more : ℕ)
    → Sound p.kernel p.net.pend calls
    → calls ≤ more
    → o.kernel.last_call ≤ more
    → AreFree p.ends o.kernel.waits
    → Moves p.kernel.waits o
    → Taken o.kernel.waits (after_kernel p o) more
unfolding after_kernel
kernel_taken p o calls more h le last free m = of m.did
  where
    start : Progress
    start = record p { kernel = o.kernel }

    of : Did p.kernel.waits o → Taken o.kernel.waits (after_ends start o.ends) more
    of (none inside same) =
        inside_taken start o.ends o.kernel.waits more inside m.free
        (record {
          sound = record {
            stands = m.stands;
            last = last;
            same = λ n i. sym (same n i) ∙ h.same n i;
            rises = h.rises;
            below = h.below;
            drawn = omega (arith, h.drawn, le);
          };
          free = free;
          fewer = λ id. omega arith;
        })
    of (one w code bytes es outside told inside fewer) =
        let ends : KernelFree (ending w code bytes ∷ es) o.kernel.waits = subst (λ l. KernelFree l o.kernel.waits) told m.free in
        let key : (n i : ℕ) → is_outside_call n i w ≡ ((w.call.0 == n) && (w.task.0 == i)) = λ n i. rw outside refl in
        let first =
        ended_sound o.kernel p.net w.call w.task.0 code more m.stands last (λ n i. omega (arith, h.same n i, fewer n i, ap one_if (key n i))) ends.0 h.rises h.below (omega (arith, h.drawn, le)) in
        let taken : Taken o.kernel.waits (after_end start (ending w code bytes)) more = rw outside (net_taken start (ended p.net w.call code) more free first) in
        subst (λ l. Taken o.kernel.waits (after_ends start l) more) (sym told)
        (inside_taken (after_end start (ending w code bytes)) es o.kernel.waits more inside (kernel_fewer es o.kernel.waits _ taken.fewer ends.1) taken)

-- ---- ends by time

after_more : (before between : List WaitingCall) (q : Progress) (calls : ℕ) → Fewer before between → Taken between q calls → Taken before q calls
after_more before between q calls fewer h = record { sound = h.sound; free = h.free; fewer = λ id. omega (arith, fewer id, h.fewer id) }

time_out_taken : (n : ℕ) (p : Progress) (before : List WaitingCall) (calls : ℕ) → Taken before p calls → Taken before (time_out n p) calls
unfolding time_out
time_out_taken zero p before calls h = h
time_out_taken (suc n) p before calls h = elim (cases_of_first (due p.kernel)) [
  | inl e ↦ rw e h
  | inr o ↦ (
      let fewer = due_fewer p.kernel o.0 o.1 in
      let next = kernel_taken p o.0 calls calls h.sound (omega arith) (omega (arith, h.sound.last, due-last_call p.kernel o.0 o.1)) (all_fewer p.ends p.kernel.waits o.0.kernel.waits fewer h.free) (due_moves p.kernel o.0 o.1 h.sound.stands) in
      rw o.1 (time_out_taken n (after_kernel p o.0) before calls (after_more before o.0.kernel.waits (after_kernel p o.0) calls (λ id. omega (arith, h.fewer id, fewer id)) next))
      )
]

pub timed_out_taken : (p : Progress) (before : List WaitingCall) (calls : ℕ) → Taken before p calls → Taken before (timed_out p) calls
unfolding timed_out
timed_out_taken p before calls h = time_out_taken (length p.kernel.waits) p before calls h
