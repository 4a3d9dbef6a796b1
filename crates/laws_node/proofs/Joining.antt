-- The row of a call of the network part keeps both parts of a node in agreement: where its task waits for it, it waits in both parts
-- under the same number.
use Rattle.std.proofs.Common.{◌≡◌, ℕ, ◌+◌, ◌≤◌, Bool, true, false, ◌&&◌, length, Some, refl, sym, ap, subst, arith}
use Rattle.std.specs.Prelude.{◌==◌, if◌then◌else◌}
use Rattle.std.proofs.lemmas.Bool.{and_right}
use Rattle.it_types.specs.declared.id.TaskId.{TaskId}
use Rattle.it_types.specs.declared.id.ObjId.{ObjId}
use Rattle.it_types.specs.declared.id.CallNo.{CallNo}
use Rattle.it_types.specs.declared.er.TheConstants.{E_DLT, E_RLWAI}
use Rattle.it_types.specs.declared.timeout.Tmo.{Tmo}
use Rattle.it_types.specs.declared.context.Ctx.{Ctx}
use Rattle.it_types.specs.declared.context.Ctx.TheVariants as contexts
use Rattle.it_types.specs.declared.handler.FnCode.TheVariants as functions
use Rattle.it_types.specs.declared.request.Req.{Req}
use Rattle.it_types.specs.Callers.{caller, is_handler, is_nblk}
use Rattle.it_types.specs.Requests.{timeout_of}
use Rattle.spec_lists.specs.First.{is_least}
use Rattle.spec_lists.specs.Counting.{one_if}
use Rattle.spec_lists.specs.Tables.{get}
use Rattle.spec_lists.proofs.Counting.{times-end}
use Rattle.spec_kernel.specs.declared.reason.WaitReason.TheVariants as reasons
use Rattle.spec_kernel.specs.declared.reason.WaitingCall.{WaitingCall}
use Rattle.spec_kernel.specs.PlainKernel.{PlainKernel}
use Rattle.spec_kernel.specs.Rows as kernel_rows
use Rattle.spec_kernel.specs.Time.{blocked}
use Rattle.spec_kernel.specs.Standing.{waiting_number, IsStanding}
use Rattle.spec_pend.specs.declared.call.Who.{Who}
use Rattle.spec_pend.specs.declared.call.Who.TheVariants as whos
use Rattle.spec_pend.specs.declared.call.NetCall.{NetCall}
use Rattle.spec_pend.specs.declared.slot.Slot.{Slot}
use Rattle.spec_pend.specs.declared.answer.NetAnswer.{NetAnswer}
use Rattle.spec_pend.specs.declared.answer.NetAnswer.TheVariants.{Pends, Later}
use Rattle.spec_pend.specs.PlainPend.{PlainPend, no_endings}
use Rattle.spec_pend.specs.Slots.{is_named, named, part_of, with_call}
use Rattle.spec_pend.specs.Outs.{shown_answer}
use Rattle.spec_udp.specs.PlainUdps.{UdpSide, UdpOutcome, quiet}
use Rattle.spec_udp.specs.Points.{routine_at, with_wanted, with_sending}
use Rattle.spec_udp.specs.Rows.{slot_of, with_point, row, udp_call}
use Rattle.spec_udp.specs.Settling.{settled}
use Rattle.spec_node.specs.NodeStep.{blocked_where, drawn}
use Rattle.laws_kernel.specs.Calling.{Calls}
use Rattle.laws_kernel.proofs.Stands.{blocked_stands}
use Rattle.laws_node.specs.Agreement.{times, is_outside_call, tells, is_net_call}
use Rattle.laws_node.proofs.Rising.{rises_end, below_end, below_more}
use Rattle.laws_node.proofs.Times.{times_end}
use Rattle.laws_node.proofs.KernelMoves.{Grows}
use Rattle.laws_node.proofs.RowActs.{row_acts}
use Rattle.laws_node.proofs.NetMoves.{call_number, settle_left}
use Rattle.laws_node.proofs.Waking.{Sound, WokenSound, settled_sound, unended_sound, ended_where_sound}

abbrev pub numbered_next : ℕ → CallNo
numbered_next calls = record { 0 = calls + 1 }

-- where the numbers so far are drawn, the next one is above all
joined_sound : (k after : PlainKernel) (p : PlainPend) (calls : ℕ) (who : Who) (slot : Slot)
    → Sound k p calls
    → IsStanding after
    → after.last_call ≤ calls + 1
    → ((number id : ℕ) → times (is_outside_call number id) after.waits ≡ times (is_outside_call number id) k.waits + one_if ((calls + 1 == number) && tells id who))
    → Sound after (with_call p who slot (numbered_next calls)) (calls + 1)
joined_sound k after p calls who slot h stands last same =
    let new : NetCall = record { call = numbered_next calls; who = who; slot = slot } in
    record {
      stands = stands;
      last = last;
      same = λ m i. omega (arith, same m i, h.same m i, times_end (is_net_call m i) p.calls new);
      rises = rises_end call_number p.calls new h.rises (below_more call_number (p.last + 1) (calls + 1) p.calls (omega (arith, h.drawn)) h.below);
      below = below_end call_number (calls + 1 + 1) p.calls new (below_more call_number (p.last + 1) (calls + 1 + 1) p.calls (omega (arith, h.drawn)) h.below) (omega arith);
      drawn = omega arith;
    }

-- ---- a row

-- what holds after the row of a call: the kernel in which its task waits, or not, stands, and both parts agree
pub record RowSound (k : PlainKernel) (ctx : Ctx) (request : Req) (calls : ℕ) (o : UdpOutcome) : Type 0 where
  pub stands : IsStanding (blocked_where o.answer k ctx request (numbered_next calls))
  pub grows : Grows (caller ctx).0 k.waits (blocked_where o.answer k ctx request (numbered_next calls)).waits
  pub woken : WokenSound (blocked_where o.answer k ctx request (numbered_next calls)) o (calls + drawn (shown_answer (numbered_next calls) o.answer))

-- a call that is accepted: its task is told, or with the flag a routine
abbrev pub joined : UdpSide → Bool → TaskId → ObjId → Slot → CallNo → UdpOutcome
joined s later by cbr slot number = record (quiet s) {
  endings = no_endings (with_call s.pend (if later then whos.Callback by cbr else whos.Task by) slot number);
  answer = if later then Later else Pends;
}

module _ (k : PlainKernel) (ctx : Ctx) (request : Req) (calls : ℕ) (calls_itself : Calls k ctx) where
  task_joins : (s : UdpSide) (t : TaskId) (cbr : ObjId) (slot : Slot) → ctx ≡ contexts.Task t → Sound k s.pend calls → RowSound k (contexts.Task t) request calls (joined s false t cbr slot (numbered_next calls))
  task_joins s t cbr slot is h =
      let tmo : Tmo = timeout_of request in
      let wait : WaitingCall = kernel_rows.waiting_call k t reasons.Outside tmo (numbered_next calls) in
      let begun : PlainKernel = blocked k t tmo (numbered_next calls) in
      let stands : IsStanding begun = blocked_stands k t tmo (numbered_next calls) (calls_itself t is).0 (calls_itself t is).1 h.stands in
      record {
        stands = stands;
        grows = λ id. omega (arith, times-end waiting_number id k.waits wait);
        woken = unended_sound begun _ (calls + 1) (joined_sound k begun s.pend calls (whos.Task t) slot h stands (omega arith) (λ m i. times_end (is_outside_call m i) k.waits wait));
      }

  routine_joins : (s : UdpSide) (cbr : ObjId) (slot : Slot) → Sound k s.pend calls → RowSound k ctx request calls (joined s true (caller ctx) cbr slot (numbered_next calls))
  routine_joins s cbr slot h = record {
    stands = h.stands;
    grows = λ id. omega arith;
    woken = unended_sound k _ (calls + 1) (
        joined_sound k k s.pend calls (whos.Callback (caller ctx) cbr) slot h h.stands (omega (arith, h.last))
        (λ m i. omega (arith, ap one_if (and_right (calls + 1 == m) false refl)))
        );
  }

  accepted_sound : (s : UdpSide) (later : Bool) (cbr : ObjId) (slot : Slot) → is_handler ctx ≡ false → Sound k s.pend calls → RowSound k ctx request calls (joined s later (caller ctx) cbr slot (numbered_next calls))
  accepted_sound s true cbr slot by_task h = routine_joins s cbr slot h
  accepted_sound s false cbr slot by_task h = of ctx refl by_task
    where
      of : (c : Ctx) → ctx ≡ c → is_handler c ≡ false → RowSound k ctx request calls (joined s false (caller ctx) cbr slot (numbered_next calls))
      of contexts.Handler is none = absurd cc
      of (contexts.Task t) is none = subst (λ c. RowSound k c request calls (joined s false (caller c) cbr slot (numbered_next calls))) (sym is) (task_joins s t cbr slot is h)

  -- an answer that ends nothing
  answered_sound : (p : PlainPend) → Sound k p calls → Sound k p (calls + 0)
  answered_sound p h = subst (Sound k p) (omega arith) h

  pub row_sound : (s : UdpSide) → Sound k s.pend calls → RowSound k ctx request calls (row s ctx request (numbered_next calls))
  row_sound s h =
      let still : Sound k s.pend (calls + 0) = answered_sound s.pend h in
      row_acts (RowSound k ctx request calls) (record {
        answers = λ code. record { stands = h.stands; grows = λ id. omega arith; woken = unended_sound k s.pend (calls + 0) still };
        makes = λ cep port cbr none free known. record { stands = h.stands; grows = λ id. omega arith; woken = unended_sound k s.pend (calls + 0) still };
        deletes = λ cep. record {
          stands = h.stands;
          grows = λ id. omega arith;
          woken = ended_where_sound k s.pend (calls + 0) (is_least (is_named true cep functions.All) part_of s.pend.calls) (named s.pend true cep functions.All) E_DLT refl still;
        };
        sends = λ cep dest load. record { stands = h.stands; grows = λ id. omega arith; woken = unended_sound k s.pend (calls + 0) still };
        takes = λ cep code bytes. record { stands = h.stands; grows = λ id. omega arith; woken = unended_sound k s.pend (calls + 0) still };
        sends_later = λ cep what tmo allowed nblk. accepted_sound (with_point s cep (with_sending (Some what))) (is_nblk tmo) (routine_at (get (with_point s cep (with_sending (Some what))).udps.points cep.0)) (slot_of cep functions.UdpSnd) allowed.by_task h;
        waits = λ cep len tmo allowed none. accepted_sound (with_point s cep (with_wanted len)) (is_nblk tmo) (routine_at (get (with_point s cep (with_wanted len)).udps.points cep.0)) (slot_of cep functions.UdpRcv) allowed.by_task h;
        cancels = λ cep func. record {
          stands = h.stands;
          grows = λ id. omega arith;
          woken = ended_where_sound k s.pend (calls + 0) (is_least (is_named true cep func) part_of s.pend.calls) (named s.pend true cep func) E_RLWAI refl still;
        };
      }) request

  -- and after all that it made ready has ended
  pub call_sound : (s : UdpSide) → Sound k s.pend calls → RowSound k ctx request calls (udp_call s ctx request (numbered_next calls))
  unfolding udp_call settled
  call_sound s h =
      let r : UdpOutcome = row s ctx request (numbered_next calls) in
      let q : UdpOutcome = settled r in
      let first = row_sound s h in
      let same : r.answer ≡ q.answer = sym (settle_left (length r.endings.pend.calls) r).answer in
      let begun : NetAnswer → PlainKernel = λ a. blocked_where a k ctx request (numbered_next calls) in
      record {
        stands = subst (λ a. IsStanding (begun a)) same first.stands;
        grows = subst (λ a. Grows (caller ctx).0 k.waits (begun a).waits) same first.grows;
        woken = subst (λ a. WokenSound (begun a) q (calls + drawn (shown_answer (numbered_next calls) a))) same (settled_sound (begun r.answer) r (calls + drawn (shown_answer (numbered_next calls) r.answer)) first.woken);
      }
